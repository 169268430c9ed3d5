-- What is read out of received bytes.
use Rattle.std.specs.Prelude.{◌≡◌, ℕ, ◌+◌, List, length, Ok, Err, Result, ◌≢◌}
use Rattle.std.specs.Borrow.{Bor}
use Rattle.block.specs.declared.refusal.Refusal.{Refusal}
use Rattle.block.specs.Refusals.{number}
use Rattle.aka.specs.declared.sizes.Sizes.{Sizes}
use Rattle.aka.specs.declared.message.ChallengeToken.{ChallengeToken}
use Rattle.aka.specs.declared.message.ResyncToken.{ResyncToken}
use Rattle.aka.specs.declared.message.Message.{Message}
use Rattle.aka.specs.declared.message.Message.TheVariants.{Challenge, Resync}
use Rattle.aka.specs.Tokens.{autn_size, autn_masked, autn_amf, autn_mac, auts_size, auts_masked, auts_mac}

-- n bytes behind a place
abbrev pub placed : ℕ × ℕ → ℕ → ℕ × ℕ
placed p n = (p.0, n + p.1)

-- the parts of an AUTN, as long as each has to be; they lie in the received bytes
pub record AutnParts (z : Sizes) (bytes : Bor (List ℕ)) (t : ChallengeToken) : Type 0 where
  pub masked : t.masked.now ≡ autn_masked z bytes.now
  pub amf : t.amf.now ≡ autn_amf z bytes.now
  pub mac : t.mac.now ≡ autn_mac z bytes.now
  pub masked_place : t.masked.ref_ptr ≡ bytes.ref_ptr
  pub amf_place : t.amf.ref_ptr ≡ placed bytes.ref_ptr z.sqn
  pub mac_place : t.mac.ref_ptr ≡ placed bytes.ref_ptr (z.sqn + 2)
  pub masked_long : length t.masked.now ≡ z.sqn
  pub amf_long : length t.amf.now ≡ 2
  pub mac_long : length t.mac.now ≡ z.mac

pub record AutsParts (z : Sizes) (bytes : Bor (List ℕ)) (t : ResyncToken) : Type 0 where
  pub masked : t.masked.now ≡ auts_masked z bytes.now
  pub mac : t.mac.now ≡ auts_mac z bytes.now
  pub masked_place : t.masked.ref_ptr ≡ bytes.ref_ptr
  pub mac_place : t.mac.ref_ptr ≡ placed bytes.ref_ptr z.sqn
  pub masked_long : length t.masked.now ≡ z.sqn
  pub mac_long : length t.mac.now ≡ z.mac

-- the length tells which token it is; no other length is read
abbrev pub Reads : Sizes → Bor (List ℕ) → Result Message Refusal → Type 0
Reads z bytes (Ok (Challenge t)) = (length bytes.now ≡ autn_size z) × AutnParts z bytes t
Reads z bytes (Ok (Resync t)) = (length bytes.now ≡ auts_size z) × AutsParts z bytes t
Reads z bytes (Err e) = (number e ≡ 15) × (length bytes.now ≢ autn_size z) × (length bytes.now ≢ auts_size z)
