-- What each call does to a pair whose ends have one setup.
use Rattle.std.proofs.Common.{◌≡◌, ℕ, ◌+◌, ◌<◌, ◌≤◌, true, false, cond, not, ◌||◌, eqb, ltb, ◌⊎◌, List, [], ◌∷◌, length, Some, None, Option, sym, refl, ap, ◌∙◌, subst, ap₂, inl, inr, arith}
use Rattle.std.specs.Str.{bytes_eq}
use Rattle.std.proofs.lemmas.Bool.{or_parts, or_from, le-ltb, lt-ltb, not_from_true, true≢false, cond-true, cond_both}
use Rattle.block.specs.Bytes.{AreBytes, IsBlock}
use Rattle.block.specs.Numbers.{value}
use Rattle.block.specs.Refusals.{Ground, ◌when◌}
use Rattle.aka.specs.Numbers.{next_number, all_ff, exceeds, larger}
use Rattle.aka.specs.Setup.{Setup, SoundSetup, f1, f2, mac_s}
use Rattle.aka.specs.Tokens.{autn, auts, answers, vector, answers_size, autn_size, auts_size, vector_size, autn_amf, autn_mac, auts_mac, autn_number, auts_number}
use Rattle.aka.specs.States.{Challenge, Network, Yield, issued, confirmed, raised, kept, lapsed, accepted, refused, Done, silent, stale, pending_rand, pending_xres, spent}
use Rattle.aka.specs.Calls.{differs, short_scratch, most_given, does_challenge, does_confirm, does_lapse, does_resync, does_receive}
use Rattle.session.specs.Log.{Pair, Call, challenge, confirm, resync, lapse, receive, trace, at_network, does, Handed}
use Rattle.session.proofs.Refusing.{Apart, unless_pass, unless_both, unless_yields, differs_false, false_differs}
use Rattle.session.proofs.Counting.{same_refl, length_next, bytes_next, value_next, exceeds_true, larger_either, larger_up}
use Rattle.session.proofs.Asked

-- ── what stands at an end of a session ──

abbrev pub PendingStands : Setup → Option Challenge → Type 0
PendingStands s None = Unit {0}
PendingStands s (Some c) = (length c.rand ≡ s.sizes.rand) × AreBytes c.rand

-- a number of SQN size
pub record NumberStands (s : Setup) (n : List ℕ) : Type 0 where
  pub long : length n ≡ s.sizes.sqn
  pub bytes : AreBytes n

pub record Stands (s : Setup) (p : Pair) : Type 0 where
  pub number : NumberStands s p.net.number
  pub pending : PendingStands s p.net.pending
  pub card : NumberStands s p.card

pub stale_none : (serial : ℕ) → stale serial None ≡ true
unfolding stale
stale_none serial = refl

open_rand : (s : Setup) (serial : ℕ) (o : Option Challenge) → stale serial o ≡ false → PendingStands s o
    → (length (pending_rand o) ≡ s.sizes.rand) × AreBytes (pending_rand o)
unfolding pending_rand
open_rand s serial None h w = absurd (true≢false (sym (stale_none serial) ∙ h))
open_rand s serial (Some c) h w = w

-- ── challenge ──

abbrev challenge_grounds : Setup → Network → List ℕ → List ℕ → ℕ → ℕ → List Ground
challenge_grounds s p rand amf room scratch =
    (9 when differs rand s.sizes.rand)
    ∷ (10 when differs amf 2)
    ∷ (12 when (ltb room (vector_size s.sizes) || short_scratch scratch))
    ∷ (13 when (all_ff p.number || eqb p.given most_given))
    ∷ []

abbrev given : Setup → Network → List ℕ → List ℕ → Done Network
given s p rand amf =
    record {
      yields = issued (p.given + 1);
      writes = vector s rand amf (next_number p.number);
      writes_auts = [];
      after = record { number = next_number p.number; given = p.given + 1; pending = Some (record { serial = p.given + 1; rand = rand; xres = f2 s rand }) };
    }

-- a challenge that was given
pub record Issued (s : Setup) (p : Network) (rand amf : List ℕ) (d : Done Network) : Type 0 where
  pub rand_size : length rand ≡ s.sizes.rand
  pub amf_size : length amf ≡ 2
  pub not_last : all_ff p.number ≡ false
  pub writes : d.writes ≡ vector s rand amf (next_number p.number)
  pub number : d.after.number ≡ next_number p.number
  pub pending : pending_rand d.after.pending ≡ rand

pub issued_is : (s : Setup) (p : Network) (rand amf : List ℕ) (room scratch serial : ℕ) → (does_challenge s p rand amf room scratch).yields ≡ issued serial
    → Issued s p rand amf (does_challenge s p rand amf room scratch)
unfolding does_challenge pending_rand
issued_is s p rand amf room scratch serial h =
    let u = unless_yields (challenge_grounds s p rand amf room scratch) p (given s p rand amf) refl (issued serial) h tt in
    record {
      rand_size = differs_false rand s.sizes.rand u.1.0;
      amf_size = differs_false amf 2 u.1.1.0;
      not_last = (or_parts _ _ u.1.1.1.1.0).0;
      writes = ap (λ (x : Done Network). x.writes) u.0;
      number = ap (λ (x : Done Network). x.after.number) u.0;
      pending = ap (λ (x : Done Network). pending_rand x.after.pending) u.0;
    }

-- ── receive ──

abbrev pub receive_grounds : Setup → List ℕ → List ℕ → ℕ → ℕ → ℕ → List Ground
receive_grounds s rand token room auts_room scratch =
    (9 when differs rand s.sizes.rand)
    ∷ (12 when (ltb room (answers_size s.sizes) || (ltb auts_room (auts_size s.sizes) || short_scratch scratch)))
    ∷ (15 when differs token (autn_size s.sizes))
    ∷ (16 when not (bytes_eq (f1 s rand (autn_amf s.sizes token) (autn_number s rand token)) (autn_mac s.sizes token)))
    ∷ []

abbrev pub taken : Setup → List ℕ → List ℕ → Done (List ℕ)
taken s rand token = record { yields = accepted; writes = answers s rand; writes_auts = []; after = autn_number s rand token }

abbrev pub behind : Setup → List ℕ → List ℕ → Done (List ℕ)
behind s own rand = record { yields = refused 17; writes = []; writes_auts = auts s rand own; after = own }

abbrev pub received : Setup → List ℕ → List ℕ → List ℕ → Done (List ℕ)
received s own rand token = cond (exceeds (autn_number s rand token) own) (taken s rand token) (behind s own rand)

not_both : accepted ≡ refused 17 → ⊥
not_both h = let z : ◌≡◌ {A = ℕ} 0 1 = cc in omega arith

module _ (s : Setup) (own rand token : List ℕ) (room auts_room scratch : ℕ) where
  reading : (y : Yield) → (does_receive s own rand token room auts_room scratch).yields ≡ y → Apart y
      → (P : Done (List ℕ) → Type 0)
      → (exceeds (autn_number s rand token) own ≡ true → accepted ≡ y → P (taken s rand token))
      → (refused 17 ≡ y → P (behind s own rand)) → P (does_receive s own rand token room auts_room scratch)
  unfolding does_receive
  reading y h a P f g =
      let u = unless_yields (receive_grounds s rand token room auts_room scratch) own (received s own rand token) refl y h a in
      let Q : Done (List ℕ) → Type 0 = λ d. d.yields ≡ y → P d in
      subst P (sym u.0)
      (cond_both (exceeds (autn_number s rand token) own) (taken s rand token) (behind s own rand) Q f (λ _. g)
      (ap (λ (x : Done (List ℕ)). x.yields) (sym u.0) ∙ h))

  pub accepted_is : (does_receive s own rand token room auts_room scratch).yields ≡ accepted
      → (value own < value (autn_number s rand token)) × ((does_receive s own rand token room auts_room scratch).after ≡ autn_number s rand token)
  accepted_is h =
      reading accepted h tt (λ d. (value own < value (autn_number s rand token)) × (d.after ≡ autn_number s rand token))
      (λ e _. (exceeds_true (autn_number s rand token) own e, refl)) (λ y. absurd (not_both (sym y)))

  pub behind_is : (does_receive s own rand token room auts_room scratch).yields ≡ refused 17
      → ((does_receive s own rand token room auts_room scratch).writes_auts ≡ auts s rand own) × ((does_receive s own rand token room auts_room scratch).after ≡ own)
  behind_is h =
      reading (refused 17) h (omega arith) (λ d. (d.writes_auts ≡ auts s rand own) × (d.after ≡ own)) (λ _ y. absurd (not_both y)) (λ _. (refl, refl))

-- a receive that meets what it asks
pub accepts_when : (s : Setup) (ok : SoundSetup s) (own rand amf sqn : List ℕ) (room auts_room scratch : ℕ)
    → length rand ≡ s.sizes.rand → length amf ≡ 2 → length sqn ≡ s.sizes.sqn
    → answers_size s.sizes ≤ room → auts_size s.sizes ≤ auts_room → 96 ≤ scratch
    → value own < value sqn
    → (does_receive s own rand (autn s rand amf sqn) room auts_room scratch).yields ≡ accepted
unfolding does_receive exceeds
accepts_when s ok own rand amf sqn room auts_room scratch r a n h₁ h₂ h₃ above =
    let token = autn s rand amf sqn in
    let tells : autn_number s rand token ≡ sqn = Asked.autn_number_is s ok rand sqn n amf in
    let mac : bytes_eq (f1 s rand (autn_amf s.sizes token) (autn_number s rand token)) (autn_mac s.sizes token) ≡ true =
    ap (bytes_eq (f1 s rand (autn_amf s.sizes token) (autn_number s rand token))) (Asked.autn_mac_is s ok rand sqn n amf a)
    ∙ ap₂ (λ (x y : List ℕ). bytes_eq (f1 s rand x y) (f1 s rand amf sqn)) (Asked.autn_amf_is s ok rand sqn n amf a) tells
    ∙ same_refl (f1 s rand amf sqn) in
    ap (λ (d : Done (List ℕ)). d.yields)
    (unless_pass (receive_grounds s rand token room auts_room scratch) own (received s own rand token) (
      false_differs rand s.sizes.rand r,
      (
        or_from _ _ (le-ltb room (answers_size s.sizes) h₁) (or_from _ _ (le-ltb auts_room (auts_size s.sizes) h₂) (le-ltb scratch 96 h₃)),
        (
          false_differs token (autn_size s.sizes) (Asked.length_autn s ok rand sqn n amf a),
          (not_from_true _ mac, tt),
        ),
      ),
    )
    ∙ cond-true (exceeds (autn_number s rand token) own) (taken s rand token) (behind s own rand)
    (ap (λ (x : List ℕ). exceeds x own) tells ∙ lt-ltb (value own) (value sqn) above))

-- ── resync ──

abbrev resync_grounds : Setup → Network → ℕ → List ℕ → ℕ → List Ground
resync_grounds s p serial token scratch =
    let rand : List ℕ = pending_rand p.pending in
    (12 when short_scratch scratch)
    ∷ (14 when stale serial p.pending)
    ∷ (15 when differs token (auts_size s.sizes))
    ∷ (16 when not (bytes_eq (mac_s s rand (auts_number s rand token)) (auts_mac s.sizes token)))
    ∷ []

abbrev resynced : Setup → Network → ℕ → List ℕ → Done Network
resynced s p serial token =
    let sqn : List ℕ = auts_number s (pending_rand p.pending) token in
    silent (cond (exceeds sqn p.number) raised kept) (spent serial p (larger p.number sqn))

pub resynced_is : (s : Setup) (p : Network) (serial : ℕ) (token : List ℕ) (scratch : ℕ) (y : Yield) → (does_resync s p serial token scratch).yields ≡ y → Apart y
    → (stale serial p.pending ≡ false) × (value (auts_number s (pending_rand p.pending) token) ≤ value (does_resync s p serial token scratch).after.number)
unfolding does_resync spent
resynced_is s p serial token scratch y h a =
    let u = unless_yields (resync_grounds s p serial token scratch) (spent serial p p.number) (resynced s p serial token) refl y h a in
    let sqn = auts_number s (pending_rand p.pending) token in
    (u.1.1.0, subst (λ (d : Done Network). value sqn ≤ value d.after.number) (sym u.0) (larger_up p.number sqn).1)

-- ── any call ──

-- what a call may move
pub record Moves (s : Setup) (p : Pair) (c : Call) (d : Done Pair) : Type 0 where
  pub number_up : value p.net.number ≤ value d.after.net.number
  pub card_up : value p.card ≤ value d.after.card
  pub card_kept : ((rand autn : List ℕ) (room auts_room scratch : ℕ) → c ≡ receive rand autn room auts_room scratch → d.yields ≡ accepted → ⊥) → d.after.card ≡ p.card
  pub pending : ((rand amf : List ℕ) (room scratch serial : ℕ) → c ≡ challenge rand amf room scratch → d.yields ≡ issued serial → ⊥)
      → (d.after.net.pending ≡ p.net.pending) ⊎ (d.after.net.pending ≡ None)
  pub stands : Stands s d.after

-- what a call of the network end may move
record NetMoves (s : Setup) (Q : Type 0) (p : Network) (d : Done Network) : Type 0 where
  number_up : value p.number ≤ value d.after.number
  pending : Q → (d.after.pending ≡ p.pending) ⊎ (d.after.pending ≡ None)
  number_stands : NumberStands s d.after.number
  pending_stands : PendingStands s d.after.pending

-- what a call of the card may move
record CardMoves (s : Setup) (own : List ℕ) (d : Done (List ℕ)) : Type 0 where
  card_up : value own ≤ value d.after
  card_kept : (d.yields ≡ accepted → ⊥) → d.after ≡ own
  card_stands : NumberStands s d.after

module _ (s : Setup) (ok : SoundSetup s) (blocks : (x : List ℕ) → IsBlock x → IsBlock (s.forth x)) where
  module _ (p : Network) (n : NumberStands s p.number) (o : PendingStands s p.pending) where
    abbrev Free : Done Network → Type 0
    Free d = NetMoves s (Unit {0}) p d

    abbrev Bound : Done Network → Type 0
    Bound d = NetMoves s ((serial : ℕ) → d.yields ≡ issued serial → ⊥) p d

    ends : (y : Yield) (serial : ℕ) (m : List ℕ) → value p.number ≤ value m → NumberStands s m → Free (silent y (spent serial p m))
    unfolding spent
    ends y serial m up w =
        record {
          number_up = up;
          pending = λ _. cond_both (stale serial p.pending) p.pending None (λ x. (x ≡ p.pending) ⊎ (x ≡ None)) (λ _. inl refl) (λ _. inr refl);
          number_stands = w;
          pending_stands = cond_both (stale serial p.pending) p.pending None (PendingStands s) (λ _. o) (λ _. tt);
        }

    stays : (y : Yield) (serial : ℕ) → Free (silent y (spent serial p p.number))
    stays y serial = ends y serial p.number (omega arith) n

    net_challenge : (rand amf : List ℕ) (room scratch : ℕ) → AreBytes rand → Bound (does_challenge s p rand amf room scratch)
    unfolding does_challenge
    net_challenge rand amf room scratch b =
        unless_both (challenge_grounds s p rand amf room scratch) p (given s p rand amf) Bound refl
        (λ u. record {
          number_up = omega (arith, value_next p.number n.bytes (or_parts _ _ u.1.1.1.0).0);
          pending = λ h. absurd (h (p.given + 1) refl);
          number_stands = record { long = length_next p.number ∙ n.long; bytes = bytes_next p.number };
          pending_stands = (differs_false rand s.sizes.rand u.0, b);
        })
        (λ k _. record { number_up = omega arith; pending = λ _. inl refl; number_stands = n; pending_stands = o })

    net_confirm : (serial : ℕ) (res : List ℕ) → Free (does_confirm p serial res)
    unfolding does_confirm
    net_confirm serial res =
        unless_both ((14 when stale serial p.pending) ∷ []) (spent serial p p.number)
        (silent (confirmed (bytes_eq res (pending_xres p.pending))) (spent serial p p.number)) Free refl
        (λ _. stays (confirmed (bytes_eq res (pending_xres p.pending))) serial) (λ k _. stays (refused k) serial)

    net_lapse : (serial : ℕ) → Free (does_lapse p serial)
    unfolding does_lapse
    net_lapse serial =
        unless_both ((14 when stale serial p.pending) ∷ []) (spent serial p p.number) (silent lapsed (spent serial p p.number)) Free refl
        (λ _. stays lapsed serial) (λ k _. stays (refused k) serial)

    net_resync : (serial : ℕ) (token : List ℕ) (scratch : ℕ) → AreBytes token → Free (does_resync s p serial token scratch)
    unfolding does_resync
    net_resync serial token scratch b =
        let rand = pending_rand p.pending in
        let sqn = auts_number s rand token in
        unless_both (resync_grounds s p serial token scratch) (spent serial p p.number) (resynced s p serial token) Free refl
        (λ u.
        let r = open_rand s serial p.pending u.1.0 o in
        let l = differs_false token (auts_size s.sizes) u.1.1.0 in
        ends (cond (exceeds sqn p.number) raised kept) serial (larger p.number sqn) (larger_up p.number sqn).0
        (larger_either (NumberStands s) p.number sqn n
        (record { long = Asked.length_auts_number s ok rand token l; bytes = Asked.bytes_auts_number s ok blocks rand r.0 r.1 token l b })))
        (λ k _. stays (refused k) serial)

  card_receive : (own : List ℕ) → NumberStands s own → (rand token : List ℕ) (room auts_room scratch : ℕ) → AreBytes rand → AreBytes token
      → CardMoves s own (does_receive s own rand token room auts_room scratch)
  unfolding does_receive
  card_receive own w rand token room auts_room scratch b c =
      let sqn = autn_number s rand token in
      unless_both (receive_grounds s rand token room auts_room scratch) own (received s own rand token) (CardMoves s own) refl
      (λ u. cond_both (exceeds sqn own) (taken s rand token) (behind s own rand) (CardMoves s own)
      (λ e. record {
        card_up = omega (arith, exceeds_true sqn own e);
        card_kept = λ h. absurd (h refl);
        card_stands = record {
          long = Asked.length_autn_number s ok rand token (differs_false token (autn_size s.sizes) u.1.1.0);
          bytes = Asked.bytes_autn_number s ok blocks rand (differs_false rand s.sizes.rand u.0) b token c;
        };
      })
      (λ _. record { card_up = omega arith; card_kept = λ _. refl; card_stands = w }))
      (λ k _. record { card_up = omega arith; card_kept = λ _. refl; card_stands = w })

  at_network_moves : (Q : Type 0) (p : Pair) (c : Call) (d : Done Network) → Stands s p → NetMoves s Q p.net d
      → (((rand amf : List ℕ) (room scratch serial : ℕ) → c ≡ challenge rand amf room scratch → d.yields ≡ issued serial → ⊥) → Q)
      → Moves s p c (at_network p d)
  at_network_moves Q p c d w m f =
      record {
        number_up = m.number_up;
        card_up = omega arith;
        card_kept = λ _. refl;
        pending = λ h. m.pending (f h);
        stands = record { number = m.number_stands; pending = m.pending_stands; card = w.card };
      }

  pub moves : (p : Pair) → Stands s p → (c : Call) → Handed c → Moves s p c (does s s p c)
  moves p w (challenge rand amf room scratch) h =
      at_network_moves _ p (challenge rand amf room scratch) _ w (net_challenge p.net w.number w.pending rand amf room scratch h.0)
      (λ f serial y. f rand amf room scratch serial refl y)
  moves p w (confirm serial res) h = at_network_moves _ p (confirm serial res) _ w (net_confirm p.net w.number w.pending serial res) (λ _. tt)
  moves p w (resync serial token scratch) h =
      at_network_moves _ p (resync serial token scratch) _ w (net_resync p.net w.number w.pending serial token scratch h) (λ _. tt)
  moves p w (lapse serial) h = at_network_moves _ p (lapse serial) _ w (net_lapse p.net w.number w.pending serial) (λ _. tt)
  moves p w (receive rand token room auts_room scratch) h =
      let m = card_receive p.card w.card rand token room auts_room scratch h.0 h.1 in
      record {
        number_up = omega arith;
        card_up = m.card_up;
        card_kept = λ f. m.card_kept (λ y. f rand token room auts_room scratch refl y);
        pending = λ _. inl refl;
        stands = record { number = w.number; pending = w.pending; card = m.card_stands };
      }
  moves p w (trace end index rand size carried room scratch) h =
      record { number_up = omega arith; card_up = omega arith; card_kept = λ _. refl; pending = λ _. inl refl; stands = w }
