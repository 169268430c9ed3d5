use Rattle.std.proofs.Common.{rules, ◌≡◌}
use Rattle.rijndael.specs.Cipher.{KeysAreBytes}
use Rattle.rijndael.proofs.ScheduleLaws.{round_keys_bytes}
use Rattle.rijndael.proofs.rijndael.Rijndael.new.Goals as goal

pub invariant_of-result : goal.invariant_of-result
invariant_of-result c =
    let e : c.in_ok-bytes.bytes ≡ c.args.key.now = search rules in
    let h : KeysAreBytes c.round_keys-keys.result =
    simp (c.round_keys-keys.ensures, e) (round_keys_bytes c.args.key.now (λ i. (c.type_inv.key i).fits)) in record { bytes = h }
