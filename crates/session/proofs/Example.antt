-- The worked run, computed.
use Rattle.std.proofs.Common.{◌≡◌, ℕ, zero, suc, Bool, true, ◌&&◌, ltb, List, [], ◌∷◌, ◌++◌, refl, subst, inl, arith, lit<, lit≤}
use Rattle.std.proofs.lemmas.Bool.{ltb-true, and_parts}
use Rattle.block.specs.Bytes.{AreBytes, ◌⊕◌, filled}
use Rattle.block.specs.Numbers.{bytes_of}
use Rattle.milenage.specs.Functions.{kind_of}
use Rattle.milenage.specs.Question.{byte0, byte1, header, input}
use Rattle.milenage.specs.Blocks.{temp, answer, block, output}
use Rattle.aka.specs.Numbers.{next_number, all_ff, exceeds, larger}
use Rattle.aka.specs.Setup.{SoundSetup, ask, ak_star, mac_s}
use Rattle.aka.specs.Tokens.{autn, auts, answers, vector, autn_number, auts_number}
use Rattle.aka.specs.States.{issued, accepted, stale, pending_rand, spent}
use Rattle.aka.specs.Calls.{does_challenge, does_resync, does_receive}
use Rattle.session.specs.Log.{Entry, Session, Fresh}
use Rattle.session.specs.Worked

small : List ℕ → Bool
small [] = true
small (x ∷ xs) = ltb x 256 && small xs

are_bytes : (xs : List ℕ) → small xs ≡ true → AreBytes xs
unfolding small
are_bytes [] h i = lit< tt
are_bytes (x ∷ xs) h zero = ltb-true x 256 (and_parts (ltb x 256) (small xs) h).0
are_bytes (x ∷ xs) h (suc i) = are_bytes xs (and_parts (ltb x 256) (small xs) h).1 i

-- what no entry of a log meets
abbrev Never : (Entry → Type 0) → List Entry → Type 0
Never P [] = Unit {0}
Never P (e ∷ es) = (P e → ⊥) × Never P es

never : (P : Entry → Type 0) (log before behind : List Entry) (e : Entry) → Never P log → log ≡ before ++ e ∷ behind → P e → ⊥
never P [] [] behind e n h y = let z : ◌≡◌ {A = ℕ} 0 1 = cc in omega arith
never P [] (b ∷ before) behind e n h y = let z : ◌≡◌ {A = ℕ} 0 1 = cc in omega arith
never P (x ∷ xs) [] behind e n h y = let i : e ≡ x = cc in n.0 (subst P i y)
never P (x ∷ xs) (b ∷ before) behind e n h y = let i : xs ≡ before ++ e ∷ behind = cc in never P xs before behind e n.1 i y

sound : SoundSetup Worked.plain
unfolding small
sound = record {
  opc = record { long = refl; bytes = are_bytes (Worked.plain).opc refl };
  constants_long = refl;
  constants_bytes = are_bytes (Worked.plain).constants refl;
  sizes = record {
    rand = (lit≤ tt, lit≤ tt);
    sqn = (lit≤ tt, lit≤ tt);
    ak = refl;
    mac = (lit≤ tt, lit≤ tt);
    res = (lit≤ tt, lit≤ tt);
    ck = (lit≤ tt, lit≤ tt);
    ik = (lit≤ tt, lit≤ tt);
  };
}

fresh : Fresh Worked.plain Worked.plain Worked.start
unfolding small
fresh = record {
  given = refl;
  pending = refl;
  number_long = refl;
  number_bytes = are_bytes (Worked.start).net.number refl;
  card_long = refl;
  card_bytes = are_bytes (Worked.start).card refl;
}

runs : Session Worked.plain Worked.plain Worked.start Worked.worked_log
unfolding small ◌⊕◌ filled bytes_of kind_of byte0 byte1 header input temp answer block output next_number all_ff exceeds larger ask ak_star mac_s autn auts answers vector autn_number auts_number stale pending_rand spent does_challenge does_resync does_receive
runs =
    let r : AreBytes Worked.rand₁ = are_bytes Worked.rand₁ refl in
    let m : AreBytes Worked.amf₁ = are_bytes Worked.amf₁ refl in
    let a : AreBytes Worked.autn₂ = are_bytes Worked.autn₂ refl in (
      record { handed = (r, m); yielded = refl; wrote = refl; wrote_auts = refl },
      (
        record { handed = (r, are_bytes Worked.autn₁ refl); yielded = refl; wrote = refl; wrote_auts = refl },
        (
          record { handed = are_bytes Worked.auts₁ refl; yielded = refl; wrote = refl; wrote_auts = refl },
          (
            record { handed = (r, m); yielded = refl; wrote = refl; wrote_auts = refl },
            (
              record { handed = (r, a); yielded = refl; wrote = refl; wrote_auts = refl },
              (
                record { handed = (r, a); yielded = refl; wrote = refl; wrote_auts = refl },
                tt,
              ),
            ),
          ),
        ),
      ),
    )

pub worked_run : Worked.WorkedRun
worked_run = record {
  undo = record { forth_block = λ x h. h; back_block = λ x h. h; back_forth = λ x h. refl; forth_back = λ x h. refl };
  sound = sound;
  alike = record { forth = λ x h. refl; opc = refl; constants = refl; sizes = refl };
  fresh = fresh;
  session = runs;
  writes_an_auts = record { autn = Worked.autn₁; room = 36; auts_room = 14; scratch = 96; call = refl; yielded = refl; wrote_auts = refl };
  open_rand = record {
    earlier = [];
    last = Worked.gives₁;
    later = Worked.writes₁ ∷ [];
    autn = Worked.autn₁;
    stands = refl;
    gives = record { amf = Worked.amf₁; room = 68; scratch = 96; serial = 1; call = refl; yielded = refl; wrote = refl };
    none_later = λ e rand autn x g.
        never (λ f. (n : ℕ) × (f.yielded ≡ issued n)) (Worked.writes₁ ∷ []) x.0 x.1 e
        ((λ y. let h = y.1 in let z : ◌≡◌ {A = ℕ} 0 1 = cc in omega arith), tt) x.2 (g.serial, g.yielded);
  };
  takes_auts = record { serial = 1; scratch = 96; call = refl; yielded = inl refl };
  gives_next = record { amf = Worked.amf₁; room = 68; scratch = 96; serial = 2; call = refl; yielded = refl; wrote = refl };
  arrives_whole = record { room = 36; auts_room = 14; scratch = 96; call = refl; answers_fit = lit≤ tt; auts_fits = lit≤ tt; scratch_fits = lit≤ tt };
  none_accepted = λ e rand autn x g.
      never (λ f. f.yielded ≡ accepted) (Worked.takes₁ ∷ Worked.gives₂ ∷ []) x.0 x.1 e
      ((λ h. let z : ◌≡◌ {A = ℕ} 0 1 = cc in omega arith), ((λ h. let z : ◌≡◌ {A = ℕ} 0 1 = cc in omega arith), tt)) x.2 g.yielded;
}
