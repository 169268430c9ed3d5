-- What is read out of a token is what was written into it.
use Rattle.std.proofs.Common.{◌≡◌, ℕ, ◌+◌, ◌≤◌, List, [], ◌∷◌, ◌++◌, length, take, drop, sym, ap, ◌∙◌, arith, length-append}
use Rattle.std.proofs.lemmas.List.{take_at, drop_at, length-take, append_assoc}
use Rattle.block.specs.Bytes.{◌⊕◌}
use Rattle.block.proofs.ByteLaws.{length_⊕, ⊕_undoes_itself}
use Rattle.milenage.specs.Blocks.{temp, answer, block, output}
use Rattle.milenage.specs.Calls.{asked}
use Rattle.milenage.specs.Question.{input}
use Rattle.aka.specs.declared.sizes.ResyncMask.{ResyncMask}
use Rattle.aka.specs.declared.sizes.ResyncMask.TheVariants.{F5Star, F5StarStar}
use Rattle.aka.specs.Setup.{Setup, SoundSetup, keyed, ask, f1, f2, f3, f4, f5, mask_by, ak_star, mac_s}
use Rattle.aka.specs.Tokens.{autn, auts, answers, vector, answers_size, autn_size, auts_size, autn_place, vector_size, autn_masked, autn_amf, autn_mac, auts_masked, auts_mac, autn_number, auts_number}
use Rattle.aka.specs.Laws.{Written}

-- an output is as long as its size
pub output_long : (s : Setup) (index : ℕ) (rand : List ℕ) (size : ℕ) (carried : List ℕ) → SoundSetup s → size ≤ 32 → length (ask s index rand size carried) ≡ size
unfolding ask output block answer
output_long s index rand size carried h l =
    let y : List ℕ = s.forth (temp (keyed s) rand ⊕ input s.constants (asked index (length rand) size carried)) in
    let o : length s.opc ≡ 32 = h.opc.long in
    length-take size (y ⊕ s.opc) ∙ omega (arith, length_⊕ y s.opc)

f5_long : (s : Setup) (rand : List ℕ) → SoundSetup s → length (f5 s rand) ≡ s.sizes.sqn
f5_long s rand h = output_long s 5 rand s.sizes.ak [] h (omega (arith, h.sizes.ak, h.sizes.sqn.1)) ∙ h.sizes.ak

mask_long : (b : ResyncMask) (s : Setup) (rand mac : List ℕ) → SoundSetup s → length (mask_by b s rand mac) ≡ s.sizes.sqn
mask_long F5Star s rand mac h = output_long s 6 rand s.sizes.ak [] h (omega (arith, h.sizes.ak, h.sizes.sqn.1)) ∙ h.sizes.ak
mask_long F5StarStar s rand mac h = output_long s 7 rand s.sizes.ak mac h (omega (arith, h.sizes.ak, h.sizes.sqn.1)) ∙ h.sizes.ak

ak_star_long : (s : Setup) (rand mac : List ℕ) → SoundSetup s → length (ak_star s rand mac) ≡ s.sizes.sqn
unfolding ak_star
ak_star_long s rand mac h = mask_long s.sizes.resync s rand mac h

mac_s_long : (s : Setup) (rand sqn : List ℕ) → SoundSetup s → length (mac_s s rand sqn) ≡ s.sizes.mac
unfolding mac_s
mac_s_long s rand sqn h = output_long s 0 rand s.sizes.mac ((0 ∷ 0 ∷ []) ++ sqn) h h.sizes.mac.1

f1_long : (s : Setup) (rand amf sqn : List ℕ) → SoundSetup s → length (f1 s rand amf sqn) ≡ s.sizes.mac
f1_long s rand amf sqn h = output_long s 1 rand s.sizes.mac (amf ++ sqn) h h.sizes.mac.1

masked_long : (n : ℕ) (x k : List ℕ) → length x ≡ n → length k ≡ n → length (x ⊕ k) ≡ n
masked_long n x k a b = omega (arith, length_⊕ x k)

pub autn_masked_is : (s : Setup) (rand amf sqn : List ℕ) → SoundSetup s → Written s amf sqn → autn_masked s.sizes (autn s rand amf sqn) ≡ sqn ⊕ f5 s rand
unfolding autn
autn_masked_is s rand amf sqn h w =
    let m : List ℕ = sqn ⊕ f5 s rand in
    ap (take s.sizes.sqn) (append_assoc m amf (f1 s rand amf sqn))
    ∙ take_at m (amf ++ f1 s rand amf sqn) s.sizes.sqn (masked_long s.sizes.sqn sqn (f5 s rand) w.1 (f5_long s rand h))

pub autn_amf_is : (s : Setup) (rand amf sqn : List ℕ) → SoundSetup s → Written s amf sqn → autn_amf s.sizes (autn s rand amf sqn) ≡ amf
unfolding autn
autn_amf_is s rand amf sqn h w =
    let m : List ℕ = sqn ⊕ f5 s rand in
    ap (λ (t : List ℕ). take 2 (drop s.sizes.sqn t)) (append_assoc m amf (f1 s rand amf sqn))
    ∙ ap (take 2) (drop_at m (amf ++ f1 s rand amf sqn) s.sizes.sqn (masked_long s.sizes.sqn sqn (f5 s rand) w.1 (f5_long s rand h)))
    ∙ take_at amf (f1 s rand amf sqn) 2 w.0

pub autn_mac_is : (s : Setup) (rand amf sqn : List ℕ) → SoundSetup s → Written s amf sqn → autn_mac s.sizes (autn s rand amf sqn) ≡ f1 s rand amf sqn
unfolding autn
autn_mac_is s rand amf sqn h w =
    let m : List ℕ = sqn ⊕ f5 s rand in
    let l : length m ≡ s.sizes.sqn = masked_long s.sizes.sqn sqn (f5 s rand) w.1 (f5_long s rand h) in
    let a : length amf ≡ 2 = w.0 in
    drop_at (m ++ amf) (f1 s rand amf sqn) (s.sizes.sqn + 2) (omega (arith, length-append m amf))

pub autn_long : (s : Setup) (rand amf sqn : List ℕ) → SoundSetup s → Written s amf sqn → length (autn s rand amf sqn) ≡ autn_size s.sizes
unfolding autn
autn_long s rand amf sqn h w =
    let m : List ℕ = sqn ⊕ f5 s rand in
    let l : length m ≡ s.sizes.sqn = masked_long s.sizes.sqn sqn (f5 s rand) w.1 (f5_long s rand h) in
    let a : length amf ≡ 2 = w.0 in
    omega (arith, length-append (m ++ amf) (f1 s rand amf sqn), length-append m amf, f1_long s rand amf sqn h)

pub autn_number_is : (s : Setup) (rand amf sqn : List ℕ) → SoundSetup s → Written s amf sqn → autn_number s rand (autn s rand amf sqn) ≡ sqn
unfolding autn_number
autn_number_is s rand amf sqn h w =
    ap (λ (t : List ℕ). t ⊕ f5 s rand) (autn_masked_is s rand amf sqn h w) ∙ ⊕_undoes_itself sqn (f5 s rand) (w.1 ∙ sym (f5_long s rand h))

pub auts_masked_is : (s : Setup) (rand sqn : List ℕ) → SoundSetup s → length sqn ≡ s.sizes.sqn → auts_masked s.sizes (auts s rand sqn) ≡ sqn ⊕ ak_star s rand (mac_s s rand sqn)
unfolding auts
auts_masked_is s rand sqn h w =
    take_at (sqn ⊕ ak_star s rand (mac_s s rand sqn)) (mac_s s rand sqn) s.sizes.sqn (masked_long s.sizes.sqn sqn (ak_star s rand (mac_s s rand sqn)) w (ak_star_long s rand (mac_s s rand sqn) h))

pub auts_mac_is : (s : Setup) (rand sqn : List ℕ) → SoundSetup s → length sqn ≡ s.sizes.sqn → auts_mac s.sizes (auts s rand sqn) ≡ mac_s s rand sqn
unfolding auts
auts_mac_is s rand sqn h w =
    drop_at (sqn ⊕ ak_star s rand (mac_s s rand sqn)) (mac_s s rand sqn) s.sizes.sqn (masked_long s.sizes.sqn sqn (ak_star s rand (mac_s s rand sqn)) w (ak_star_long s rand (mac_s s rand sqn) h))

pub auts_long : (s : Setup) (rand sqn : List ℕ) → SoundSetup s → length sqn ≡ s.sizes.sqn → length (auts s rand sqn) ≡ auts_size s.sizes
unfolding auts
auts_long s rand sqn h w =
    let m : List ℕ = sqn ⊕ ak_star s rand (mac_s s rand sqn) in
    let l : length m ≡ s.sizes.sqn = masked_long s.sizes.sqn sqn (ak_star s rand (mac_s s rand sqn)) w (ak_star_long s rand (mac_s s rand sqn) h) in
    omega (arith, length-append m (mac_s s rand sqn), mac_s_long s rand sqn h)

pub auts_number_is : (s : Setup) (rand sqn : List ℕ) → SoundSetup s → length sqn ≡ s.sizes.sqn → auts_number s rand (auts s rand sqn) ≡ sqn
unfolding auts_number
auts_number_is s rand sqn h w =
    let k : List ℕ = ak_star s rand (mac_s s rand sqn) in
    ap (λ (t : List ℕ). auts_masked s.sizes (auts s rand sqn) ⊕ ak_star s rand t) (auts_mac_is s rand sqn h w)
    ∙ ap (λ (t : List ℕ). t ⊕ k) (auts_masked_is s rand sqn h w) ∙ ⊕_undoes_itself sqn k (w ∙ sym (ak_star_long s rand (mac_s s rand sqn) h))

pub answers_long : (s : Setup) (rand : List ℕ) → SoundSetup s → length (answers s rand) ≡ answers_size s.sizes
unfolding answers
answers_long s rand h =
    let a = output_long s 2 rand s.sizes.res [] h h.sizes.res.1 in
    let b = output_long s 3 rand s.sizes.ck [] h h.sizes.ck.1 in
    let c = output_long s 4 rand s.sizes.ik [] h h.sizes.ik.1 in
    omega (arith, length-append (f2 s rand ++ f3 s rand) (f4 s rand), length-append (f2 s rand) (f3 s rand))

pub answers_res : (s : Setup) (rand : List ℕ) → SoundSetup s → take s.sizes.res (answers s rand) ≡ f2 s rand
unfolding answers
answers_res s rand h =
    ap (take s.sizes.res) (append_assoc (f2 s rand) (f3 s rand) (f4 s rand))
    ∙ take_at (f2 s rand) (f3 s rand ++ f4 s rand) s.sizes.res (output_long s 2 rand s.sizes.res [] h h.sizes.res.1)

pub vector_rand : (s : Setup) (rand amf sqn : List ℕ) → length rand ≡ s.sizes.rand → take s.sizes.rand (vector s rand amf sqn) ≡ rand
unfolding vector
vector_rand s rand amf sqn l =
    ap (take s.sizes.rand) (append_assoc rand (answers s rand) (autn s rand amf sqn)) ∙ take_at rand (answers s rand ++ autn s rand amf sqn) s.sizes.rand l

pub vector_answers : (s : Setup) (rand amf sqn : List ℕ) → SoundSetup s → length rand ≡ s.sizes.rand → take (answers_size s.sizes) (drop s.sizes.rand (vector s rand amf sqn)) ≡ answers s rand
unfolding vector
vector_answers s rand amf sqn h l =
    ap (λ (t : List ℕ). take (answers_size s.sizes) (drop s.sizes.rand t)) (append_assoc rand (answers s rand) (autn s rand amf sqn))
    ∙ ap (take (answers_size s.sizes)) (drop_at rand (answers s rand ++ autn s rand amf sqn) s.sizes.rand l)
    ∙ take_at (answers s rand) (autn s rand amf sqn) (answers_size s.sizes) (answers_long s rand h)

pub vector_autn : (s : Setup) (rand amf sqn : List ℕ) → SoundSetup s → length rand ≡ s.sizes.rand → drop (autn_place s.sizes) (vector s rand amf sqn) ≡ autn s rand amf sqn
unfolding vector
vector_autn s rand amf sqn h l =
    let a = answers_long s rand h in
    drop_at (rand ++ answers s rand) (autn s rand amf sqn) (autn_place s.sizes) (omega (arith, length-append rand (answers s rand)))

pub vector_long : (s : Setup) (rand amf sqn : List ℕ) → SoundSetup s → Written s amf sqn → length rand ≡ s.sizes.rand → length (vector s rand amf sqn) ≡ vector_size s.sizes
unfolding vector
vector_long s rand amf sqn h w l =
    let a = answers_long s rand h in
    let b = autn_long s rand amf sqn h w in
    omega (arith, length-append (rand ++ answers s rand) (autn s rand amf sqn), length-append rand (answers s rand))
