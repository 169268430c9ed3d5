-- The layouts, from the parts that are cut from their blocks.
use Rattle.std.proofs.Common.{◌≡◌, ℕ, Bool, List, ◌++◌, length, take, Option, sym, ap, ◌∙◌, subst, ap₂}
use Rattle.std.specs.Str.{bytes_eq}
use Rattle.block.specs.Bytes.{◌⊕◌}
use Rattle.block.proofs.ByteLaws.{take_⊕}
use Rattle.aka.specs.declared.shared.Keys.{Keys}
use Rattle.aka.specs.declared.shared.Parts.{Parts}
use Rattle.aka.specs.Setup.{Setup, f1, f5, ak_star, mac_s}
use Rattle.aka.specs.Tokens.{autn, auts, answers, vector, autn_masked, autn_amf, autn_mac, autn_number, auts_masked, auts_mac, auts_number}
use Rattle.aka.specs.Parts.{KeysOf, PartsOf, TellsNumber, TellsAutn, TellsAuts}

pub answers_are : (s : Setup) (rand : List ℕ) (k : Keys) → KeysOf s rand k
    → (take s.sizes.res k.res ++ take s.sizes.ck k.ck) ++ take s.sizes.ik k.ik ≡ answers s rand
unfolding answers
answers_are s rand k h = (cc)

pub vector_is : (s : Setup) (rand amf sqn : List ℕ) (p : Parts) → PartsOf s rand amf sqn p
    → (rand ++ ((take s.sizes.res p.keys.res ++ take s.sizes.ck p.keys.ck) ++ take s.sizes.ik p.keys.ik)) ++ ((take s.sizes.sqn p.masked ++ amf) ++ take s.sizes.mac p.mac) ≡ vector s rand amf sqn
unfolding vector autn
vector_is s rand amf sqn p h = let a = answers_are s rand p.keys h.keys in (cc)

-- the front of a masked block is the masked front
pub masked_is : (n : ℕ) (x k v m : List ℕ) → m ≡ x ⊕ k → take n k ≡ v → take n m ≡ take n x ⊕ v
masked_is n x k v m e h = ap (λ (t : List ℕ). take n t) e ∙ take_⊕ n x k ∙ ap (λ (t : List ℕ). take n x ⊕ t) h

-- what a token tells, at equal MACs and numbers
pub told_as : (a b : Bool) (k : ℕ) (x y : List ℕ) (r : Option ℕ) → a ≡ b → x ≡ y → TellsNumber a k x r → TellsNumber b k y r
told_as a b k x y r e f h =
    subst (λ (c : Bool). TellsNumber c k y r) e (subst (λ (z : List ℕ). TellsNumber a k z r) f h)

-- the check of an AUTN, from its parts
pub autn_told : (s : Setup) (rand token amf mac_a masked ak sqn mac : List ℕ) (r : Option ℕ)
    → s.sizes.ak ≡ s.sizes.sqn → masked ≡ autn_masked s.sizes token → amf ≡ autn_amf s.sizes token → mac_a ≡ autn_mac s.sizes token → length masked ≡ s.sizes.sqn
    → take s.sizes.sqn ak ≡ f5 s rand → take (length masked) sqn ≡ masked ⊕ take (length masked) ak
    → take s.sizes.mac mac ≡ f1 s rand amf (take s.sizes.sqn sqn)
    → TellsNumber (bytes_eq (take s.sizes.mac mac) mac_a) s.sizes.sqn (take s.sizes.sqn sqn) r
    → TellsAutn s rand token r
unfolding autn_number
autn_told s rand token amf mac_a masked ak sqn mac r a em ef ea l k u m h =
    let n : ℕ = s.sizes.sqn in
    let x : take n sqn ≡ autn_masked s.sizes token ⊕ f5 s rand =
    ap (λ (i : ℕ). take i sqn) (sym l) ∙ u ∙ ap (λ (i : ℕ). masked ⊕ take i ak) l ∙ ap (λ (t : List ℕ). masked ⊕ t) k ∙ ap (λ (t : List ℕ). t ⊕ f5 s rand) em in
    let y : bytes_eq (take s.sizes.mac mac) mac_a ≡ bytes_eq (f1 s rand (autn_amf s.sizes token) (autn_masked s.sizes token ⊕ f5 s rand)) (autn_mac s.sizes token) =
    ap (λ (t : List ℕ). bytes_eq t mac_a) (m ∙ ap (λ (t : List ℕ). f1 s rand t (take n sqn)) ef ∙ ap (λ (t : List ℕ). f1 s rand (autn_amf s.sizes token) t) x)
    ∙ ap (λ (t : List ℕ). bytes_eq (f1 s rand (autn_amf s.sizes token) (autn_masked s.sizes token ⊕ f5 s rand)) t) ea in
    told_as _ _ n (take n sqn) (autn_masked s.sizes token ⊕ f5 s rand) r y x h

-- an AUTS, from its parts
pub auts_is : (s : Setup) (rand sqn b mac ak masked : List ℕ) → take s.sizes.sqn b ≡ sqn
    → take s.sizes.mac mac ≡ mac_s s rand (take s.sizes.sqn b)
    → take s.sizes.sqn ak ≡ ak_star s rand (take s.sizes.mac mac) → masked ≡ b ⊕ ak
    → take s.sizes.sqn masked ++ take s.sizes.mac mac ≡ auts s rand sqn
unfolding auts
auts_is s rand sqn b mac ak masked e m k x =
    let n : ℕ = s.sizes.sqn in
    let d : take s.sizes.mac mac ≡ mac_s s rand sqn = m ∙ ap (λ (t : List ℕ). mac_s s rand t) e in
    let j : take n ak ≡ ak_star s rand (mac_s s rand sqn) = k ∙ ap (ak_star s rand) d in
    let y : take n masked ≡ sqn ⊕ ak_star s rand (mac_s s rand sqn) = masked_is n b ak _ masked x j ∙ ap (λ (t : List ℕ). t ⊕ ak_star s rand (mac_s s rand sqn)) e in
    ap₂ ◌++◌ y d

-- the check of an AUTS, from its parts
pub auts_told : (s : Setup) (rand token mac masked ak sqn block : List ℕ) (r : Option ℕ)
    → masked ≡ auts_masked s.sizes token → mac ≡ auts_mac s.sizes token → length masked ≡ s.sizes.sqn
    → take s.sizes.sqn ak ≡ ak_star s rand mac → take (length masked) sqn ≡ masked ⊕ take (length masked) ak
    → take s.sizes.mac block ≡ mac_s s rand (take s.sizes.sqn sqn)
    → TellsNumber (bytes_eq (take s.sizes.mac block) mac) s.sizes.sqn (take s.sizes.sqn sqn) r
    → TellsAuts s rand token r
unfolding auts_number
auts_told s rand token mac masked ak sqn block r em ea l k u m h =
    let n : ℕ = s.sizes.sqn in
    let v : List ℕ = auts_masked s.sizes token ⊕ ak_star s rand (auts_mac s.sizes token) in
    let j : take n ak ≡ ak_star s rand (auts_mac s.sizes token) = k ∙ ap (ak_star s rand) ea in
    let x : take n sqn ≡ v =
    ap (λ (i : ℕ). take i sqn) (sym l) ∙ u ∙ ap (λ (i : ℕ). masked ⊕ take i ak) l ∙ ap (λ (t : List ℕ). masked ⊕ t) j ∙ ap (λ (t : List ℕ). t ⊕ ak_star s rand (auts_mac s.sizes token)) em in
    let y : bytes_eq (take s.sizes.mac block) mac ≡ bytes_eq (mac_s s rand v) (auts_mac s.sizes token) =
    ap (λ (t : List ℕ). bytes_eq t mac) (m ∙ ap (λ (t : List ℕ). mac_s s rand t) x)
    ∙ ap (λ (t : List ℕ). bytes_eq (mac_s s rand v) t) ea in
    told_as _ _ n (take n sqn) v r y x h
