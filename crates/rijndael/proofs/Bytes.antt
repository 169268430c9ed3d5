-- What is made byte by byte.
use Rattle.std.proofs.Common.{◌≡◌, ℕ, zero, suc, ◌<◌, List, [], ◌∷◌, length, get_or, sym, refl, ◌∙◌, ap, subst, arith}
use Rattle.std.specs.Fn.{Called}
use Rattle.std.specs.Array.{IsFromFnResult}
use denote.Param.Members.{Mut}
use Rattle.block.proofs.Made.{made}
use Rattle.rijndael.specs.State.{table, state, at, EachByte, EachByteOfState}
use Rattle.rijndael.specs.StateLaws.{table_at, table_same, table_of, state_same}

length_table : {A : Type 0} (n : ℕ) (f : ℕ → A) → length (table n f) ≡ n
length_table zero f = refl
length_table (suc n) f = ap suc (length_table n (λ i. f (suc i)))

-- an array made by a function of the index is a table
pub tabled : {F B : Type 0} (g : Mut F (ℕ × Unit {0}) B) (f : F) (h : ℕ → B) (n : ℕ) → ((k : ℕ) (y : B) (q : F) → k < n → Called g f (k, tt) y q → (y ≡ h k) × (q ≡ f))
    → (ys : List B) → IsFromFnResult g f ys n → ys ≡ table n h
tabled g f h n same ys e = made g f h n same (table n h) ys (length_table n h) (λ k d l. table_at n h k d l) e

again : (n : ℕ) (xs : List ℕ) → length xs ≡ n → table n (λ i. get_or xs i 0) ≡ xs
again n xs e = subst (λ m. table m (λ i. get_or xs i 0) ≡ xs) e (table_of xs)

-- where R tells one value, f
pub bytes_mapped : (f : ℕ → ℕ) (R : ℕ → ℕ → Type 0) (n : ℕ) (xs ys : List ℕ) → EachByte R n xs ys → ((x y : ℕ) → R x y → y ≡ f x) → ys ≡ table n (λ i. f (get_or xs i 0))
bytes_mapped f R n xs ys e h =
    sym (again n ys e.long) ∙ table_same n (λ i. get_or ys i 0) (λ i. f (get_or xs i 0)) (λ i l. h (get_or xs i 0) (get_or ys i 0) (e.each i l))

pub state_mapped : (f : ℕ → ℕ) (R : ℕ → ℕ → Type 0) (s t : List (List ℕ)) → EachByteOfState R s t → ((x y : ℕ) → R x y → y ≡ f x) → t ≡ state (λ r c. f (at s r c))
state_mapped f R s t e h =
    sym e.whole ∙ state_same (at t) (λ r c. f (at s r c)) (λ r c k l. h (at s r c) (at t r c) (e.each r c k l))

each_of_rows : (R : ℕ → ℕ → Type 0) (s : List (List ℕ)) (a b c d : List ℕ)
    → EachByte R 8 (get_or s 0 []) a → EachByte R 8 (get_or s 1 []) b → EachByte R 8 (get_or s 2 []) c → EachByte R 8 (get_or s 3 []) d
    → (r k : ℕ) → r < 4 → k < 8 → R (at s r k) (at (a ∷ b ∷ c ∷ d ∷ []) r k)
each_of_rows R s a b c d p q t u zero k h l = p.each k l
each_of_rows R s a b c d p q t u (suc zero) k h l = q.each k l
each_of_rows R s a b c d p q t u (suc (suc zero)) k h l = t.each k l
each_of_rows R s a b c d p q t u (suc (suc (suc zero))) k h l = u.each k l
each_of_rows R s a b c d p q t u (suc (suc (suc (suc r)))) k h l = absurd (omega arith)

pub of_rows : (R : ℕ → ℕ → Type 0) (s : List (List ℕ)) (a b c d : List ℕ)
    → EachByte R 8 (get_or s 0 []) a → EachByte R 8 (get_or s 1 []) b → EachByte R 8 (get_or s 2 []) c → EachByte R 8 (get_or s 3 []) d
    → EachByteOfState R s (a ∷ b ∷ c ∷ d ∷ [])
of_rows R s a b c d p q t u =
    let i = again 8 a p.long in
    let j = again 8 b q.long in
    let k = again 8 c t.long in
    let l = again 8 d u.long in
    record { whole = cc; each = each_of_rows R s a b c d p q t u }
