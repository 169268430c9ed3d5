-- Rijndael with blocks and keys of 256 bits, where ks has the rows of its round keys.
use Rattle.std.specs.Prelude.{ℕ, zero, suc, ◌+◌, ◌*◌, ◌<◌, List, [], slice_index_or}
use Rattle.rijndael.specs.State.{table, at, load, store, sub, unsub, shift, unshift, mix, unmix, add}

-- round key n: rows 4n to 4n+3
unfoldable pub key : List (List ℕ) → ℕ → List (List ℕ)
key ks n = table 4 (λ r. slice_index_or ks (4 * n + r) [])

-- every element of every row is a byte
abbrev pub KeysAreBytes : List (List ℕ) → Type 0
KeysAreBytes ks = (i c : ℕ) → at ks i c < 256

unfoldable pub round : List (List ℕ) → ℕ → List (List ℕ) → List (List ℕ)
round ks n s = add (key ks n) (mix (shift (sub s)))

unfoldable pub unround : List (List ℕ) → ℕ → List (List ℕ) → List (List ℕ)
unround ks n s = unsub (unshift (unmix (add (key ks n) s)))

-- rounds 1 to n
unfoldable pub rounds : List (List ℕ) → ℕ → List (List ℕ) → List (List ℕ)
rounds ks zero s = s
rounds ks (suc n) s = round ks (suc n) (rounds ks n s)

-- undoes rounds n to 1
unfoldable pub unrounds : List (List ℕ) → ℕ → List (List ℕ) → List (List ℕ)
unrounds ks zero s = s
unrounds ks (suc n) s = unrounds ks n (unround ks (suc n) s)

-- round key 0 is added first, and round 14 leaves out the column mix
unfoldable pub encrypt : List (List ℕ) → List ℕ → List ℕ
encrypt ks x = store (add (key ks 14) (shift (sub (rounds ks 13 (add (key ks 0) (load x))))))

unfoldable pub decrypt : List (List ℕ) → List ℕ → List ℕ
decrypt ks x = store (add (key ks 0) (unrounds ks 13 (unsub (unshift (add (key ks 14) (load x))))))
