-- Decryption undoes encryption, and the other way round, whatever the round keys are.
use Rattle.std.specs.Prelude.{◌≡◌, ℕ, zero, suc, ◌+◌, ◌*◌, ◌<◌, List, [], slice_index_or}
use Rattle.std.proofs.Math.Path.{refl, ap}
use Rattle.std.proofs.Common.{◌∙◌}
use Rattle.block.specs.Bytes.{AreBytes, IsBlock}
use Rattle.rijndael.specs.State.{at, load, store, sub, unsub, shift, unshift, forth_row, back_row, mix, unmix, add}
use Rattle.rijndael.specs.Cipher.{key, KeysAreBytes, round, unround, rounds, unrounds, encrypt, decrypt}
use Rattle.rijndael.specs.StateLaws.{IsState, table_at, store_length, store_byte, sub_state, unsub_state, unsub_sub, sub_unsub, shift_state, unshift_state, unshift_shift, shift_unshift, mix_state, unmix_mix, mix_unmix, add_state, add_add, load_state, load_store, store_load}

module _ (ks : List (List ℕ)) (w : KeysAreBytes ks) where
  key_bytes : (n r c : ℕ) → r < 4 → at (key ks n) r c < 256
  unfolding key
  key_bytes n r c h = rw (table_at 4 (λ r. slice_index_or ks (4 * n + r) []) r [] h) (w (4 * n + r) c)

  round_state : (n : ℕ) (s : List (List ℕ)) → IsState s → IsState (round ks n s)
  unfolding round
  round_state n s h = add_state (key ks n) _ (key_bytes n) (mix_state forth_row _ (shift_state _ (sub_state s h)))

  unround_state : (n : ℕ) (s : List (List ℕ)) → IsState s → IsState (unround ks n s)
  unfolding unround
  unround_state n s h = unsub_state _ (unshift_state _ (mix_state back_row _ (add_state (key ks n) s (key_bytes n) h)))

  unround_round : (n : ℕ) (s : List (List ℕ)) → IsState s → unround ks n (round ks n s) ≡ s
  unfolding round unround
  unround_round n s h =
      let a = sub_state s h in
      let b = shift_state (sub s) a in
      let m = mix_state forth_row (shift (sub s)) b in
      ap (λ (t : List (List ℕ)). unsub (unshift (unmix t))) (add_add (key ks n) (mix (shift (sub s))) m)
      ∙ ap (λ (t : List (List ℕ)). unsub (unshift t)) (unmix_mix (shift (sub s)) b)
      ∙ ap (λ (t : List (List ℕ)). unsub t) (unshift_shift (sub s) a)
      ∙ unsub_sub s h

  round_unround : (n : ℕ) (s : List (List ℕ)) → IsState s → round ks n (unround ks n s) ≡ s
  unfolding round unround
  round_unround n s h =
      let k = add_state (key ks n) s (key_bytes n) h in
      let m = mix_state back_row (add (key ks n) s) k in
      let b = unshift_state (unmix (add (key ks n) s)) m in
      ap (λ (t : List (List ℕ)). add (key ks n) (mix (shift t))) (sub_unsub (unshift (unmix (add (key ks n) s))) b)
      ∙ ap (λ (t : List (List ℕ)). add (key ks n) (mix t)) (shift_unshift (unmix (add (key ks n) s)) m)
      ∙ ap (λ (t : List (List ℕ)). add (key ks n) t) (mix_unmix (add (key ks n) s) k)
      ∙ add_add (key ks n) s h

  rounds_state : (n : ℕ) (s : List (List ℕ)) → IsState s → IsState (rounds ks n s)
  unfolding rounds
  rounds_state zero s h = h
  rounds_state (suc n) s h = round_state (suc n) (rounds ks n s) (rounds_state n s h)

  unrounds_state : (n : ℕ) (s : List (List ℕ)) → IsState s → IsState (unrounds ks n s)
  unfolding unrounds
  unrounds_state zero s h = h
  unrounds_state (suc n) s h = unrounds_state n (unround ks (suc n) s) (unround_state (suc n) s h)

  unrounds_rounds : (n : ℕ) (s : List (List ℕ)) → IsState s → unrounds ks n (rounds ks n s) ≡ s
  unfolding rounds unrounds
  unrounds_rounds zero s h = refl
  unrounds_rounds (suc n) s h =
      ap (λ (t : List (List ℕ)). unrounds ks n t) (unround_round (suc n) (rounds ks n s) (rounds_state n s h)) ∙ unrounds_rounds n s h

  rounds_unrounds : (n : ℕ) (s : List (List ℕ)) → IsState s → rounds ks n (unrounds ks n s) ≡ s
  unfolding rounds unrounds
  rounds_unrounds zero s h = refl
  rounds_unrounds (suc n) s h =
      ap (λ (t : List (List ℕ)). round ks (suc n) t) (rounds_unrounds n (unround ks (suc n) s) (unround_state (suc n) s h))
      ∙ round_unround (suc n) s h

  pub decrypt_encrypt : (x : List ℕ) → IsBlock x → decrypt ks (encrypt ks x) ≡ x
  unfolding encrypt decrypt
  decrypt_encrypt x h =
      let s = load x in
      let a = load_state x h.bytes in
      let s0 = add (key ks 0) s in
      let a0 = add_state (key ks 0) s (key_bytes 0) a in
      let s1 = rounds ks 13 s0 in
      let a1 = rounds_state 13 s0 a0 in
      let s2 = sub s1 in
      let a2 = sub_state s1 a1 in
      let s3 = shift s2 in
      let a3 = shift_state s2 a2 in
      ap (λ (t : List (List ℕ)). store (add (key ks 0) (unrounds ks 13 (unsub (unshift (add (key ks 14) t)))))) (load_store (add (key ks 14) s3) (add_state (key ks 14) s3 (key_bytes 14) a3))
      ∙ ap (λ (t : List (List ℕ)). store (add (key ks 0) (unrounds ks 13 (unsub (unshift t))))) (add_add (key ks 14) s3 a3)
      ∙ ap (λ (t : List (List ℕ)). store (add (key ks 0) (unrounds ks 13 (unsub t)))) (unshift_shift s2 a2)
      ∙ ap (λ (t : List (List ℕ)). store (add (key ks 0) (unrounds ks 13 t))) (unsub_sub s1 a1)
      ∙ ap (λ (t : List (List ℕ)). store (add (key ks 0) t)) (unrounds_rounds 13 s0 a0)
      ∙ ap store (add_add (key ks 0) s a)
      ∙ store_load x h.long

  pub encrypt_decrypt : (x : List ℕ) → IsBlock x → encrypt ks (decrypt ks x) ≡ x
  unfolding encrypt decrypt
  encrypt_decrypt x h =
      let s = load x in
      let a = load_state x h.bytes in
      let s0 = add (key ks 14) s in
      let a0 = add_state (key ks 14) s (key_bytes 14) a in
      let s1 = unshift s0 in
      let a1 = unshift_state s0 a0 in
      let s2 = unsub s1 in
      let a2 = unsub_state s1 a1 in
      let s3 = unrounds ks 13 s2 in
      let a3 = unrounds_state 13 s2 a2 in
      ap (λ (t : List (List ℕ)). store (add (key ks 14) (shift (sub (rounds ks 13 (add (key ks 0) t)))))) (load_store (add (key ks 0) s3) (add_state (key ks 0) s3 (key_bytes 0) a3))
      ∙ ap (λ (t : List (List ℕ)). store (add (key ks 14) (shift (sub (rounds ks 13 t))))) (add_add (key ks 0) s3 a3)
      ∙ ap (λ (t : List (List ℕ)). store (add (key ks 14) (shift (sub t)))) (rounds_unrounds 13 s2 a2)
      ∙ ap (λ (t : List (List ℕ)). store (add (key ks 14) (shift t))) (sub_unsub s1 a1)
      ∙ ap (λ (t : List (List ℕ)). store (add (key ks 14) t)) (shift_unshift s0 a0)
      ∙ ap store (add_add (key ks 14) s a)
      ∙ store_load x h.long

  encrypt_state : (x : List ℕ) → AreBytes x → IsState (add (key ks 14) (shift (sub (rounds ks 13 (add (key ks 0) (load x))))))
  encrypt_state x b =
      add_state (key ks 14) _ (key_bytes 14) (shift_state _ (sub_state _ (rounds_state 13 _ (add_state (key ks 0) _ (key_bytes 0) (load_state x b)))))

  decrypt_state : (x : List ℕ) → AreBytes x → IsState (add (key ks 0) (unrounds ks 13 (unsub (unshift (add (key ks 14) (load x))))))
  decrypt_state x b =
      add_state (key ks 0) _ (key_bytes 0) (unrounds_state 13 _ (unsub_state _ (unshift_state _ (add_state (key ks 14) _ (key_bytes 14) (load_state x b)))))

  pub encrypt_block : (x : List ℕ) → IsBlock x → IsBlock (encrypt ks x)
  unfolding encrypt
  encrypt_block x h = record { long = store_length _; bytes = store_byte _ (encrypt_state x h.bytes) }

  pub decrypt_block : (x : List ℕ) → IsBlock x → IsBlock (decrypt ks x)
  unfolding decrypt
  decrypt_block x h = record { long = store_length _; bytes = store_byte _ (decrypt_state x h.bytes) }
