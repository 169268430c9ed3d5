-- What holds of the cipher, whatever the round keys.
use Rattle.std.specs.Prelude.{◌≡◌, ℕ, ◌<◌, List}
use Rattle.block.specs.Bytes.{AreBytes, IsBlock}
use Rattle.rijndael.specs.Schedule.{schedule, round_key, round_keys}
use Rattle.rijndael.specs.Cipher.{key, KeysAreBytes, encrypt, decrypt}

pub record RoundTrips : Type 0 where
  pub back_forth : (ks : List (List ℕ)) → KeysAreBytes ks → (x : List ℕ) → IsBlock x → decrypt ks (encrypt ks x) ≡ x
  pub forth_back : (ks : List (List ℕ)) → KeysAreBytes ks → (x : List ℕ) → IsBlock x → encrypt ks (decrypt ks x) ≡ x
  pub forth_block : (ks : List (List ℕ)) → KeysAreBytes ks → (x : List ℕ) → IsBlock x → IsBlock (encrypt ks x)
  pub back_block : (ks : List (List ℕ)) → KeysAreBytes ks → (x : List ℕ) → IsBlock x → IsBlock (decrypt ks x)
  -- a key of bytes has round keys of bytes
  pub keys_bytes : (k : List ℕ) → AreBytes k → KeysAreBytes (round_keys k)
  -- round n adds words 8n to 8n+7 of the schedule
  pub round_key_is : (k : List ℕ) (n : ℕ) → n < 15 → key (round_keys k) n ≡ round_key (schedule k) n
