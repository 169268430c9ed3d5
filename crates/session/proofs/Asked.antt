-- Sizes and bytes of what the functions yield, and what AUTN and AUTS tell.
use Rattle.std.proofs.Common.{◌≡◌, ℕ, ◌+◌, ◌<◌, ◌≤◌, false, List, [], ◌∷◌, ◌++◌, length, take, drop, refl, ap, ◌∙◌, append_assoc, arith, lit<, length-append, length-drop, length-take-le, take_at, drop_at}
use Rattle.std.proofs.lemmas.Bool.{lt-ltb}
use Rattle.block.specs.Bytes.{AreBytes, IsBlock, ◌⊕◌, filled}
use Rattle.block.proofs.ByteLaws.{bytes_zeros, bytes_append, bytes_take, bytes_drop, bytes_⊕, ⊕_cancel, length_⊕, block_⊕, block_filled}
use Rattle.milenage.specs.Functions.{Kind, authentication, response, session_key, anonymity_key, resynchronisation_key, kind_of, outside, bad_size, bad_carried}
use Rattle.milenage.specs.Question.{Question, Admissible, input}
use Rattle.milenage.specs.Blocks.{temp, output}
use Rattle.milenage.specs.Laws.{Sound}
use Rattle.milenage.proofs.SizeLaws.{is_within}
use Rattle.milenage.proofs.QuestionLaws.{block_input}
use Rattle.milenage.proofs.BlockLaws.{length_output, block_temp, block_block}
use Rattle.aka.specs.declared.sizes.ResyncMask.{ResyncMask}
use Rattle.aka.specs.declared.sizes.ResyncMask.TheVariants.{F5Star, F5StarStar}
use Rattle.aka.specs.Setup.{Setup, SoundSetup, keyed, ask, f1, f5, mask_by, ak_star, mac_s}
use Rattle.aka.specs.Tokens.{autn, auts, answers, autn_size, auts_size, autn_place, autn_amf, autn_mac, autn_number, auts_number}

-- ── questions within the bounds ──

-- within the bounds, and what is carried are bytes
pub record Fine (q : Question) : Type 0 where
  pub admissible : Admissible q
  pub bytes : AreBytes q.carried

-- the question that is asked
abbrev pub asks : ℕ → List ℕ → ℕ → List ℕ → Question
asks i rand n m = record { index = i; rand_size = length rand; size = n; carried = m }

module _ (s : Setup) (ok : SoundSetup s) where
  pub sound : Sound (keyed s)
  sound = record { opc = ok.opc; constants_long = ok.constants_long; constants_bytes = ok.constants_bytes }

  pub input_is_block : (q : Question) → Fine q → IsBlock (input s.constants q)
  input_is_block q f = block_input s.constants q ok.constants_long ok.constants_bytes f.admissible f.bytes

  pub length_ask : (i n : ℕ) (rand m : List ℕ) → n ≤ 32 → length (ask s i rand n m) ≡ n
  unfolding ask
  length_ask i n rand m h = length_output (keyed s) rand (asks i rand n m) ok.opc.long h

  pub length_f1 : (r amf sqn : List ℕ) → length (f1 s r amf sqn) ≡ s.sizes.mac
  length_f1 r amf sqn = length_ask 1 s.sizes.mac r (amf ++ sqn) ok.sizes.mac.1

  pub length_f5 : (r : List ℕ) → length (f5 s r) ≡ s.sizes.sqn
  length_f5 r = length_ask 5 s.sizes.ak r [] (omega (arith, ok.sizes.ak, ok.sizes.sqn.1)) ∙ ok.sizes.ak

  pub length_mac_s : (r sqn : List ℕ) → length (mac_s s r sqn) ≡ s.sizes.mac
  unfolding mac_s
  length_mac_s r sqn = length_ask 0 s.sizes.mac r (0 ∷ 0 ∷ sqn) ok.sizes.mac.1

  length_mask_by : (k : ResyncMask) (r mac : List ℕ) → length (mask_by k s r mac) ≡ s.sizes.sqn
  length_mask_by F5Star r mac = length_ask 6 s.sizes.ak r [] (omega (arith, ok.sizes.ak, ok.sizes.sqn.1)) ∙ ok.sizes.ak
  length_mask_by F5StarStar r mac = length_ask 7 s.sizes.ak r mac (omega (arith, ok.sizes.ak, ok.sizes.sqn.1)) ∙ ok.sizes.ak

  pub length_ak_star : (r mac : List ℕ) → length (ak_star s r mac) ≡ s.sizes.sqn
  unfolding ak_star
  length_ak_star r mac = length_mask_by s.sizes.resync r mac

  pub length_front : (r : List ℕ) → length r ≡ s.sizes.rand → length (r ++ answers s r) ≡ autn_place s.sizes
  unfolding answers
  length_front r h =
      simp length-append
      (omega (
        arith,
        length_ask 2 s.sizes.res r [] ok.sizes.res.1,
        length_ask 3 s.sizes.ck r [] ok.sizes.ck.1,
        length_ask 4 s.sizes.ik r [] ok.sizes.ik.1,
      ))

  -- ── what tokens tell ──

  module _ (r sqn : List ℕ) (h : length sqn ≡ s.sizes.sqn) where
    length_masked : (k : List ℕ) → length k ≡ s.sizes.sqn → length (sqn ⊕ k) ≡ s.sizes.sqn
    length_masked k e = length_⊕ sqn k ∙ omega arith

    pub autn_number_is : (amf : List ℕ) → autn_number s r (autn s r amf sqn) ≡ sqn
    unfolding autn_number autn
    autn_number_is amf =
        rw (append_assoc (sqn ⊕ f5 s r) amf (f1 s r amf sqn), take_at (sqn ⊕ f5 s r) (amf ++ f1 s r amf sqn) s.sizes.sqn (length_masked (f5 s r) (length_f5 r)))
        (⊕_cancel sqn (f5 s r) (omega (arith, length_f5 r)))

    pub autn_amf_is : (amf : List ℕ) → length amf ≡ 2 → autn_amf s.sizes (autn s r amf sqn) ≡ amf
    unfolding autn
    autn_amf_is amf two =
        rw (append_assoc (sqn ⊕ f5 s r) amf (f1 s r amf sqn), drop_at (sqn ⊕ f5 s r) (amf ++ f1 s r amf sqn) s.sizes.sqn (length_masked (f5 s r) (length_f5 r)))
        (take_at amf (f1 s r amf sqn) 2 two)

    pub autn_mac_is : (amf : List ℕ) → length amf ≡ 2 → autn_mac s.sizes (autn s r amf sqn) ≡ f1 s r amf sqn
    unfolding autn
    autn_mac_is amf two =
        drop_at ((sqn ⊕ f5 s r) ++ amf) (f1 s r amf sqn) (s.sizes.sqn + 2)
        (length-append (sqn ⊕ f5 s r) amf ∙ omega (arith, length_masked (f5 s r) (length_f5 r)))

    pub length_autn : (amf : List ℕ) → length amf ≡ 2 → length (autn s r amf sqn) ≡ autn_size s.sizes
    unfolding autn
    length_autn amf two = simp length-append (omega (arith, length_masked (f5 s r) (length_f5 r), length_f1 r amf sqn))

    pub auts_number_is : auts_number s r (auts s r sqn) ≡ sqn
    unfolding auts_number auts
    auts_number_is =
        let mac = mac_s s r sqn in
        let hid : length (sqn ⊕ ak_star s r mac) ≡ s.sizes.sqn = length_masked (ak_star s r mac) (length_ak_star r mac) in
        rw (take_at (sqn ⊕ ak_star s r mac) mac s.sizes.sqn hid, drop_at (sqn ⊕ ak_star s r mac) mac s.sizes.sqn hid)
        (⊕_cancel sqn (ak_star s r mac) (omega (arith, length_ak_star r mac)))

  -- the number read out of a token has SQN size
  pub length_autn_number : (r a : List ℕ) → length a ≡ autn_size s.sizes → length (autn_number s r a) ≡ s.sizes.sqn
  unfolding autn_number
  length_autn_number r a h =
      length_⊕ (take s.sizes.sqn a) (f5 s r) ∙ omega (arith, length_f5 r, length-take-le s.sizes.sqn a (omega arith))

  pub length_auts_number : (r a : List ℕ) → length a ≡ auts_size s.sizes → length (auts_number s r a) ≡ s.sizes.sqn
  unfolding auts_number
  length_auts_number r a h =
      length_⊕ (take s.sizes.sqn a) (ak_star s r (drop s.sizes.sqn a))
      ∙ omega (arith, length_ak_star r (drop s.sizes.sqn a), length-take-le s.sizes.sqn a (omega arith))

  -- ── the questions that an end asks at a RAND of its size ──

  module _ (r : List ℕ) (long : length r ≡ s.sizes.rand) where
    fine : (k : Kind) (i n : ℕ) (m : List ℕ) → kind_of i ≡ k → i < 8 → bad_size k n ≡ false → bad_carried k (length m) ≡ false → AreBytes m → Fine (asks i r n m)
    fine k i n m e h a b c =
        record {
          admissible = record {
            index = h;
            rand = is_within 16 32 (length r) (omega (arith, ok.sizes.rand.0), omega (arith, ok.sizes.rand.1));
            size = ap (λ (x : Kind). bad_size x n) e ∙ a;
            carried = ap (λ (x : Kind). bad_carried x (length m)) e ∙ b;
          };
          bytes = c;
        }

    none : AreBytes []
    none = bytes_zeros 0

    -- f1* and f1
    pub fine_mac : (i : ℕ) → i < 2 → (amf sqn : List ℕ) → length amf ≡ 2 → AreBytes amf → length sqn ≡ s.sizes.sqn → AreBytes sqn
        → Fine (asks i r s.sizes.mac (amf ++ sqn))
    unfolding kind_of bad_size bad_carried
    fine_mac i h amf sqn a ab b bb =
        fine authentication i s.sizes.mac (amf ++ sqn) (rw (lt-ltb i 2 h)) (omega arith) (is_within 8 32 s.sizes.mac ok.sizes.mac)
        (is_within 8 14 (length (amf ++ sqn)) (omega (arith, length-append amf sqn, ok.sizes.sqn.0), omega (arith, length-append amf sqn, ok.sizes.sqn.1)))
        (bytes_append amf sqn ab bb)

    pub fine_f2 : Fine (asks 2 r s.sizes.res [])
    unfolding kind_of bad_size bad_carried
    fine_f2 = fine response 2 s.sizes.res [] refl (lit< tt) (is_within 4 32 s.sizes.res ok.sizes.res) refl none

    pub fine_f3 : Fine (asks 3 r s.sizes.ck [])
    unfolding kind_of bad_size bad_carried
    fine_f3 = fine session_key 3 s.sizes.ck [] refl (lit< tt) (is_within 16 32 s.sizes.ck ok.sizes.ck) refl none

    pub fine_f4 : Fine (asks 4 r s.sizes.ik [])
    unfolding kind_of bad_size bad_carried
    fine_f4 = fine session_key 4 s.sizes.ik [] refl (lit< tt) (is_within 16 32 s.sizes.ik ok.sizes.ik) refl none

    ak_size : outside 6 12 s.sizes.ak ≡ false
    ak_size = is_within 6 12 s.sizes.ak (omega (arith, ok.sizes.ak, ok.sizes.sqn.0), omega (arith, ok.sizes.ak, ok.sizes.sqn.1))

    pub fine_f5 : Fine (asks 5 r s.sizes.ak [])
    unfolding kind_of bad_size bad_carried
    fine_f5 = fine anonymity_key 5 s.sizes.ak [] refl (lit< tt) ak_size refl none

    pub fine_f5* : Fine (asks 6 r s.sizes.ak [])
    unfolding kind_of bad_size bad_carried
    fine_f5* = fine anonymity_key 6 s.sizes.ak [] refl (lit< tt) ak_size refl none

    pub fine_f5** : (mac : List ℕ) → length mac ≡ s.sizes.mac → AreBytes mac → Fine (asks 7 r s.sizes.ak mac)
    unfolding kind_of bad_size bad_carried
    fine_f5** mac h b =
        fine resynchronisation_key 7 s.sizes.ak mac refl (lit< tt) ak_size
        (is_within 8 32 (length mac) (omega (arith, ok.sizes.mac.0), omega (arith, ok.sizes.mac.1))) b

  -- ── bytes ──

  module _ (blocks : (x : List ℕ) → IsBlock x → IsBlock (s.forth x)) where
    pub first_is_block : (r : List ℕ) → AreBytes r → IsBlock (filled r ⊕ s.opc)
    first_is_block r b = block_⊕ (filled r) s.opc (block_filled r b) ok.opc

    pub temp_is_block : (r : List ℕ) → AreBytes r → IsBlock (temp (keyed s) r)
    temp_is_block r b = block_temp (keyed s) blocks ok.opc r b

    pub second_is_block : (r : List ℕ) → AreBytes r → (q : Question) → Fine q → IsBlock (temp (keyed s) r ⊕ input s.constants q)
    second_is_block r b q f = block_⊕ _ _ (temp_is_block r b) (input_is_block q f)

    pub bytes_ask : (i n : ℕ) (r m : List ℕ) → AreBytes r → Fine (asks i r n m) → AreBytes (ask s i r n m)
    unfolding ask output
    bytes_ask i n r m b f = bytes_take n _ (block_block (keyed s) blocks sound r (asks i r n m) b f.admissible f.bytes).bytes

    module _ (r : List ℕ) (long : length r ≡ s.sizes.rand) (b : AreBytes r) where
      bytes_mask_by : (k : ResyncMask) (mac : List ℕ) → length mac ≡ s.sizes.mac → AreBytes mac → AreBytes (mask_by k s r mac)
      bytes_mask_by F5Star mac h c = bytes_ask 6 s.sizes.ak r [] b (fine_f5* r long)
      bytes_mask_by F5StarStar mac h c = bytes_ask 7 s.sizes.ak r mac b (fine_f5** r long mac h c)

      pub bytes_autn_number : (a : List ℕ) → AreBytes a → AreBytes (autn_number s r a)
      unfolding autn_number
      bytes_autn_number a c = bytes_⊕ _ _ (bytes_take s.sizes.sqn a c) (bytes_ask 5 s.sizes.ak r [] b (fine_f5 r long))

      pub bytes_auts_number : (a : List ℕ) → length a ≡ auts_size s.sizes → AreBytes a → AreBytes (auts_number s r a)
      unfolding auts_number ak_star
      bytes_auts_number a h c =
          bytes_⊕ _ _ (bytes_take s.sizes.sqn a c)
          (bytes_mask_by s.sizes.resync (drop s.sizes.sqn a) (length-drop s.sizes.sqn a ∙ omega arith) (bytes_drop s.sizes.sqn a c))
