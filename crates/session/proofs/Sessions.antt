-- Parts of a session, and one entry more.
use Rattle.std.proofs.Common.{◌≡◌, List, [], ◌∷◌, ◌++◌, refl, ◌∙◌, subst, append_assoc}
use Rattle.aka.specs.Setup.{Setup}
use Rattle.session.specs.Log.{Pair, Entry, does, Notes, Session, after}

-- the pair after one entry
abbrev pub then : Setup → Setup → Pair → Entry → Pair
then s t p e = (does s t p e.call).after

module _ (s t : Setup) where
  pub after_none : (p : Pair) → after s t p [] ≡ p
  unfolding after
  after_none p = refl

  pub after_cons : (p : Pair) (e : Entry) (es : List Entry) → after s t p (e ∷ es) ≡ after s t (then s t p e) es
  unfolding after
  after_cons p e es = refl

  pub after_append : (p : Pair) (xs ys : List Entry) → after s t p (xs ++ ys) ≡ after s t (after s t p xs) ys
  unfolding after
  after_append p [] ys = refl
  after_append p (x ∷ xs) ys = after_append (then s t p x) xs ys

  pub session_front : (p : Pair) (xs ys : List Entry) → Session s t p (xs ++ ys) → Session s t p xs
  session_front p [] ys h = tt
  session_front p (x ∷ xs) ys h = (h.0, session_front (then s t p x) xs ys h.1)

  pub session_rest : (p : Pair) (xs ys : List Entry) → Session s t p (xs ++ ys) → Session s t (after s t p xs) ys
  unfolding after
  session_rest p [] ys h = h
  session_rest p (x ∷ xs) ys h = session_rest (then s t p x) xs ys h.1

  pub session_append : (p : Pair) (xs ys : List Entry) → Session s t p xs → Session s t (after s t p xs) ys → Session s t p (xs ++ ys)
  unfolding after
  session_append p [] ys h k = k
  session_append p (x ∷ xs) ys h k = (h.0, session_append (then s t p x) xs ys h.1 k)

  -- one entry more, and the pair after it
  pub session_more : (p : Pair) (log : List Entry) (e : Entry) → Session s t p log → Notes s t (after s t p log) e → Session s t p (log ++ e ∷ [])
  session_more p log e h n = session_append p log (e ∷ []) h (n, tt)

  pub after_more : (p : Pair) (log : List Entry) (e : Entry) → after s t p (log ++ e ∷ []) ≡ then s t (after s t p log) e
  after_more p log e = after_append p log (e ∷ []) ∙ after_cons (after s t p log) e [] ∙ after_none (then s t (after s t p log) e)

  -- the session at two entries that stand in order
  pub record Two (p : Pair) (before between : List Entry) (e f : Entry) : Type 0 where
    pub earlier : Session s t p before
    pub first : Notes s t (after s t p before) e
    pub meanwhile : Session s t (then s t (after s t p before) e) between
    pub second : Notes s t (after s t (then s t (after s t p before) e) between) f

  pub two : (p : Pair) (log before between behind : List Entry) (e f : Entry) → Session s t p log → log ≡ before ++ e ∷ between ++ f ∷ behind → Two p before between e f
  two p log before between behind e f h is =
      let P : List Entry → Type 0 = λ l. Session s t p l in
      let k = subst P (is ∙ append_assoc before (e ∷ between) (f ∷ behind)) h in
      let a = session_rest p before (e ∷ between ++ f ∷ behind) k in
      record {
        earlier = session_front p before (e ∷ between ++ f ∷ behind) k;
        first = a.0;
        meanwhile = session_front (then s t (after s t p before) e) between (f ∷ behind) a.1;
        second = (session_rest (then s t (after s t p before) e) between (f ∷ behind) a.1).0;
      }
