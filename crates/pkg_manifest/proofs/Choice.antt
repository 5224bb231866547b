-- A run of any length may be taken as short as possible: where the pattern behind it fits a later place, it fits an earlier one.
use Rattle.std.proofs.Common.{inl, inr, ◌≡◌, ◌↔◌, List, [], ◌∷◌, ◌++◌, Option, Some, None, Bool, true, false, ◌≤◌, ◌<◌, length, refl, sym, ap, subst, ◌∙◌, arith}
use Rattle.std.proofs.lemmas.Bool.{false≢true, or_cases, or_left, or_right}
use Rattle.pkg_manifest.specs.Fitting.{Part, many, one, fits, some_rest, if_taken}
use Rattle.pkg_manifest.specs.Blocks.{Block, fails, ends, star, block, block_then}

pub data Suffix {X : Type 0} : List X → List X → Type 0 where
  here : {s : List X} → Suffix s s
  later : {s t : List X} (x : X) → Suffix t s → Suffix t (x ∷ s)

pub trans : {X : Type 0} (a b c : List X) → Suffix a b → Suffix b c → Suffix a c
trans a b c h here = h
trans a b c h (later {s = s} x k) = later x (trans a b s h k)

pub suffix_append : {X : Type 0} (run s : List X) → Suffix s (run ++ s)
suffix_append [] s = here
suffix_append (x ∷ run) s = later x (suffix_append run s)

module _ {A X : Type 0} (step : A → List X → Option (List X)) where
  pub data Fits : List (Part A) → List X → Type 0 where
    nothing : Fits [] []
    any : {p : List (Part A)} {s : List X} (run : List X) → Fits p s → Fits (many ∷ p) (run ++ s)
    takes : {p : List (Part A)} {s t : List X} (a : A) → step a s ≡ Some t → Fits p t → Fits (one a ∷ p) s

  some_rest_at : (test : List X → Bool) (run s : List X) → test s ≡ true → some_rest test (run ++ s) ≡ true
  some_rest_at test [] [] h = h
  some_rest_at test [] (x ∷ s) h = or_left (test (x ∷ s)) (some_rest test s) h
  some_rest_at test (x ∷ run) s h = or_right (test (x ∷ (run ++ s))) (some_rest test (run ++ s)) (some_rest_at test run s h)

  rest_found : (test : List X → Bool) (s : List X) → some_rest test s ≡ true → (run : List X) × (t : List X) × (run ++ t ≡ s) × (test t ≡ true)
  rest_found test [] h = ([], [], refl, h)
  rest_found test (x ∷ s) h = elim (or_cases _ _ h) [ inl l ↦ ([], x ∷ s, refl, l) | inr r ↦ let f = rest_found test s r in (x ∷ f.0, f.1, ap (λ l. x ∷ l) f.2, f.3) ]

  pub to_test : (p : List (Part A)) (s : List X) → Fits p s → fits step p s ≡ true
  to_test p s nothing = refl
  to_test p s (any {p = q} {s = t} run f) = some_rest_at (fits step q) run t (to_test q t f)
  to_test p s (takes {p = q} {t = t} a e f) = ap (if_taken (fits step q)) e ∙ to_test q t f

  pub from_test : (p : List (Part A)) (s : List X) → fits step p s ≡ true → Fits p s
  from_test [] [] h = nothing
  from_test [] (x ∷ s) h = absurd (false≢true h)
  from_test (many ∷ p) s h = let f = rest_found (fits step p) s h in subst (Fits (many ∷ p)) f.2 (any f.0 (from_test p f.1 f.3))
  from_test (one a ∷ p) s h = by (λ t. from_test p t) (step a s) refl h
    where
      by : ((t : List X) → fits step p t ≡ true → Fits p t) → (o : Option (List X)) → step a s ≡ o → if_taken (fits step p) o ≡ true → Fits (one a ∷ p) s
      by more None e g = absurd (false≢true g)
      by more (Some t) e g = takes a e (more t g)

module _ {A X : Type 0} (step : A → List X → Option (List X))
    (shrinks : (a : A) (s t : List X) → step a s ≡ Some t → Suffix t s)
    (keeps : (a : A) (s t s2 t2 : List X) → Suffix t s → step a s ≡ Some s2 → step a t ≡ Some t2 → Suffix t2 s2) where
  run_before : (p : List (Part A)) (t s : List X) → Suffix t s → Fits step p t → Fits step (many ∷ p) s
  run_before p t s h f = let r = as_append t s h in subst (Fits step (many ∷ p)) r.1 (any r.0 f)
    where
      as_append : (t s : List X) → Suffix t s → (run : List X) × (run ++ t ≡ s)
      as_append t s here = ([], refl)
      as_append t s (later {s = u} x k) = let r = as_append t u k in (x ∷ r.0, ap (λ l. x ∷ l) r.1)

  run_split : (p : List (Part A)) (s : List X) → Fits step (many ∷ p) s → (t : List X) × Suffix t s × Fits step p t
  run_split p s (any {s = t} run f) = (t, suffix_append run t, f)

  many_later : (p : List (Part A)) (t s : List X) → Suffix t s → Fits step (many ∷ p) t → Fits step (many ∷ p) s
  many_later p t s h f = let r = run_split p t f in run_before p r.0 s (trans r.0 t s r.1 h) r.2

  taken : (a : A) (p : List (Part A)) (s : List X) → Fits step (one a ∷ p) s → (t : List X) × (step a s ≡ Some t) × Fits step p t
  taken a p s (takes {t = t} b e f) = (t, e, f)

  none_some : {B : Type 0} {P : Type 0} (b : B) → None ≡ Some b → P
  none_some b e = absurd (cc)

  -- where a pattern fits, its first block doesn't fail, and the rest fits
  abbrev Left : Block A X → Type 0
  Left fails = ⊥
  Left ends = Unit {0}
  Left (star p s) = Fits step (many ∷ p) s

  pub left : (p : List (Part A)) (s : List X) → Fits step p s → Left (block step p s)
  left [] s nothing = tt
  left (many ∷ p) s f = f
  left (one a ∷ p) s f = let r = taken a p s f in subst (λ o. Left (block_then step (block step p) o)) (sym r.1) (left p r.0 r.2)

  pub back : (p : List (Part A)) (s : List X) → Left (block step p s) → Fits step p s
  back [] [] l = nothing
  back [] (x ∷ s) l = absurd l
  back (many ∷ p) s f = f
  back (one a ∷ p) s f = by (λ t. back p t) (step a s) refl f
    where
      by : ((t : List X) → Left (block step p t) → Fits step p t) → (o : Option (List X)) → step a s ≡ o → Left (block_then step (block step p) o) → Fits step (one a ∷ p) s
      by more None e g = absurd g
      by more (Some t) e g = takes a e (more t g)

  -- ---- one block at an earlier place

  abbrev Earlier : Block A X → Block A X → Type 0
  Earlier fails c = Unit {0}
  Earlier ends c = Unit {0}
  Earlier (star p s) fails = Unit {0}
  Earlier (star p s) ends = ⊥
  Earlier (star p s) (star q t) = (p ≡ q) × Suffix t s

  failing : (c : Block A X) (b : Block A X) → b ≡ fails → Earlier b c
  failing c b e = subst (λ x. Earlier x c) (sym e) tt

  failing_later : (b : Block A X) → Earlier b fails
  failing_later fails = tt
  failing_later ends = tt
  failing_later (star p s) = tt

  earlier : (p : List (Part A)) (t s : List X) → Suffix t s → Earlier (block step p s) (block step p t)
  earlier [] t [] h = tt
  earlier [] t (x ∷ s) h = tt
  earlier (many ∷ p) t s h = (refl, h)
  earlier (one a ∷ p) t s h = by (λ u v. earlier p u v) (step a s) (step a t) refl refl
    where
      by : ((u v : List X) → Suffix u v → Earlier (block step p v) (block step p u)) → (o r : Option (List X)) → step a s ≡ o → step a t ≡ r
          → Earlier (block_then step (block step p) o) (block_then step (block step p) r)
      by more None r e f = tt
      by more (Some v) None e f = failing_later (block step p v)
      by more (Some v) (Some u) e f = more u v (keeps a s t v u h e f)

  -- ---- what a search behind a run does

  -- at the next run the search goes on there, and never comes back
  pub goes_on : (p : List (Part A)) (s : List X) (q : List (Part A)) (u : List X) → block step p s ≡ star q u → Fits step (many ∷ p) s ↔ Fits step (many ∷ q) u
  goes_on p s q u e = (to, from)
    where
      from : Fits step (many ∷ q) u → Fits step (many ∷ p) s
      from f = run_before p s s here (back p s (subst Left (sym e) f))

      at : (b : Block A X) → Left b → Earlier (star q u) b → Fits step (many ∷ q) u
      at fails l k = absurd l
      at ends l k = absurd k
      at (star r t) l k = many_later q t u k.1 (subst (λ x. Fits step (many ∷ x) t) (sym k.0) l)

      to : Fits step (many ∷ p) s → Fits step (many ∷ q) u
      to f =
          let r = run_split p s f in
          at (block step p r.0) (left p r.0 r.2) (subst (λ b. Earlier b (block step p r.0)) e (earlier p r.0 s r.1))

  -- at the pattern's end the search is over
  pub finds : (p : List (Part A)) (s : List X) → block step p s ≡ ends → Fits step (many ∷ p) s
  finds p s e = run_before p s s here (back p s (subst Left (sym e) tt))

  -- where the pattern doesn't fit here it fits one place further on or nowhere
  pub moves : (p : List (Part A)) (y : X) (s : List X) → (Left (block step p (y ∷ s)) → ⊥) → Fits step (many ∷ p) (y ∷ s) ↔ Fits step (many ∷ p) s
  moves p y s fails_here = (to, many_later p s (y ∷ s) (later y here))
    where
      at : (t u : List X) → Suffix t u → u ≡ y ∷ s → Fits step p t → Fits step (many ∷ p) s
      at t u here e f = absurd (fails_here (subst (λ x. Left (block step p x)) e (left p t f)))
      at t u (later {s = v} x h) e f = run_before p t s (subst (Suffix t) (tail_of v s x y e) h) f
        where
          tail_of : (v s : List X) (x y : X) → x ∷ v ≡ y ∷ s → v ≡ s
          tail_of v s x y e = cc

      to : Fits step (many ∷ p) (y ∷ s) → Fits step (many ∷ p) s
      to f = let r = run_split p (y ∷ s) f in at r.0 (y ∷ s) r.1 refl r.2

  pub stops : (p : List (Part A)) → (Left (block step p []) → ⊥) → Fits step (many ∷ p) [] → ⊥
  stops p fails_here f = let r = run_split p [] f in at r.0 [] r.1 refl r.2
    where
      at : (t u : List X) → Suffix t u → u ≡ [] → Fits step p t → ⊥
      at t u here e g = fails_here (subst (λ x. Left (block step p x)) e (left p t g))
      at t u (later x h) e g = absurd (cc)

  -- ---- the same of the tests

  same_test : (b c : Bool) → (b ≡ true → c ≡ true) → (c ≡ true → b ≡ true) → b ≡ c
  same_test true c f g = sym (f refl)
  same_test false true f g = g refl
  same_test false false f g = refl

  -- a first block that ends or fails tells the answer, and one at a run hands on
  abbrev pub answer : Block A X → Bool
  answer fails = false
  answer ends = true
  answer (star p s) = fits step (many ∷ p) s

  answer_left : (b : Block A X) → answer b ≡ true → Left b
  answer_left fails h = false≢true h
  answer_left ends h = tt
  answer_left (star p s) h = from_test step (many ∷ p) s h

  left_answer : (b : Block A X) → Left b → answer b ≡ true
  left_answer fails l = absurd l
  left_answer ends l = refl
  left_answer (star p s) l = to_test step (many ∷ p) s l

  pub answer_is : (p : List (Part A)) (s : List X) → fits step p s ≡ answer (block step p s)
  answer_is p s = same_test (fits step p s) (answer (block step p s)) (λ h. left_answer (block step p s) (left p s (from_test step p s h))) (λ h. to_test step p s (back p s (answer_left (block step p s) h)))

  pub search_goes_on : (p : List (Part A)) (s : List X) (q : List (Part A)) (u : List X) → block step p s ≡ star q u → fits step (many ∷ p) s ≡ fits step (many ∷ q) u
  search_goes_on p s q u e =
      let both = goes_on p s q u e in
      same_test (fits step (many ∷ p) s) (fits step (many ∷ q) u) (λ h. to_test step (many ∷ q) u (both.0 (from_test step (many ∷ p) s h))) (λ h. to_test step (many ∷ p) s (both.1 (from_test step (many ∷ q) u h)))

  pub search_finds : (p : List (Part A)) (s : List X) → block step p s ≡ ends → fits step (many ∷ p) s ≡ true
  search_finds p s e = to_test step (many ∷ p) s (finds p s e)

  pub search_moves : (p : List (Part A)) (y : X) (s : List X) → block step p (y ∷ s) ≡ fails → fits step (many ∷ p) (y ∷ s) ≡ fits step (many ∷ p) s
  search_moves p y s m =
      let both = moves p y s (subst Left m) in
      same_test (fits step (many ∷ p) (y ∷ s)) (fits step (many ∷ p) s) (λ h. to_test step (many ∷ p) s (both.0 (from_test step (many ∷ p) (y ∷ s) h))) (λ h. to_test step (many ∷ p) (y ∷ s) (both.1 (from_test step (many ∷ p) s h)))

  pub search_stops : (p : List (Part A)) → block step p [] ≡ fails → fits step (many ∷ p) [] ≡ false
  search_stops p m = same_test (fits step (many ∷ p) []) false (λ h. absurd (stops p (subst Left m) (from_test step (many ∷ p) [] h))) (λ h. absurd (false≢true h))

  -- ---- a block takes parts

  pub shorter_length : (t s : List X) → Suffix t s → length t ≤ length s
  shorter_length t s here = omega arith
  shorter_length t s (later {s = u} x h) = omega (arith, shorter_length t u h)

  pub star_left : (p : List (Part A)) (s : List X) (q : List (Part A)) (u : List X) → block step p s ≡ star q u → (length q < length p) × (length u ≤ length s)
  star_left [] [] q u e = absurd (cc)
  star_left [] (x ∷ s) q u e = absurd (cc)
  star_left (many ∷ p) s q u e = let a : p ≡ q = cc in let b : s ≡ u = cc in (omega (arith, ap length a), omega (arith, ap length b))
  star_left (one a ∷ p) s q u e = by (λ t. star_left p t q u) (step a s) refl e
    where
      by : ((t : List X) → block step p t ≡ star q u → (length q < length p) × (length u ≤ length t)) → (o : Option (List X)) → step a s ≡ o → block_then step (block step p) o ≡ star q u
          → (length q < length (one a ∷ p)) × (length u ≤ length s)
      by more None k f = absurd (cc)
      by more (Some t) k f = let m = more t f in (omega (arith, m.0), omega (arith, m.1, shorter_length t s (shrinks a s t k)))
