-- A part of a pattern takes elements from the front, and at a later place it leaves no more.
use Rattle.std.proofs.Common.{◌≡◌, ℕ, Bool, true, false, cond, ◌==◌, List, [], ◌∷◌, Some, None, refl, sym, subst}
use Rattle.pkg_manifest.specs.Patterns.{continues, behind_character, byte_step, segment_fits, segment_step}
use Rattle.pkg_manifest.proofs.Choice.{Suffix, here, later, trans}

behind_suffix : (s : List ℕ) → Suffix (behind_character s) s
behind_suffix [] = here
behind_suffix (c ∷ s) = by (continues c) (behind_suffix s)
  where
    by : (b : Bool) → Suffix (behind_character s) s → Suffix (cond b (behind_character s) (c ∷ s)) (c ∷ s)
    by true h = later c h
    by false h = here

behind_later : (t s : List ℕ) → Suffix t s → Suffix (behind_character t) (behind_character s)
behind_later t s here = here
behind_later t s (later {s = u} c h) = by (continues c) (behind_later t u h)
  where
    by : (b : Bool) → Suffix (behind_character t) (behind_character u) → Suffix (behind_character t) (cond b (behind_character u) (c ∷ u))
    by true k = k
    by false k = later c (trans (behind_character t) t u (behind_suffix t) h)

tails_of : {X : Type 0} (a b t s : List X) (x y : X) → Suffix a b → a ≡ y ∷ t → b ≡ x ∷ s → Suffix t s
tails_of a b t s x y here e f = let same : t ≡ s = cc in subst (Suffix t) same here
tails_of a b t s x y (later {s = u} z h) e f =
    let same : u ≡ s = cc in
    subst (Suffix t) same (trans t a u (subst (Suffix t) (sym e) (later y here)) h)

tails : {X : Type 0} (t s : List X) (x y : X) → Suffix (y ∷ t) (x ∷ s) → Suffix t s
tails t s x y h = tails_of (y ∷ t) (x ∷ s) t s x y h refl refl

-- ---- bytes

pub byte_shrinks : (c : ℕ) (s t : List ℕ) → byte_step c s ≡ Some t → Suffix t s
byte_shrinks c [] t e = absurd (cc)
byte_shrinks c (d ∷ s) t e = by (c == 63) (c == d) e
  where
    by : (a b : Bool) → cond a (Some (behind_character s)) (cond b (Some s) None) ≡ Some t → Suffix t (d ∷ s)
    by true b f = let same : behind_character s ≡ t = cc in subst (λ u. Suffix u (d ∷ s)) same (later d (behind_suffix s))
    by false true f = let same : s ≡ t = cc in subst (λ u. Suffix u (d ∷ s)) same (later d here)
    by false false f = absurd (cc)

pub byte_keeps : (c : ℕ) (s t s2 t2 : List ℕ) → Suffix t s → byte_step c s ≡ Some s2 → byte_step c t ≡ Some t2 → Suffix t2 s2
byte_keeps c [] t s2 t2 h e f = absurd (cc)
byte_keeps c (d ∷ s) [] s2 t2 h e f = absurd (cc)
byte_keeps c (d ∷ s) (g ∷ t) s2 t2 h e f = by (c == 63) (c == d) (c == g) (tails t s d g h) e f
  where
    by : (a b k : Bool) → Suffix t s → cond a (Some (behind_character s)) (cond b (Some s) None) ≡ Some s2 → cond a (Some (behind_character t)) (cond k (Some t) None) ≡ Some t2 → Suffix t2 s2
    by true b k l m n =
        let first : behind_character s ≡ s2 = cc (m) in
        let second : behind_character t ≡ t2 = cc (n) in
        subst (λ u. Suffix u s2) second (subst (Suffix (behind_character t)) first (behind_later t s l))
    by false true true l m n =
        let first : s ≡ s2 = cc (m) in
        let second : t ≡ t2 = cc (n) in
        subst (λ u. Suffix u s2) second (subst (Suffix t) first l)
    by false true false l m n = absurd (cc (n))
    by false false k l m n = absurd (cc (m))

-- ---- segments

pub segment_shrinks : (p : List ℕ) (s t : List (List ℕ)) → segment_step p s ≡ Some t → Suffix t s
segment_shrinks p [] t e = absurd (cc)
segment_shrinks p (d ∷ s) t e = by (segment_fits p d) e
  where
    by : (b : Bool) → cond b (Some s) None ≡ Some t → Suffix t (d ∷ s)
    by true f = let same : s ≡ t = cc in subst (λ u. Suffix u (d ∷ s)) same (later d here)
    by false f = absurd (cc)

pub segment_keeps : (p : List ℕ) (s t s2 t2 : List (List ℕ)) → Suffix t s → segment_step p s ≡ Some s2 → segment_step p t ≡ Some t2 → Suffix t2 s2
segment_keeps p [] t s2 t2 h e f = absurd (cc)
segment_keeps p (d ∷ s) [] s2 t2 h e f = absurd (cc)
segment_keeps p (d ∷ s) (g ∷ t) s2 t2 h e f = by (segment_fits p d) (segment_fits p g) (tails t s d g h) e f
  where
    by : (b k : Bool) → Suffix t s → cond b (Some s) None ≡ Some s2 → cond k (Some t) None ≡ Some t2 → Suffix t2 s2
    by true true l m n =
        let first : s ≡ s2 = cc (m) in
        let second : t ≡ t2 = cc (n) in
        subst (λ u. Suffix u s2) second (subst (Suffix t) first l)
    by true false l m n = absurd (cc (n))
    by false k l m n = absurd (cc (m))
