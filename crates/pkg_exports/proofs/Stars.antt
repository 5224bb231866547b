-- How a name fits a key.
use Rattle.std.proofs.Common.{◌≡◌, ◌≢◌, ℕ, ◌==◌, cond, false, true, List, [], ◌∷◌, ◌++◌, refl, sym, ap, ◌∙◌}
use Rattle.std.proofs.lemmas.List.{append_cancel_left, append_cancel_right}
use Rattle.std.proofs.lemmas.Bool.{or_parts, false≢true}
use Rattle.pkg_exports.specs.Texts.{has}
use Rattle.pkg_exports.specs.Keys.{Fits, equal, pattern, before_star}
use Rattle.pkg_exports.proofs.Cuts.{has_it}

pub before_whole : (s : List ℕ) → has 42 s ≡ false → before_star s ≡ s
before_whole [] h = refl
before_whole (c ∷ s) h =
    let p = or_parts (c == 42) (has 42 s) h in
    ap (λ b. cond b [] (c ∷ before_star s)) p.0 ∙ ap (λ t. c ∷ t) (before_whole s p.1)

pub before_first : (a b : List ℕ) → has 42 a ≡ false → before_star (a ++ 42 ∷ b) ≡ a
before_first [] b h = refl
before_first (c ∷ a) b h =
    let p = or_parts (c == 42) (has 42 a) h in
    ap (λ t. cond t [] (c ∷ before_star (a ++ 42 ∷ b))) p.0 ∙ ap (λ t. c ∷ t) (before_first a b p.1)

-- the text before the first `*` and the text behind it are determined
pub cut_once : (a b c d : List ℕ) → has 42 a ≡ false → has 42 c ≡ false → a ++ 42 ∷ b ≡ c ++ 42 ∷ d → (a ≡ c) × (b ≡ d)
cut_once a b c d h k e =
    let f : a ≡ c = sym (before_first a b h) ∙ ap before_star e ∙ before_first c d k in
    let g : 42 ∷ b ≡ 42 ∷ d = append_cancel_left a (42 ∷ b) (42 ∷ d) (e ∙ ap (λ x. x ++ 42 ∷ d) (sym f)) in
    (f, cc)

no_star : (name a b : List ℕ) → has 42 name ≡ false → name ≡ a ++ 42 ∷ b → ⊥
no_star name a b h e = false≢true (sym h ∙ ap (has 42) e ∙ has_it 42 a b)

pub other_name : (key name : List ℕ) → has 42 name ≡ false → name ≢ key → (part : List ℕ) → ¬ Fits key name part
other_name key name h differs part (equal k e f) = differs e
other_name key name h differs part (pattern a b k l e some f) = no_star name a b h e

pub two_stars : (key name a b : List ℕ) → has 42 a ≡ false → has 42 b ≡ true → name ≡ a ++ 42 ∷ b → (part : List ℕ) → ¬ Fits key name part
two_stars key name a b h k e part (equal l f g) = no_star name a b l e
two_stars key name a b h k e part (pattern c d l m f some g) = false≢true (sym m ∙ ap (has 42) (sym (cut_once a b c d h l (sym e ∙ f)).1) ∙ k)

pub none_between : (key name a b : List ℕ) → has 42 a ≡ false → name ≡ a ++ 42 ∷ b → ((part : List ℕ) → key ≡ a ++ part ++ b → part ≡ []) → (part : List ℕ) → ¬ Fits key name part
none_between key name a b h e none part (equal l f g) = no_star name a b l e
none_between key name a b h e none part (pattern c d l m f some g) =
    let s = cut_once a b c d h l (sym e ∙ f) in
    some (none part (g ∙ ap (λ x. x ++ part ++ d) (sym s.0) ∙ ap (λ x. a ++ part ++ x) (sym s.1)))

-- the part is determined
pub one_part : (key name p q : List ℕ) → Fits key name p → Fits key name q → p ≡ q
one_part key name p q (equal h e f) (equal k g i) = f ∙ sym i
one_part key name p q (equal h e f) (pattern a b k l g some i) = absurd (no_star name a b h g)
one_part key name p q (pattern a b k l g some i) (equal h e f) = absurd (no_star name a b h g)
one_part key name p q (pattern a b k l g some i) (pattern c d m n h more j) =
    let s = cut_once a b c d k m (sym g ∙ h) in
    let e : (a ++ p) ++ b ≡ (a ++ q) ++ b = sym i ∙ j ∙ ap (λ x. x ++ q ++ d) (sym s.0) ∙ ap (λ x. a ++ q ++ x) (sym s.1) in
    append_cancel_left a p q (append_cancel_right (a ++ p) (a ++ q) b e)
