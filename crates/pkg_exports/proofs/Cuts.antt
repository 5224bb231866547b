-- A text cut at the first of a byte.
use Rattle.std.proofs.Common.{◌≡◌, arith, ℕ, ◌+◌, ◌<◌, ◌==◌, cond, false, true, List, [], ◌∷◌, ◌++◌, length, take, get_or, Option, Some, None, MatchOption, refl, sym, ap, ◌∙◌, ◌||◌}
use Rattle.std.specs.Borrow.{Bor}
use Rattle.std.specs.Option.{is_some}
use Rattle.std.proofs.lemmas.List.{take_more}
use Rattle.std.proofs.lemmas.List.Folds.{list_any-append}
use Rattle.std.proofs.lemmas.Bool.{or_parts, or_from, or_right}
use Rattle.pkg_manifest.specs.Patterns.{segments, joined}
use Rattle.pkg_manifest.specs.BlockViews.{segments_left}
use Rattle.pkg_exports.specs.Texts.{has}

pub has_more : (c : ℕ) (s : List ℕ) (i : ℕ) (d : ℕ) → i < length s → has c (take i s) ≡ false → (get_or s i d == c) ≡ false → has c (take (i + 1) s) ≡ false
has_more c s i d h none differs =
    ap (has c) (take_more s i d h) ∙ list_any-append (λ x. x == c) (take i s) (get_or s i d ∷ []) ∙ or_from (has c (take i s)) (has c (get_or s i d ∷ [])) none (or_from (get_or s i d == c) false differs refl)

same_byte : (c : ℕ) → (c == c) ≡ true
same_byte c = grind arith

pub has_it : (c : ℕ) (a b : List ℕ) → has c (a ++ c ∷ b) ≡ true
has_it c a b = list_any-append (λ x. x == c) a (c ∷ b) ∙ or_right (has c a) (has c (c ∷ b)) (ap (λ t. t || has c b) (same_byte c))

pub cut_has : (c : ℕ) (text first : List ℕ) (rest : Option (Bor (List ℕ))) → MatchOption rest (text ≡ first) (λ r. text ≡ first ++ c ∷ r.now) → has c first ≡ false → is_some rest ≡ has c text
cut_has c text first None e h = sym (ap (has c) e ∙ h)
cut_has c text first (Some r) e h = sym (ap (has c) e ∙ has_it c first r.now)

segments_whole : (s : List ℕ) → has 47 s ≡ false → segments s ≡ s ∷ []
segments_whole [] h = refl
segments_whole (c ∷ s) h =
    let p = or_parts (c == 47) (has 47 s) h in
    ap (λ b. cond b ([] ∷ segments s) (joined c (segments s))) p.0 ∙ ap (joined c) (segments_whole s p.1)

segments_first : (a b : List ℕ) → has 47 a ≡ false → segments (a ++ 47 ∷ b) ≡ a ∷ segments b
segments_first [] b h = refl
segments_first (c ∷ a) b h =
    let p = or_parts (c == 47) (has 47 a) h in
    let s = a ++ 47 ∷ b in
    ap (λ t. cond t ([] ∷ segments s) (joined c (segments s))) p.0 ∙ ap (joined c) (segments_first a b p.1)

pub cut_segments : (text first : List ℕ) (rest : Option (Bor (List ℕ))) → MatchOption rest (text ≡ first) (λ r. text ≡ first ++ 47 ∷ r.now) → has 47 first ≡ false → segments text ≡ first ∷ segments_left rest
cut_segments text first None e h = ap segments e ∙ segments_whole first h
cut_segments text first (Some r) e h = ap segments e ∙ segments_first first r.now h
