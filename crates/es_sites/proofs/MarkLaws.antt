-- The marks around a name, as they are gone through.
use Rattle.std.proofs.Common.{◌≡◌, ℕ, zero, suc, ◌+◌, ◌-◌, ◌<◌, Bool, true, false, ◌&&◌, not, cond, nat_lt, [], ◌∷◌, Option, Some, None, length, drop, slice_get, refl, sym, ap, ◌∙◌, arith, add-one, true≢false}
use Rattle.std.proofs.lemmas.Bool.{lt-ltb}
use Rattle.std.proofs.lemmas.Option.{slice_get_within}
use Rattle.es_outline.specs.declared.mark.Mark.{Mark}
use Rattle.es_outline.specs.Outline.{Marks}
use Rattle.es_scope.specs.Source.{Source}
use Rattle.es_sites.specs.Marks.{closes, is_updated, updated_by, opens, goes_on, deletes, enclosed, behind_delete, deleted}

closing_mark : (found : Option Mark) → closes found ≡ true → (one_mark : Mark) × (found ≡ Some one_mark)
closing_mark None e = absurd (true≢false (sym e))
closing_mark (Some one_mark) e = (one_mark, refl)

pub closes_within : (marks : Marks) (place : ℕ) → closes (slice_get marks place) ≡ true → place < length marks
closes_within marks place e = let found = closing_mark (slice_get marks place) e in slice_get_within marks place found.0 found.1

step : (marks : Marks) (place : ℕ) → closes (slice_get marks place) ≡ true → updated_by (drop (suc place) marks) ≡ updated_by (drop place marks)
unfolding updated_by
step [] place e = absurd (true≢false (sym e))
step (one_mark ∷ rest) zero e = sym (ap (λ b. cond b (updated_by rest) (is_updated (Some one_mark))) e)
step (one_mark ∷ rest) (suc place) e = step rest place e

-- a `)` is looked past
pub updated_step : (marks : Marks) (place : ℕ) → closes (slice_get marks place) ≡ true → updated_by (drop (place + 1) marks) ≡ updated_by (drop place marks)
updated_step marks place e = ap (λ k. updated_by (drop k marks)) (add-one place) ∙ step marks place e

-- another mark decides
pub updated_stop : (marks : Marks) (place : ℕ) → closes (slice_get marks place) ≡ false → updated_by (drop place marks) ≡ is_updated (slice_get marks place)
unfolding updated_by
updated_stop [] zero e = refl
updated_stop [] (suc place) e = refl
updated_stop (one_mark ∷ rest) zero e = ap (λ b. cond b (updated_by rest) (is_updated (Some one_mark))) e
updated_stop (one_mark ∷ rest) (suc place) e = updated_stop rest place e

-- parentheses are gone out of
one_before : (before : ℕ) → suc before - 1 ≡ before
one_before before = omega arith

above : (before : ℕ) → nat_lt 0 (suc before) ≡ true
above before = lt-ltb 0 (suc before) (omega arith)

enclosed_is : (source : Source) (before last : ℕ)
    → enclosed source (suc before) last ≡ (opens (slice_get source.marks before) && closes (slice_get source.marks (last + 1)))
enclosed_is source before last =
    ap (λ b. b && (opens (slice_get source.marks (suc before - 1)) && closes (slice_get source.marks (last + 1)))) (above before)
    ∙ ap (λ k. opens (slice_get source.marks k) && closes (slice_get source.marks (last + 1))) (one_before before)

behind_is : (source : Source) (before last : ℕ)
    → behind_delete source (suc before) last ≡ (deletes source before && not (goes_on (slice_get source.marks (last + 1))))
behind_is source before last =
    ap (λ b. b && (deletes source (suc before - 1) && not (goes_on (slice_get source.marks (last + 1))))) (above before)
    ∙ ap (λ k. deletes source k && not (goes_on (slice_get source.marks (last + 1)))) (one_before before)

both : (a b : Bool) → (a && b) ≡ true → (a ≡ true) × (b ≡ true)
both true b e = (refl, e)
both false b e = absurd (true≢false (sym e))

pub enclosed_closes : (source : Source) (first last : ℕ) → enclosed source first last ≡ true → (0 < first) × (last + 1 < length source.marks)
enclosed_closes source zero last e = absurd (true≢false (sym e))
enclosed_closes source (suc before) last e = (
  omega arith,
  closes_within source.marks (last + 1)
      (both (opens (slice_get source.marks before)) (closes (slice_get source.marks (last + 1))) (sym (enclosed_is source before last) ∙ e)).1,
)

pub deleted_step : (source : Source) (first last : ℕ) → enclosed source first last ≡ true → deleted source (first - 1) (last + 1) ≡ deleted source first last
unfolding deleted
deleted_step source zero last e = absurd (true≢false (sym e))
deleted_step source (suc before) last e =
    ap (λ k. deleted source k (last + 1)) (one_before before)
    ∙ sym (ap (λ b. cond b (deleted source before (last + 1)) (deletes source before && not (goes_on (slice_get source.marks (last + 1)))))
    (sym (enclosed_is source before last) ∙ e))

pub deleted_stop : (source : Source) (first last : ℕ) → enclosed source first last ≡ false → behind_delete source first last ≡ deleted source first last
unfolding deleted
deleted_stop source zero last e = refl
deleted_stop source (suc before) last e =
    behind_is source before last
    ∙ sym (ap (λ b. cond b (deleted source before (last + 1)) (deletes source before && not (goes_on (slice_get source.marks (last + 1)))))
    (sym (enclosed_is source before last) ∙ e))
