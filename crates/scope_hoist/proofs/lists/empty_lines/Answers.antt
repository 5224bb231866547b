use Rattle.std.proofs.Common.{◌≡◌, ◌+◌, ℕ, zero, suc, List, [], ◌∷◌, ◌++◌, length, get_or, ap, ◌∙◌, refl}
use Rattle.std.proofs.lemmas.List.{length_push}
use Rattle.scope_hoist.proofs.lists.empty_lines.Goals as goal

still_empty : (lines : List (List ℕ)) (k : ℕ) → ((k : ℕ) → get_or lines k [] ≡ []) → get_or (lines ++ [] ∷ []) k [] ≡ []
still_empty [] zero empty = refl
still_empty [] (suc k) empty = refl
still_empty (line ∷ lines) zero empty = empty 0
still_empty (line ∷ lines) (suc k) empty = still_empty lines k (λ j. empty (suc j))

pub loop-place-preserved : goal.loop-place-preserved
loop-place-preserved c =
    let now = c.in_ok-push.ensures.items ∙ ap (λ l. c.loop-place.lines.items ++ l ∷ []) c.new.ensures in
    record {
      each = ap length now ∙ length_push c.loop-place.lines.items [] ∙ ap (λ n. n + 1) c.loop-place.invariant.each;
      empty = λ k. ap (λ l. get_or l k []) now ∙ still_empty c.loop-place.lines.items k c.loop-place.invariant.empty;
    }
