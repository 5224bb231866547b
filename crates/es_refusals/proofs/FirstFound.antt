-- The first place where something is refused, as places are gone through.
use Rattle.std.proofs.Common.{◌≡◌, ⊎_elim, ℕ, ◌+◌, ◌<◌, ◌≤◌, false, List, Option, Some, None, is_some, length, slice_get, refl, sym, ap, subst, ◌∙◌, arith, true≢false}
use Rattle.std.proofs.lemmas.Bool.{cases_lt}
use Rattle.std.proofs.lemmas.Option.{slice_get_within}
use Rattle.es_outline.specs.declared.mark.Mark.{Mark}
use Rattle.es_scope.specs.declared.kinds.Refusal.{Refusal}
use Rattle.es_scope.specs.Source.{Source}
use Rattle.es_scope.specs.Refused.{IsRefused}
use Rattle.es_scope.specs.Telling.{Told, AreScopes}
use Rattle.es_parts.specs.declared.enclosing.Surroundings.{Surroundings}
use Rattle.es_parts.specs.Around.{AreAround}
use Rattle.es_asks.specs.Forwarding.{AreForwarded}
use Rattle.es_refusals.specs.First.{IsFirst}
use Rattle.es_refusals.specs.Refusing.{refusal_by, refusal_at, IsClear}
use Rattle.es_refusals.proofs.Refusing.{refusal_is, refused_met}

module _ (source : Source) (told : Told) (table : List Surroundings) (forwarded : List ℕ) where
  pub none_before : IsClear source told table forwarded 0
  none_before place below = absurd (omega (arith, below))

  pub one_clear : (limit : ℕ) (answer : Option Refusal) → IsClear source told table forwarded limit → answer ≡ refusal_at source told table forwarded limit → answer ≡ None
      → IsClear source told table forwarded (limit + 1)
  one_clear limit answer clear is none place below = ⊎_elim (λ before. clear place before)
      (λ above. let at : limit ≡ place = omega (arith, above, below) in
      subst (λ k. refusal_at source told table forwarded k ≡ None) at (sym is ∙ none))
      (cases_lt place limit)

module _ (source : Source) (told : Told) (table : List Surroundings) (forwarded : List ℕ) (are : AreScopes source told) (around : AreAround source.marks table)
    (forward : AreForwarded source forwarded) where
  clear_of : (limit place : ℕ) (r : Refusal) → IsClear source told table forwarded limit → place < limit → ¬ IsRefused source place r
  clear_of limit place r clear below refused =
      true≢false (sym (refused_met source told table forwarded are around forward place r refused) ∙ ap is_some (clear place below))

  pub first_there : (place : ℕ) (answer : Option Refusal) (r : Refusal) → IsClear source told table forwarded place → answer ≡ refusal_at source told table forwarded place
      → answer ≡ Some r → IsFirst source (Some (place, r))
  first_there place answer r clear is found = IsFirst.some place r (refusal_is source told table forwarded are around forward place r (sym is ∙ found))
      (λ other further refused. ⊎_elim (λ below. absurd (clear_of place other further clear below refused)) (λ above. above) (cases_lt other place))

  past_end : (place : ℕ) (found : Option Mark) → slice_get source.marks place ≡ found → length source.marks ≤ place
      → is_some (refusal_by source told table forwarded place found) ≡ false
  past_end place None m past = refl
  past_end place (Some one_mark) m past = absurd (let within = slice_get_within source.marks place one_mark m in omega (arith, within, past))

  pub never : (limit : ℕ) → IsClear source told table forwarded limit → length source.marks ≤ limit → IsFirst source None
  never limit clear all = IsFirst.none (λ place r refused. ⊎_elim (λ below. clear_of limit place r clear below refused)
      (λ above. true≢false (sym (refused_met source told table forwarded are around forward place r refused)
      ∙ past_end place (slice_get source.marks place) refl (omega (arith, all, above))))
      (cases_lt place limit))
