use Rattle.std.proofs.Common.{◌≡◌, ◌↔◌, ℕ, Contains, Some, slice_get, option_copied, sym, ap, subst, ◌∙◌}
use Rattle.pk_types.specs.declared.graph.Graph.{Graph}
use Rattle.pk_types.specs.declared.graph.Row.{Row}
use Rattle.pk_types.specs.Resolving.{origin_of}
use Rattle.pk_types.specs.Reexports.{IsFoundThrough}
use Rattle.prune_graph.proofs.passing.passing_of.Goals as goal

pub returns-in_ok-stars-in-None-clause-passed : goal.returns-in_ok-stars-in-None-clause-passed
returns-in_ok-stars-in-None-clause-passed c = λ row at. (
  ap (origin_of row.facts) (sym c.as_slice.ensures) ∙ sym (c.in_ok-origin.ensures.origin row at) ∙ ap option_copied c.in-None.is,
  subst (λ (g : Graph). (r : Row) → slice_get g.rows c.args.module ≡ Some r → (star : ℕ) → Contains c.in_ok-stars-in-None.stars.items star ↔ IsFoundThrough g c.args.module r c.args.exported.now star)
      c.in_ok-origin.ensures.same c.in_ok-stars-in-None.ensures.stars row at,
)
