use Rattle.std.proofs.Common.{◌≡◌, ⊎_elim, Contains, Some, slice_get, sym, subst, ◌∙◌}
use Rattle.pk_types.specs.declared.graph.Graph.{Graph}
use Rattle.pk_types.specs.StopSearch.{AreFoundThrough}
use Rattle.pk_types.proofs.OneAnswer.{resolves_once}
use Rattle.pk_types.proofs.Parts.{none_within}
use Rattle.prune_graph.proofs.passing.stars.Goals as goal

pub returns-then-not-is_one-clause-stars : goal.returns-then-not-is_one-clause-stars
returns-then-not-is_one-clause-stars c = λ row at star. (
  λ m. none_within star (subst (λ l. Contains l star) c.new-then-not-is_one.ensures.items m),
  λ f.
      let same = resolves_once c.args.resolver.now c.args.module c.args.exported.now f.found c.in_ok-found.found f.here.resolves c.in_ok-found.ensures.found in
      absurd (⊎_elim (λ e. f.here.something (same ∙ e)) (λ e. f.here.one (same ∙ e)) (c.is_one.ensures.none c.if-not-is_one.true)),
)

pub returns-clause-stars : goal.returns-clause-stars
returns-clause-stars c = λ row at star.
    (subst (λ (g : Graph). AreFoundThrough g c.args.module row c.args.exported.now c.in_ok-stars.stars.items) c.in_ok-found.ensures.same
    (c.in_ok-stars.ensures.through row (subst (λ (g : Graph). slice_get g.rows c.args.module ≡ Some row) (sym c.in_ok-found.ensures.same) at))).each star
