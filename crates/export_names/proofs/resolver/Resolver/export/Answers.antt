use Rattle.std.proofs.Common.{◌≡◌, Some, IfSome, nat_eq, map, slice_get, option_copied, sym, ap, subst, ◌∙◌}
use Rattle.indexmap.specs.IndexMap.{get}
use Rattle.pk_types.specs.declared.graph.Graph.{Graph}
use Rattle.pk_types.specs.declared.graph.Row.{Row}
use Rattle.export_names.specs.Indexed.{export_names}
use Rattle.export_names.proofs.resolver.Resolver.export.Goals as goal

pub export_of-requires : goal.export_of-requires
export_of-requires c =
    let found : get nat_eq c.self.inside.names c.args.module ≡ Some c.in-Some.names.now = sym c.get.ensures.value ∙ ap option_copied c.in-Some.is in
    let at : slice_get c.self.inside.graph.now.rows c.args.module ≡ Some c.args.row.now = ap (λ (graph : Graph). slice_get graph.rows c.args.module) c.self.view_is ∙ c.requires.at in
    subst (λ o. IfSome o (λ (row : Row). map (λ key. key.0.now) c.in-Some.names.now.keys ≡ export_names row.facts.exports)) at (c.self.invariant.1 c.args.module c.in-Some.names.now found)
    ∙ ap export_names (sym c.as_slice-exports.ensures)
