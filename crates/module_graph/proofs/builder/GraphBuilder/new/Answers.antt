use Rattle.std.proofs.Common.{◌≤◌, [], length, map, slice_get, ap, subst, ◌∙◌}
use Rattle.pk_types.specs.declared.limits.TheConstants.{MAX_MODULES}
use Rattle.module_graph.specs.Known.{with_paths, numbers_in}
use Rattle.module_graph.proofs.Builds.{starts, same_building}
use Rattle.module_graph.proofs.Sights.{by_path}
use Rattle.module_graph.proofs.builder.GraphBuilder.new.Goals as goal

pub invariant_of-result : goal.invariant_of-result
invariant_of-result c =
    let none = c.new-known.ensures.empty in
    let paths = c.args.entries.items in
    let known = c.in_ok-entries.ensures.known ∙ ap (λ l. with_paths l c.args.entries.items) none in
    let entries = c.in_ok-entries.ensures.numbers ∙ ap (λ l. numbers_in (with_paths l c.args.entries.items) c.args.entries.items) none in
    let few = subst (λ l. length (with_paths l c.args.entries.items) ≤ MAX_MODULES) none c.in_ok-entries.ensures.few in
    same_building c.number.new.known.keys (with_paths [] c.args.entries.items) c.new.result.items [] c.in_ok-entries.entries.items (numbers_in (with_paths [] c.args.entries.items) c.args.entries.items)
    known c.new.ensures.items entries (starts c.args.entries.items c.requires few)

pub returns-clause-by_path : goal.returns-clause-by_path
returns-clause-by_path c =
    let same = c.in_ok-entries.ensures.known in
    let entries = c.in_ok-entries.ensures.numbers in
    ap (λ l. map (slice_get c.number.new.known.keys) l) entries
    ∙ ap (λ l. map (slice_get l) (numbers_in (with_paths c.new-known.result.keys c.args.entries.items) c.args.entries.items)) same
    ∙ by_path c.args.entries.items c.new-known.result.keys
