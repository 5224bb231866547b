use Rattle.std.proofs.Common.{◌≢◌, ◌<◌, length, flat_map, AllPairs, sym, ap, subst, ◌∙◌}
use Rattle.std.specs.List.{All}
use Rattle.pk_types.specs.HoistSets.{set_of}
use Rattle.pk_types.specs.GivenNames.{GivesNames}
use Rattle.pk_types.proofs.NameLaws.{set_names_apart, none_captured_in_set}
use Rattle.hoist_rename.proofs.Rows.{set_within, some_member, mapped_ok}
use Rattle.hoist_rename.proofs.naming.names_for.Goals as goal

pub names_of_set-requires : goal.names_of_set-requires
names_of_set-requires c =
    let roots = c.args.hoists.now.root in
    let root = c.args.root in
    let is = c.as_slice-2.ensures.value ∙ c.in_ok-members.ensures ∙ ap (λ l. set_of l root) c.as_slice.ensures in
    subst (λ l. All (λ member. member < length c.args.graph.now.rows) l) (sym is)
    (subst (λ n. All (λ member. member < n) (set_of roots root)) c.requires.each (set_within roots root))

pub returns-clause-given : goal.returns-clause-given
returns-clause-given c =
    let graph = c.args.graph.now in
    let roots = c.args.hoists.now.root in
    let root = c.args.root in
    let members = c.as_slice-2.result.now in
    let is = c.as_slice-2.ensures.value ∙ c.in_ok-members.ensures ∙ ap (λ l. set_of l root) c.as_slice.ensures in
    mapped_ok c.names_of_set.result (λ names. GivesNames graph members names.items) (λ names. GivesNames graph (set_of roots root) names.items)
    (λ names gives. subst (λ l. GivesNames graph l names.items) is gives) c.names_of_set.ensures

pub returns-clause-distinct : goal.returns-clause-distinct
returns-clause-distinct c =
    let graph = c.args.graph.now in
    let roots = c.args.hoists.now.root in
    let root = c.args.root in
    mapped_ok c.names_of_set.result (λ names. GivesNames graph (set_of roots root) names.items) (λ names. AllPairs (λ name other. name ≢ other) (flat_map (λ list. list) names.items))
    (λ names gives. set_names_apart graph c.requires.fits (set_of roots root) names.items (some_member roots root c.requires.root c.requires.itself) gives)
    (returns-clause-given c)

pub returns-clause-uncaptured : goal.returns-clause-uncaptured
returns-clause-uncaptured c =
    let graph = c.args.graph.now in
    let roots = c.args.hoists.now.root in
    let root = c.args.root in
    mapped_ok c.names_of_set.result (λ names. GivesNames graph (set_of roots root) names.items) _
    (λ names gives more. none_captured_in_set graph (set_of roots root) names.items gives more)
    (returns-clause-given c)
