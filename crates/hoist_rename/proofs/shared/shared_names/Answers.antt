use Rattle.std.proofs.Common.{◌≡◌, ℕ, ◌+◌, ◌<◌, List, [], ◌∷◌, ◌++◌, length, map, get_or, flat_map, take, take_all, sym, ap, subst, ◌∙◌, arith}
use Rattle.std.proofs.lemmas.List.Elements.{All-get_or}
use Rattle.pk_types.specs.declared.facts.Binding.{Binding}
use Rattle.pk_types.specs.declared.graph.Row.{Row}
use Rattle.pk_types.specs.GivenNames.{own_names, avoided_names, GivesInOrder}
use Rattle.hoist_rename.proofs.Giving.{gives_same, counts_more, names_more, keys_more}
use Rattle.hoist_rename.proofs.Rows.{own_read}
use Rattle.hoist_rename.proofs.shared.shared_names.Goals as goal

pub loop-member-preserved : goal.loop-member-preserved
loop-member-preserved c =
    let graph = c.args.graph.now in
    let members = c.args.members.now in
    let place = c.loop-member.member-index in
    let member = get_or members place 0 in
    let row = c.index-as_slice-member.result in
    let first = c.in_ok-taken.taken.names.keys in
    let keys = c.loop-member.taken.names.keys in
    let next = c.give_each.new.taken.names.keys in
    let lists = c.loop-member.names.items in
    let given = c.in_ok-given.given.items in
    let inside : place < length members = omega (arith, c.loop-member-test.true) in
    let within : member < length graph.rows = All-get_or (λ member. member < length graph.rows) members place 0 inside c.requires in
    let own = own_read graph member row within (c.index-as_slice-member.is ∙ ap (λ l. get_or l member row) c.as_slice.ensures) in
    let bindings = c.as_slice-in-loop-member.ensures ∙ ap (λ (r : Row). r.facts.bindings) (sym c.index-as_slice-member.is) in
    let gives : GivesInOrder keys (own_names graph member) given = subst (λ names. GivesInOrder keys names given) (ap (map (λ (binding : Binding). binding.name)) bindings ∙ sym own) c.in_ok-given.ensures.given in
    let items = c.in_ok-push.ensures.items ∙ ap (λ (l : List (List ℕ)). lists ++ l ∷ []) c.from_vec.ensures in (
      subst (λ (l : List (List (List ℕ))). map (λ list. length list) l ≡ map (λ member. length (own_names graph member)) (take (place + 1) members)) (sym items)
          (counts_more graph members place inside first keys next lists given c.loop-member.invariant.0 gives.each),
      subst (λ (l : List (List (List ℕ))). GivesInOrder first (flat_map (own_names graph) (take (place + 1) members)) (flat_map (λ list. list) l)) (sym items)
          (names_more graph members place inside first keys next lists given c.loop-member.invariant.1 c.loop-member.invariant.2 gives),
      subst (λ (l : List (List (List ℕ))). next ≡ first ++ flat_map (λ list. list) l) (sym items)
          (keys_more graph members place inside first keys next lists given c.loop-member.invariant.2 c.in_ok-given.ensures.names),
      c.in_ok-given.ensures.kept,
    )

pub returns-clause-counts : goal.returns-clause-counts
returns-clause-counts c =
    c.loop-member.invariant.0 ∙ ap (map (λ member. length (own_names c.args.graph.now member))) (take_all c.loop-member.member-index c.args.members.now (omega (arith, c.loop-member-test.false)))

pub returns-clause-given : goal.returns-clause-given
returns-clause-given c =
    let graph = c.args.graph.now in
    gives_same c.in_ok-taken.taken.names.keys (flat_map (avoided_names graph) c.args.members.now) (flat_map (own_names graph) c.args.members.now) (flat_map (λ list. list) c.loop-member.names.items)
    c.in_ok-taken.ensures.names
    (subst (λ l. GivesInOrder c.in_ok-taken.taken.names.keys (flat_map (own_names graph) l) (flat_map (λ list. list) c.loop-member.names.items))
    (take_all c.loop-member.member-index c.args.members.now (omega (arith, c.loop-member-test.false))) c.loop-member.invariant.1)
