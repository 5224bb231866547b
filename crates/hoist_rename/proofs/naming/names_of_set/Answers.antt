use Rattle.std.proofs.Common.{◌≡◌, ◌≢◌, [], ◌∷◌, length, get_or, map, flat_map, arith}
use Rattle.pk_types.specs.GivenNames.{own_names, avoided_names, GivesInOrder, GivesNames}
use Rattle.hoist_rename.proofs.Rows.{only_first, alone, several, mapped_ok, both_ok}
use Rattle.hoist_rename.proofs.naming.names_of_set.Goals as goal

pub returns-then-members-eq1 : goal.returns-then-members-eq1
returns-then-members-eq1 c =
    let graph = c.args.graph.now in
    let members = c.args.members.now in
    let first = get_or members 0 0 in
    let one : length members ≡ 1 = omega (arith, c.if-members-eq1.true) in
    mapped_ok c.own.result (λ names. names.items ≡ map (own_names graph) (first ∷ [])) (λ names. GivesNames graph members names.items)
    (λ names gives. alone graph members names.items first (only_first members one) gives) c.own.ensures

pub returns-else-members-eq1 : goal.returns-else-members-eq1
returns-else-members-eq1 c =
    let graph = c.args.graph.now in
    let members = c.args.members.now in
    let other : length members ≢ 1 = λ one. c.if-members-eq1.false one in
    both_ok c.shared_names.result
    (λ names. map (λ list. length list) names.items ≡ map (λ member. length (own_names graph member)) members)
    (λ names. GivesInOrder (flat_map (avoided_names graph) members) (flat_map (own_names graph) members) (flat_map (λ list. list) names.items))
    (λ names. GivesNames graph members names.items)
    (λ names counts gives. several graph members names.items other counts gives)
    c.shared_names.ensures.counts c.shared_names.ensures.given
