use Rattle.std.proofs.Common.{◌<◌, ◌++◌, length, get_or, flat_map, take, take_all, sym, ap, subst, ◌∙◌, arith}
use Rattle.std.proofs.lemmas.List.Elements.{All-get_or}
use Rattle.pk_types.specs.declared.graph.Row.{Row}
use Rattle.pk_types.specs.GivenNames.{avoided_names}
use Rattle.hoist_rename.specs.Kept.{HaveSame}
use Rattle.hoist_rename.proofs.Kept.{same_both}
use Rattle.hoist_rename.proofs.Giving.{flat_more}
use Rattle.hoist_rename.proofs.Rows.{avoided_read}
use Rattle.hoist_rename.proofs.shared.avoided.Goals as goal

pub loop-member-preserved : goal.loop-member-preserved
loop-member-preserved c =
    let graph = c.args.graph.now in
    let members = c.args.members.now in
    let place = c.loop-member.member-index in
    let member = get_or members place 0 in
    let row = c.index-as_slice-member.result in
    let keys = c.loop-member.taken.names.keys in
    let between = c.avoid.new.taken.names.keys in
    let next = c.avoid-in-loop-member.new.taken.names.keys in
    let so_far = flat_map (avoided_names graph) (take place members) in
    let inside : place < length members = omega (arith, c.loop-member-test.true) in
    let within : member < length graph.rows = All-get_or (λ member. member < length graph.rows) members place 0 inside c.requires in
    let avoided = avoided_read graph member row within (c.index-as_slice-member.is ∙ ap (λ l. get_or l member row) c.as_slice.ensures) in
    let free = c.as_slice-in-loop-member.ensures ∙ ap (λ (r : Row). r.facts.free) (sym c.index-as_slice-member.is) in
    let inner = c.as_slice-in-loop-member-2.ensures ∙ ap (λ (r : Row). r.facts.inner) (sym c.index-as_slice-member.is) in (
      subst (HaveSame next) (sym (flat_more (avoided_names graph) members place 0 inside ∙ ap (λ l. so_far ++ l) avoided))
          (same_both keys between next so_far row.facts.free row.facts.inner c.loop-member.invariant.0
          (subst (λ l. HaveSame between (keys ++ l)) free c.in_ok-avoid.ensures.names)
          (subst (λ l. HaveSame next (between ++ l)) inner c.in_ok-avoid-2.ensures.names)),
      c.in_ok-avoid-2.ensures.kept,
    )

pub returns-clause-names : goal.returns-clause-names
returns-clause-names c =
    subst (λ l. HaveSame c.loop-member.taken.names.keys (flat_map (avoided_names c.args.graph.now) l)) (take_all c.loop-member.member-index c.args.members.now (omega (arith, c.loop-member-test.false))) c.loop-member.invariant.0
