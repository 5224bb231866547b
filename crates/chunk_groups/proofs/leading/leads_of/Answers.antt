use Rattle.std.proofs.Common.{◌≡◌, ◌<◌, [], length, get_or, subst, ◌∙◌, arith}
use Rattle.std.proofs.lemmas.List.{get_or_default}
use Rattle.chunk_groups.specs.Gathered.{IsGathered, LeadsAt}
use Rattle.chunk_groups.proofs.Gathering.{goes_on, gathered_all}
use Rattle.chunk_groups.proofs.LedGroups.{given_group}
use Rattle.chunk_groups.proofs.leading.leads_of.Goals as goal

pub loop-number-preserved : goal.loop-number-preserved
loop-number-preserved c =
    let Gives = LeadsAt c.args.numbers.now c.args.imports.now c.args.modules.now in
    let place = c.loop-number.number-index in
    let number = get_or c.args.modules.now place 0 in
    let imports = c.args.imports.now in
    let within : number < length imports = c.requires.modules place 0 c.loop-number-test.true in
    let read : c.as_slice.result.now ≡ get_or imports number [] =
    c.as_slice.ensures ∙ c.index-imports-number.is ∙ get_or_default imports number c.index-imports-number.result [] within in
    goes_on [] Gives place c.loop-number.groups.items c.loop-number.invariant c.add_groups.new.groups.items
    (given_group c.args.numbers.now imports c.args.modules.now place c.as_slice.result.now c.loop-number.groups.items c.add_groups.new.groups.items read c.in_ok-add_groups.ensures)

pub returns : goal.returns
returns c = gathered_all (LeadsAt c.args.numbers.now c.args.imports.now c.args.modules.now) (length c.args.modules.now) c.loop-number.groups.items c.ascending.result.items
    (subst (λ count. IsGathered [] (LeadsAt c.args.numbers.now c.args.imports.now c.args.modules.now) count c.loop-number.groups.items)
    (omega (arith, c.loop-number-test.false, c.loop-number.auto.number-index-end)) c.loop-number.invariant) c.ascending.ensures
