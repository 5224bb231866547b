use Rattle.std.proofs.Common.{◌+◌, ◌%◌, ◌≤◌, length, sym, ◌∙◌, arith, below_more}
use Rattle.std.proofs.lemmas.Map.Views.{Contains-from_any, exact_unsigned_eq}
use Rattle.pk_types.specs.ModuleIds.{id_count}
use Rattle.id_assign.proofs.FreeNumbers.{search_within}
use Rattle.id_assign.proofs.taken.next_free.Goals as goal

pub loop-steps-smaller : goal.loop-steps-smaller
loop-steps-smaller c =
    let keys = c.args.taken.now.keys in
    let now = Contains-from_any exact_unsigned_eq ((c.args.start + c.loop-steps.steps) % id_count) keys (sym c.contains.ensures ∙ c.loop-steps-test.true) in
    let within : c.loop-steps.steps + 1 ≤ length c.args.taken.now.keys = search_within keys c.args.start c.loop-steps.steps c.requires.start c.requires.room c.loop-steps.invariant.0 c.loop-steps.invariant.1 now in
    omega arith

pub loop-steps-preserved : goal.loop-steps-preserved
loop-steps-preserved c =
    let keys = c.args.taken.now.keys in
    let now = Contains-from_any exact_unsigned_eq ((c.args.start + c.loop-steps.steps) % id_count) keys (sym c.contains.ensures ∙ c.loop-steps-test.true) in (
      search_within keys c.args.start c.loop-steps.steps c.requires.start c.requires.room c.loop-steps.invariant.0 c.loop-steps.invariant.1 now,
      below_more _ _ c.loop-steps.invariant.1 now,
    )
