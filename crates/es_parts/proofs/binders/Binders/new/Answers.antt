use Rattle.std.proofs.lemmas.Option.{slice_get-get_or}
use Rattle.es_scope.specs.Occurrences.{is_binder}
use Rattle.es_parts.specs.Around.{IsInnermost}
use Rattle.es_parts.proofs.Following.{none_open, one_passed, none_told, one_told, binder_here}
use Rattle.es_parts.proofs.binders.Binders.new.Goals as goal

pub loop-place-init : goal.loop-place-init
loop-place-init c = record {
  open_parts = none_open c.args.marks.now c.new-parts.result c.new-parts.ensures;
  table = none_told (IsInnermost is_binder c.args.marks.now) c.in_ok-table.table.items c.in_ok-table.ensures.items;
}

pub loop-place-preserved : goal.loop-place-preserved
loop-place-preserved c = record {
  open_parts = one_passed c.args.marks.now c.loop-place.place _ c.loop-place.parts c.pass.new.self c.loop-place.invariant.open_parts
      (slice_get-get_or c.args.marks.now c.loop-place.place _ c.loop-place-test.true) c.in_ok-pass.ensures;
  table = one_told (IsInnermost is_binder c.args.marks.now) c.loop-place.place c.loop-place.table.items c.push.new.self.items c.innermost.result.binder c.loop-place.invariant.table
      (binder_here c.args.marks.now c.loop-place.place c.loop-place.parts c.innermost.result c.loop-place.invariant.open_parts c.innermost.ensures) c.in_ok-push.ensures.items;
}
