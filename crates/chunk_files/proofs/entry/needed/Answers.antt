use Rattle.std.proofs.Common.{◌<◌, length, refl, sym, subst}
use Rattle.std.proofs.lemmas.List.{take_all}
use Rattle.std.proofs.lemmas.List.Elements.{All-nil, All-append}
use Rattle.emit_chunk.specs.Ranges.{AreBelow}
use Rattle.chunk_files.proofs.Entries.{needed_none, needed_next, needed_all, ordered_below}
use Rattle.chunk_files.proofs.entry.needed.Goals as goal

pub loop-group-init : goal.loop-group-init
loop-group-init c = record {
  needed = needed_none c.args.material.now.plan c.new-chunks.result.items c.new-chunks.ensures.items;
  within = subst (AreBelow (length c.args.material.now.plan.ids.chunks)) (sym c.new-chunks.ensures.items) (All-nil (λ chunk. chunk < length c.args.material.now.plan.ids.chunks));
}

pub loop-group-preserved : goal.loop-group-preserved
loop-group-preserved c = record {
  needed = needed_next c.args.material.now.plan c.args.groups.now c.loop-group.group-index _ c.loop-group.chunks.items c.list.result.now _ c.loop-group-test.true refl
      c.list.ensures.chunks c.in_ok-extend_from_slice.ensures.items c.loop-group.invariant.needed;
  within = subst (AreBelow (length c.args.material.now.plan.ids.chunks)) (sym c.in_ok-extend_from_slice.ensures.items)
      (All-append (λ chunk. chunk < length c.args.material.now.plan.ids.chunks) c.loop-group.chunks.items c.list.result.now c.loop-group.invariant.within c.list.ensures.within);
}

pub returns-clause-needed : goal.returns-clause-needed
returns-clause-needed c =
    needed_all c.args.material.now.plan c.args.groups.now c.loop-group.chunks.items c.ascending.result.items c.loop-group.group-index
    (take_all c.loop-group.group-index c.args.groups.now c.loop-group-test.false) c.loop-group.invariant.needed c.ascending.ensures

pub returns-clause-within : goal.returns-clause-within
returns-clause-within c = ordered_below _ c.loop-group.chunks.items c.ascending.result.items c.ascending.ensures c.loop-group.invariant.within
