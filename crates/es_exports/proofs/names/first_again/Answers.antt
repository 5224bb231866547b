use Rattle.std.proofs.Common.{◌+◌, length, arith}
use Rattle.es_exports.specs.Saying.{is_again_at}
use Rattle.es_exports.proofs.Listing.{none_earlier, one_earlier, first_here, first_none}
use Rattle.es_exports.proofs.Again.{none_seen, more_seen, again_is}
use Rattle.es_exports.proofs.names.first_again.Goals as goal

pub loop-place-init : goal.loop-place-init
loop-place-init c = record {
  seen = none_seen c.args.sight.now c.new-seen.result c.new-seen.ensures;
  earlier = none_earlier (is_again_at c.args.sight.now);
}

pub returns-then-is_again : goal.returns-then-is_again
returns-then-is_again c =
    first_here (is_again_at c.args.sight.now) (length c.args.sight.now.source.marks + 2) c.loop-place.place c.is_again.result
    (again_is c.args.sight.now c.loop-place.place c.loop-place.seen c.in_ok-names.names c.is_again.result c.loop-place.invariant.seen c.in_ok-names.ensures c.is_again.ensures)
    c.if-is_again.true (omega arith) c.loop-place.invariant.earlier

pub loop-place-preserved : goal.loop-place-preserved
loop-place-preserved c = record {
  seen = more_seen c.args.sight.now c.loop-place.place c.in_ok-names.names c.loop-place.seen c.see_all.new.seen c.loop-place.invariant.seen c.in_ok-names.ensures
      c.in_ok-see_all.ensures;
  earlier = one_earlier (is_again_at c.args.sight.now) c.loop-place.place c.is_again.result
      (again_is c.args.sight.now c.loop-place.place c.loop-place.seen c.in_ok-names.names c.is_again.result c.loop-place.invariant.seen c.in_ok-names.ensures c.is_again.ensures)
      c.if-is_again.false c.loop-place.invariant.earlier;
}

pub returns : goal.returns
returns c =
    first_none (is_again_at c.args.sight.now) (length c.args.sight.now.source.marks + 2) c.loop-place.place (omega arith) c.loop-place.invariant.earlier
