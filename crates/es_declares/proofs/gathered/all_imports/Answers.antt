use Rattle.std.proofs.Common.{◌≡◌, length, ap, arith}
use Rattle.es_declares.proofs.GatheredLaws.{one_gathered, all_gathered}
use Rattle.es_declares.proofs.gathered.all_imports.Goals as goal

pub loop-place-preserved : goal.loop-place-preserved
loop-place-preserved c = one_gathered c.args.outlined.now c.args.asked.now.requests c.loop-place.place c.loop-place.imports c.take.new.self c.in_ok-entry.entry
    c.loop-place.invariant c.in_ok-entry.ensures c.in_ok-take.ensures

pub returns : goal.returns
returns c =
    let same : length c.args.outlined.now.marks ≡ c.loop-place.place = omega (arith, ap length c.marks-count.ensures, c.loop-place.auto.place-end) in
    all_gathered c.args.outlined.now c.args.asked.now.requests c.loop-place.place c.loop-place.imports same c.loop-place.invariant
