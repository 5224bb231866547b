use Rattle.std.proofs.Common.{◌≡◌, length, ap, arith}
use Rattle.es_declares.proofs.BoundLaws.{none_bound, one_bound, all_bound}
use Rattle.es_declares.proofs.bindings.all_bindings.Goals as goal

pub loop-place-init : goal.loop-place-init
loop-place-init c = none_bound c.args.outlined.now c.args.scopes.now.texts c.names_len.result c.in_ok-bindings.bindings c.names_len.ensures c.in_ok-bindings.ensures

pub loop-place-preserved : goal.loop-place-preserved
loop-place-preserved c = one_bound c.args.outlined.now c.args.scopes.now.texts c.loop-place.place c.loop-place.bindings c.take.new.self c.in_ok-binding.binding
    c.loop-place.invariant c.in_ok-binding.ensures c.in_ok-take.ensures

pub returns : goal.returns
returns c =
    let same : length c.args.outlined.now.marks ≡ c.loop-place.place = omega (arith, ap length c.marks-count.ensures, c.loop-place.auto.place-end) in
    all_bound c.args.outlined.now c.args.scopes.now.texts c.loop-place.place c.loop-place.bindings same c.loop-place.invariant
