use Rattle.std.proofs.Common.{◌<◌, ◌∙◌, None, length, slice_get, unwrap_or, ap, arith}
use Rattle.es_exports.specs.Seeing.{Seen, is_declared}
use Rattle.es_exports.proofs.Declared.{binder_in, told_declared}
use Rattle.es_exports.proofs.sight.Sight.is_declared.Goals as goal

pub returns : goal.returns
returns c =
    let within : c.args.place < length c.self.inside.outlined.now.marks = omega (arith, ap length c.marks.ensures) in
    c.is_some.ensures
    ∙ told_declared c.self.inside.outlined.now c.args.place (unwrap_or (slice_get c.self.inside.binders c.args.place) None) c.declared.result
    (binder_in c.self.inside.outlined.now c.self.inside.binders c.args.place c.self.invariant.1 within) within c.declared.ensures
    ∙ ap (λ (seen : Seen). is_declared seen c.args.place) c.self.view_is
