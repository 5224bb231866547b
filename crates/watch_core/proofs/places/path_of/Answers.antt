use Rattle.std.proofs.Common.{Err, length, ap, subst, ◌∙◌, arith}
use Rattle.pk_base.specs.Paths.{Breaks}
use Rattle.watch_core.proofs.FilePaths.{named}
use Rattle.watch_core.proofs.places.path_of.Goals as goal

pub unreachable-requires-in-Err-Long : goal.unreachable-requires-in-Err-Long
unreachable-requires-in-Err-Long c =
    let text = named c.args.text.now c.requires c.utf8.text in
    let long = (c.read.ensures.long c.in-Err-Long.field-0-0).0 (c.in-Err-Long.is ∙ ap Err c.in-Err-Long.field-0-is) in
    let same = ap length c.as_bytes.ensures.value in
    let short = text.short in
    absurd (omega (arith, long.0, long.1, same, short))

pub unreachable-requires-in-Err-Bad : goal.unreachable-requires-in-Err-Bad
unreachable-requires-in-Err-Bad c =
    let text = named c.args.text.now c.requires c.utf8.text in
    let bad = (c.read.ensures.bad c.in-Err-Bad.field-0-0).0 (c.in-Err-Bad.is ∙ ap Err c.in-Err-Bad.field-0-is) in
    text.whole c.in-Err-Bad.field-0-0 (subst (λ t. Breaks t c.in-Err-Bad.field-0-0) c.as_bytes.ensures.value bad.2.breaks)
