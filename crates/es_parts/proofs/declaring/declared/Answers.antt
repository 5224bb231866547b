use Rattle.std.proofs.Common.{◌<◌, length, ap, arith}
use Rattle.es_scope.proofs.Placing.{item_at}
use Rattle.es_parts.proofs.DeclaredBy.{declared_so}
use Rattle.es_parts.proofs.declaring.declared.Goals as goal

pub returns : goal.returns
returns c =
    let inside : c.args.place < length c.marks.result.now = omega (arith, ap length c.marks.ensures, c.requires.place) in
    declared_so c.args.outlined.now c.args.place c.binder.result _ c.declared_by.result (c.requires.binders.each c.args.place c.binder.result c.binder.ensures)
    c.declared_by.ensures (item_at c.args.outlined.now.marks c.marks.result.now c.args.place _ c.marks.ensures inside)
