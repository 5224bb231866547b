use Rattle.es_declares.proofs.OwnLaws.{bound_named, bound_unnamed, bound_not}
use Rattle.es_declares.proofs.bound.binding_at.Goals as goal

pub returns-in-Some : goal.returns-in-Some
returns-in-Some c = bound_named c.args.outlined.now c.args.place c.in_ok-name.name c.in-Some.kind c.in-Some.ensures c.in_ok-name.ensures

pub returns-in_default-unnamed : goal.returns-in_default-unnamed
returns-in_default-unnamed c = bound_not c.args.outlined.now c.args.place c.in_default.ensures c.in_default-unnamed.ensures

pub returns : goal.returns
returns c = bound_unnamed c.args.outlined.now c.args.place c.in_ok-name-2.name c.in-Some-unnamed.kind c.in-Some-unnamed.ensures c.in_ok-name-2.ensures
