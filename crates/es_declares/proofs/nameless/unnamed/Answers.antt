use Rattle.es_declares.proofs.UnnamedLaws.{unnamed_is}
use Rattle.es_declares.proofs.nameless.unnamed.Goals as goal

pub returns : goal.returns
returns c = unnamed_is c.args.outlined.now c.args.inside.now.nameless c.requires.nameless c.args.place c.unnamed_at.result c.unnamed_at.ensures
