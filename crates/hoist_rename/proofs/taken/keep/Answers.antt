use Rattle.std.proofs.Common.{sym, subst}
use Rattle.pk_types.specs.GivenNames.{IsGivenFor, unchanged}
use Rattle.hoist_rename.proofs.taken.keep.Goals as goal

pub returns-clause-given : goal.returns-clause-given
returns-clause-given c = subst (IsGivenFor c.args.taken.now.names.keys c.args.name.now) (sym c.in_ok-given.ensures) (unchanged c.requires.free)
