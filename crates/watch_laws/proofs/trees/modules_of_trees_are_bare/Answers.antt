use Rattle.watch_laws.proofs.BareTrees.{is_bare, unflagged}
use Rattle.watch_laws.proofs.FittingTrees.{fits}
use Rattle.watch_laws.proofs.trees.modules_of_trees_are_bare.Goals as goal

pub returns-clause-bare : goal.returns-clause-bare
returns-clause-bare c = is_bare

pub returns-clause-flags : goal.returns-clause-flags
returns-clause-flags c = unflagged

pub returns-clause-fits : goal.returns-clause-fits
returns-clause-fits c = fits
