use Rattle.std.proofs.Common.{arith}
use Rattle.scope_getters.proofs.CellGains.{listed_gains, listed_none}
use Rattle.scope_getters.proofs.Calling.{flag_set}
use Rattle.scope_getters.proofs.cells.add_listed.Goals as goal

pub returns-in_ok-add_space-clause-gains : goal.returns-in_ok-add_space-clause-gains
returns-in_ok-add_space-clause-gains c =
    listed_gains c.args.speller.now c.args.spaces.now c.args.root c.args.cells.now.keys c.add_space.new.cells.keys
    (flag_set c.args.spaces.now c.args.root (omega (arith, c.requires.root, c.requires.each)) c.if-spaces-root.true) c.in_ok-add_space.ensures.gains

pub returns-else-spaces-root-clause-gains : goal.returns-else-spaces-root-clause-gains
returns-else-spaces-root-clause-gains c = listed_none c.args.speller.now c.args.spaces.now c.args.root c.args.cells.now.keys c.if-spaces-root.false
