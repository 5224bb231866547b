-- the modules that the first modules call for
use Rattle.std.proofs.Common.{[]}
use Rattle.scope_getters.specs.Gaining.{Gains, Below, CallsFor}
use Rattle.scope_getters.proofs.called.called_modules.Given as goal

abbrev pub invariant-loop-from : goal.invariant-loop-from
invariant-loop-from l = Gains [] (Below l.from (CallsFor l.speller.graph l.active)) l.called.keys
