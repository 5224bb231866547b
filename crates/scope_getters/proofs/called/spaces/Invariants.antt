-- the first modules, each with whether its namespace has a list
use Rattle.scope_getters.proofs.Calling.{AreFirst}
use Rattle.scope_getters.proofs.called.spaces.Given as goal

abbrev pub invariant-loop-number : goal.invariant-loop-number
invariant-loop-number l = AreFirst l.speller l.active l.used l.spaces.items l.number
