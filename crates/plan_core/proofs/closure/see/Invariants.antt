-- what is known, and what is left
use Rattle.std.proofs.Common.{◌≡◌, nat_eq, drop}
use Rattle.indexmap.specs.IndexSet.{insert_all}
use Rattle.plan_core.proofs.closure.see.Given as goal

abbrev pub invariant-loop-number : goal.invariant-loop-number
invariant-loop-number l = insert_all nat_eq l.known.keys (drop l.number-index l.modules) ≡ insert_all nat_eq l.initial.known.keys l.modules
