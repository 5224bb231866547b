-- the names that were gone through were copied
use Rattle.std.proofs.Common.{◌≡◌, take}
use Rattle.module_spelling.proofs.sites.copies.Given as goal

abbrev pub invariant-loop-name : goal.invariant-loop-name
invariant-loop-name l = l.copies.items ≡ take l.name-index l.names
