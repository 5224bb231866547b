-- the places so far
use Rattle.std.proofs.Common.{take}
use Rattle.scope_hoist.specs.Scopes.{GainsNumber}
use Rattle.scope_hoist.proofs.lists.add_number.Given as goal

abbrev pub invariant-loop-place : goal.invariant-loop-place
invariant-loop-place l = GainsNumber (take l.place-index l.places) l.number l.initial.lines.items l.lines.items
