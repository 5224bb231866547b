use Rattle.std.proofs.Common.{take}
use Rattle.split_chunks.specs.Homes.{GainsNumber}
use Rattle.split_chunks.proofs.homes.add_number.Given as goal

abbrev pub invariant-loop-place : goal.invariant-loop-place
invariant-loop-place l = GainsNumber (take l.place-index l.places) l.number l.initial.lists.items l.lists.items
