-- what was kept, and what is left
use Rattle.std.proofs.Common.{◌≡◌, ◌++◌, ◌==◌, not, drop}
use Rattle.std.specs.List.{filter}
use Rattle.chunk_files.proofs.entry.without.Given as goal

abbrev pub invariant-loop-number : goal.invariant-loop-number
invariant-loop-number l =
    l.others.items ++ filter (λ other. not (other == l.left_out)) (drop l.number-index l.numbers) ≡ filter (λ other. not (other == l.left_out)) l.numbers
