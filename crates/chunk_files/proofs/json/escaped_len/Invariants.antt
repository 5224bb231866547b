-- what was counted, and what is left
use Rattle.std.proofs.Common.{◌≡◌, ◌+◌, ◌*◌, ◌≤◌, length, drop}
use Rattle.chunk_files.specs.Json.{escaped}
use Rattle.chunk_files.proofs.json.escaped_len.Given as goal

abbrev pub invariant-loop-byte : goal.invariant-loop-byte
invariant-loop-byte l = (l.len + length (escaped (drop l.byte-index l.bytes)) ≡ length (escaped l.bytes)) × (l.len ≤ 2 * l.byte-index)
