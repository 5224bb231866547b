-- what was written, and what is left
use Rattle.std.proofs.Common.{◌≡◌, drop}
use Rattle.chunk_files.specs.Json.{escaped}
use Rattle.chunk_files.specs.Pens.{penned}
use Rattle.chunk_files.proofs.json.put_escaped.Given as goal

abbrev pub invariant-loop-byte : goal.invariant-loop-byte
invariant-loop-byte l = penned l.pen (escaped (drop l.byte-index l.bytes)) ≡ penned l.initial.pen (escaped l.bytes)
