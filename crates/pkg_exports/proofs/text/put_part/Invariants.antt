use Rattle.std.proofs.Common.{◌≡◌, ◌++◌, drop}
use Rattle.pkg_exports.specs.Texts.{with_part}
use Rattle.pkg_exports.proofs.text.put_part.Given as goal

abbrev pub invariant-loop-byte : goal.invariant-loop-byte
invariant-loop-byte l = l.put.items ++ with_part l.part (drop l.byte-index l.text) ≡ with_part l.part l.text
