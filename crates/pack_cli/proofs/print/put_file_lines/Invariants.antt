-- what was written, and what is left
use Rattle.std.proofs.Common.{◌≡◌, ◌++◌, drop}
use Rattle.pack_cli.specs.Output.{file_lines}
use Rattle.pack_cli.proofs.print.put_file_lines.Given as goal

abbrev pub invariant-loop-file : goal.invariant-loop-file
invariant-loop-file l = l.lines.items ++ file_lines (drop l.file-index l.files) ≡ l.initial.lines.items ++ file_lines l.files
