-- Texts that have no tree.
use Rattle.std.specs.Prelude.{◌≡◌, codes}
use Rattle.es_tree.specs.declared.tokens.ProgramGoal.TheVariants.{Script}
use Rattle.es_tree.specs.declared.program.Program.{Program}
use Rattle.es_grammar.specs.Reading.{Bytes}
use Rattle.es_grammar.specs.Parses.{Parses}

abbrev pub await_text : Bytes
await_text = codes "await f();"

-- in a script `await` is no operator outside of async functions, and no name
abbrev pub AwaitInScript : Type 0
AwaitInScript = (program : Program) → program.goal ≡ Script → Parses await_text program → ⊥

abbrev pub export_text : Bytes
export_text = codes "export default function () {} f();"

-- a script exports nothing
abbrev pub ExportInScript : Type 0
ExportInScript = (program : Program) → program.goal ≡ Script → Parses export_text program → ⊥
