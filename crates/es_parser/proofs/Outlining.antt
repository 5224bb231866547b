-- What is traced of a text is the outline of its tree.
use Rattle.std.proofs.Common.{◌≡◌, Option, Some, None, Result, Ok, Err, option_map, refl, sym, ◌∙◌}
use Rattle.es_tree.specs.declared.tokens.ProgramGoal.{ProgramGoal}
use Rattle.es_tree.specs.declared.program.Program.{Program}
use Rattle.es_grammar.specs.Reading.{Bytes}
use Rattle.es_outline.specs.Outline.{Marks, outline}
use Rattle.es_outline.specs.Outlined.{Outlined}
use Rattle.es_reader.specs.declared.ParseFault.{ParseFault}
use Rattle.es_reader.specs.declared.ParseFault.TheVariants.{Syntax, NoMemory}
use Rattle.es_reader.specs.Tying.{read_program}
use Rattle.es_reader.proofs.Steps.{some_is}
use Rattle.es_trace.specs.Trees.{HasNoTree, IsOutlineOf}
use Rattle.es_trace.specs.Tying.{trace_program}
use Rattle.es_trace.proofs.Tying.{outline_law}
use Rattle.es_parser.specs.Parsing.{IsParsed, Outlines}

outlined : (text : Bytes) (goal : ProgramGoal) (marks : Marks) (came : Option Program) → read_program text goal ≡ came
    → option_map outline came ≡ Some marks → IsOutlineOf text goal marks
outlined text goal marks None is traced = absurd cc
outlined text goal marks (Some program) is traced = (program, is, sym (some_is _ _ traced))

none_read : (text : Bytes) (goal : ProgramGoal) (came : Option Program) → read_program text goal ≡ came → option_map outline came ≡ None
    → HasNoTree text goal
none_read text goal None is traced = is
none_read text goal (Some program) is traced = absurd cc

pub parsed : (text : Bytes) (goal : ProgramGoal) (result : Result Outlined ParseFault) → Outlines (trace_program text goal) result
    → IsParsed text goal result
parsed text goal (Ok made) traced = outlined text goal made.marks (read_program text goal) refl (sym (outline_law text goal) ∙ traced)
parsed text goal (Err Syntax) traced = none_read text goal (read_program text goal) refl (sym (outline_law text goal) ∙ traced)
parsed text goal (Err NoMemory) traced = tt
