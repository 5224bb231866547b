-- What the parser answers for a part of a text.
use Rattle.std.specs.Prelude.{◌≡◌, ℕ, [], Option, Some, None, Result, Ok, Err}
use Rattle.es_grammar.specs.declared.places.Context.{Context}
use Rattle.es_grammar.specs.Reading.{Bytes}
use Rattle.es_outline.specs.Outlined.{Outlined}
use Rattle.es_reader.specs.declared.ParseFault.{ParseFault}
use Rattle.es_reader.specs.declared.ParseFault.TheVariants.{Syntax, NoMemory}
use Rattle.es_trace.specs.Basics.{Traced}
use Rattle.es_trace.specs.Expressions.{trace_closed_expr}
use Rattle.es_trace.specs.Functions.{trace_closed_item}
use Rattle.es_trace.specs.Modules.{trace_default}
use Rattle.es_trace.specs.Tying.{tracers_to}
use Rattle.es_parser.specs.declared.pieces.Piece.{Piece}
use Rattle.es_parser.specs.declared.pieces.Piece.TheVariants as piece

abbrev pub Alone : Type 0
Alone = Result (Outlined × ℕ) ParseFault

-- what is traced at a place alone, or that nothing is; of want of memory nothing is said
abbrev pub TracesAlone : Traced ℕ → Alone → Type 0
TracesAlone traced (Ok made) = traced ≡ Some (made.0.marks, made.1)
TracesAlone traced (Err Syntax) = traced ≡ None
TracesAlone traced (Err NoMemory) = Unit {0}

abbrev pub traced_piece : Bytes → ℕ → Piece → Context → ℕ → Traced ℕ
traced_piece text nest piece.Expression c p = trace_closed_expr text (tracers_to text nest) c [] p
traced_piece text nest piece.Item c p = trace_closed_item text (tracers_to text nest) c [] p
traced_piece text nest piece.Default c p = trace_default text (tracers_to text nest) c [] p
