-- What the parser answers for a whole text.
use Rattle.std.specs.Prelude.{◌≡◌, Option, Some, None, Result, Ok, Err}
use Rattle.es_tree.specs.declared.tokens.ProgramGoal.{ProgramGoal}
use Rattle.es_grammar.specs.Reading.{Bytes}
use Rattle.es_outline.specs.Outline.{Marks}
use Rattle.es_outline.specs.Outlined.{Outlined}
use Rattle.es_reader.specs.declared.ParseFault.{ParseFault}
use Rattle.es_reader.specs.declared.ParseFault.TheVariants.{Syntax, NoMemory}
use Rattle.es_trace.specs.Trees.{HasNoTree, IsOutlineOf}

-- the marks that are traced, or that none are; of want of memory nothing is said
abbrev pub Outlines : Option Marks → Result Outlined ParseFault → Type 0
Outlines traced (Ok outline) = traced ≡ Some outline.marks
Outlines traced (Err Syntax) = traced ≡ None
Outlines traced (Err NoMemory) = Unit {0}

-- the outline of the text's tree, and `Syntax` exactly where it has none
abbrev pub IsParsed : Bytes → ProgramGoal → Result Outlined ParseFault → Type 0
IsParsed text goal (Ok outline) = IsOutlineOf text goal outline.marks
IsParsed text goal (Err Syntax) = HasNoTree text goal
IsParsed text goal (Err NoMemory) = Unit {0}
