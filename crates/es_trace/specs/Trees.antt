-- What layers above say of a text: its tree, that it has none, and the outline of its tree. These rest on the reader, which finds one
-- tree at most, and none that doesn't parse by the grammar.
use Rattle.std.specs.Prelude.{◌≡◌, Option, Some, None, Result, Ok, Err}
use Rattle.es_tree.specs.declared.tokens.ProgramGoal.{ProgramGoal}
use Rattle.es_tree.specs.declared.program.Program.{Program}
use Rattle.es_grammar.specs.Parses.{Parses}
use Rattle.es_grammar.specs.Reading.{Bytes}
use Rattle.es_outline.specs.Outline.{Marks, outline}
use Rattle.es_reader.specs.declared.ParseFault.{ParseFault}
use Rattle.es_reader.specs.declared.ParseFault.TheVariants.{Syntax, NoMemory}
use Rattle.es_reader.specs.Tying.{read_program}

-- the program is the tree of the text at the goal
abbrev pub IsTreeOf : Bytes → ProgramGoal → Program → Type 0
IsTreeOf text goal program = read_program text goal ≡ Some program

-- the text has no tree at the goal
abbrev pub HasNoTree : Bytes → ProgramGoal → Type 0
HasNoTree text goal = read_program text goal ≡ None

-- these marks are the outline of the tree of the text
abbrev pub IsOutlineOf : Bytes → ProgramGoal → Marks → Type 0
IsOutlineOf text goal marks = (program : Program) × IsTreeOf text goal program × (marks ≡ outline program)

-- A text has one tree at most, not one and none, and what is its tree parses by the grammar.
abbrev pub OneTreeLaw : Type 0
OneTreeLaw = (text : Bytes) (goal : ProgramGoal) (program other : Program) → IsTreeOf text goal program → IsTreeOf text goal other → program ≡ other

abbrev pub SomeOrNoneLaw : Type 0
SomeOrNoneLaw = (text : Bytes) (goal : ProgramGoal) (program : Program) → IsTreeOf text goal program → HasNoTree text goal → ⊥

abbrev pub TreeParsesLaw : Type 0
TreeParsesLaw = (text : Bytes) (goal : ProgramGoal) (program : Program) → IsTreeOf text goal program → Parses text program × (program.goal ≡ goal)
