-- What the laws on the facts of a text take for granted of the text.
use Rattle.std.specs.Prelude.{◌≡◌, ◌+◌, ◌<◌, ◌^◌, length}
use Rattle.es_tree.specs.declared.program.Program.{Program}
use Rattle.es_grammar.specs.Parses.{Parses}
use Rattle.es_outline.specs.Outline.{outline}
use Rattle.es_scope.specs.Source.{Source}

-- the marks are the outline of a tree that the text has at its goal
pub record IsOutlined (source : Source) : Type 0 where
  pub program : Program
  pub parses : Parses source.text program
  pub goal : program.goal ≡ source.goal
  pub marks : source.marks ≡ outline program

-- the places of the marks, and two behind them, are numbers of 32 bits
abbrev pub HasFewMarks : Source → Type 0
HasFewMarks source = length source.marks + 2 < 2 ^ 32
