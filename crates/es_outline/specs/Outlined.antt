-- An outline that is being written.
use Rattle.std.specs.Prelude.{[]}
use Rattle.es_outline.specs.Outline.{Marks}

-- the marks, and those up to where it was kept last
pub record Outlined : Type 0 where
  pub marks : Marks
  pub kept : Marks

abbrev pub no_outline : Outlined
no_outline = record { marks = []; kept = [] }
