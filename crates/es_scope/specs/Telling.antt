-- What is told of the names of a text, all of it.
use Rattle.std.specs.Prelude.{ℕ, List, Option, None, length, slice_get, unwrap_or}
use Rattle.es_scope.specs.declared.found.Declared.{Declared}
use Rattle.es_scope.specs.Source.{Source}
use Rattle.es_scope.specs.Twice.{IsFirstTwice}
use Rattle.es_scope.specs.Named.{AreNumbered}
use Rattle.es_scope.specs.Firsts.{Entries, told, AreFirst, AreNamed}
use Rattle.es_scope.specs.Found.{AreFound}

-- The distinct names, and by places the numbers of names among them; for scopes and numbers the first declarations; by places what names
-- refer to; and the first place where a name is declared twice.
pub record Told : Type 0 where
  pub texts : List (List ℕ)
  pub numbers : List ℕ
  pub firsts : Entries
  pub table : List (Option Declared)
  pub twice : Option ℕ

-- it is that of the text
pub record AreScopes (source : Source) (told_of : Told) : Type 0 where
  pub numbered : AreNumbered source told_of.texts told_of.numbers
  pub firsts : AreFirst source told_of.texts (length source.marks) (told told_of.firsts)
  pub named : AreNamed told_of.texts (told told_of.firsts)
  pub found : AreFound source told_of.table
  pub twice : IsFirstTwice source told_of.twice

-- what the name at the place refers to
abbrev pub declared_by : Told → ℕ → Option Declared
declared_by told_of occurrence = unwrap_or (slice_get told_of.table occurrence) None
