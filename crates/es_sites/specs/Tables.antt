-- What is told of a text by the tables of the crates below, and what they are of.
use Rattle.std.specs.Prelude.{◌<◌, ◌+◌, ◌^◌, ℕ, List, Option, Some, None, length, slice_get, unwrap_or}
use Rattle.es_scope.specs.Source.{Source}
use Rattle.es_scope.specs.Frames.{frame_at}
use Rattle.es_scope.specs.Known.{Known}
use Rattle.es_scope.specs.Telling.{Told, AreScopes}
use Rattle.es_scope.specs.declared.frame.Binder.{Binder}
use Rattle.es_scope.specs.declared.frame.Binder.TheVariants as binder
use Rattle.es_parts.specs.declared.enclosing.Surroundings.{Surroundings}
use Rattle.es_parts.specs.Around.{AreAround}
use Rattle.es_asks.specs.declared.asked.Asked.{Asked}
use Rattle.es_asks.specs.Numbering.{AreAsked}
use Rattle.es_declares.specs.declared.declarations.Declarations.{Declarations}
use Rattle.es_declares.specs.Numbering.{AreDeclarations, known_by}
use Rattle.es_sites.specs.declared.inside.Inside.{Inside}
use Rattle.es_sites.specs.Inside.{AreInside}

pub record Tables : Type 0 where
  pub source : Source
  pub told : Told
  pub around : List Surroundings
  pub asked : Asked
  pub declarations : Declarations
  pub inside : Inside

abbrev pub known : Tables → Known
known tables = known_by tables.asked.requests tables.declarations

-- they are those of the text
pub record AreTables (tables : Tables) : Type 0 where
  pub short : length tables.source.marks + 2 < 2 ^ 32
  pub scopes : AreScopes tables.source tables.told
  pub around : AreAround tables.source.marks tables.around
  pub asked : AreAsked tables.source tables.asked
  pub declared : AreDeclarations tables.source tables.asked.requests tables.told.texts tables.declarations
  pub inside : AreInside tables.source tables.asked.requests tables.inside

-- the number at the place, if there is one
abbrev pub entry : List (Option ℕ) → ℕ → Option ℕ
entry table place = unwrap_or (slice_get table place) None

abbrev pub part_of : Option Surroundings → Option ℕ
part_of (Some around) = around.part
part_of None = None

abbrev pub pattern_of : Option Surroundings → Option ℕ
pattern_of (Some around) = around.pattern
pattern_of None = None

-- the innermost part around the place, and the innermost pattern
abbrev pub part_around : List Surroundings → ℕ → Option ℕ
part_around around place = part_of (slice_get around place)

abbrev pub pattern_around : List Surroundings → ℕ → Option ℕ
pattern_around around place = pattern_of (slice_get around place)

abbrev pub opening_of : Binder → Option ℕ
opening_of (binder.Declaration opening) = Some opening
opening_of _ = None

-- the declaration by `var`, `let` or `const` that binds at the place
abbrev pub declaration_around : Source → ℕ → Option ℕ
declaration_around source place = opening_of (frame_at source place).binder
