-- The exports of a text, and the first places of the two faults that exports can have.
use Rattle.std.specs.Prelude.{ℕ, ◌≤◌, Option, Some, None}
use Rattle.es_scope.specs.Source.{Source}
use Rattle.es_scope.specs.Listed.{AreThose}
use Rattle.es_scope.specs.Known.{Known}
use Rattle.es_scope.specs.Exporting.{IsExport, IsExportedTwice, ExportsUndeclared}
use Rattle.es_scope.specs.FactsOf.{IsStar}
use Rattle.es_exports.specs.declared.exports.Exports.{Exports}

-- the first place where something is so, if there is one
pub data IsFirstPlace (IsSo : ℕ → Type 0) : Option ℕ → Type 0 where
  none : ((place : ℕ) → ¬ IsSo place) → IsFirstPlace IsSo None
  some : (place : ℕ) → IsSo place → ((other : ℕ) → IsSo other → place ≤ other) → IsFirstPlace IsSo (Some place)

pub record AreExports (source : Source) (known : Known) (exports : Exports) : Type 0 where
  pub entries : AreThose (IsExport source known) exports.entries
  pub stars : AreThose (IsStar source known) exports.stars
  pub twice : IsFirstPlace (IsExportedTwice source) exports.twice
  pub undeclared : IsFirstPlace (ExportsUndeclared source) exports.undeclared
