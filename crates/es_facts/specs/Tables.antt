-- What is known of a text before its first fault is sought.
use Rattle.es_scope.specs.Source.{Source}
use Rattle.es_scope.specs.Telling.{AreScopes}
use Rattle.es_parts.specs.Around.{AreAround}
use Rattle.es_asks.specs.Numbering.{AreAsked}
use Rattle.es_declares.specs.Numbering.{AreDeclarations, known_by}
use Rattle.es_exports.specs.Exported.{AreExports}
use Rattle.es_facts.specs.declared.tables.Tables.{Tables}

pub record AreTables (source : Source) (tables : Tables) : Type 0 where
  pub scopes : AreScopes source tables.scopes
  pub enclosing : AreAround source.marks tables.enclosing
  pub asked : AreAsked source tables.asked
  pub declarations : AreDeclarations source tables.asked.requests tables.scopes.texts tables.declarations
  pub exports : AreExports source (known_by tables.asked.requests tables.declarations) tables.exports
