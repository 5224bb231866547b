-- What is known, with all that follows. Only private clauses cite this.
use Rattle.std.specs.Prelude.{ℕ}
use Rattle.std.specs.List.{Contains}
use Rattle.pk_types.specs.declared.graph.Graph.{Graph}
use Rattle.export_usage.specs.declared.facts.Fact.{Fact}
use Rattle.export_usage.specs.declared.facts.Fact.TheVariants.{Reached}
use Rattle.export_usage.specs.declared.facts.Facts.{Facts}
use Rattle.export_usage.specs.Claims.{KnowsOf, AreTrue, Grows}
use Rattle.export_usage.specs.Rules.{IsFollowed}

-- what follows from the fact came to be known, and all that is known is true
pub record Spreads (graph : Graph) (old : Facts) (fact : Fact) (new : Facts) : Type 0 where
  pub grows : Grows old new
  pub truth : AreTrue graph new
  pub followed : IsFollowed graph new fact

-- what is known is true, and all that follows from it is known
pub record IsAll (graph : Graph) (facts : Facts) : Type 0 where
  pub truth : AreTrue graph facts
  pub entries : (number : ℕ) → Contains graph.entries number → KnowsOf facts (Reached number)
  pub followed : (fact : Fact) → KnowsOf facts fact → IsFollowed graph facts fact
