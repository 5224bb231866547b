-- What the files of a bundle are made of.
use Rattle.std.specs.Prelude.{ℕ, List}
use Rattle.pk_types.specs.declared.graph.Graph.{Graph}
use Rattle.pk_types.specs.declared.plan.Plan.{Plan}
use Rattle.emit_body.specs.declared.body.Body.{Body}
use Rattle.emit_body.specs.declared.getters.Getters.{Getters}

pub record MaterialOf : Type 0 where
  pub graph : Graph
  pub plan : Plan
  -- for each module its body, and the text of its file, which is looked at for JSON modules alone
  pub bodies : List Body
  pub sources : List (List ℕ)
  pub getters : Getters
