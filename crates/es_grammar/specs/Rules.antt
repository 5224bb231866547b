-- The rules for what may nest, so that a nest of rules is a number.
use Rattle.std.specs.Prelude.{ℕ}
use Rattle.es_tree.specs.declared.cycle.Item.{Item}
use Rattle.es_tree.specs.declared.cycle.Stmt.{Stmt}
use Rattle.es_tree.specs.declared.cycle.Assign.{Assign}
use Rattle.es_tree.specs.declared.cycle.Operand.{Operand}
use Rattle.es_tree.specs.declared.cycle.Bind.{Bind}
use Rattle.es_tree.specs.declared.cycle.Target.{Target}
use Rattle.es_tree.specs.declared.cycle.Base.{Base}
use Rattle.es_tree.specs.declared.cycle.LHS.{LHS}
use Rattle.es_grammar.specs.declared.places.Context.{Context}
use Rattle.es_grammar.specs.declared.places.Stop.{Stop}

-- One rule for each production that counts for the nest: items (one that is a statement counts once), statements within statements, assignments,
-- operands with a prefix, patterns, `new`, and what a class extends
pub record Rules : Type 1 where
  pub item : Context → ℕ → Item → ℕ → Type 0
  pub stmt : Context → ℕ → Stmt → ℕ → Type 0
  pub assign : Context → ℕ → Assign → Stop → Type 0
  pub prefixed : Context → ℕ → Operand → Stop → Type 0
  pub bind_pattern : Context → ℕ → Bind → ℕ → Type 0
  pub target_pattern : Context → ℕ → Target → ℕ → Type 0
  pub new : Context → ℕ → Base → ℕ → Type 0
  pub extended : Context → ℕ → LHS → ℕ → Type 0
