-- What is asked of the rules for what nests: the tokens of each tree stand where its rule holds.
use Rattle.std.specs.Prelude.{ℕ}
use Rattle.es_tree.specs.declared.cycle.Item.{Item}
use Rattle.es_tree.specs.declared.cycle.Stmt.{Stmt}
use Rattle.es_tree.specs.declared.cycle.Assign.{Assign}
use Rattle.es_tree.specs.declared.cycle.Operand.{Operand}
use Rattle.es_tree.specs.declared.cycle.Bind.{Bind}
use Rattle.es_tree.specs.declared.cycle.Target.{Target}
use Rattle.es_tree.specs.declared.cycle.Base.{Base}
use Rattle.es_tree.specs.declared.cycle.LHS.{LHS}
use Rattle.es_tree.specs.Yield.{item_tokens, stmt_tokens, assign_tokens, operand_tokens, bind_tokens, target_tokens, base_tokens, lhs_tokens}
use Rattle.es_grammar.specs.declared.places.Context.{Context}
use Rattle.es_grammar.specs.Reading.{Bytes}
use Rattle.es_grammar.specs.declared.places.Stop.{Stop}
use Rattle.es_grammar.specs.Rules.{Rules}
use Rattle.es_grammar.specs.Tokens.{TokensAt}

pub record Tells (text : Bytes) (r : Rules) : Type 0 where
  pub item : (c : Context) (p : ℕ) (x : Item) (q : ℕ) → r.item c p x q → TokensAt text p (item_tokens x) q
  pub stmt : (c : Context) (p : ℕ) (x : Stmt) (q : ℕ) → r.stmt c p x q → TokensAt text p (stmt_tokens x) q
  pub assign : (c : Context) (p : ℕ) (x : Assign) (s : Stop) → r.assign c p x s → TokensAt text p (assign_tokens x) s.at
  pub prefixed : (c : Context) (p : ℕ) (x : Operand) (s : Stop) → r.prefixed c p x s → TokensAt text p (operand_tokens x) s.at
  pub bind_pattern : (c : Context) (p : ℕ) (x : Bind) (q : ℕ) → r.bind_pattern c p x q → TokensAt text p (bind_tokens x) q
  pub target_pattern : (c : Context) (p : ℕ) (x : Target) (q : ℕ) → r.target_pattern c p x q → TokensAt text p (target_tokens x) q
  pub new : (c : Context) (p : ℕ) (x : Base) (q : ℕ) → r.new c p x q → TokensAt text p (base_tokens x) q
  pub extended : (c : Context) (p : ℕ) (x : LHS) (q : ℕ) → r.extended c p x q → TokensAt text p (lhs_tokens x) q
