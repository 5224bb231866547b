-- The readers of what counts for the nest, one for each rule of the grammar.
use Rattle.std.specs.Prelude.{None}
use Rattle.es_tree.specs.declared.cycle.Item.{Item}
use Rattle.es_tree.specs.declared.cycle.Stmt.{Stmt}
use Rattle.es_tree.specs.declared.cycle.Assign.{Assign}
use Rattle.es_tree.specs.declared.cycle.Operand.{Operand}
use Rattle.es_tree.specs.declared.cycle.Bind.{Bind}
use Rattle.es_tree.specs.declared.cycle.Target.{Target}
use Rattle.es_tree.specs.declared.cycle.Base.{Base}
use Rattle.es_tree.specs.declared.cycle.LHS.{LHS}
use Rattle.es_grammar.specs.declared.places.Context.{Context}
use Rattle.es_reader.specs.Basics.{Reader, Ended}

pub record Readers : Type 0 where
  pub item : Context → Reader Item
  pub stmt : Context → Reader Stmt
  pub assign : Context → Ended Assign
  pub prefixed : Context → Ended Operand
  pub bind_pattern : Context → Reader Bind
  pub target_pattern : Context → Reader Target
  pub new : Context → Reader Base
  pub extended : Context → Reader LHS

-- nothing nests any more
abbrev pub no_readers : Readers
no_readers = record {
  item = λ c p. None;
  stmt = λ c p. None;
  assign = λ c p. None;
  prefixed = λ c p. None;
  bind_pattern = λ c p. None;
  target_pattern = λ c p. None;
  new = λ c p. None;
  extended = λ c p. None;
}
