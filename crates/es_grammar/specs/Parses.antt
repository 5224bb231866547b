-- The trees of a text: the rules to a nest, and what it means that a text parses.
use Rattle.std.specs.Prelude.{ℕ, zero, suc, true, false}
use Rattle.es_tree.specs.declared.tokens.Token.{Token}
use Rattle.es_tree.specs.declared.tokens.TokenKind.TheVariants.{End}
use Rattle.es_tree.specs.declared.tokens.Goal.TheVariants.{Operand}
use Rattle.es_tree.specs.declared.tokens.ProgramGoal.{ProgramGoal}
use Rattle.es_tree.specs.declared.tokens.ProgramGoal.TheVariants.{Script, Module}
use Rattle.es_tree.specs.declared.cycle.Class.{Class}
use Rattle.es_tree.specs.declared.cycle.Func.{Func}
use Rattle.es_tree.specs.declared.cycle.Item.{Item}
use Rattle.es_tree.specs.declared.cycle.Item.TheVariants as item_v
use Rattle.es_tree.specs.declared.program.Program.{Program}
use Rattle.es_tree.specs.declared.program.ProgramItem.{ProgramItem}
use Rattle.es_grammar.specs.declared.TheConstants.{MAX_NEST}
use Rattle.es_grammar.specs.declared.places.Context.{Context}
use Rattle.es_grammar.specs.Reading.{Bytes, KindAt}
use Rattle.es_grammar.specs.Lists.{Chain}
use Rattle.es_grammar.specs.Rules.{Rules}
use Rattle.es_grammar.specs.Functions.{BindPatternAt, ClassAt, ClosedItemAt, FuncAt}
use Rattle.es_grammar.specs.Expressions.{ClosedExprAt, Expr, LHSAt, NewAt}
use Rattle.es_grammar.specs.Targets.{TargetPatternAt}
use Rattle.es_grammar.specs.Operators.{AssignAt, PrefixedAt}
use Rattle.es_grammar.specs.Statements.{ItemAt, StmtAt}
use Rattle.es_grammar.specs.Modules.{ModuleItemAt, ScriptItemAt}

-- nothing that counts for the nest
abbrev pub no_rules : Rules
no_rules = record {
  item = λ c p x q. ⊥;
  stmt = λ c p x q. ⊥;
  assign = λ c p x s. ⊥;
  prefixed = λ c p x s. ⊥;
  bind_pattern = λ c p x q. ⊥;
  target_pattern = λ c p x q. ⊥;
  new = λ c p x q. ⊥;
  extended = λ c p x q. ⊥;
}

-- one more, over what nests in it
abbrev pub one_more : Bytes → Rules → Rules
one_more text r = record {
  item = ItemAt text r;
  stmt = StmtAt text r;
  assign = AssignAt text r;
  prefixed = PrefixedAt text r;
  bind_pattern = BindPatternAt text r;
  target_pattern = TargetPatternAt text r;
  new = NewAt text r;
  extended = LHSAt text r;
}

-- the rules for what has at most this nest
unfoldable pub rules_to : Bytes → ℕ → Rules
rules_to text zero = no_rules
rules_to text (suc nest) = one_more text (rules_to text nest)

-- at the top `await` is an operator in a module alone, and `return` may not stand
abbrev pub at_top : ProgramGoal → Context
at_top Script = record { has_in = true; has_yield = false; has_await = false; has_return = false; goal = Script }
at_top Module = record { has_in = true; has_yield = false; has_await = true; has_return = false; goal = Module }

abbrev pub ProgramItemAt : Bytes → Rules → ProgramGoal → ℕ → ProgramItem → ℕ → Type 0
ProgramItemAt text r Script = ScriptItemAt text r (at_top Script)
ProgramItemAt text r Module = ModuleItemAt text r (at_top Module)

-- The tree is one of the text at its goal: its items stand one behind the other up to the end, and its nest is at most 256.
pub record Parses (text : Bytes) (program : Program) : Type 0 where
  pub last : ℕ
  pub items : Chain (ProgramItemAt text (rules_to text MAX_NEST) program.goal) 0 program.items last
  pub end : Token
  pub is_end : KindAt text Operand End last end

-- a closed expression with at most a nest
abbrev pub ExpressionTo : Bytes → ℕ → Context → ℕ → Expr → ℕ → Type 0
ExpressionTo text nest c = ClosedExprAt text (rules_to text nest) c

-- a closed item with at most a nest
abbrev pub ItemTo : Bytes → ℕ → Context → ℕ → Item → ℕ → Type 0
ItemTo text nest c = ClosedItemAt text (rules_to text nest) c

-- what `export default` takes that is a function or a class, its name optional, with at most a nest
pub data DefaultTo (text : Bytes) (nest : ℕ) (c : Context) : ℕ → Item → ℕ → Type 0 where
  func : {p q : ℕ} (x : Func) → FuncAt text (rules_to text nest) c false p x q → DefaultTo text nest c p (item_v.Func x) q
  class : {p q : ℕ} (x : Class) → ClassAt text (rules_to text nest) c false p x q → DefaultTo text nest c p (item_v.Class x) q
