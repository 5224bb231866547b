-- The readers to a nest, and the readers of a whole text.
use Rattle.std.specs.Prelude.{◌≡◌, ℕ, zero, suc, Option, Some}
use Rattle.es_tree.specs.declared.tokens.ProgramGoal.{ProgramGoal}
use Rattle.es_tree.specs.declared.cycle.Item.{Item}
use Rattle.es_tree.specs.declared.program.Program.{Program}
use Rattle.es_grammar.specs.declared.TheConstants.{MAX_NEST}
use Rattle.es_grammar.specs.declared.places.Context.{Context}
use Rattle.es_grammar.specs.Reading.{Bytes}
use Rattle.es_grammar.specs.Expressions.{Expr}
use Rattle.es_grammar.specs.Parses.{DefaultTo, ExpressionTo, ItemTo, Parses, rules_to}
use Rattle.es_reader.specs.Basics.{◌>>=◌, Reader}
use Rattle.es_reader.specs.Readers.{Readers, no_readers}
use Rattle.es_reader.specs.Soundness.{AreSound}
use Rattle.es_reader.specs.Functions.{read_bind_pattern, read_closed_item}
use Rattle.es_reader.specs.Expressions.{read_closed_expr, read_lhs, read_new}
use Rattle.es_reader.specs.Targets.{read_target_pattern}
use Rattle.es_reader.specs.Operators.{read_assign, read_prefixed}
use Rattle.es_reader.specs.Statements.{read_item, read_stmt}
use Rattle.es_reader.specs.Modules.{end, read_default, read_items}

-- one more, over what nests in it
abbrev pub one_more : Bytes → Readers → Readers
one_more text r = record {
  item = read_item text r;
  stmt = read_stmt text r;
  assign = read_assign text r;
  prefixed = read_prefixed text r;
  bind_pattern = read_bind_pattern text r;
  target_pattern = read_target_pattern text r;
  new = read_new text r;
  extended = read_lhs text r;
}

-- the readers of what has at most this nest
unfoldable pub readers_to : Bytes → ℕ → Readers
readers_to text zero = no_readers
readers_to text (suc nest) = one_more text (readers_to text nest)

-- a closed expression with at most a nest
abbrev pub expression_to : Bytes → ℕ → Context → Reader Expr
expression_to text nest c = read_closed_expr text (readers_to text nest) c

-- a closed item with at most a nest
abbrev pub item_to : Bytes → ℕ → Context → Reader Item
item_to text nest c = read_closed_item text (readers_to text nest) c

-- what `export default` takes that is a function or a class, with at most a nest
abbrev pub default_to : Bytes → ℕ → Context → Reader Item
default_to text nest c = read_default text (readers_to text nest) c

-- the tree of a text at its goal
unfoldable pub read_program : Bytes → ProgramGoal → Option Program
read_program text goal = read_items text (readers_to text MAX_NEST) goal 0 >>= λ xs. end text xs.1 >>= λ t.
    Some (record { goal = goal; items = xs.0 })

-- What is read stands in the text by the grammar: what nests to a nest, expressions, items, what `export default` takes, and programs.
abbrev pub ReadingLaw : Type 0
ReadingLaw = (text : Bytes) (nest : ℕ) → AreSound text (rules_to text nest) (readers_to text nest)

abbrev pub ExpressionLaw : Type 0
ExpressionLaw = (text : Bytes) (nest : ℕ) (c : Context) (p : ℕ) (x : Expr) (q : ℕ) → expression_to text nest c p ≡ Some (x, q)
    → ExpressionTo text nest c p x q

abbrev pub ItemLaw : Type 0
ItemLaw = (text : Bytes) (nest : ℕ) (c : Context) (p : ℕ) (x : Item) (q : ℕ) → item_to text nest c p ≡ Some (x, q) → ItemTo text nest c p x q

abbrev pub DefaultLaw : Type 0
DefaultLaw = (text : Bytes) (nest : ℕ) (c : Context) (p : ℕ) (x : Item) (q : ℕ) → default_to text nest c p ≡ Some (x, q)
    → DefaultTo text nest c p x q

abbrev pub ProgramLaw : Type 0
ProgramLaw = (text : Bytes) (goal : ProgramGoal) (x : Program) → read_program text goal ≡ Some x → Parses text x × (x.goal ≡ goal)
