-- The readers to a nest are sound for the rules to that nest, and so are the readers of what stands for itself.
use Rattle.std.proofs.Common.{◌≡◌, ℕ, zero, suc, false, Some, refl, subst}
use Rattle.std.specs.Prelude.{codes}
use Rattle.es_tree.specs.declared.tokens.Goal.TheVariants.{Operand}
use Rattle.es_tree.specs.declared.tokens.ProgramGoal.{ProgramGoal}
use Rattle.es_tree.specs.declared.cycle.Item.{Item}
use Rattle.es_tree.specs.declared.program.Program.{Program}
use Rattle.es_grammar.specs.declared.TheConstants.{MAX_NEST}
use Rattle.es_grammar.specs.declared.places.Context.{Context}
use Rattle.es_grammar.specs.Reading.{Bytes}
use Rattle.es_grammar.specs.Expressions.{Expr}
use Rattle.es_grammar.specs.Parses.{DefaultTo, ExpressionTo, ItemTo, Parses, no_rules, rules_to}
use Rattle.es_reader.specs.Basics.{is_word, token}
use Rattle.es_reader.specs.Readers.{no_readers}
use Rattle.es_reader.specs.Functions.{read_class, read_func}
use Rattle.es_reader.specs.Statements.{class_item, declaration_item, func_item}
use Rattle.es_reader.specs.Modules.{end, read_default, read_items}
use Rattle.es_reader.specs.Tying.{default_to, expression_to, item_to, read_program, readers_to}
use Rattle.es_reader.specs.Soundness.{AreSound}
use Rattle.es_reader.proofs.Steps.{bind_some, chosen, when, else, given, some_is}
use Rattle.es_reader.proofs.Functions.{bind_pattern_sound}
use Rattle.es_reader.proofs.Classes.{class_sound, closed_item_sound, func_sound}
use Rattle.es_reader.proofs.Expressions.{closed_expr_sound}
use Rattle.es_reader.proofs.Primaries.{lhs_sound, new_sound}
use Rattle.es_reader.proofs.Targets.{target_pattern_sound}
use Rattle.es_reader.proofs.Operators.{prefixed_shaped, prefixed_sound}
use Rattle.es_reader.proofs.Assignments.{assign_sound}
use Rattle.es_reader.proofs.Statements.{item_sound, stmt_sound}
use Rattle.es_reader.proofs.Modules.{end_there, items_sound}

none_sound : (text : Bytes) → AreSound text no_rules no_readers
none_sound text = record {
  item = λ c p y e. absurd cc;
  stmt = λ c p y e. absurd cc;
  assign = λ c p y e. absurd cc;
  prefixed = λ c p y e. absurd cc;
  shaped = λ c p t y at e. absurd cc;
  bind_pattern = λ c p y e. absurd cc;
  target_pattern = λ c p y e. absurd cc;
  new = λ c p y e. absurd cc;
  extended = λ c p y e. absurd cc;
}

pub reading_sound : (text : Bytes) (nest : ℕ) → AreSound text (rules_to text nest) (readers_to text nest)
unfolding rules_to readers_to
reading_sound text zero = none_sound text
reading_sound text (suc nest) = let s = reading_sound text nest in record {
  item = item_sound s;
  stmt = stmt_sound s;
  assign = assign_sound s;
  prefixed = prefixed_sound s;
  shaped = prefixed_shaped s;
  bind_pattern = bind_pattern_sound s;
  target_pattern = target_pattern_sound s;
  new = new_sound s;
  extended = lhs_sound s;
}

pub expression_to_sound : (text : Bytes) (nest : ℕ) (c : Context) (p : ℕ) (x : Expr) (q : ℕ) → expression_to text nest c p ≡ Some (x, q)
    → ExpressionTo text nest c p x q
expression_to_sound text nest c p x q e = closed_expr_sound (reading_sound text nest) c p (x, q) e

pub item_to_sound : (text : Bytes) (nest : ℕ) (c : Context) (p : ℕ) (x : Item) (q : ℕ) → item_to text nest c p ≡ Some (x, q) → ItemTo text nest c p x q
item_to_sound text nest c p x q e = closed_item_sound (reading_sound text nest) c p (x, q) e

default_sound : (text : Bytes) (nest : ℕ) (c : Context) (p : ℕ) (y : Item × ℕ) → default_to text nest c p ≡ Some y → DefaultTo text nest c p y.0 y.1
unfolding read_default declaration_item class_item func_item
default_sound text nest c p y e =
    let t = bind_some (token text Operand p) _ _ e in
    elim (chosen (is_word text (codes "class") t.0) (class_item text (readers_to text nest) c false p) (func_item text (readers_to text nest) c false p) _ t.2) [
      | when h f ↦ let x = bind_some (read_class text (readers_to text nest) c false p) _ _ f in
          given (DefaultTo text nest c p) _ _ y x.2 (DefaultTo.class x.0.0 (class_sound (reading_sound text nest) c false p _ x.1))
      | else h f ↦ let x = bind_some (read_func text (readers_to text nest) c false p) _ _ f in
          given (DefaultTo text nest c p) _ _ y x.2 (DefaultTo.func x.0.0 (func_sound (reading_sound text nest) c false p _ x.1))
    ]

pub default_to_sound : (text : Bytes) (nest : ℕ) (c : Context) (p : ℕ) (x : Item) (q : ℕ) → default_to text nest c p ≡ Some (x, q) → DefaultTo text nest c p x q
default_to_sound text nest c p x q e = default_sound text nest c p (x, q) e

pub program_sound : (text : Bytes) (goal : ProgramGoal) (x : Program) → read_program text goal ≡ Some x → Parses text x × (x.goal ≡ goal)
unfolding read_program
program_sound text goal x e =
    let xs = bind_some (read_items text (readers_to text MAX_NEST) goal 0) _ _ e in
    let t = bind_some (end text xs.0.1) _ _ xs.2 in
    let here : Parses text (record { goal = goal; items = xs.0.0 }) = record {
      last = xs.0.1;
      items = items_sound (reading_sound text MAX_NEST) goal 0 _ xs.1;
      end = t.0;
      is_end = end_there t.1;
    } in
    subst (λ (z : Program). Parses text z × (z.goal ≡ goal)) (some_is _ _ t.2) (here, refl)
