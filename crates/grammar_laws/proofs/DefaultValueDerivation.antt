-- The derivation of the tree.
use Rattle.std.proofs.Common.{refl}
use Rattle.es_tree.specs.declared.tokens.Goal.TheVariants.{Operand, Operator}
use Rattle.es_grammar.specs.Reading.{IsAt}
use Rattle.es_grammar.specs.Lists.{Chain, ListAt}
use Rattle.es_grammar.specs.Semicolons.{SemiAt}
use Rattle.es_grammar.specs.Expressions.{PrimaryAt, BaseAt, LHSAt}
use Rattle.es_grammar.specs.Operators.{OperandAt, ListedAt, JoinedAt, BinaryAt, CondAt, AssignAt}
use Rattle.es_grammar.specs.Modules.{ExportAt, ModuleItemAt}
use Rattle.es_grammar.proofs.Computing.{lexing, spelling}
use Rattle.es_grammar.proofs.Witnesses.{end_at, kinded, marked, worded, assign_up, no_declaration, fits_lhs}
use Rattle.grammar_laws.specs.Tokens.{word, mark}
use Rattle.grammar_laws.specs.DefaultValueTree.{default_value_text, DefaultValue}

default_value_0 : IsAt default_value_text Operand 0 (word 0 6)
unfolding lexing
default_value_0 = refl

default_value_7 : IsAt default_value_text Operand 6 (word 7 14)
unfolding lexing
default_value_7 = refl

default_value_15 : IsAt default_value_text Operand 14 (mark 15 16)
unfolding lexing
default_value_15 = refl

default_value_16_operator : IsAt default_value_text Operator 16 (mark 16 17)
unfolding lexing
default_value_16_operator = refl

default_value_17_operator : IsAt default_value_text Operator 17 (mark 17 18)
unfolding lexing
default_value_17_operator = refl

default_value_18 : IsAt default_value_text Operand 18 (end_at 18)
unfolding lexing
default_value_18 = refl

-- an expression that is exported as `default` may begin with `{`
pub default_value : DefaultValue
unfolding spelling
default_value = record {
  last = 18;
  items =
      Chain.more _ _ (ModuleItemAt.export _ (ExportAt.default (word 0 6) (word 7 14) _ _ (worded default_value_0 refl refl) (worded
      default_value_7 refl refl) (no_declaration (mark 15 16) default_value_15 refl refl refl) (assign_up 255 (AssignAt.cond _ (CondAt.test
      _ (BinaryAt.binary _ _ (ListedAt.operand _ (OperandAt.lhs _ (LHSAt.base _ _ (BaseAt.primary _ (PrimaryAt.object (mark 15 16) _ (mark
      16 17) (marked default_value_15 refl refl) ListAt.none (marked default_value_16_operator refl refl))) Chain.none refl))) JoinedAt.none
      (fits_lhs _) tt refl)))) (SemiAt.written (mark 17 18) (marked default_value_17_operator refl refl)))) Chain.none;
  end = end_at 18;
  is_end = kinded default_value_18 refl;
}
