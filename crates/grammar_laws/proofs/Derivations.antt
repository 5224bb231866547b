-- The derivations of the trees.
use Rattle.std.proofs.Common.{[], None, refl}
use Rattle.es_tree.specs.declared.tokens.Goal.TheVariants.{Operand, Operator}
use Rattle.es_grammar.specs.Reading.{IsAt}
use Rattle.es_grammar.specs.Lists.{Chain, SomeAt, ListAt, EndedListAt}
use Rattle.es_grammar.specs.Semicolons.{SemiAt}
use Rattle.es_grammar.specs.Functions.{BindAt, DeclAt, KeyAt, ParamsAt, ClosedItemAt, BodyAt, AsyncAt, StarAt, OptionalNameAt, FuncAt}
use Rattle.es_grammar.specs.Expressions.{ExprAt, ClosedExprAt, ArgumentAt, ArgsAt, SuffixAt, MemberAt, PrimaryAt, BaseAt, LHSAt}
use Rattle.es_grammar.specs.Targets.{IsMember, SimpleTargetAt, TargetAt}
use Rattle.es_grammar.specs.Operators.{OperandAt, PrefixedAt, ListedAt, JoinedAt, BinaryAt, CondAt, AssignAt}
use Rattle.es_grammar.specs.Statements.{DeclaredAt, VarAt, StmtAt, ItemAt}
use Rattle.es_grammar.specs.Modules.{ExportAt, ModuleItemAt, ScriptItemAt}
use Rattle.es_grammar.proofs.Computing.{lexing, spelling}
use Rattle.es_grammar.proofs.Witnesses.{end_at, kinded, marked, worded, named, item_up, assign_up, prefixed_up, no_mark, no_declaration, closed_item, fits_lhs}
use Rattle.grammar_laws.specs.Tokens.{word, mark, number, below}
use Rattle.grammar_laws.specs.Trees.{call_over_line_text, CallOverLine, return_over_line_text, ReturnOverLine, await_call_text, AwaitCall, default_function_text, DefaultFunction, declared_variable_text, DeclaredVariable, object_in_parentheses_text, ObjectInParentheses, member_assigned_text, MemberAssigned}
use Rattle.grammar_laws.proofs.Fits.{unnamed, fits_await}

call_over_line_0 : IsAt call_over_line_text Operand 0 (word 0 1)
unfolding lexing
call_over_line_0 = refl

call_over_line_2_operator : IsAt call_over_line_text Operator 1 (below (mark 2 3))
unfolding lexing
call_over_line_2_operator = refl

call_over_line_3 : IsAt call_over_line_text Operand 3 (word 3 4)
unfolding lexing
call_over_line_3 = refl

call_over_line_4_operator : IsAt call_over_line_text Operator 4 (mark 4 5)
unfolding lexing
call_over_line_4_operator = refl

call_over_line_5 : IsAt call_over_line_text Operand 5 (end_at 5)
unfolding lexing
call_over_line_5 = refl

call_over_line_5_operator : IsAt call_over_line_text Operator 5 (end_at 5)
unfolding lexing
call_over_line_5_operator = refl

-- one statement: `(` on a new line goes on with the expression, which is a call
pub call_over_line : CallOverLine
unfolding spelling
call_over_line = record {
  last = 5;
  items =
      Chain.more _ _ (ScriptItemAt.item _ (ClosedItemAt.closed _ (item_up 255 (ItemAt.stmt _ (StmtAt.expr _ _ (no_mark (word 0 1)
      call_over_line_0 refl) (no_declaration (word 0 1) call_over_line_0 refl refl refl) (ExprAt.expr _ (EndedListAt.last _ (assign_up 254
      (AssignAt.cond _ (CondAt.test _ (BinaryAt.binary _ _ (ListedAt.operand _ (OperandAt.lhs _ (LHSAt.base _ _ (BaseAt.primary _
      (PrimaryAt.name (word 0 1) (named call_over_line_0 refl refl))) (Chain.more _ _ (SuffixAt.args _ (ArgsAt.args (below (mark 2 3)) _
      (mark 4 5) (marked call_over_line_2_operator refl refl) (ListAt.some _ (SomeAt.last _ (ArgumentAt.plain _ (assign_up 253
      (AssignAt.cond _ (CondAt.test _ (BinaryAt.binary _ _ (ListedAt.operand _ (OperandAt.lhs _ (LHSAt.base _ _ (BaseAt.primary _
      (PrimaryAt.name (word 3 4) (named call_over_line_3 refl refl))) Chain.none refl))) JoinedAt.none (fits_lhs _) tt refl))))))) (marked
      call_over_line_4_operator refl refl))) Chain.none) refl))) JoinedAt.none (fits_lhs _) tt refl)))))) (record {
        next = (end_at 5);
        read
            = call_over_line_5_operator;
        closed = refl;
      }) (SemiAt.left_out (end_at 5) call_over_line_5_operator (no_mark (end_at 5)
      call_over_line_5_operator refl (end_at 5)) refl)))) (closed_item (end_at 5) call_over_line_5 refl refl refl refl))) Chain.none;
  end = end_at 5;
  is_end = kinded call_over_line_5 refl;
}

return_over_line_0 : IsAt return_over_line_text Operand 0 (word 0 8)
unfolding lexing
return_over_line_0 = refl

return_over_line_9 : IsAt return_over_line_text Operand 8 (word 9 10)
unfolding lexing
return_over_line_9 = refl

return_over_line_10_operator : IsAt return_over_line_text Operator 10 (mark 10 11)
unfolding lexing
return_over_line_10_operator = refl

return_over_line_11_operator : IsAt return_over_line_text Operator 11 (mark 11 12)
unfolding lexing
return_over_line_11_operator = refl

return_over_line_13 : IsAt return_over_line_text Operand 12 (mark 13 14)
unfolding lexing
return_over_line_13 = refl

return_over_line_15 : IsAt return_over_line_text Operand 14 (word 15 21)
unfolding lexing
return_over_line_15 = refl

return_over_line_22 : IsAt return_over_line_text Operand 21 (below (number 22 23))
unfolding lexing
return_over_line_22 = refl

return_over_line_22_operator : IsAt return_over_line_text Operator 21 (below (number 22 23))
unfolding lexing
return_over_line_22_operator = refl

return_over_line_23_operator : IsAt return_over_line_text Operator 23 (mark 23 24)
unfolding lexing
return_over_line_23_operator = refl

return_over_line_25 : IsAt return_over_line_text Operand 24 (mark 25 26)
unfolding lexing
return_over_line_25 = refl

return_over_line_26 : IsAt return_over_line_text Operand 26 (end_at 26)
unfolding lexing
return_over_line_26 = refl

-- two statements in the body: what `return` gives stands on its line
pub return_over_line : ReturnOverLine
unfolding spelling
return_over_line = record {
  last = 26;
  items =
      Chain.more _ _ (ScriptItemAt.item _ (ClosedItemAt.closed _ (item_up 255 (ItemAt.func _ (FuncAt.func None (word 0 8) None _ (mark 10 11)
      _ (mark 11 12) _ AsyncAt.none (worded return_over_line_0 refl refl) StarAt.none (OptionalNameAt.name (word 9 10) (named
      return_over_line_9 refl refl)) (λ h. refl) (marked return_over_line_10_operator refl refl) (ParamsAt.list _ ListAt.none) (marked
      return_over_line_11_operator refl refl) (BodyAt.body (mark 13 14) _ (mark 25 26) (marked return_over_line_13 refl refl) (Chain.more _
      _ (ClosedItemAt.closed _ (item_up 254 (ItemAt.stmt _ (StmtAt.return (word 15 21) _ refl (worded return_over_line_15 refl refl)
      (SemiAt.left_out (below (number 22 23)) return_over_line_22_operator (no_mark (below (number 22 23)) return_over_line_22_operator refl
      (below (number 22 23))) refl)))) (closed_item (below (number 22 23)) return_over_line_22 refl refl refl refl)) (Chain.more _ _
      (ClosedItemAt.closed _ (item_up 254 (ItemAt.stmt _ (StmtAt.expr _ _ (no_mark (below (number 22 23)) return_over_line_22 refl)
      (no_declaration (below (number 22 23)) return_over_line_22 refl refl refl) (ExprAt.expr _ (EndedListAt.last _ (assign_up 253
      (AssignAt.cond _ (CondAt.test _ (BinaryAt.binary _ _ (ListedAt.operand _ (OperandAt.lhs _ (LHSAt.base _ _ (BaseAt.primary _
      (PrimaryAt.number (below (number 22 23)) (kinded return_over_line_22 refl))) Chain.none refl))) JoinedAt.none (fits_lhs _) tt
      refl)))))) (record { next = (mark 23 24); read = return_over_line_23_operator; closed = refl }) (SemiAt.written (mark 23 24) (marked
      return_over_line_23_operator refl refl))))) (closed_item (mark 25 26) return_over_line_25 refl refl refl refl)) Chain.none)) (marked
      return_over_line_25 refl refl))))) (closed_item (end_at 26) return_over_line_26 refl refl refl refl))) Chain.none;
  end = end_at 26;
  is_end = kinded return_over_line_26 refl;
}

await_call_0 : IsAt await_call_text Operand 0 (word 0 5)
unfolding lexing
await_call_0 = refl

await_call_6 : IsAt await_call_text Operand 5 (word 6 7)
unfolding lexing
await_call_6 = refl

await_call_7_operator : IsAt await_call_text Operator 7 (mark 7 8)
unfolding lexing
await_call_7_operator = refl

await_call_8_operator : IsAt await_call_text Operator 8 (mark 8 9)
unfolding lexing
await_call_8_operator = refl

await_call_9_operator : IsAt await_call_text Operator 9 (mark 9 10)
unfolding lexing
await_call_9_operator = refl

await_call_10 : IsAt await_call_text Operand 10 (end_at 10)
unfolding lexing
await_call_10 = refl

-- `await` is an operator at the top of a module
pub await_call : AwaitCall
unfolding spelling
await_call = record {
  last = 10;
  items =
      Chain.more _ _ (ModuleItemAt.item _ (ClosedItemAt.closed _ (item_up 255 (ItemAt.stmt _ (StmtAt.expr _ _ (no_mark (word 0 5) await_call_0
      refl) (no_declaration (word 0 5) await_call_0 refl refl refl) (ExprAt.expr _ (EndedListAt.last _ (assign_up 254 (AssignAt.cond _
      (CondAt.test _ (BinaryAt.binary _ _ (ListedAt.operand _ (OperandAt.prefixed _ (prefixed_up 253 (PrefixedAt.await (word 0 5) _ refl
      (worded await_call_0 refl refl) (OperandAt.lhs _ (LHSAt.base _ _ (BaseAt.primary _ (PrimaryAt.name (word 6 7) (named await_call_6 refl
      refl))) (Chain.more _ _ (SuffixAt.args _ (ArgsAt.args (mark 7 8) _ (mark 8 9) (marked await_call_7_operator refl refl) ListAt.none
      (marked await_call_8_operator refl refl))) Chain.none) refl)))))) JoinedAt.none (fits_await _ _) tt refl)))))) (record {
        next = (mark
            9 10);
        read = await_call_9_operator;
        closed = refl;
      }) (SemiAt.written (mark 9 10) (marked await_call_9_operator refl refl)))))
      (closed_item (end_at 10) await_call_10 refl refl refl refl))) Chain.none;
  end = end_at 10;
  is_end = kinded await_call_10 refl;
}

default_function_0 : IsAt default_function_text Operand 0 (word 0 6)
unfolding lexing
default_function_0 = refl

default_function_7 : IsAt default_function_text Operand 6 (word 7 14)
unfolding lexing
default_function_7 = refl

default_function_15 : IsAt default_function_text Operand 14 (word 15 23)
unfolding lexing
default_function_15 = refl

default_function_24_operator : IsAt default_function_text Operator 23 (mark 24 25)
unfolding lexing
default_function_24_operator = refl

default_function_25_operator : IsAt default_function_text Operator 25 (mark 25 26)
unfolding lexing
default_function_25_operator = refl

default_function_27 : IsAt default_function_text Operand 26 (mark 27 28)
unfolding lexing
default_function_27 = refl

default_function_28 : IsAt default_function_text Operand 28 (mark 28 29)
unfolding lexing
default_function_28 = refl

default_function_30 : IsAt default_function_text Operand 29 (word 30 31)
unfolding lexing
default_function_30 = refl

default_function_31_operator : IsAt default_function_text Operator 31 (mark 31 32)
unfolding lexing
default_function_31_operator = refl

default_function_32_operator : IsAt default_function_text Operator 32 (mark 32 33)
unfolding lexing
default_function_32_operator = refl

default_function_33_operator : IsAt default_function_text Operator 33 (mark 33 34)
unfolding lexing
default_function_33_operator = refl

default_function_34 : IsAt default_function_text Operand 34 (end_at 34)
unfolding lexing
default_function_34 = refl

-- two items: a function that is exported as `default`, with no name and no semicolon, and a call
pub default_function : DefaultFunction
unfolding spelling
default_function = record {
  last = 34;
  items =
      Chain.more _ _ (ModuleItemAt.export _ (ExportAt.default_func (word 0 6) (word 7 14) _ (worded default_function_0 refl refl) (worded
      default_function_7 refl refl) (FuncAt.func None (word 15 23) None _ (mark 24 25) _ (mark 25 26) _ AsyncAt.none (worded
      default_function_15 refl refl) StarAt.none OptionalNameAt.none (λ h. unnamed h) (marked default_function_24_operator refl refl)
      (ParamsAt.list _ ListAt.none) (marked default_function_25_operator refl refl) (BodyAt.body (mark 27 28) _ (mark 28 29) (marked
      default_function_27 refl refl) Chain.none (marked default_function_28 refl refl))))) (Chain.more _ _ (ModuleItemAt.item _
      (ClosedItemAt.closed _ (item_up 255 (ItemAt.stmt _ (StmtAt.expr _ _ (no_mark (word 30 31) default_function_30 refl) (no_declaration
      (word 30 31) default_function_30 refl refl refl) (ExprAt.expr _ (EndedListAt.last _ (assign_up 254 (AssignAt.cond _ (CondAt.test _
      (BinaryAt.binary _ _ (ListedAt.operand _ (OperandAt.lhs _ (LHSAt.base _ _ (BaseAt.primary _ (PrimaryAt.name (word 30 31) (named
      default_function_30 refl refl))) (Chain.more _ _ (SuffixAt.args _ (ArgsAt.args (mark 31 32) _ (mark 32 33) (marked
      default_function_31_operator refl refl) ListAt.none (marked default_function_32_operator refl refl))) Chain.none) refl)))
      JoinedAt.none (fits_lhs _) tt refl)))))) (record { next = (mark 33 34); read = default_function_33_operator; closed = refl })
      (SemiAt.written (mark 33 34) (marked default_function_33_operator refl refl))))) (closed_item (end_at 34) default_function_34 refl
      refl refl refl))) Chain.none);
  end = end_at 34;
  is_end = kinded default_function_34 refl;
}

declared_variable_0 : IsAt declared_variable_text Operand 0 (word 0 3)
unfolding lexing
declared_variable_0 = refl

declared_variable_4 : IsAt declared_variable_text Operand 3 (word 4 5)
unfolding lexing
declared_variable_4 = refl

declared_variable_5_operator : IsAt declared_variable_text Operator 5 (mark 5 6)
unfolding lexing
declared_variable_5_operator = refl

declared_variable_6 : IsAt declared_variable_text Operand 6 (end_at 6)
unfolding lexing
declared_variable_6 = refl

-- a variable without initialiser
pub declared_variable : DeclaredVariable
unfolding spelling
declared_variable = record {
  last = 6;
  items =
      Chain.more _ _ (ScriptItemAt.item _ (ClosedItemAt.closed _ (item_up 255 (ItemAt.stmt _ (StmtAt.var _ (VarAt.var (word 0 3) _ _ (worded
      declared_variable_0 refl refl) (EndedListAt.last _ (DeclaredAt.name (word 4 5) refl (DeclAt.plain _ (BindAt.name (word 4 5) (named
      declared_variable_4 refl refl))))) (SemiAt.written (mark 5 6) (marked declared_variable_5_operator refl refl)))))) (closed_item
      (end_at 6) declared_variable_6 refl refl refl refl))) Chain.none;
  end = end_at 6;
  is_end = kinded declared_variable_6 refl;
}

object_in_parentheses_0 : IsAt object_in_parentheses_text Operand 0 (mark 0 1)
unfolding lexing
object_in_parentheses_0 = refl

object_in_parentheses_1 : IsAt object_in_parentheses_text Operand 1 (mark 1 2)
unfolding lexing
object_in_parentheses_1 = refl

object_in_parentheses_3 : IsAt object_in_parentheses_text Operand 2 (word 3 4)
unfolding lexing
object_in_parentheses_3 = refl

object_in_parentheses_4_operator : IsAt object_in_parentheses_text Operator 4 (mark 4 5)
unfolding lexing
object_in_parentheses_4_operator = refl

object_in_parentheses_6 : IsAt object_in_parentheses_text Operand 5 (number 6 7)
unfolding lexing
object_in_parentheses_6 = refl

object_in_parentheses_8_operator : IsAt object_in_parentheses_text Operator 7 (mark 8 9)
unfolding lexing
object_in_parentheses_8_operator = refl

object_in_parentheses_9_operator : IsAt object_in_parentheses_text Operator 9 (mark 9 10)
unfolding lexing
object_in_parentheses_9_operator = refl

object_in_parentheses_10_operator : IsAt object_in_parentheses_text Operator 10 (mark 10 11)
unfolding lexing
object_in_parentheses_10_operator = refl

object_in_parentheses_11 : IsAt object_in_parentheses_text Operand 11 (end_at 11)
unfolding lexing
object_in_parentheses_11 = refl

-- an object with a member
pub object_in_parentheses : ObjectInParentheses
unfolding spelling
object_in_parentheses = record {
  last = 11;
  items =
      Chain.more _ _ (ScriptItemAt.item _ (ClosedItemAt.closed _ (item_up 255 (ItemAt.stmt _ (StmtAt.expr _ _ (no_mark (mark 0 1)
      object_in_parentheses_0 refl) (no_declaration (mark 0 1) object_in_parentheses_0 refl refl refl) (ExprAt.expr _ (EndedListAt.last _
      (assign_up 254 (AssignAt.cond _ (CondAt.test _ (BinaryAt.binary _ _ (ListedAt.operand _ (OperandAt.lhs _ (LHSAt.base _ _
      (BaseAt.primary _ (PrimaryAt.paren (mark 0 1) _ (mark 9 10) (marked object_in_parentheses_0 refl refl) (ClosedExprAt.closed _
      (ExprAt.expr _ (EndedListAt.last _ (assign_up 253 (AssignAt.cond _ (CondAt.test _ (BinaryAt.binary _ _ (ListedAt.operand _
      (OperandAt.lhs _ (LHSAt.base _ _ (BaseAt.primary _ (PrimaryAt.object (mark 1 2) _ (mark 8 9) (marked object_in_parentheses_1 refl
      refl) (ListAt.some _ (SomeAt.last _ (MemberAt.pair _ (mark 4 5) _ (KeyAt.id_name (word 3 4) (kinded object_in_parentheses_3 refl))
      (marked object_in_parentheses_4_operator refl refl) (assign_up 252 (AssignAt.cond _ (CondAt.test _ (BinaryAt.binary _ _
      (ListedAt.operand _ (OperandAt.lhs _ (LHSAt.base _ _ (BaseAt.primary _ (PrimaryAt.number (number 6 7) (kinded object_in_parentheses_6
      refl))) Chain.none refl))) JoinedAt.none (fits_lhs _) tt refl))))))) (marked object_in_parentheses_8_operator refl refl))) Chain.none
      refl))) JoinedAt.none (fits_lhs _) tt refl)))))) (record {
        next = (mark 9 10);
        read = object_in_parentheses_9_operator;
        closed = refl;
      })) (marked object_in_parentheses_9_operator refl refl))) Chain.none refl))) JoinedAt.none (fits_lhs _) tt refl)))))) (record {
        next =
            (mark 10 11);
        read = object_in_parentheses_10_operator;
        closed = refl;
      }) (SemiAt.written (mark 10 11) (marked
      object_in_parentheses_10_operator refl refl))))) (closed_item (end_at 11) object_in_parentheses_11 refl refl refl refl))) Chain.none;
  end = end_at 11;
  is_end = kinded object_in_parentheses_11 refl;
}

member_assigned_0 : IsAt member_assigned_text Operand 0 (word 0 1)
unfolding lexing
member_assigned_0 = refl

member_assigned_1_operator : IsAt member_assigned_text Operator 1 (mark 1 2)
unfolding lexing
member_assigned_1_operator = refl

member_assigned_2 : IsAt member_assigned_text Operand 2 (word 2 3)
unfolding lexing
member_assigned_2 = refl

member_assigned_4_operator : IsAt member_assigned_text Operator 3 (mark 4 5)
unfolding lexing
member_assigned_4_operator = refl

member_assigned_6 : IsAt member_assigned_text Operand 5 (number 6 7)
unfolding lexing
member_assigned_6 = refl

member_assigned_7 : IsAt member_assigned_text Operand 7 (end_at 7)
unfolding lexing
member_assigned_7 = refl

member_assigned_7_operator : IsAt member_assigned_text Operator 7 (end_at 7)
unfolding lexing
member_assigned_7_operator = refl

-- a member is assigned to
pub member_assigned : MemberAssigned
unfolding spelling
member_assigned = record {
  last = 7;
  items =
      Chain.more _ _ (ScriptItemAt.item _ (ClosedItemAt.closed _ (item_up 255 (ItemAt.stmt _ (StmtAt.expr _ _ (no_mark (word 0 1)
      member_assigned_0 refl) (no_declaration (word 0 1) member_assigned_0 refl refl refl) (ExprAt.expr _ (EndedListAt.last _ (assign_up 254
      (AssignAt.set _ (mark 4 5) _ (TargetAt.simple _ (SimpleTargetAt.member _ (LHSAt.base _ _ (BaseAt.primary _ (PrimaryAt.name (word 0 1)
      (named member_assigned_0 refl refl))) (Chain.more _ _ (SuffixAt.dot (mark 1 2) (word 2 3) (marked member_assigned_1_operator refl
      refl) (kinded member_assigned_2 refl)) Chain.none) refl) (IsMember.member _ [] _ refl refl))) (marked member_assigned_4_operator refl
      refl) (assign_up 253 (AssignAt.cond _ (CondAt.test _ (BinaryAt.binary _ _ (ListedAt.operand _ (OperandAt.lhs _ (LHSAt.base _ _
      (BaseAt.primary _ (PrimaryAt.number (number 6 7) (kinded member_assigned_6 refl))) Chain.none refl))) JoinedAt.none (fits_lhs _) tt
      refl)))))))) (record { next = (end_at 7); read = member_assigned_7_operator; closed = refl }) (SemiAt.left_out (end_at 7)
      member_assigned_7_operator (no_mark (end_at 7) member_assigned_7_operator refl (end_at 7)) refl)))) (closed_item (end_at 7)
      member_assigned_7 refl refl refl refl))) Chain.none;
  end = end_at 7;
  is_end = kinded member_assigned_7 refl;
}
