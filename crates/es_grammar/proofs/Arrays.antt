-- Pairs of square brackets are arrays in one another.
use Rattle.std.proofs.Common.{◌≡◌, ◌≤◌, ℕ, zero, suc, false, List, [], ◌∷◌, Option, Some, None, refl, arith}
use Rattle.std.specs.Prelude.{codes}
use Rattle.std.specs.Str.{bytes_eq}
use Rattle.es_tree.specs.declared.tokens.Token.{Token}
use Rattle.es_tree.specs.declared.tokens.TokenKind.TheVariants as kind
use Rattle.es_tree.specs.declared.tokens.Goal.{Goal}
use Rattle.es_tree.specs.declared.tokens.Goal.TheVariants.{Operand as AtOperand, Operator as AtOperator}
use Rattle.es_tree.specs.declared.tokens.ProgramGoal.{ProgramGoal}
use Rattle.es_tree.specs.declared.tokens.ProgramGoal.TheVariants.{Script, Module}
use Rattle.es_tree.specs.declared.parts.Separated.{Separated}
use Rattle.es_tree.specs.declared.parts.Argument.{Argument}
use Rattle.es_tree.specs.declared.cycle.Assign.{Assign}
use Rattle.es_tree.specs.declared.cycle.Assign.TheVariants as assign_v
use Rattle.es_tree.specs.declared.cycle.Base.TheVariants as base_v
use Rattle.es_tree.specs.declared.cycle.Cond.{roll-Cond}
use Rattle.es_tree.specs.declared.cycle.Item.{Item}
use Rattle.es_tree.specs.declared.cycle.Item.TheVariants as item_v
use Rattle.es_tree.specs.declared.cycle.LHS.{roll-LHS}
use Rattle.es_tree.specs.declared.cycle.Operand.TheVariants as operand_v
use Rattle.es_tree.specs.declared.cycle.Primary.TheVariants as primary_v
use Rattle.es_tree.specs.declared.cycle.Stmt.TheVariants as stmt_v
use Rattle.es_tree.specs.declared.program.ProgramItem.{ProgramItem}
use Rattle.es_tree.specs.declared.program.ProgramItem.TheVariants as program_item_v
use Rattle.es_grammar.specs.declared.places.Context.{Context}
use Rattle.es_grammar.specs.Contexts.{bracketed}
use Rattle.es_grammar.specs.Reading.{Bytes, KindAt, MarkAt}
use Rattle.es_grammar.specs.Semicolons.{stop, expression, SemiAt, IsClosed, IsClosedItem}
use Rattle.es_grammar.specs.Rules.{Rules}
use Rattle.es_grammar.specs.Lists.{Chain, ElementsAt, EndedListAt, separated}
use Rattle.es_grammar.specs.Functions.{ClosedItemAt}
use Rattle.es_grammar.specs.Expressions.{ExprAt, ArgumentAt, PrimaryAt, BaseAt, LHSAt}
use Rattle.es_grammar.specs.Operators.{OperandAt, ListedAt, JoinedAt, BinaryAt, CondAt, AssignAt}
use Rattle.es_grammar.specs.Statements.{StmtAt, ItemAt}
use Rattle.es_grammar.specs.Modules.{ScriptItemAt, ModuleItemAt}
use Rattle.es_grammar.specs.Parses.{rules_to, ProgramItemAt, at_top}
use Rattle.es_grammar.specs.Nests.{Pairs, DeepLaw}
use Rattle.es_grammar.proofs.Witnesses.{reads_mark, reads_word, no_mark, no_declaration, closed_item, fits_lhs, item_up}

abbrev Elements : Type 0
Elements = List (Separated (Option (Argument Assign)))

abbrev array : Token → Elements → Token → Assign
array left xs right = assign_v.Cond (roll-Cond (record {
  test = record { first = operand_v.LHS (roll-LHS (record { base = base_v.Primary (primary_v.Array left xs right); suffixes = [] })); more = [] };
  arms = None;
}))

array_at : {text : Bytes} {r : Rules} {c : Context} {p q : ℕ} (left : Token) (xs : Elements) (right : Token) → MarkAt text AtOperand (codes "[") p left
    → ElementsAt text (ArgumentAt text r c) left.end xs q → MarkAt text AtOperator (codes "]") q right → AssignAt text r c p (array left xs right)
    (stop right.end expression)
array_at left xs right first elements last =
    AssignAt.cond _ (CondAt.test _ (BinaryAt.binary _ [] (ListedAt.operand _ (OperandAt.lhs _
    (LHSAt.base _ [] (BaseAt.primary _ (PrimaryAt.array left xs right first elements last)) Chain.none refl))) JoinedAt.none (fits_lhs _) tt refl))

abbrev argument : Assign → Elements
argument x = separated (Some (record { spread = None; value = x })) None ∷ []

-- as many pairs as the nest
pairs_nest : (text : Bytes) (nest p count q : ℕ) → Pairs text p count q → count ≤ nest
    → (x : Assign) × ((c : Context) → (rules_to text nest).assign c p x (stop q expression))
unfolding rules_to
pairs_nest text zero p count q (Pairs.innermost left right is_left is_right) h = absurd (omega arith)
pairs_nest text zero p count q (Pairs.around left right is_left pairs is_right) h = absurd (omega (arith, h))
pairs_nest text (suc nest) p count q (Pairs.innermost left right is_left is_right) h =
    (array left [] right, λ c. array_at left [] right (is_left AtOperand) ElementsAt.none (is_right AtOperator))
pairs_nest text (suc nest) p count q (Pairs.around left right is_left pairs is_right) h =
    let x = pairs_nest text nest left.end _ _ pairs (omega (arith, h)) in (
      array left (argument x.0) right,
      λ c. array_at left (argument x.0) right (is_left AtOperand) (ElementsAt.last _ (ArgumentAt.plain x.0 (x.1 (bracketed c)))) (is_right AtOperator),
    )

-- what a bracket and the end of the text are not

first_of : (text : Bytes) (p count q : ℕ) → Pairs text p count q → (left : Token) × ((goal : Goal) → MarkAt text goal (codes "[") p left)
first_of text p count q (Pairs.innermost left right is_left is_right) = (left, is_left)
first_of text p count q (Pairs.around left right is_left pairs is_right) = (left, is_left)

bracket_is : {text : Bytes} {p : ℕ} {token : Token} (mark : List ℕ) → bytes_eq (codes "[") mark ≡ false → MarkAt text AtOperand (codes "[") p token
    → reads_mark text mark token ≡ false
bracket_is mark other h = rw (h.is.kind_is, h.spelled_as) other

no_word_is : {text : Bytes} {p : ℕ} {token : Token} (word : List ℕ) → MarkAt text AtOperand (codes "[") p token → reads_word text word token ≡ false
no_word_is word h = rw h.is.kind_is refl

end_no_mark : {text : Bytes} {p : ℕ} {token : Token} (goal : Goal) (mark : List ℕ) → KindAt text goal kind.End p token → reads_mark text mark token ≡ false
end_no_mark goal mark h = rw h.kind_is refl

end_no_word : {text : Bytes} {p : ℕ} {token : Token} (goal : Goal) (word : List ℕ) → KindAt text goal kind.End p token → reads_word text word token ≡ false
end_no_word goal word h = rw h.kind_is refl

end_closes : {text : Bytes} {q : ℕ} {end : Token} → KindAt text AtOperator kind.End q end → IsClosed text (stop q expression)
end_closes {text} {q} {end} h = record { next = end; read = h.read; closed = rw h.kind_is refl }

end_semi : {text : Bytes} {q : ℕ} {end : Token} → KindAt text AtOperator kind.End q end → SemiAt text (stop q expression) None q
end_semi {text} {q} {end} h =
    SemiAt.left_out end h.read (no_mark end h.read (end_no_mark AtOperator (codes ";") h) end) (rw h.kind_is refl)

end_closes_item : {text : Bytes} {q : ℕ} {end : Token} → KindAt text AtOperand kind.End q end → IsClosedItem text q
end_closes_item {text} {q} {end} h =
    closed_item end h.read (end_no_word AtOperand _ h) (end_no_word AtOperand _ h) (end_no_word AtOperand _ h) (end_no_mark AtOperand _ h)

item_of : (text : Bytes) (nest count q : ℕ) (end : Token) → Pairs text 0 count q → count ≤ nest → ((goal : Goal) → KindAt text goal kind.End q end)
    → (x : Item) × ((goal : ProgramGoal) → ClosedItemAt text (rules_to text (suc nest)) (at_top goal) 0 x q)
item_of text nest count q end pairs h is_end =
    let x = pairs_nest text nest 0 count q pairs h in
    let left = first_of text 0 count q pairs in
    let first = left.1 AtOperand in
    let declares = no_declaration left.0 first.is.read (no_word_is _ first) (no_word_is _ first) (no_word_is _ first) in (
      item_v.Stmt (stmt_v.Expr (record { list = separated x.0 None ∷ [] }) None),
      λ goal.
          ClosedItemAt.closed _ (item_up nest (ItemAt.stmt _ (StmtAt.expr _ None (no_mark left.0 first.is.read (bracket_is _ refl first)) declares
          (ExprAt.expr _ (EndedListAt.last _ (x.1 (bracketed (at_top goal))))) (end_closes (is_end AtOperator)) (end_semi (is_end AtOperator))))) (end_closes_item (is_end AtOperand)),
    )

program_item_of : (text : Bytes) (nest : ℕ) (goal : ProgramGoal) (x : Item) (q : ℕ) → ClosedItemAt text (rules_to text nest) (at_top goal) 0 x q
    → ProgramItemAt text (rules_to text nest) goal 0 (program_item_v.Item x) q
program_item_of text nest Script x q h = ScriptItemAt.item x h
program_item_of text nest Module x q h = ModuleItemAt.item x h

pub items_nest : (text : Bytes) (nest count last : ℕ) (end : Token) (goal : ProgramGoal) → Pairs text 0 count last → count ≤ nest
    → ((goal : Goal) → KindAt text goal kind.End last end)
    → (x : ProgramItem) × Chain (ProgramItemAt text (rules_to text (suc nest)) goal) 0 (x ∷ []) last
items_nest text nest count last end goal pairs few is_end =
    let x = item_of text nest count last end pairs few is_end in
    (program_item_v.Item x.0, Chain.more _ _ (program_item_of text (suc nest) goal x.0 last (x.1 goal)) Chain.none)

pub deep : DeepLaw
deep text goal count last end pairs few is_end =
    let x = items_nest text 255 count last end goal pairs (omega (arith, few)) is_end in
    (x.0 ∷ [], record { last = last; items = x.1; end = end; is_end = is_end AtOperand })
