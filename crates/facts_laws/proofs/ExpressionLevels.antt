-- Expressions have no mark of an import or an export, if their parts have none.
use Rattle.std.specs.Prelude.{List, [], ◌∷◌, Option, Some, None}
use Rattle.std.proofs.Common.{refl}
use Rattle.es_tree.specs.declared.tokens.Token.{Token}
use Rattle.es_tree.specs.declared.parts.Separated.{Separated}
use Rattle.es_tree.specs.declared.parts.Arms.{Arms}
use Rattle.es_tree.specs.declared.parts.BinaryOf.{BinaryOf}
use Rattle.es_tree.specs.declared.parts.Argument.{Argument}
use Rattle.es_tree.specs.declared.parts.KeyOf.TheVariants as key_of_v
use Rattle.es_tree.specs.declared.parts.SuffixOf.{SuffixOf}
use Rattle.es_tree.specs.declared.parts.SuffixOf.TheVariants as suffix_of_v
use Rattle.es_tree.specs.declared.parts.ArrowParams.TheVariants as arrow_params_v
use Rattle.es_tree.specs.declared.cycle.Arrow.TheOpen.{Assign-F, Arrow-F, Operand-F, Member-F, Primary-F, Base-F}
use Rattle.es_outline.specs.declared.mark.Mark.TheVariants as mark
use Rattle.es_outline.specs.declared.mark.Role.TheVariants as is
use Rattle.es_outline.specs.declared.mark.Part.TheVariants as part
use Rattle.es_outline.specs.Outline.{Lays, PartLays, inner, opt, listed, separated_marks, arms_marks, argument_marks, suffix_of_marks}
use Rattle.es_outline.proofs.Opens.{assign_mapped, arrow_mapped, cond_mapped, operand_mapped, lhs_mapped, member_mapped, primary_mapped, base_mapped}
use Rattle.facts_laws.proofs.Keeping.{Keeps, keeps_nothing, keeps_put, ◌then◌, keeps_told, keeps_one, keeps_within, keeps_opt_one, keeps_listed}
use Rattle.facts_laws.proofs.Kept.{ArrowLayer, arrow_of, AssignLayer, assign_of, KeptAssign, BaseLayer, base_of, KeptBase, MemberLayer, member_of, OperandLayer, operand_of, KeptOperand, PrimaryLayer, primary_of, primary_lays, CondLayer, cond_of, cond_lays, LHSLayer, lhs_of, lhs_lays}

pub assign_step : (y : AssignLayer) → Keeps (assign_mapped (assign_of y))
assign_step (Assign-F.Cond cond) = cond.1
assign_step (Assign-F.Arrow arrow) = arrow.1
assign_step (Assign-F.Assign::Set target equals value) = target.1 then keeps_one equals then value.1
assign_step (Assign-F.Compound target operator value) = target.1 then keeps_put mark.Updated refl then keeps_one operator then value.1
assign_step (Assign-F.Yield word None) = keeps_one word then keeps_nothing
assign_step (Assign-F.Yield word (Some yielded)) = keeps_one word then (keeps_opt_one yielded.star then yielded.value.1)

pub arrow_step : (y : ArrowLayer) → Keeps (arrow_mapped (arrow_of y))
arrow_step (Arrow-F.Arrow::Block is_async (arrow_params_v.Name name) mark body) = keeps_within part.Arrow refl (keeps_opt_one is_async then keeps_told is.Bound name refl then keeps_one mark then keeps_within part.FunctionBody refl ((keeps_one body.left then keeps_listed _ _ _ (λ x. x.1) body.items then keeps_one body.right)))
arrow_step (Arrow-F.Arrow::Block is_async (arrow_params_v.List before list after) mark body) = keeps_within part.Arrow refl (keeps_opt_one is_async then (keeps_one before then list.1 then keeps_one after) then keeps_one mark then keeps_within part.FunctionBody refl ((keeps_one body.left then keeps_listed _ _ _ (λ x. x.1) body.items then keeps_one body.right)))
arrow_step (Arrow-F.Concise is_async (arrow_params_v.Name name) mark value) = keeps_within part.Arrow refl (keeps_opt_one is_async then keeps_told is.Bound name refl then keeps_one mark then value.1)
arrow_step (Arrow-F.Concise is_async (arrow_params_v.List before list after) mark value) = keeps_within part.Arrow refl (keeps_opt_one is_async then (keeps_one before then list.1 then keeps_one after) then keeps_one mark then value.1)

cond_arms : (test : BinaryOf KeptOperand) (arms : Option (Arms KeptAssign)) → Keeps (opt (arms_marks inner) (cond_lays (record { test = test; arms = arms })).arms)
cond_arms test None = keeps_nothing
cond_arms test (Some arms) = keeps_one arms.question then arms.when_true.1 then keeps_one arms.colon then arms.when_false.1

pub cond_step : (y : CondLayer) → Keeps (cond_mapped (cond_of y))
cond_step y = (y.test.first.1 then keeps_listed _ _ _ (λ x. (keeps_one x.op then x.operand.1)) y.test.more) then cond_arms y.test y.arms

pub operand_step : (y : OperandLayer) → Keeps (operand_mapped (operand_of y))
operand_step (Operand-F.Private name) = keeps_one name
operand_step (Operand-F.Prefix operator operand) = keeps_told is.Prefix operator refl then operand.1
operand_step (Operand-F.Await word operand) = keeps_told is.Await word refl then operand.1
operand_step (Operand-F.Update operator target) = keeps_one operator then target.1 then keeps_put mark.Updated refl
operand_step (Operand-F.LHS lhs) = lhs.1
operand_step (Operand-F.Postfix target operator) = target.1 then keeps_put mark.Updated refl then keeps_one operator

one_suffix : (base : KeptBase) (suffix : SuffixOf KeptAssign) → Keeps (listed (suffix_of_marks inner) (lhs_lays (record { base = base; suffixes = suffix ∷ [] })).suffixes)
one_suffix base (suffix_of_v.Dot sign name) = (keeps_told is.Dot sign refl then keeps_one name) then keeps_nothing
one_suffix base (suffix_of_v.Private sign name) = (keeps_told is.Suffixes sign refl then keeps_one name) then keeps_nothing
one_suffix base (suffix_of_v.Index left index right) = (keeps_told is.Suffixes left refl then keeps_listed _ _ _ (λ x. x.item.1 then keeps_opt_one x.comma) index.list then keeps_one right) then keeps_nothing
one_suffix base (suffix_of_v.Args args) = (keeps_put mark.Call refl then (keeps_one args.left then keeps_listed _ _ _ (λ x. ((keeps_opt_one x.item.spread then x.item.value.1) then keeps_opt_one x.comma)) args.list then keeps_one args.right)) then keeps_nothing
one_suffix base (suffix_of_v.Template template) = (keeps_put mark.Tag refl then (keeps_one template.head then keeps_listed _ _ _ (λ x. (keeps_listed _ _ _ (λ y. (y.item.1 then keeps_opt_one y.comma)) x.expr.list then keeps_one x.next)) template.more)) then keeps_nothing
one_suffix base (suffix_of_v.OptionalDot sign name) = (keeps_told is.Suffixes sign refl then keeps_one name) then keeps_nothing
one_suffix base (suffix_of_v.OptionalPrivate sign name) = (keeps_told is.Suffixes sign refl then keeps_one name) then keeps_nothing
one_suffix base (suffix_of_v.OptionalIndex sign left index right) = (keeps_told is.Suffixes sign refl then keeps_one left then keeps_listed _ _ _ (λ x. x.item.1 then keeps_opt_one x.comma) index.list then keeps_one right) then keeps_nothing
one_suffix base (suffix_of_v.OptionalArgs sign args) = (keeps_told is.Suffixes sign refl then (keeps_one args.left then keeps_listed _ _ _ (λ x. ((keeps_opt_one x.item.spread then x.item.value.1) then keeps_opt_one x.comma)) args.list then keeps_one args.right)) then keeps_nothing

all_suffixes : (base : KeptBase) (suffixes : List (SuffixOf KeptAssign)) → Keeps (listed (suffix_of_marks inner) (lhs_lays (record { base = base; suffixes = suffixes })).suffixes)
all_suffixes base [] = keeps_nothing
all_suffixes base (suffix ∷ suffixes) = one_suffix base suffix then all_suffixes base suffixes

pub lhs_step : (y : LHSLayer) → Keeps (lhs_mapped (lhs_of y))
lhs_step y = y.base.1 then all_suffixes y.base y.suffixes

pub member_step : (y : MemberLayer) → Keeps (member_mapped (member_of y))
member_step (Member-F.Shorthand name) = keeps_put mark.Shorthand refl then keeps_told is.Reference name refl
member_step (Member-F.Pair (key_of_v.IdName name) colon value) = keeps_one name then keeps_one colon then value.1
member_step (Member-F.Pair (key_of_v.String text) colon value) = keeps_one text then keeps_one colon then value.1
member_step (Member-F.Pair (key_of_v.Number number) colon value) = keeps_one number then keeps_one colon then value.1
member_step (Member-F.Pair (key_of_v.Computed before computed after) colon value) = (keeps_one before then computed.1 then keeps_one after) then keeps_one colon then value.1
member_step (Member-F.Pair (key_of_v.Private name) colon value) = keeps_one name then keeps_one colon then value.1
member_step (Member-F.Member::Method method) = method.1
member_step (Member-F.Spread dots value) = keeps_one dots then value.1

abbrev primary_items : Primary-F Lays Lays Lays Lays Lays Lays Lays Lays Lays Lays Lays Lays Lays Lays Lays Lays Lays Lays Lays Lays Lays Lays Lays PartLays → List (Separated (Option (Argument Lays)))
primary_items (Primary-F.Primary::Array left elements right) = elements
primary_items _ = []

primary_element : (left : Token) (item : Option (Argument KeptAssign)) (comma : Option Token)
    → Keeps (listed (separated_marks (opt (argument_marks inner))) (primary_items (primary_lays (Primary-F.Primary::Array left (record { item = item; comma = comma } ∷ []) left))))
primary_element left None comma = (keeps_nothing then keeps_opt_one comma) then keeps_nothing
primary_element left (Some x) comma = ((keeps_opt_one x.spread then x.value.1) then keeps_opt_one comma) then keeps_nothing

primary_elements : (left : Token) (elements : List (Separated (Option (Argument KeptAssign))))
    → Keeps (listed (separated_marks (opt (argument_marks inner))) (primary_items (primary_lays (Primary-F.Primary::Array left elements left))))
primary_elements left [] = keeps_nothing
primary_elements left (x ∷ elements) = primary_element left x.item x.comma then primary_elements left elements

pub primary_step : (y : PrimaryLayer) → Keeps (primary_mapped (primary_of y))
primary_step (Primary-F.This word) = keeps_one word
primary_step (Primary-F.Primary::Name name) = keeps_told is.Reference name refl
primary_step (Primary-F.Literal literal) = keeps_one literal
primary_step (Primary-F.Template template) = (keeps_one template.head then keeps_listed _ _ _ (λ x. (keeps_listed _ _ _ (λ y. (y.item.1 then keeps_opt_one y.comma)) x.expr.list then keeps_one x.next)) template.more)
primary_step (Primary-F.Regex regex) = keeps_one regex
primary_step (Primary-F.Primary::Array left elements right) = keeps_one left then primary_elements left elements then keeps_one right
primary_step (Primary-F.Primary::Object left members right) = keeps_one left then keeps_listed _ _ _ (λ x. x.item.1 then keeps_opt_one x.comma) members then keeps_one right
primary_step (Primary-F.Primary::Func func) = keeps_within part.FunctionExpression refl (func.1)
primary_step (Primary-F.Primary::Class class) = keeps_within part.ClassExpression refl (class.1)
primary_step (Primary-F.Paren left expr right) = keeps_told is.Opens left refl then keeps_listed _ _ _ (λ x. x.item.1 then keeps_opt_one x.comma) expr.list then keeps_told is.Closes right refl

pub base_step : (y : BaseLayer) → Keeps (base_mapped (base_of y))
base_step (Base-F.Primary primary) = primary.1
base_step (Base-F.Super word) = keeps_one word
base_step (Base-F.New word callee None) = keeps_told is.New word refl then callee.1 then keeps_nothing
base_step (Base-F.New word callee (Some args)) = keeps_told is.New word refl then callee.1 then (keeps_one args.left then keeps_listed _ _ _ (λ x. ((keeps_opt_one x.item.spread then x.item.value.1) then keeps_opt_one x.comma)) args.list then keeps_one args.right)
base_step (Base-F.NewTarget word dot target) = keeps_one word then keeps_one dot then keeps_one target
base_step (Base-F.ImportMeta word dot meta) = keeps_told is.ImportMeta word refl then keeps_one dot then keeps_one meta
base_step (Base-F.Import word left request None comma right) = keeps_told is.ImportCall word refl then keeps_one left then request.1 then keeps_nothing then keeps_opt_one comma then keeps_one right
base_step (Base-F.Import word left request (Some second) comma right) = keeps_told is.ImportCall word refl then keeps_one left then request.1 then (keeps_one second.comma then second.value.1) then keeps_opt_one comma then keeps_one right
