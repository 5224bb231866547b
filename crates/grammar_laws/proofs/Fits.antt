-- What a derivation is put together from: operands in a list, a function without a name, and what nests.
use Rattle.std.proofs.Common.{◌≡◌, ℕ, suc, Bool, true, false, Option, None, Some, refl, ap, subst}
use Rattle.std.specs.Prelude.{codes, bytes_eq}
use Rattle.es_tree.specs.declared.tokens.Token.{Token}
use Rattle.es_tree.specs.declared.cycle.Arrow.{Arrow}
use Rattle.es_tree.specs.declared.cycle.Assign.{Assign}
use Rattle.es_tree.specs.declared.cycle.Base.{Base}
use Rattle.es_tree.specs.declared.cycle.Bind.{Bind}
use Rattle.es_tree.specs.declared.cycle.Case.{Case}
use Rattle.es_tree.specs.declared.cycle.Element.{Element}
use Rattle.es_tree.specs.declared.cycle.For.{For}
use Rattle.es_tree.specs.declared.cycle.Head.{Head}
use Rattle.es_tree.specs.declared.cycle.Init.{Init}
use Rattle.es_tree.specs.declared.cycle.Item.{Item}
use Rattle.es_tree.specs.declared.cycle.Member.{Member}
use Rattle.es_tree.specs.declared.cycle.Method.{Method}
use Rattle.es_tree.specs.declared.cycle.Operand.{Operand, out-Operand}
use Rattle.es_tree.specs.declared.cycle.Primary.{Primary}
use Rattle.es_tree.specs.declared.cycle.Stmt.{Stmt}
use Rattle.es_tree.specs.declared.cycle.Target.{Target}
use Rattle.es_tree.specs.declared.cycle.BindProperty.{BindProperty}
use Rattle.es_tree.specs.declared.cycle.Class.{Class}
use Rattle.es_tree.specs.declared.cycle.Cond.{Cond}
use Rattle.es_tree.specs.declared.cycle.Decl.{Decl}
use Rattle.es_tree.specs.declared.cycle.Func.{Func}
use Rattle.es_tree.specs.declared.cycle.LHS.{LHS}
use Rattle.es_tree.specs.declared.cycle.Params.{Params}
use Rattle.es_tree.specs.declared.cycle.TargetPart.{TargetPart}
use Rattle.es_tree.specs.declared.cycle.Arrow.TheOpen.{Operand-F}
use Rattle.es_tree.specs.declared.cycle.Operand.TheVariants as operand_v
use Rattle.es_grammar.specs.declared.places.Context.{Context}
use Rattle.es_grammar.specs.Reading.{Bytes, spelled}
use Rattle.es_grammar.specs.Functions.{BindPatternAt}
use Rattle.es_grammar.specs.Expressions.{LHSAt}
use Rattle.es_grammar.specs.Targets.{TargetPatternAt}
use Rattle.es_grammar.specs.Parses.{rules_to}
use Rattle.es_grammar.specs.Operators.{HasPrefix, IsPrivate, FitsBetween}

abbrev Open : Type 0
Open =
    Operand-F Arrow Assign Base Bind Case Element For Head Init Item Member Method Operand Primary Stmt Target BindProperty Class Cond Decl Func LHS
    Params TargetPart

abbrev opens_private : Open → Bool
opens_private (Operand-F.Private name) = true
opens_private _ = false

private_opens : (x : Operand) → IsPrivate x → opens_private (out-Operand x) ≡ true
private_opens x (IsPrivate.private token) = ap opens_private (operand_v.outs-Private token)

await_is_no_private : (token : Token) (x : Operand) → IsPrivate (operand_v.Await token x) → ⊥
await_is_no_private token x h =
    let yes : opens_private (out-Operand (operand_v.Await token x)) ≡ true = private_opens _ h in
    let no : opens_private (out-Operand (operand_v.Await token x)) ≡ false = ap opens_private (operand_v.outs-Await token x) in
    absurd cc

none_is_none : (o : Option Token) (token : Token) → o ≡ None → o ≡ Some token → ⊥
none_is_none o token n e = absurd cc

-- behind it stands no operator, and before it none
pub fits_await : {text : Bytes} (token : Token) (x : Operand) → FitsBetween text None (operand_v.Await token x) None
fits_await {text} token x = record {
  power = λ h t e. absurd (none_is_none None t refl e);
  private_before = λ h t e. absurd (await_is_no_private token x h);
  private_followed = λ h e. await_is_no_private token x h;
  private_behind = λ h t e. absurd (await_is_no_private token x h);
}

-- a function whose name may be left out
pub unnamed : {b : Bool} → false ≡ true → b ≡ true
unnamed {b} h = absurd cc

abbrev opens_prefix : Open → Bool
opens_prefix (Operand-F.Prefix operator operand) = true
opens_prefix (Operand-F.Await word operand) = true
opens_prefix _ = false

prefix_opens : (x : Operand) → HasPrefix x → opens_prefix (out-Operand x) ≡ true
prefix_opens x (HasPrefix.prefix token y) = ap opens_prefix (operand_v.outs-Prefix token y)
prefix_opens x (HasPrefix.await token y) = ap opens_prefix (operand_v.outs-Await token y)

prefix_is_no_private : (token : Token) (x : Operand) → IsPrivate (operand_v.Prefix token x) → ⊥
prefix_is_no_private token x h =
    let yes : opens_private (out-Operand (operand_v.Prefix token x)) ≡ true = private_opens _ h in
    let no : opens_private (out-Operand (operand_v.Prefix token x)) ≡ false = ap opens_private (operand_v.outs-Prefix token x) in
    absurd cc

private_has_no_prefix : (token : Token) → HasPrefix (operand_v.Private token) → ⊥
private_has_no_prefix token h =
    let yes : opens_prefix (out-Operand (operand_v.Private token)) ≡ true = prefix_opens _ h in
    let no : opens_prefix (out-Operand (operand_v.Private token)) ≡ false = ap opens_prefix (operand_v.outs-Private token) in
    absurd cc

abbrev token_in : Token → Option Token → Token
token_in token (Some x) = x
token_in token None = token

-- the same with another prefix
pub fits_prefix : {text : Bytes} {before : Option Token} (token : Token) (x : Operand) → FitsBetween text before (operand_v.Prefix token x) None
fits_prefix {text} {before} token x = record {
  power = λ h t e. absurd (none_is_none None t refl e);
  private_before = λ h t e. absurd (prefix_is_no_private token x h);
  private_followed = λ h e. prefix_is_no_private token x h;
  private_behind = λ h t e. absurd (prefix_is_no_private token x h);
}

-- behind it stands an operator that isn't `**`
pub fits_prefix_before : {text : Bytes} {before : Option Token} (token : Token) (x : Operand) (op : Token)
    → bytes_eq (spelled text op) (codes "**") ≡ false → FitsBetween text before (operand_v.Prefix token x) (Some op)
fits_prefix_before {text} {before} token x op not_power = record {
  power = λ h t e. subst (λ u. bytes_eq (spelled text u) (codes "**") ≡ false) (ap (token_in op) e) not_power;
  private_before = λ h t e. absurd (prefix_is_no_private token x h);
  private_followed = λ h e. prefix_is_no_private token x h;
  private_behind = λ h t e. absurd (prefix_is_no_private token x h);
}

-- a private name that is the first of a list, before `in`
pub fits_private : {text : Bytes} (token op : Token) → bytes_eq (spelled text op) (codes "in") ≡ true
    → FitsBetween text None (operand_v.Private token) (Some op)
fits_private {text} token op is_in = record {
  power = λ h t e. absurd (private_has_no_prefix token h);
  private_before = λ h t e. subst (λ u. bytes_eq (spelled text u) (codes "in") ≡ true) (ap (token_in op) e) is_in;
  private_followed = λ h e. none_is_none (Some op) op e refl;
  private_behind = λ h t e. absurd (none_is_none None t refl e);
}

-- one more that counts for the nest

pub bind_up : {text : Bytes} {c : Context} {p : ℕ} {x : Bind} {q : ℕ} (nest : ℕ) → BindPatternAt text (rules_to text nest) c p x q
    → (rules_to text (suc nest)).bind_pattern c p x q
unfolding rules_to
bind_up nest h = h

pub target_up : {text : Bytes} {c : Context} {p : ℕ} {x : Target} {q : ℕ} (nest : ℕ) → TargetPatternAt text (rules_to text nest) c p x q
    → (rules_to text (suc nest)).target_pattern c p x q
unfolding rules_to
target_up nest h = h

pub extended_up : {text : Bytes} {c : Context} {p : ℕ} {x : LHS} {q : ℕ} (nest : ℕ) → LHSAt text (rules_to text nest) c p x q
    → (rules_to text (suc nest)).extended c p x q
unfolding rules_to
extended_up nest h = h
