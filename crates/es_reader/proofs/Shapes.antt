-- What the first token tells of an operand, and where operands fit.
use Rattle.std.proofs.Common.{◌≡◌, ℕ, Bool, true, false, ◌||◌, List, Option, refl, ap, subst}
use Rattle.std.specs.Prelude.{codes}
use Rattle.es_tree.specs.declared.tokens.Token.{Token}
use Rattle.es_tree.specs.declared.tokens.TokenKind.{TokenKind}
use Rattle.es_tree.specs.declared.cycle.Arrow.{Arrow}
use Rattle.es_tree.specs.declared.cycle.Assign.{Assign}
use Rattle.es_tree.specs.declared.cycle.Base.{Base}
use Rattle.es_tree.specs.declared.cycle.Bind.{Bind}
use Rattle.es_tree.specs.declared.cycle.Case.{Case}
use Rattle.es_tree.specs.declared.cycle.Element.{Element}
use Rattle.es_tree.specs.declared.cycle.For.{For}
use Rattle.es_tree.specs.declared.cycle.Head.{Head}
use Rattle.es_tree.specs.declared.cycle.Init.{Init}
use Rattle.es_tree.specs.declared.cycle.Item.{Item}
use Rattle.es_tree.specs.declared.cycle.Member.{Member}
use Rattle.es_tree.specs.declared.cycle.Method.{Method}
use Rattle.es_tree.specs.declared.cycle.Operand.{Operand, out-Operand}
use Rattle.es_tree.specs.declared.cycle.Primary.{Primary}
use Rattle.es_tree.specs.declared.cycle.Stmt.{Stmt}
use Rattle.es_tree.specs.declared.cycle.Target.{Target}
use Rattle.es_tree.specs.declared.cycle.BindProperty.{BindProperty}
use Rattle.es_tree.specs.declared.cycle.Class.{Class}
use Rattle.es_tree.specs.declared.cycle.Cond.{Cond}
use Rattle.es_tree.specs.declared.cycle.Decl.{Decl}
use Rattle.es_tree.specs.declared.cycle.Func.{Func}
use Rattle.es_tree.specs.declared.cycle.LHS.{LHS}
use Rattle.es_tree.specs.declared.cycle.Params.{Params}
use Rattle.es_tree.specs.declared.cycle.TargetPart.{TargetPart}
use Rattle.es_tree.specs.declared.cycle.Arrow.TheOpen.{Operand-F}
use Rattle.es_tree.specs.declared.cycle.Operand.TheVariants as operand_v
use Rattle.es_grammar.specs.declared.places.Context.{Context}
use Rattle.es_grammar.specs.Reading.{Bytes}
use Rattle.es_grammar.specs.Operators.{FitsBetween, HasPrefix, IsPrivate, prefix_marks, prefix_words}
use Rattle.es_reader.specs.Basics.{is_id_name, is_one_mark, is_one_word, is_punctuator, is_word}
use Rattle.es_reader.specs.declared.pieces.Shape.{Shape}
use Rattle.es_reader.specs.Shapes.{is_await, is_private_kind, is_sign, shape_of}
use Rattle.es_reader.specs.Operators.{fits, is_loose, is_spelled}
use Rattle.es_reader.specs.Soundness.{HasShape}
use Rattle.es_reader.proofs.Steps.{both, first, id_name_is, is_false, one_of, punctuator_is, second}

abbrev Open : Type 0
Open =
    Operand-F Arrow Assign Base Bind Case Element For Head Init Item Member Method Operand Primary Stmt Target BindProperty Class Cond Decl Func LHS
    Params TargetPart

abbrev opens_private : Open → Bool
opens_private (Operand-F.Private name) = true
opens_private _ = false

abbrev opens_prefix : Open → Bool
opens_prefix (Operand-F.Prefix operator operand) = true
opens_prefix (Operand-F.Await word operand) = true
opens_prefix _ = false

private_opens : (x : Operand) → IsPrivate x → opens_private (out-Operand x) ≡ true
private_opens x (IsPrivate.private token) = ap opens_private (operand_v.outs-Private token)

prefix_opens : (x : Operand) → HasPrefix x → opens_prefix (out-Operand x) ≡ true
prefix_opens x (HasPrefix.prefix token y) = ap opens_prefix (operand_v.outs-Prefix token y)
prefix_opens x (HasPrefix.await token y) = ap opens_prefix (operand_v.outs-Await token y)

pub not_both : (b : Bool) → b ≡ true → b ≡ false → ⊥
not_both true e f = absurd cc
not_both false e f = absurd cc

no_private : (x : Operand) → opens_private (out-Operand x) ≡ false → IsPrivate x → ⊥
no_private x e h = not_both _ (private_opens x h) e

no_prefix : (x : Operand) → opens_prefix (out-Operand x) ≡ false → HasPrefix x → ⊥
no_prefix x e h = not_both _ (prefix_opens x h) e

any_shape : (x : Operand) → opens_private (out-Operand x) ≡ false → opens_prefix (out-Operand x) ≡ false → (shape : Shape) → HasShape shape x
any_shape x e f shape = record { prefix = λ h. absurd (no_prefix x f h); private = λ h. absurd (no_private x e h) }

pub lhs_shape : (x : LHS) (shape : Shape) → HasShape shape (operand_v.LHS x)
lhs_shape x shape = any_shape _ (ap opens_private (operand_v.outs-LHS x)) (ap opens_prefix (operand_v.outs-LHS x)) shape

pub postfix_shape : (x : Target) (t : Token) (shape : Shape) → HasShape shape (operand_v.Postfix x t)
postfix_shape x t shape = any_shape _ (ap opens_private (operand_v.outs-Postfix x t)) (ap opens_prefix (operand_v.outs-Postfix x t)) shape

pub update_shape : (x : Target) (t : Token) (shape : Shape) → HasShape shape (operand_v.Update t x)
update_shape x t shape = any_shape _ (ap opens_private (operand_v.outs-Update t x)) (ap opens_prefix (operand_v.outs-Update t x)) shape

pub prefix_shape : (t : Token) (x : Operand) → HasShape Shape.Signed (operand_v.Prefix t x)
prefix_shape t x = record { prefix = λ h. refl; private = λ h. absurd (no_private _ (ap opens_private (operand_v.outs-Prefix t x)) h) }

pub await_shape : (t : Token) (x : Operand) → HasShape Shape.Signed (operand_v.Await t x)
await_shape t x = record { prefix = λ h. refl; private = λ h. absurd (no_private _ (ap opens_private (operand_v.outs-Await t x)) h) }

pub private_shape : (t : Token) → HasShape Shape.Private (operand_v.Private t)
private_shape t = record { prefix = λ h. absurd (no_prefix _ (ap opens_prefix (operand_v.outs-Private t)) h); private = λ h. refl }

-- the shape that a token tells

word_is_public : (k : TokenKind) → is_id_name k ≡ true → is_private_kind k ≡ false
word_is_public k e = rw (id_name_is k e) refl

mark_is_public : (k : TokenKind) → is_punctuator k ≡ true → is_private_kind k ≡ false
mark_is_public k e = rw (punctuator_is k e) refl

one_word_is_public : (text : Bytes) (ws : List (List ℕ)) (t : Token) → is_one_word text ws t ≡ true → is_private_kind t.kind ≡ false
unfolding is_one_word
one_word_is_public text ws t e = word_is_public _ (both (is_id_name t.kind) _ e).0

one_mark_is_public : (text : Bytes) (ms : List (List ℕ)) (t : Token) → is_one_mark text ms t ≡ true → is_private_kind t.kind ≡ false
unfolding is_one_mark
one_mark_is_public text ms t e = mark_is_public _ (both (is_punctuator t.kind) _ e).0

sign_is_public : (text : Bytes) (t : Token) → is_sign text t ≡ true → is_private_kind t.kind ≡ false
unfolding is_sign
sign_is_public text t e = elim (one_of (is_one_word text prefix_words t) (is_one_mark text prefix_marks t) e) [
  | first h ↦ one_word_is_public text prefix_words t h
  | second h ↦ one_mark_is_public text prefix_marks t h
]

await_is_public : (text : Bytes) (c : Context) (t : Token) → is_await text c t ≡ true → is_private_kind t.kind ≡ false
unfolding is_await is_word
await_is_public text c t e = word_is_public _ (both (is_id_name t.kind) _ (both c.has_await (is_word text (codes "await") t) e).1).0

pub sign_shape : (text : Bytes) (c : Context) (t : Token) → is_sign text t ≡ true → shape_of text c t ≡ Shape.Signed
unfolding shape_of
sign_shape text c t e = rw (sign_is_public text t e, e) refl

signed_by_await : (b : Bool) (a : Bool) → a ≡ true → b || a ≡ true
signed_by_await true a e = refl
signed_by_await false a e = e

pub await_shape_of : (text : Bytes) (c : Context) (t : Token) → is_await text c t ≡ true → shape_of text c t ≡ Shape.Signed
unfolding shape_of
await_shape_of text c t e = rw (await_is_public text c t e, signed_by_await (is_sign text t) _ e) refl

pub private_shape_of : (text : Bytes) (c : Context) (t : Token) → is_private_kind t.kind ≡ true → shape_of text c t ≡ Shape.Private
unfolding shape_of
private_shape_of text c t e = rw e refl

-- where an operand fits

abbrev FitsAs : Bytes → Option Token → Option Token → Shape → Type 0
FitsAs text before behind shape = fits text before shape behind ≡ true

pub fits_sound : (text : Bytes) (before : Option Token) (shape : Shape) (behind : Option Token) → fits text before shape behind ≡ true → (x : Operand)
    → HasShape shape x → FitsBetween text before x behind
fits_sound text before shape behind e x k =
    let signed : HasPrefix x → is_spelled text (codes "**") behind ≡ false = λ h. is_false _ (subst (FitsAs text before behind) (k.prefix h) e) in
    let alone : IsPrivate x → (is_spelled text (codes "in") behind ≡ true) × (is_loose text before ≡ true) =
    λ h. both _ _ (subst (FitsAs text before behind) (k.private h) e) in
    record {
      power = λ h t f. subst (λ o. is_spelled text (codes "**") o ≡ false) f (signed h);
      private_before = λ h t f. subst (λ o. is_spelled text (codes "in") o ≡ true) f (alone h).0;
      private_followed = λ h f. not_both false (subst (λ o. is_spelled text (codes "in") o ≡ true) f (alone h).0) refl;
      private_behind = λ h t f. subst (λ o. is_loose text o ≡ true) f (alone h).1;
    }
