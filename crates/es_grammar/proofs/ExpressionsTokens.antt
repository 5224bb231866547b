-- The tokens of expressions stand where their production does.
use Rattle.std.specs.Prelude.{ℕ, List, Option, Some, None, ◌∷◌}
use Rattle.es_tree.specs.declared.tokens.Token.{Token}
use Rattle.es_tree.specs.declared.tokens.Goal.{Goal}
use Rattle.es_tree.specs.declared.parts.Argument.{Argument}
use Rattle.es_tree.specs.declared.parts.SecondArgument.{SecondArgument}
use Rattle.es_tree.specs.declared.parts.Piece.{Piece}
use Rattle.es_tree.specs.declared.parts.Template.{Template}
use Rattle.es_tree.specs.declared.parts.ArgsOf.{ArgsOf}
use Rattle.es_tree.specs.declared.parts.SuffixOf.{SuffixOf}
use Rattle.es_tree.specs.declared.cycle.Assign.{Assign}
use Rattle.es_tree.specs.declared.cycle.LHS.{LHS}
use Rattle.es_tree.specs.declared.cycle.Member.{Member}
use Rattle.es_tree.specs.declared.cycle.Primary.{Primary}
use Rattle.es_tree.specs.declared.cycle.Base.{Base}
use Rattle.es_tree.specs.declared.cycle.Base.TheVariants as base_v
use Rattle.es_tree.specs.Yield.{one, opt, listed, argument_tokens, second_argument_tokens, piece_tokens, template_tokens, assign_tokens, lhs_tokens, member_tokens, primary_tokens, base_tokens, expr_tokens, args_tokens, suffix_tokens}
use Rattle.es_grammar.specs.declared.places.Context.{Context}
use Rattle.es_grammar.specs.Reading.{Bytes}
use Rattle.es_grammar.specs.declared.places.Stop.{Stop}
use Rattle.es_grammar.specs.Rules.{Rules}
use Rattle.es_grammar.specs.Expressions.{Expr, ExprAt, ClosedExprAt, PiecesAt, TemplateAt, ArgumentAt, ArgsAt, SuffixAt, MemberAt, PrimaryAt, SecondArgumentAt, CommaAt, BaseAt, ImportCallAt, LHSAt, CalleeAt, NewAt}
use Rattle.es_grammar.specs.Tokens.{TokensAt}
use Rattle.es_grammar.proofs.Laws.{member-Shorthand, member-Pair, member-Method, member-Spread, primary-This, primary-Name, primary-Literal, primary-Template, primary-Regex, primary-Array, primary-Object, primary-Func, primary-Class, primary-Paren, base-Primary, base-Super, base-New, base-NewTarget, base-ImportMeta, base-Import}
use Rattle.es_grammar.proofs.Rolled.{lhs_rolled}
use Rattle.es_grammar.proofs.Standing.{over, nothing, kind_at, mark_at, word_at, one_word_at, name_at, chain_stands, list_stands, ended_list_stands, elements_stand, ◌▹◌}
use Rattle.es_grammar.proofs.Tells.{Tells}
use Rattle.es_grammar.proofs.FunctionsTokens.{key_stands, func_stands, method_stands, class_stands}

pub expr_stands : {text : Bytes} {r : Rules} {c : Context} {p : ℕ} {x : Expr} {s : Stop} (t : Tells text r) → ExprAt text r c p x s
    → TokensAt text p (expr_tokens x) s.at
expr_stands t (ExprAt.expr xs h1) = ended_list_stands assign_tokens h1 (t.assign _)

pub closed_expr_stands : {text : Bytes} {r : Rules} {c : Context} {p : ℕ} {x : Expr} {q : ℕ} (t : Tells text r) → ClosedExprAt text r c p x q
    → TokensAt text p (expr_tokens x) q
closed_expr_stands t (ClosedExprAt.closed x h1 h2) = expr_stands t h1

pub pieces_stands : {text : Bytes} {r : Rules} {c : Context} {p : ℕ} {x : List (Piece Expr)} {q : ℕ} (t : Tells text r) → PiecesAt text r c p x q
    → TokensAt text p (listed (piece_tokens expr_tokens) x) q
pieces_stands t (PiecesAt.last x token h1 h2 h3) = closed_expr_stands t h1 ▹ kind_at h2.is ▹ nothing
pieces_stands t (PiecesAt.more x token xs h1 h2 h3 h4) = closed_expr_stands t h1 ▹ kind_at h2.is ▹ pieces_stands t h4

pub template_stands : {text : Bytes} {r : Rules} {c : Context} {goal : Goal} {p : ℕ} {x : Template Expr} {q : ℕ} (t : Tells text r)
    → TemplateAt text r c goal p x q → TokensAt text p (template_tokens expr_tokens x) q
template_stands t (TemplateAt.whole token h1 h2) = kind_at h1
template_stands t (TemplateAt.pieces token xs h1 h2 h3) = kind_at h1 ▹ pieces_stands t h3

pub argument_stands : {text : Bytes} {r : Rules} {c : Context} {p : ℕ} {x : Argument Assign} {q : ℕ} (t : Tells text r) → ArgumentAt text r c p x q
    → TokensAt text p (argument_tokens assign_tokens x) q
argument_stands t (ArgumentAt.plain x h1) = t.assign _ _ _ _ h1
argument_stands t (ArgumentAt.spread dots x h1 h2) = mark_at h1 ▹ t.assign _ _ _ _ h2

pub args_stands : {text : Bytes} {r : Rules} {c : Context} {p : ℕ} {x : ArgsOf Assign} {q : ℕ} (t : Tells text r) → ArgsAt text r c p x q
    → TokensAt text p (args_tokens x) q
args_stands t (ArgsAt.args left xs right h1 h2 h3) =
    mark_at h1 ▹ list_stands (argument_tokens assign_tokens) h2 (λ p x q h. argument_stands t h) ▹ mark_at h3

pub suffix_stands : {text : Bytes} {r : Rules} {c : Context} {p : ℕ} {x : SuffixOf Assign} {q : ℕ} (t : Tells text r) → SuffixAt text r c p x q
    → TokensAt text p (suffix_tokens x) q
suffix_stands t (SuffixAt.dot mark name h1 h2) = mark_at h1 ▹ kind_at h2
suffix_stands t (SuffixAt.private mark name h1 h2) = mark_at h1 ▹ kind_at h2
suffix_stands t (SuffixAt.index left x right h1 h2 h3) = mark_at h1 ▹ closed_expr_stands t h2 ▹ mark_at h3
suffix_stands t (SuffixAt.args x h1) = args_stands t h1
suffix_stands t (SuffixAt.template x h1) = template_stands t h1
suffix_stands t (SuffixAt.optional_dot mark name h1 h2) = mark_at h1 ▹ kind_at h2
suffix_stands t (SuffixAt.optional_private mark name h1 h2) = mark_at h1 ▹ kind_at h2
suffix_stands t (SuffixAt.optional_index mark left x right h1 h2 h3 h4) = mark_at h1 ▹ mark_at h2 ▹ closed_expr_stands t h3 ▹ mark_at h4
suffix_stands t (SuffixAt.optional_args mark x h1 h2) = mark_at h1 ▹ (args_stands t h2)

pub member_stands : {text : Bytes} {r : Rules} {c : Context} {p : ℕ} {x : Member} {q : ℕ} (t : Tells text r) → MemberAt text r c p x q
    → TokensAt text p (member_tokens x) q
member_stands t (MemberAt.shorthand token h1) = over (member-Shorthand token) (name_at h1)
member_stands t (MemberAt.pair x colon value h1 h2 h3) = over (member-Pair x colon value) (key_stands t h1 ▹ mark_at h2 ▹ t.assign _ _ _ _ h3)
member_stands t (MemberAt.method x h1) = over (member-Method x) (method_stands t h1 (λ p x q h. key_stands t h))
member_stands t (MemberAt.spread dots x h1 h2) = over (member-Spread dots x) (mark_at h1 ▹ t.assign _ _ _ _ h2)

pub primary_stands : {text : Bytes} {r : Rules} {c : Context} {p : ℕ} {x : Primary} {q : ℕ} (t : Tells text r) → PrimaryAt text r c p x q
    → TokensAt text p (primary_tokens x) q
primary_stands t (PrimaryAt.this token h1) = over (primary-This token) (word_at h1)
primary_stands t (PrimaryAt.name token h1) = over (primary-Name token) (name_at h1)
primary_stands t (PrimaryAt.word token h1) = over (primary-Literal token) (one_word_at h1)
primary_stands t (PrimaryAt.number token h1) = over (primary-Literal token) (kind_at h1)
primary_stands t (PrimaryAt.string token h1) = over (primary-Literal token) (kind_at h1)
primary_stands t (PrimaryAt.template x h1) = over (primary-Template x) (template_stands t h1)
primary_stands t (PrimaryAt.regex token h1) = over (primary-Regex token) (kind_at h1)
primary_stands t (PrimaryAt.array left xs right h1 h2 h3) =
    over (primary-Array left xs right) (mark_at h1 ▹ elements_stand (argument_tokens assign_tokens) h2 (λ p x q h. argument_stands t h) ▹ mark_at h3)
primary_stands t (PrimaryAt.object left xs right h1 h2 h3) =
    over (primary-Object left xs right) (mark_at h1 ▹ list_stands member_tokens h2 (λ p x q h. member_stands t h) ▹ mark_at h3)
primary_stands t (PrimaryAt.func x h1) = over (primary-Func x) (func_stands t h1)
primary_stands t (PrimaryAt.class x h1) = over (primary-Class x) (class_stands t h1)
primary_stands t (PrimaryAt.paren left x right h1 h2 h3) = over (primary-Paren left x right) (mark_at h1 ▹ closed_expr_stands t h2 ▹ mark_at h3)

pub second_argument_stands : {text : Bytes} {r : Rules} {c : Context} {p : ℕ} {x : Option (SecondArgument Assign)} {q : ℕ} (t : Tells text r)
    → SecondArgumentAt text r c p x q → TokensAt text p (opt (second_argument_tokens assign_tokens) x) q
second_argument_stands t SecondArgumentAt.none = nothing
second_argument_stands t (SecondArgumentAt.some comma x h1 h2) = mark_at h1 ▹ t.assign _ _ _ _ h2

pub comma_stands : {text : Bytes} {p : ℕ} {x : Option Token} {q : ℕ} → CommaAt text p x q → TokensAt text p (opt one x) q
comma_stands CommaAt.none = nothing
comma_stands (CommaAt.some comma h1) = mark_at h1

pub base_stands : {text : Bytes} {r : Rules} {c : Context} {p : ℕ} {x : Base} {q : ℕ} (t : Tells text r) → BaseAt text r c p x q
    → TokensAt text p (base_tokens x) q
base_stands t (BaseAt.primary x h1) = over (base-Primary x) (primary_stands t h1)
base_stands t (BaseAt.new x h1) = t.new _ _ _ _ h1
base_stands t (BaseAt.new_target word mark name h1 h2 h3) = over (base-NewTarget word mark name) (word_at h1 ▹ mark_at h2 ▹ word_at h3)
base_stands t (BaseAt.import_meta word mark name h1 h2 h3) = over (base-ImportMeta word mark name) (word_at h1 ▹ mark_at h2 ▹ word_at h3)

pub import_call_stands : {text : Bytes} {r : Rules} {c : Context} {p : ℕ} {x : Base} {q : ℕ} (t : Tells text r) → ImportCallAt text r c p x q
    → TokensAt text p (base_tokens x) q
import_call_stands t (ImportCallAt.call word left x second comma right h1 h2 h3 h4 h5 h6) =
    over (base-Import word left x second comma right) (word_at h1 ▹ mark_at h2 ▹ t.assign _ _ _ _ h3 ▹ second_argument_stands t h4 ▹ comma_stands h5
    ▹ mark_at h6)

pub lhs_stands : {text : Bytes} {r : Rules} {c : Context} {p : ℕ} {x : LHS} {q : ℕ} (t : Tells text r) → LHSAt text r c p x q
    → TokensAt text p (lhs_tokens x) q
lhs_stands t (LHSAt.base x xs h1 h2 h3) =
    over (lhs_rolled (record { base = x; suffixes = xs })) (base_stands t h1 ▹ chain_stands suffix_tokens h2 (λ p x q h. suffix_stands t h))
lhs_stands t (LHSAt.import_call x xs h1 h2 h3) =
    over (lhs_rolled (record { base = x; suffixes = xs })) (import_call_stands t h1 ▹ chain_stands suffix_tokens h2 (λ p x q h. suffix_stands t h))
lhs_stands t (LHSAt.super word x xs h1 h2 h3 h4) =
    over (lhs_rolled (record { base = base_v.Super word; suffixes = x ∷ xs })) (over (base-Super word) (word_at h1)
    ▹ chain_stands suffix_tokens h3 (λ p x q h. suffix_stands t h))

pub callee_stands : {text : Bytes} {r : Rules} {c : Context} {p : ℕ} {x : LHS} {q : ℕ} (t : Tells text r) → CalleeAt text r c p x q
    → TokensAt text p (lhs_tokens x) q
callee_stands t (CalleeAt.base x xs h1 h2 h3 h4) =
    over (lhs_rolled (record { base = x; suffixes = xs })) (base_stands t h1 ▹ chain_stands suffix_tokens h2 (λ p x q h. suffix_stands t h))
callee_stands t (CalleeAt.super word x xs h1 h2 h3 h4 h5) =
    over (lhs_rolled (record { base = base_v.Super word; suffixes = x ∷ xs })) (over (base-Super word) (word_at h1)
    ▹ chain_stands suffix_tokens h3 (λ p x q h. suffix_stands t h))

pub new_stands : {text : Bytes} {r : Rules} {c : Context} {p : ℕ} {x : Base} {q : ℕ} (t : Tells text r) → NewAt text r c p x q
    → TokensAt text p (base_tokens x) q
new_stands t (NewAt.with_args word x args h1 h2 h3) = over (base-New word x (Some args)) (word_at h1 ▹ callee_stands t h2 ▹ (args_stands t h3))
new_stands t (NewAt.without word x h1 h2 h3) = over (base-New word x None) (word_at h1 ▹ callee_stands t h2 ▹ nothing)
