-- What a derivation of a given text is put together from.
use Rattle.std.proofs.Common.{◌≡◌, ℕ, Bool, true, false, suc, List, Option, Ok, Err, Result, refl, sym, ap, subst, ◌∙◌}
use Rattle.std.specs.Prelude.{◌&&◌, codes, bytes_eq}
use Rattle.std.specs.List.{list_any}
use Rattle.es_tree.specs.Names.{name_of}
use Rattle.es_tree.specs.ReservedWords.{is_reserved}
use Rattle.std.proofs.lemmas.Slice.Eq.{bytes_eq-Decides}
use Rattle.es_tree.specs.declared.tokens.Token.{Token}
use Rattle.es_tree.specs.declared.tokens.TokenKind.{TokenKind}
use Rattle.es_tree.specs.declared.tokens.TokenKind.TheVariants as kind
use Rattle.es_tree.specs.declared.tokens.Goal.{Goal}
use Rattle.es_tree.specs.declared.tokens.Goal.TheVariants.{Operand as AtOperand}
use Rattle.es_tree.specs.declared.cycle.Arrow.{Arrow}
use Rattle.es_tree.specs.declared.cycle.Assign.{Assign}
use Rattle.es_tree.specs.declared.cycle.Base.{Base}
use Rattle.es_tree.specs.declared.cycle.Bind.{Bind}
use Rattle.es_tree.specs.declared.cycle.Case.{Case}
use Rattle.es_tree.specs.declared.cycle.Element.{Element}
use Rattle.es_tree.specs.declared.cycle.For.{For}
use Rattle.es_tree.specs.declared.cycle.Head.{Head}
use Rattle.es_tree.specs.declared.cycle.Init.{Init}
use Rattle.es_tree.specs.declared.cycle.Item.{Item}
use Rattle.es_tree.specs.declared.cycle.Member.{Member}
use Rattle.es_tree.specs.declared.cycle.Method.{Method}
use Rattle.es_tree.specs.declared.cycle.Operand.{Operand, out-Operand}
use Rattle.es_tree.specs.declared.cycle.Primary.{Primary}
use Rattle.es_tree.specs.declared.cycle.Stmt.{Stmt}
use Rattle.es_tree.specs.declared.cycle.Target.{Target}
use Rattle.es_tree.specs.declared.cycle.BindProperty.{BindProperty}
use Rattle.es_tree.specs.declared.cycle.Class.{Class}
use Rattle.es_tree.specs.declared.cycle.Cond.{Cond}
use Rattle.es_tree.specs.declared.cycle.Decl.{Decl}
use Rattle.es_tree.specs.declared.cycle.Func.{Func}
use Rattle.es_tree.specs.declared.cycle.LHS.{LHS}
use Rattle.es_tree.specs.declared.cycle.Params.{Params}
use Rattle.es_tree.specs.declared.cycle.TargetPart.{TargetPart}
use Rattle.es_tree.specs.declared.cycle.Arrow.TheOpen.{Operand-F}
use Rattle.es_tree.specs.declared.cycle.Operand.TheVariants as operand_v
use Rattle.es_tree.specs.declared.tokens.LexFault.{LexFault}
use Rattle.es_grammar.specs.declared.places.Context.{Context}
use Rattle.es_grammar.specs.Reading.{Bytes, spelled, IsAt, KindAt, MarkAt, OneOfMarksAt, OneOfWordsAt, WordAt, NameAt}
use Rattle.es_grammar.specs.declared.places.Stop.{Stop}
use Rattle.es_grammar.specs.Semicolons.{IsClosedItem}
use Rattle.es_grammar.specs.Parses.{rules_to}
use Rattle.es_grammar.specs.Operators.{AssignAt, PrefixedAt, IsPrivate, HasPrefix, FitsBetween}
use Rattle.es_grammar.specs.Expressions.{NewAt}
use Rattle.es_grammar.specs.Statements.{ItemAt, StmtAt, BeginsNoDeclaration}

-- one more that counts for the nest

pub item_up : {text : Bytes} {c : Context} {p : ℕ} {x : Item} {q : ℕ} (nest : ℕ) → ItemAt text (rules_to text nest) c p x q
    → (rules_to text (suc nest)).item c p x q
unfolding rules_to
item_up nest h = h

pub stmt_up : {text : Bytes} {c : Context} {p : ℕ} {x : Stmt} {q : ℕ} (nest : ℕ) → StmtAt text (rules_to text nest) c p x q
    → (rules_to text (suc nest)).stmt c p x q
unfolding rules_to
stmt_up nest h = h

pub assign_up : {text : Bytes} {c : Context} {p : ℕ} {x : Assign} {s : Stop} (nest : ℕ) → AssignAt text (rules_to text nest) c p x s
    → (rules_to text (suc nest)).assign c p x s
unfolding rules_to
assign_up nest h = h

pub new_up : {text : Bytes} {c : Context} {p : ℕ} {x : Base} {q : ℕ} (nest : ℕ) → NewAt text (rules_to text nest) c p x q
    → (rules_to text (suc nest)).new c p x q
unfolding rules_to
new_up nest h = h

pub prefixed_up : {text : Bytes} {c : Context} {p : ℕ} {x : Operand} {s : Stop} (nest : ℕ) → PrefixedAt text (rules_to text nest) c p x s
    → (rules_to text (suc nest)).prefixed c p x s
unfolding rules_to
prefixed_up nest h = h

-- tokens by their places

abbrev pub word : ℕ → ℕ → Token
word start end = record { kind = kind.IdName; start = start; end = end; newline = false }

abbrev pub mark : ℕ → ℕ → Token
mark start end = record { kind = kind.Punctuator; start = start; end = end; newline = false }

abbrev pub number : ℕ → ℕ → Token
number start end = record { kind = kind.Number; start = start; end = end; newline = false }

abbrev pub string : ℕ → ℕ → Token
string start end = record { kind = kind.String; start = start; end = end; newline = false }

abbrev pub piece : ℕ → ℕ → Token
piece start end = record { kind = kind.Template; start = start; end = end; newline = false }

abbrev pub regex : ℕ → ℕ → Token
regex start end = record { kind = kind.Regex; start = start; end = end; newline = false }

abbrev pub end_at : ℕ → Token
end_at place = record { kind = kind.End; start = place; end = place; newline = false }

-- the same on a new line
abbrev pub below : Token → Token
below token = record token { newline = true }

-- what a token that stands there is

pub kinded : {text : Bytes} {goal : Goal} {k : TokenKind} {p : ℕ} {token : Token} → IsAt text goal p token → token.kind ≡ k → KindAt text goal k p token
kinded a b = record { read = a; kind_is = b }

pub marked : {text : Bytes} {goal : Goal} {m : List ℕ} {p : ℕ} {token : Token} → IsAt text goal p token → token.kind ≡ kind.Punctuator → spelled text token ≡ m
    → MarkAt text goal m p token
marked a b c = record { is = kinded a b; spelled_as = c }

pub one_marked : {text : Bytes} {goal : Goal} {marks : List (List ℕ)} {p : ℕ} {token : Token} → IsAt text goal p token → token.kind ≡ kind.Punctuator
    → list_any (bytes_eq (spelled text token)) marks ≡ true → OneOfMarksAt text goal marks p token
one_marked a b c = record { is = kinded a b; among = c }

pub worded : {text : Bytes} {goal : Goal} {w : List ℕ} {p : ℕ} {token : Token} → IsAt text goal p token → token.kind ≡ kind.IdName → spelled text token ≡ w
    → WordAt text goal w p token
worded a b c = record { is = kinded a b; spelled_as = c }

pub one_worded : {text : Bytes} {goal : Goal} {words : List (List ℕ)} {p : ℕ} {token : Token} → IsAt text goal p token → token.kind ≡ kind.IdName
    → list_any (bytes_eq (spelled text token)) words ≡ true → OneOfWordsAt text goal words p token
one_worded a b c = record { is = kinded a b; among = c }

pub named : {text : Bytes} {goal : Goal} {c : Context} {p : ℕ} {token : Token} → IsAt text goal p token → token.kind ≡ kind.IdName
    → is_reserved (name_of (spelled text token)) c.goal ≡ false → NameAt text goal c p token
named a b free = record { is = kinded a b; free = free }

-- what a token that stands there is not

abbrev is_punctuator : TokenKind → Bool
is_punctuator kind.Punctuator = true
is_punctuator _ = false

abbrev is_word : TokenKind → Bool
is_word kind.IdName = true
is_word _ = false

abbrev pub reads_mark : Bytes → List ℕ → Token → Bool
reads_mark text mark token = is_punctuator token.kind && bytes_eq (spelled text token) mark

abbrev pub reads_word : Bytes → List ℕ → Token → Bool
reads_word text word token = is_word token.kind && bytes_eq (spelled text token) word

equal : (xs ys : List ℕ) → xs ≡ ys → bytes_eq xs ys ≡ true
equal xs ys e = (bytes_eq-Decides xs ys).1 e

mark_reads : {text : Bytes} {goal : Goal} {mark : List ℕ} {p : ℕ} {token : Token} → MarkAt text goal mark p token → reads_mark text mark token ≡ true
mark_reads {text} {goal} {mark} {p} {token} h = rw (h.is.kind_is, equal (spelled text token) mark h.spelled_as) refl

word_reads : {text : Bytes} {goal : Goal} {word : List ℕ} {p : ℕ} {token : Token} → WordAt text goal word p token → reads_word text word token ≡ true
word_reads {text} {goal} {word} {p} {token} h = rw (h.is.kind_is, equal (spelled text token) word h.spelled_as) refl

abbrev token_of : Token → Result Token LexFault → Token
token_of t (Ok u) = u
token_of t (Err fault) = t

pub same : (r : Result Token LexFault) (t u : Token) → r ≡ Ok t → r ≡ Ok u → t ≡ u
same r t u d e = ap (token_of t) (sym d ∙ e)

pub no_mark : {text : Bytes} {goal : Goal} {mark : List ℕ} {p : ℕ} (is : Token) → IsAt text goal p is → reads_mark text mark is ≡ false
    → (token : Token) → MarkAt text goal mark p token → ⊥
no_mark {text} {goal} {mark} {p} is at not token h =
    let here : is ≡ token = same _ is token at h.is.read in
    let reads : reads_mark text mark is ≡ true = subst (λ t. reads_mark text mark t ≡ true) (sym here) (mark_reads h) in
    absurd cc

pub no_word : {text : Bytes} {goal : Goal} {word : List ℕ} {p : ℕ} (is : Token) → IsAt text goal p is → reads_word text word is ≡ false
    → (token : Token) → WordAt text goal word p token → ⊥
no_word {text} {goal} {word} {p} is at not token h =
    let here : is ≡ token = same _ is token at h.is.read in
    let reads : reads_word text word is ≡ true = subst (λ t. reads_word text word t ≡ true) (sym here) (word_reads h) in
    absurd cc

abbrev pub is_template : TokenKind → Bool
is_template kind.Template = true
is_template _ = false

pub no_kind : {text : Bytes} {goal : Goal} {p : ℕ} (is : Token) → IsAt text goal p is → is_template is.kind ≡ false → (token : Token)
    → KindAt text goal kind.Template p token → ⊥
no_kind {text} {goal} {p} is at not token h =
    let here : is ≡ token = same _ is token at h.read in
    let k : is.kind ≡ kind.Template = subst (λ t. t.kind ≡ kind.Template) (sym here) h.kind_is in
    let reads : is_template is.kind ≡ true = ap is_template k in
    absurd cc

pub no_declaration : {text : Bytes} {p : ℕ} (is : Token) → IsAt text AtOperand p is → reads_word text (codes "function") is ≡ false
    → reads_word text (codes "class") is ≡ false
    → reads_word text (codes "async") is ≡ false → BeginsNoDeclaration text p
no_declaration is at a b c = record { no_function = no_word is at a; no_class = no_word is at b; no_async = λ h. no_word is at c h.word h.is_word }

pub closed_item : {text : Bytes} {p : ℕ} (is : Token) → IsAt text AtOperand p is → reads_word text (codes "else") is ≡ false
    → reads_word text (codes "catch") is ≡ false
    → reads_word text (codes "finally") is ≡ false → reads_mark text (codes ":") is ≡ false → IsClosedItem text p
closed_item is at a b c d = record { no_else = no_word is at a; no_catch = no_word is at b; no_finally = no_word is at c; no_colon = no_mark is at d }

-- operands in a list

abbrev Open : Type 0
Open =
    Operand-F Arrow Assign Base Bind Case Element For Head Init Item Member Method Operand Primary Stmt Target BindProperty Class Cond Decl Func LHS
    Params TargetPart

abbrev opens_private : Open → Bool
opens_private (Operand-F.Private name) = true
opens_private _ = false

abbrev opens_prefix : Open → Bool
opens_prefix (Operand-F.Prefix operator operand) = true
opens_prefix (Operand-F.Await word operand) = true
opens_prefix _ = false

private_opens : (x : Operand) → IsPrivate x → opens_private (out-Operand x) ≡ true
private_opens x (IsPrivate.private token) = ap opens_private (operand_v.outs-Private token)

prefix_opens : (x : Operand) → HasPrefix x → opens_prefix (out-Operand x) ≡ true
prefix_opens x (HasPrefix.prefix token y) = ap opens_prefix (operand_v.outs-Prefix token y)
prefix_opens x (HasPrefix.await token y) = ap opens_prefix (operand_v.outs-Await token y)

pub fits_plainly : (text : Bytes) (before : Option Token) (x : Operand) (behind : Option Token) → opens_private (out-Operand x) ≡ false
    → opens_prefix (out-Operand x) ≡ false → FitsBetween text before x behind
fits_plainly text before x behind a b = record {
  power = λ h token e. absurd (let o = prefix_opens x h in cc);
  private_before = λ h token e. absurd (let o = private_opens x h in cc);
  private_followed = λ h e. let o = private_opens x h in cc;
  private_behind = λ h token e. absurd (let o = private_opens x h in cc);
}

pub fits_lhs : {text : Bytes} {before behind : Option Token} (x : LHS) → FitsBetween text before (operand_v.LHS x) behind
fits_lhs {text} {before} {behind} x = fits_plainly text before _ behind (ap opens_private (operand_v.outs-LHS x)) (ap opens_prefix (operand_v.outs-LHS x))

pub fits_postfix : {text : Bytes} {before behind : Option Token} (x : Target) (token : Token) → FitsBetween text before (operand_v.Postfix x token) behind
fits_postfix {text} {before} {behind} x token =
    fits_plainly text before _ behind (ap opens_private (operand_v.outs-Postfix x token)) (ap opens_prefix (operand_v.outs-Postfix x token))

pub fits_update : {text : Bytes} {before behind : Option Token} (x : Target) (token : Token) → FitsBetween text before (operand_v.Update token x) behind
fits_update {text} {before} {behind} x token =
    fits_plainly text before _ behind (ap opens_private (operand_v.outs-Update token x)) (ap opens_prefix (operand_v.outs-Update token x))
