-- Expressions, up to what has a suffix.
use Rattle.es_reader.specs.declared.pieces.PartsOf.{PartsOf}
use Rattle.std.specs.Prelude.{ℕ, Bool, true, false, not, ◌&&◌, ◌||◌, List, [], ◌∷◌, Option, Some, None, codes, nat_eq, if◌then◌else◌}
use Rattle.std.specs.List.{starts_with}
use Rattle.es_tree.specs.declared.tokens.Token.{Token}
use Rattle.es_tree.specs.declared.tokens.TokenKind.{TokenKind}
use Rattle.es_tree.specs.declared.tokens.TokenKind.TheVariants as kind
use Rattle.es_tree.specs.declared.tokens.Goal.{Goal}
use Rattle.es_tree.specs.declared.tokens.Goal.TheVariants.{Operand as AtOperand, Operator as AtOperator, Template as AtTemplate}
use Rattle.es_tree.specs.declared.parts.Argument.{Argument}
use Rattle.es_tree.specs.declared.parts.SecondArgument.{SecondArgument}
use Rattle.es_tree.specs.declared.parts.Piece.{Piece}
use Rattle.es_tree.specs.declared.parts.Template.{Template}
use Rattle.es_tree.specs.declared.parts.ArgsOf.{ArgsOf}
use Rattle.es_tree.specs.declared.parts.SuffixOf.{SuffixOf}
use Rattle.es_tree.specs.declared.parts.SuffixOf.TheVariants as suffix_v
use Rattle.es_tree.specs.declared.parts.KeyOf.{KeyOf}
use Rattle.es_tree.specs.declared.cycle.Assign.{Assign}
use Rattle.es_tree.specs.declared.cycle.Member.{Member}
use Rattle.es_tree.specs.declared.cycle.Member.TheVariants as member_v
use Rattle.es_tree.specs.declared.cycle.Primary.{Primary}
use Rattle.es_tree.specs.declared.cycle.Primary.TheVariants as primary_v
use Rattle.es_tree.specs.declared.cycle.Base.{Base}
use Rattle.es_tree.specs.declared.cycle.Base.TheVariants as base_v
use Rattle.es_tree.specs.declared.cycle.LHS.{LHS, roll-LHS}
use Rattle.es_grammar.specs.declared.places.Context.{Context}
use Rattle.es_grammar.specs.Contexts.{bracketed}
use Rattle.es_grammar.specs.Reading.{Bytes, spelled}
use Rattle.es_grammar.specs.Expressions.{Expr, follows_super, has_plain_templates, literal_words, opens}
use Rattle.es_reader.specs.Basics.{◌>>=◌, Reader, Ended, token, is_mark, is_one_mark, is_word, is_one_word, is_name, mark, word}
use Rattle.es_reader.specs.declared.pieces.TurnOf.TheVariants.{Ended as ended}
use Rattle.es_reader.specs.declared.pieces.TurnOf.TheVariants.{Last as last}
use Rattle.es_reader.specs.declared.pieces.TurnOf.TheVariants.{More as more}
use Rattle.es_reader.specs.Loops.{Turn, all_turns}
use Rattle.es_reader.specs.Lists.{list_turn, elements_turn}
use Rattle.es_reader.specs.EndedLists.{read_ended_list}
use Rattle.es_reader.specs.Readers.{Readers}
use Rattle.es_reader.specs.Semis.{is_closed}
use Rattle.es_reader.specs.Functions.{begins_async_function, begins_method, method_behind, read_class, read_func, read_key, read_method}

-- Expr: Assign/,
unfoldable pub read_expr : Bytes → Readers → Context → Ended Expr
read_expr text r c p = read_ended_list text (r.assign c) p >>= λ xs. Some (record { list = xs.0 }, xs.1)

-- an Expr that the token behind it closes
unfoldable pub read_closed_expr : Bytes → Readers → Context → Reader Expr
read_closed_expr text r c p = read_expr text r c p >>= λ x. if is_closed text x.1 then Some (x.0, x.1.at) else None

abbrev pub is_template_kind : TokenKind → Bool
is_template_kind kind.Template = true
is_template_kind _ = false

-- a template token that goes on behind an expression
unfoldable pub is_piece : Bytes → Token → Bool
is_piece text t = is_template_kind t.kind && starts_with nat_eq (spelled text t) (codes "}")

abbrev pub piece : Expr → Token → Piece Expr
piece x t = record { expr = x; next = t }

abbrev pub piece_turn : Bytes → Expr → Token → Turn (Piece Expr)
piece_turn text x t = if opens text t then more (piece x t) t.end else last (piece x t) t.end

unfoldable pub piece_behind : Bytes → Expr → ℕ → Option (Turn (Piece Expr))
piece_behind text x p = token text AtTemplate p >>= λ t. if is_piece text t then Some (piece_turn text x t) else None

-- an expression of a template, with the template token behind it
unfoldable pub pieces_turn : Bytes → Readers → Context → ℕ → Option (Turn (Piece Expr))
pieces_turn text r c p = read_closed_expr text r (bracketed c) p >>= λ x. piece_behind text x.0 x.1

unfoldable pub pieces_behind : Bytes → Readers → Context → Token → Option (Template Expr × ℕ)
pieces_behind text r c t = all_turns text (pieces_turn text r c) t.end >>= λ xs. Some (record { head = t; more = xs.0 }, xs.1)

-- Template, whose first token was seen
unfoldable pub template_from : Bytes → Readers → Context → Token → Option (Template Expr × ℕ)
template_from text r c t = if opens text t then pieces_behind text r c t else Some (record { head = t; more = [] }, t.end)

unfoldable pub read_template : Bytes → Readers → Context → Goal → Reader (Template Expr)
read_template text r c goal p = token text goal p >>= λ t. if is_template_kind t.kind then template_from text r c t else None

abbrev pub argument : Option Token → Assign → Argument Assign
argument spread value = record { spread = spread; value = value }

unfoldable pub spread_argument : Readers → Context → Token → Option (Argument Assign × ℕ)
spread_argument r c dots = r.assign (bracketed c) dots.end >>= λ x. Some (argument (Some dots) x.0, x.1.at)

unfoldable pub plain_argument : Readers → Context → Reader (Argument Assign)
plain_argument r c p = r.assign (bracketed c) p >>= λ x. Some (argument None x.0, x.1.at)

-- `...`? Assign
unfoldable pub read_argument : Bytes → Readers → Context → Reader (Argument Assign)
read_argument text r c p = token text AtOperand p >>= λ t. if is_mark text (codes "...") t then spread_argument r c t else plain_argument r c p

unfoldable pub args_behind : Bytes → Readers → Context → Token → Option (ArgsOf Assign × ℕ)
args_behind text r c left = all_turns text (list_turn text (is_mark text (codes ")")) (read_argument text r c)) left.end >>= λ xs.
    mark text AtOperator (codes ")") xs.1 >>= λ right. Some (record { left = left; list = xs.0; right = right }, right.end)

-- Args
unfoldable pub read_args : Bytes → Readers → Context → Reader (ArgsOf Assign)
read_args text r c p = mark text AtOperator (codes "(") p >>= args_behind text r c

-- Suffixes, by the mark that they begin with

abbrev pub Suffix : Type 0
Suffix = SuffixOf Assign

abbrev pub dot_by : Token → Token → TokenKind → Option (Suffix × ℕ)
dot_by t u kind.IdName = Some (suffix_v.Dot t u, u.end)
dot_by t u kind.Private = Some (suffix_v.Private t u, u.end)
dot_by t u _ = None

unfoldable pub read_dot : Bytes → Token → Option (Suffix × ℕ)
read_dot text t = token text AtOperand t.end >>= λ u. dot_by t u u.kind

unfoldable pub read_index : Bytes → Readers → Context → Token → Option (Suffix × ℕ)
read_index text r c left = read_closed_expr text r (bracketed c) left.end >>= λ x. mark text AtOperator (codes "]") x.1 >>= λ right.
    Some (suffix_v.Index left x.0 right, right.end)

unfoldable pub template_suffix : Bytes → Readers → Context → Token → Option (Suffix × ℕ)
template_suffix text r c t = template_from text r c t >>= λ x. Some (suffix_v.Template x.0, x.1)

unfoldable pub args_suffix : Bytes → Readers → Context → Token → Option (Suffix × ℕ)
args_suffix text r c left = args_behind text r c left >>= λ x. Some (suffix_v.Args x.0, x.1)

unfoldable pub optional_index : Bytes → Readers → Context → Token → Token → Option (Suffix × ℕ)
optional_index text r c t left = read_closed_expr text r (bracketed c) left.end >>= λ x. mark text AtOperator (codes "]") x.1 >>= λ right.
    Some (suffix_v.OptionalIndex t left x.0 right, right.end)

unfoldable pub optional_args : Bytes → Readers → Context → Token → Option (Suffix × ℕ)
optional_args text r c t = read_args text r c t.end >>= λ x. Some (suffix_v.OptionalArgs t x.0, x.1)

abbrev pub optional_by : Bytes → Readers → Context → Token → Token → TokenKind → Option (Suffix × ℕ)
optional_by text r c t u kind.IdName = Some (suffix_v.OptionalDot t u, u.end)
optional_by text r c t u kind.Private = Some (suffix_v.OptionalPrivate t u, u.end)
optional_by text r c t u kind.Punctuator = if is_mark text (codes "[") u then optional_index text r c t u else optional_args text r c t
optional_by text r c t u _ = None

-- what stands behind `?.`
unfoldable pub read_optional : Bytes → Readers → Context → Token → Option (Suffix × ℕ)
read_optional text r c t = token text AtOperand t.end >>= λ u. optional_by text r c t u u.kind

-- it begins a suffix that the callee of `new` may have
unfoldable pub begins_member : Bytes → Token → Bool
begins_member text t = is_one_mark text (codes "." ∷ codes "[" ∷ []) t || is_template_kind t.kind

-- such a suffix, or none
unfoldable pub member_suffix : Bytes → Readers → Context → Token → Option (Suffix × ℕ)
member_suffix text r c t =
    if is_mark text (codes ".") t then read_dot text t
    else (if is_mark text (codes "[") t then read_index text r c t
    else (if is_template_kind t.kind then template_suffix text r c t else None))

-- it begins any other suffix
unfoldable pub begins_call : Bytes → Token → Bool
begins_call text t = is_one_mark text (codes "(" ∷ codes "?." ∷ []) t

unfoldable pub call_suffix : Bytes → Readers → Context → Token → Option (Suffix × ℕ)
call_suffix text r c t =
    if is_mark text (codes "(") t then args_suffix text r c t
    else (if is_mark text (codes "?.") t then read_optional text r c t else None)

unfoldable pub begins_suffix : Bytes → Token → Bool
begins_suffix text t = begins_member text t || begins_call text t

unfoldable pub suffix_from : Bytes → Readers → Context → Token → Option (Suffix × ℕ)
suffix_from text r c t = if begins_call text t then call_suffix text r c t else member_suffix text r c t

unfoldable pub next_suffix : Bytes → Readers → Context → Token → Option (Turn Suffix)
next_suffix text r c t = suffix_from text r c t >>= λ x. Some (more x.0 x.1)

unfoldable pub suffixes_turn : Bytes → Readers → Context → ℕ → Option (Turn Suffix)
suffixes_turn text r c p = token text AtOperator p >>= λ t. if begins_suffix text t then next_suffix text r c t else Some (ended p)

unfoldable pub next_member : Bytes → Readers → Context → Token → Option (Turn Suffix)
next_member text r c t = member_suffix text r c t >>= λ x. Some (more x.0 x.1)

unfoldable pub members_turn : Bytes → Readers → Context → ℕ → Option (Turn Suffix)
members_turn text r c p = token text AtOperator p >>= λ t. if begins_member text t then next_member text r c t else Some (ended p)

-- Members of objects

unfoldable pub spread_member : Readers → Context → Token → Option (Member × ℕ)
spread_member r c dots = r.assign (bracketed c) dots.end >>= λ x. Some (member_v.Spread dots x.0, x.1.at)

unfoldable pub method_member : Bytes → Readers → Context → Reader Member
method_member text r c p = read_method text r c (read_key text r c) p >>= λ x. Some (member_v.Method x.0, x.1)

unfoldable pub keyed_method : Bytes → Readers → Context → KeyOf Assign → Reader Member
keyed_method text r c k p = method_behind text r c None None k p >>= λ x. Some (member_v.Method x.0, x.1)

unfoldable pub pair_behind : Readers → Context → KeyOf Assign → Token → Option (Member × ℕ)
pair_behind r c k colon = r.assign (bracketed c) colon.end >>= λ x. Some (member_v.Pair k colon x.0, x.1.at)

-- by the first token, which may be a Name alone, and by the token behind the key
unfoldable pub member_by : Bytes → Readers → Context → Token → KeyOf Assign → ℕ → Token → Option (Member × ℕ)
member_by text r c t k p u =
    if is_mark text (codes ":") u then pair_behind r c k u
    else (if is_mark text (codes "(") u then keyed_method text r c k p
    else (if is_name text c t then Some (member_v.Shorthand t, t.end) else None))

unfoldable pub keyed_member : Bytes → Readers → Context → Token → Reader Member
keyed_member text r c t p = read_key text r c p >>= λ k. token text AtOperator k.1 >>= member_by text r c t k.0 k.1

-- a member of an object
unfoldable pub read_member : Bytes → Readers → Context → Reader Member
read_member text r c p = token text AtOperand p >>= λ t.
    if is_mark text (codes "...") t then spread_member r c t
    else (if begins_method text t then method_member text r c p else keyed_member text r c t p)

-- Primary, but for a Name

unfoldable pub read_array : Bytes → Readers → Context → Token → Option (Primary × ℕ)
read_array text r c left = all_turns text (elements_turn text (is_mark text (codes "]")) (read_argument text r c)) left.end >>= λ xs.
    mark text AtOperator (codes "]") xs.1 >>= λ right. Some (primary_v.Array left xs.0 right, right.end)

unfoldable pub read_object : Bytes → Readers → Context → Token → Option (Primary × ℕ)
read_object text r c left = all_turns text (list_turn text (is_mark text (codes "}")) (read_member text r c)) left.end >>= λ xs.
    mark text AtOperator (codes "}") xs.1 >>= λ right. Some (primary_v.Object left xs.0 right, right.end)

unfoldable pub read_paren : Bytes → Readers → Context → Token → Option (Primary × ℕ)
read_paren text r c left = read_closed_expr text r (bracketed c) left.end >>= λ x. mark text AtOperator (codes ")") x.1 >>= λ right.
    Some (primary_v.Paren left x.0 right, right.end)

unfoldable pub func_primary : Bytes → Readers → Context → Reader Primary
func_primary text r c p = read_func text r c false p >>= λ x. Some (primary_v.Func x.0, x.1)

unfoldable pub class_primary : Bytes → Readers → Context → Reader Primary
class_primary text r c p = read_class text r c false p >>= λ x. Some (primary_v.Class x.0, x.1)

unfoldable pub template_primary : Bytes → Readers → Context → Token → Option (Primary × ℕ)
template_primary text r c t = template_from text r c t >>= λ x. Some (primary_v.Template x.0, x.1)

unfoldable pub begins_function : Bytes → Token → Bool
begins_function text t = is_word text (codes "function") t || begins_async_function text t

unfoldable pub word_primary : Bytes → Readers → Context → ℕ → Token → Option (Primary × ℕ)
word_primary text r c p t =
    if begins_function text t then func_primary text r c p
    else (if is_word text (codes "this") t then Some (primary_v.This t, t.end)
    else (if is_one_word text literal_words t then Some (primary_v.Literal t, t.end)
    else (if is_word text (codes "class") t then class_primary text r c p else None)))

unfoldable pub mark_primary : Bytes → Readers → Context → Token → Option (Primary × ℕ)
mark_primary text r c t =
    if is_mark text (codes "(") t then read_paren text r c t
    else (if is_mark text (codes "[") t then read_array text r c t
    else (if is_mark text (codes "{") t then read_object text r c t else None))

abbrev pub primary_by : Bytes → Readers → Context → ℕ → Token → TokenKind → Option (Primary × ℕ)
primary_by text r c p t kind.IdName = word_primary text r c p t
primary_by text r c p t kind.Number = Some (primary_v.Literal t, t.end)
primary_by text r c p t kind.String = Some (primary_v.Literal t, t.end)
primary_by text r c p t kind.Template = template_primary text r c t
primary_by text r c p t kind.Regex = Some (primary_v.Regex t, t.end)
primary_by text r c p t kind.Punctuator = mark_primary text r c t
primary_by text r c p t _ = None

unfoldable pub primary_base : Bytes → Readers → Context → ℕ → Token → Option (Base × ℕ)
primary_base text r c p t = primary_by text r c p t t.kind >>= λ x. Some (base_v.Primary x.0, x.1)

-- What an LHS begins with

unfoldable pub new_target : Bytes → Token → Token → Option (Base × ℕ)
new_target text new dot = word text AtOperand (codes "target") dot.end >>= λ t. Some (base_v.NewTarget new dot t, t.end)

unfoldable pub new_base : Bytes → Readers → Context → ℕ → Token → Option (Base × ℕ)
new_base text r c p new = token text AtOperand new.end >>= λ u. if is_mark text (codes ".") u then new_target text new u else r.new c p

unfoldable pub import_meta : Bytes → Token → Token → Option (Base × ℕ)
import_meta text import dot = word text AtOperand (codes "meta") dot.end >>= λ t. Some (base_v.ImportMeta import dot t, t.end)

unfoldable pub meta_base : Bytes → Token → Option (Base × ℕ)
meta_base text import = mark text AtOperand (codes ".") import.end >>= import_meta text import

-- a base that is no Name, whose first token was seen
unfoldable pub base_from : Bytes → Readers → Context → ℕ → Token → Option (Base × ℕ)
base_from text r c p t =
    if is_word text (codes "new") t then new_base text r c p t
    else (if is_word text (codes "import") t then meta_base text t else primary_base text r c p t)

abbrev pub Second : Type 0
Second = Option (SecondArgument Assign)

unfoldable pub import_closed : Bytes → Token → Token → Assign → Second → Option Token → ℕ → Option (Base × ℕ)
import_closed text import left x second comma p = mark text AtOperator (codes ")") p >>= λ right.
    Some (base_v.Import import left x second comma right, right.end)

abbrev pub second_argument : Token → Assign → SecondArgument Assign
second_argument comma x = record { comma = comma; value = x }

-- a comma, if it is there
unfoldable pub read_comma : Bytes → Reader (Option Token)
read_comma text p = token text AtOperator p >>= λ t. if is_mark text (codes ",") t then Some (Some t, t.end) else Some (None, p)

unfoldable pub import_second : Bytes → Readers → Context → Token → Token → Assign → Token → Option (Base × ℕ)
import_second text r c import left x comma = r.assign (bracketed c) comma.end >>= λ y. read_comma text y.1.at >>= λ z.
    import_closed text import left x (Some (second_argument comma y.0)) z.0 z.1

-- behind the comma that follows the first argument
unfoldable pub import_comma : Bytes → Readers → Context → Token → Token → Assign → Token → Option (Base × ℕ)
import_comma text r c import left x comma = token text AtOperand comma.end >>= λ t.
    if is_mark text (codes ")") t then import_closed text import left x None (Some comma) comma.end else import_second text r c import left x comma

unfoldable pub import_first : Bytes → Readers → Context → Token → Token → Assign → ℕ → Option (Base × ℕ)
import_first text r c import left x p = token text AtOperator p >>= λ t.
    if is_mark text (codes ",") t then import_comma text r c import left x t else import_closed text import left x None None p

unfoldable pub import_call : Bytes → Readers → Context → Token → Token → Option (Base × ℕ)
import_call text r c import left = r.assign (bracketed c) left.end >>= λ x. import_first text r c import left x.0 x.1.at

unfoldable pub import_base : Bytes → Readers → Context → Token → Option (Base × ℕ)
import_base text r c import = token text AtOperand import.end >>= λ u.
    if is_mark text (codes "(") u then import_call text r c import u else meta_base text import

-- The parts of an LHS

abbrev pub Parts : Type 0
Parts = PartsOf Base (List Suffix)

abbrev pub parts : Base → Option Token → List Suffix → Parts
parts base name suffixes = record { base = base; name = name; suffixes = suffixes }

abbrev pub lhs : Base → List Suffix → LHS
lhs base suffixes = roll-LHS (record { base = base; suffixes = suffixes })

abbrev pub lhs_of : Parts → LHS
lhs_of x = lhs x.base x.suffixes

abbrev pub name_base : Token → Base
name_base t = base_v.Primary (primary_v.Name t)

-- a Name that doesn't begin a function
unfoldable pub begins_with_name : Bytes → Context → Token → Bool
begins_with_name text c t = is_name text c t && not (begins_async_function text t)

-- the first suffix behind `super`
abbrev pub follow_super : List Suffix → Bool
follow_super [] = false
follow_super (x ∷ xs) = follows_super x

unfoldable pub parts_behind : Bytes → Readers → Context → Base → Option Token → Reader Parts
parts_behind text r c x name p = all_turns text (suffixes_turn text r c) p >>= λ xs.
    if has_plain_templates xs.0 then Some (parts x name xs.0, xs.1) else None

unfoldable pub super_parts : Bytes → Readers → Context → Token → Option (Parts × ℕ)
super_parts text r c t = all_turns text (suffixes_turn text r c) t.end >>= λ xs.
    if follow_super xs.0 && has_plain_templates xs.0 then Some (parts (base_v.Super t) None xs.0, xs.1) else None

unfoldable pub import_parts : Bytes → Readers → Context → Token → Option (Parts × ℕ)
import_parts text r c t = import_base text r c t >>= λ x. parts_behind text r c x.0 None x.1

unfoldable pub other_parts : Bytes → Readers → Context → ℕ → Token → Option (Parts × ℕ)
other_parts text r c p t = base_from text r c p t >>= λ x. parts_behind text r c x.0 None x.1

-- by the first token
unfoldable pub parts_from : Bytes → Readers → Context → ℕ → Token → Option (Parts × ℕ)
parts_from text r c p t =
    if begins_with_name text c t then parts_behind text r c (name_base t) (Some t) t.end
    else (if is_word text (codes "super") t then super_parts text r c t
    else (if is_word text (codes "import") t then import_parts text r c t else other_parts text r c p t))

unfoldable pub read_parts : Bytes → Readers → Context → Reader Parts
read_parts text r c p = token text AtOperand p >>= parts_from text r c p

-- LHS: a base and suffixes
unfoldable pub read_lhs : Bytes → Readers → Context → Reader LHS
read_lhs text r c p = read_parts text r c p >>= λ x. Some (lhs_of x.0, x.1)

-- `new`

unfoldable pub callee_behind : Bytes → Readers → Context → Base → Reader LHS
callee_behind text r c x p = all_turns text (members_turn text r c) p >>= λ xs. Some (lhs x xs.0, xs.1)

unfoldable pub super_callee : Bytes → Readers → Context → Token → Option (LHS × ℕ)
super_callee text r c t = all_turns text (members_turn text r c) t.end >>= λ xs.
    if follow_super xs.0 then Some (lhs (base_v.Super t) xs.0, xs.1) else None

unfoldable pub other_callee : Bytes → Readers → Context → ℕ → Token → Option (LHS × ℕ)
other_callee text r c p t = base_from text r c p t >>= λ x. callee_behind text r c x.0 x.1

unfoldable pub callee_from : Bytes → Readers → Context → ℕ → Token → Option (LHS × ℕ)
callee_from text r c p t =
    if begins_with_name text c t then callee_behind text r c (name_base t) t.end
    else (if is_word text (codes "super") t then super_callee text r c t else other_callee text r c p t)

-- the callee of `new`
unfoldable pub read_callee : Bytes → Readers → Context → Reader LHS
read_callee text r c p = token text AtOperand p >>= callee_from text r c p

unfoldable pub new_with_args : Bytes → Readers → Context → Token → LHS → Token → Option (Base × ℕ)
new_with_args text r c new x left = args_behind text r c left >>= λ y. Some (base_v.New new x (Some y.0), y.1)

unfoldable pub new_behind : Bytes → Readers → Context → Token → LHS → Reader Base
new_behind text r c new x p = token text AtOperator p >>= λ t.
    if is_mark text (codes "(") t then new_with_args text r c new x t else Some (base_v.New new x None, p)

-- `new` Callee Args?
unfoldable pub read_new : Bytes → Readers → Context → Reader Base
read_new text r c p = word text AtOperand (codes "new") p >>= λ new. read_callee text r c new.end >>= λ x. new_behind text r c new x.0 x.1
