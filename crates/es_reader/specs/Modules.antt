-- Imports and exports, and the items of a program.
use Rattle.es_reader.specs.declared.pieces.Source.{Source}
use Rattle.es_reader.specs.declared.pieces.Tail.{Tail}
use Rattle.std.specs.Prelude.{ℕ, Bool, true, false, not, ◌&&◌, ◌||◌, List, [], ◌∷◌, Option, Some, None, codes, if◌then◌else◌}
use Rattle.std.specs.List.{list_all}
use Rattle.es_tree.specs.declared.tokens.Token.{Token}
use Rattle.es_tree.specs.declared.tokens.TokenKind.{TokenKind}
use Rattle.es_tree.specs.declared.tokens.TokenKind.TheVariants as kind
use Rattle.es_tree.specs.declared.tokens.Goal.{Goal}
use Rattle.es_tree.specs.declared.tokens.Goal.TheVariants.{Operand, Operator}
use Rattle.es_tree.specs.declared.tokens.ProgramGoal.{ProgramGoal}
use Rattle.es_tree.specs.declared.tokens.ProgramGoal.TheVariants.{Script, Module}
use Rattle.es_tree.specs.declared.parts.Separated.{Separated}
use Rattle.es_tree.specs.declared.cycle.Item.{Item}
use Rattle.es_tree.specs.declared.program.Attribute.{Attribute}
use Rattle.es_tree.specs.declared.program.Clause.{Clause}
use Rattle.es_tree.specs.declared.program.Clause.TheVariants as clause_v
use Rattle.es_tree.specs.declared.program.Export.{Export}
use Rattle.es_tree.specs.declared.program.Export.TheVariants as export_v
use Rattle.es_tree.specs.declared.program.ExportName.{ExportName}
use Rattle.es_tree.specs.declared.program.Import.{Import}
use Rattle.es_tree.specs.declared.program.Import.TheVariants as import_v
use Rattle.es_tree.specs.declared.program.ImportName.{ImportName}
use Rattle.es_tree.specs.declared.program.ImportName.TheVariants as import_name_v
use Rattle.es_tree.specs.declared.program.Named.{Named}
use Rattle.es_tree.specs.declared.program.Names.{Names}
use Rattle.es_tree.specs.declared.program.ProgramItem.{ProgramItem}
use Rattle.es_tree.specs.declared.program.ProgramItem.TheVariants as program_item_v
use Rattle.es_tree.specs.declared.program.Renamed.{Renamed}
use Rattle.es_tree.specs.declared.program.Space.{Space}
use Rattle.es_tree.specs.declared.program.With.{With}
use Rattle.es_grammar.specs.declared.places.Context.{Context}
use Rattle.es_grammar.specs.declared.places.Stop.{Stop}
use Rattle.es_grammar.specs.Reading.{Bytes}
use Rattle.es_grammar.specs.Semicolons.{stop, other, exported_names, request}
use Rattle.es_grammar.specs.Parses.{at_top}
use Rattle.es_reader.specs.Basics.{◌>>=◌, Reader, Ended, token, is_id_name, is_mark, is_one_mark, is_word, is_name, mark, word, name, take_if}
use Rattle.es_reader.specs.Loops.{all_turns}
use Rattle.es_reader.specs.Lists.{chain_turn, read_list_to}
use Rattle.es_reader.specs.Readers.{Readers}
use Rattle.es_reader.specs.Semis.{holds, read_semi}
use Rattle.es_reader.specs.Functions.{read_closed_item, read_func, read_class}
use Rattle.es_reader.specs.Statements.{begins_declaration, declaration_item, lex_behind, var_behind}

abbrev pub is_string_kind : TokenKind → Bool
is_string_kind kind.String = true
is_string_kind _ = false

abbrev pub is_string : Token → Bool
is_string t = is_string_kind t.kind

abbrev pub is_end_kind : TokenKind → Bool
is_end_kind kind.End = true
is_end_kind _ = false

abbrev pub is_end : Token → Bool
is_end t = is_end_kind t.kind

abbrev pub is_id : Token → Bool
is_id t = is_id_name t.kind

-- the text of a request
unfoldable pub string : Bytes → ℕ → Option Token
string text p = token text Operand p >>= take_if is_string

unfoldable pub id_name : Bytes → ℕ → Option Token
id_name text p = token text Operand p >>= take_if is_id

unfoldable pub end : Bytes → ℕ → Option Token
end text p = token text Operand p >>= take_if is_end

-- Space: `*` `as` Name, whose `*` was seen
unfoldable pub space_behind : Bytes → Context → Token → Option (Space × ℕ)
space_behind text c star = word text Operand (codes "as") star.end >>= λ u. name text Operand c u.end >>= λ n.
    Some (record { star = star; word = u; name = n }, n.end)

unfoldable pub renamed_import : Bytes → Context → Token → Token → Option (ImportName × ℕ)
renamed_import text c t u = name text Operand c u.end >>= λ n. Some (import_name_v.Renamed t u n, n.end)

unfoldable pub import_name_by : Bytes → Context → Token → Token → Option (ImportName × ℕ)
import_name_by text c t u =
    if is_word text (codes "as") u then renamed_import text c t u
    else (if is_name text c t then Some (import_name_v.Name t, t.end) else None)

-- Name | IdName `as` Name
unfoldable pub read_import_name : Bytes → Context → Reader ImportName
read_import_name text c p = id_name text p >>= λ t. token text Operand t.end >>= import_name_by text c t

unfoldable pub named_behind : Bytes → Context → Token → Option (Named × ℕ)
named_behind text c left = read_list_to text (codes "}") (read_import_name text c) left.end >>= λ xs.
    Some (record { left = left; list = xs.0; right = xs.1 }, xs.1.end)

unfoldable pub name_space : Bytes → Context → Token → Token → Token → Option (Clause × ℕ)
name_space text c t comma star = space_behind text c star >>= λ x. Some (clause_v.NameSpace t comma x.0, x.1)

unfoldable pub name_named : Bytes → Context → Token → Token → Token → Option (Clause × ℕ)
name_named text c t comma left = named_behind text c left >>= λ x. Some (clause_v.NameNamed t comma x.0, x.1)

unfoldable pub second_clause_by : Bytes → Context → Token → Token → Token → Option (Clause × ℕ)
second_clause_by text c t comma u =
    if is_mark text (codes "*") u then name_space text c t comma u
    else (if is_mark text (codes "{") u then name_named text c t comma u else None)

unfoldable pub second_clause : Bytes → Context → Token → Token → Option (Clause × ℕ)
second_clause text c t comma = token text Operand comma.end >>= second_clause_by text c t comma

unfoldable pub name_clause : Bytes → Context → Token → Option (Clause × ℕ)
name_clause text c t = token text Operator t.end >>= λ u. if is_mark text (codes ",") u then second_clause text c t u else Some (clause_v.Name t, t.end)

unfoldable pub space_clause : Bytes → Context → Token → Option (Clause × ℕ)
space_clause text c star = space_behind text c star >>= λ x. Some (clause_v.Space x.0, x.1)

unfoldable pub named_clause : Bytes → Context → Token → Option (Clause × ℕ)
named_clause text c left = named_behind text c left >>= λ x. Some (clause_v.Named x.0, x.1)

-- Clause, by its first token
unfoldable pub clause_by : Bytes → Context → Token → Option (Clause × ℕ)
clause_by text c t =
    if is_mark text (codes "*") t then space_clause text c t
    else (if is_mark text (codes "{") t then named_clause text c t
    else (if is_name text c t then name_clause text c t else None))

unfoldable pub attribute_behind : Bytes → Token → Option (Attribute × ℕ)
attribute_behind text t = mark text Operator (codes ":") t.end >>= λ colon. string text colon.end >>= λ value.
    Some (record { key = t; colon = colon; value = value }, value.end)

-- (IdName | String) `:` String
unfoldable pub read_attribute : Bytes → Reader Attribute
read_attribute text p = token text Operand p >>= λ t. if is_id t || is_string t then attribute_behind text t else None

unfoldable pub with_behind : Bytes → Token → Option (Option With × Stop)
with_behind text t = mark text Operand (codes "{") t.end >>= λ left. read_list_to text (codes "}") (read_attribute text) left.end >>= λ xs.
    Some (Some (record { word = t; left = left; list = xs.0; right = xs.1 }), stop xs.1.end other)

-- With? behind a request
unfoldable pub read_optional_with : Bytes → Ended (Option With)
read_optional_with text p = token text Operator p >>= λ t. if is_word text (codes "with") t then with_behind text t else Some (None, stop p request)

-- what stands behind the text of a request

unfoldable pub read_tail : Bytes → Reader Tail
read_tail text p = read_optional_with text p >>= λ x. read_semi text x.1 >>= λ s. Some (record { attributes = x.0; semi = s.0 }, s.1)

-- `from` String With? semi

unfoldable pub source_behind : Bytes → Token → Option (Source × ℕ)
source_behind text t = string text t.end >>= λ u. read_tail text u.end >>= λ x. Some (record { from_word = t; request = u; tail = x.0 }, x.1)

unfoldable pub read_source : Bytes → Goal → Reader Source
read_source text goal p = word text goal (codes "from") p >>= source_behind text

unfoldable pub bare_import : Bytes → Token → Token → Option (Import × ℕ)
bare_import text t u = read_tail text u.end >>= λ x. Some (import_v.Bare t u x.0.attributes x.0.semi, x.1)

unfoldable pub import_from : Bytes → Context → Token → Token → Option (Import × ℕ)
import_from text c t u = clause_by text c u >>= λ x. read_source text Operator x.1 >>= λ s.
    Some (import_v.From t x.0 s.0.from_word s.0.request s.0.tail.attributes s.0.tail.semi, s.1)

unfoldable pub import_by : Bytes → Context → Token → Token → Option (Import × ℕ)
import_by text c t u = if is_string u then bare_import text t u else import_from text c t u

-- Import
unfoldable pub read_import : Bytes → Context → Reader Import
read_import text c p = word text Operand (codes "import") p >>= λ t. token text Operand t.end >>= import_by text c t

unfoldable pub renamed_behind : Bytes → Token → Option (Option Renamed × ℕ)
renamed_behind text t = id_name text t.end >>= λ n. Some (Some (record { word = t; name = n }), n.end)

unfoldable pub read_renamed : Bytes → Reader (Option Renamed)
read_renamed text p = token text Operator p >>= λ t. if is_word text (codes "as") t then renamed_behind text t else Some (None, p)

-- IdName (`as` IdName)?
unfoldable pub read_export_name : Bytes → Reader ExportName
read_export_name text p = id_name text p >>= λ t. read_renamed text t.end >>= λ x. Some (record { name = t; renamed = x.0 }, x.1)

unfoldable pub names_behind : Bytes → Token → Option (Names × ℕ)
names_behind text left = read_list_to text (codes "}") (read_export_name text) left.end >>= λ xs.
    Some (record { left = left; list = xs.0; right = xs.1 }, xs.1.end)

-- the first words name what the module declares
abbrev pub are_local : Bytes → Context → List (Separated ExportName) → Bool
are_local text c xs = list_all (λ x. is_name text c x.item.name) xs

unfoldable pub export_from : Bytes → Token → Names → Token → Option (Export × ℕ)
export_from text t x u = source_behind text u >>= λ s.
    Some (export_v.From t x s.0.from_word s.0.request s.0.tail.attributes s.0.tail.semi, s.1)

unfoldable pub export_local : Bytes → Token → Names → ℕ → Option (Export × ℕ)
export_local text t x p = read_semi text (stop p exported_names) >>= λ s. Some (export_v.Names t x s.0, s.1)

unfoldable pub names_by : Bytes → Context → Token → Names → ℕ → Token → Option (Export × ℕ)
names_by text c t x p u =
    if is_word text (codes "from") u then export_from text t x u
    else (if are_local text c x.list then export_local text t x p else None)

unfoldable pub export_names : Bytes → Context → Token → Token → Option (Export × ℕ)
export_names text c t left = names_behind text left >>= λ x. token text Operator x.1 >>= names_by text c t x.0 x.1

unfoldable pub export_all : Bytes → Token → Token → Token → Option (Export × ℕ)
export_all text t star u = source_behind text u >>= λ s.
    Some (export_v.All t star s.0.from_word s.0.request s.0.tail.attributes s.0.tail.semi, s.1)

unfoldable pub export_space : Bytes → Token → Token → Token → Option (Export × ℕ)
export_space text t star u = id_name text u.end >>= λ n. read_source text Operator n.end >>= λ s.
    Some (export_v.Space t star u n s.0.from_word s.0.request s.0.tail.attributes s.0.tail.semi, s.1)

unfoldable pub export_star_by : Bytes → Token → Token → Token → Option (Export × ℕ)
export_star_by text t star u =
    if is_word text (codes "from") u then export_all text t star u
    else (if is_word text (codes "as") u then export_space text t star u else None)

unfoldable pub export_star : Bytes → Token → Token → Option (Export × ℕ)
export_star text t star = token text Operand star.end >>= export_star_by text t star

unfoldable pub export_var : Bytes → Readers → Context → Token → Token → Option (Export × ℕ)
export_var text r c t u = var_behind text r c u >>= λ x. Some (export_v.Var t x.0, x.1)

unfoldable pub export_lex : Bytes → Readers → Context → Bool → Token → Token → Option (Export × ℕ)
export_lex text r c is_const t u = lex_behind text r c is_const u >>= λ x. Some (export_v.Lex t x.0, x.1)

unfoldable pub export_func : Bytes → Readers → Context → Token → Option (Export × ℕ)
export_func text r c t = read_func text r c true t.end >>= λ x. Some (export_v.Func t x.0, x.1)

unfoldable pub export_class : Bytes → Readers → Context → Token → Option (Export × ℕ)
export_class text r c t = read_class text r c true t.end >>= λ x. Some (export_v.Class t x.0, x.1)

unfoldable pub default_func : Bytes → Readers → Context → Token → Token → Option (Export × ℕ)
default_func text r c t u = read_func text r c false u.end >>= λ x. Some (export_v.DefaultFunc t u x.0, x.1)

unfoldable pub default_class : Bytes → Readers → Context → Token → Token → Option (Export × ℕ)
default_class text r c t u = read_class text r c false u.end >>= λ x. Some (export_v.DefaultClass t u x.0, x.1)

unfoldable pub default_assign : Bytes → Readers → Context → Token → Token → Option (Export × ℕ)
default_assign text r c t u = r.assign c u.end >>= λ x. read_semi text x.1 >>= λ s. Some (export_v.Default t u x.0 s.0, s.1)

unfoldable pub default_by : Bytes → Readers → Context → Token → Token → Token → Option (Export × ℕ)
default_by text r c t u v =
    if is_word text (codes "class") v then default_class text r c t u
    else (if begins_declaration text v then default_func text r c t u else default_assign text r c t u)

unfoldable pub export_default : Bytes → Readers → Context → Token → Token → Option (Export × ℕ)
export_default text r c t u = token text Operand u.end >>= default_by text r c t u

unfoldable pub export_declaration : Bytes → Readers → Context → Token → Token → Option (Export × ℕ)
export_declaration text r c t u =
    if is_word text (codes "var") u then export_var text r c t u
    else (if is_word text (codes "let") u then export_lex text r c false t u
    else (if is_word text (codes "const") u then export_lex text r c true t u
    else (if is_word text (codes "class") u then export_class text r c t else export_func text r c t)))

unfoldable pub export_by : Bytes → Readers → Context → Token → Token → Option (Export × ℕ)
export_by text r c t u =
    if is_mark text (codes "*") u then export_star text t u
    else (if is_mark text (codes "{") u then export_names text c t u
    else (if is_word text (codes "default") u then export_default text r c t u else export_declaration text r c t u))

-- Export
unfoldable pub read_export : Bytes → Readers → Context → Reader Export
read_export text r c p = word text Operand (codes "export") p >>= λ t. token text Operand t.end >>= export_by text r c t

unfoldable pub plain_item : Bytes → Readers → Context → Reader ProgramItem
plain_item text r c p = read_closed_item text r c p >>= λ x. Some (program_item_v.Item x.0, x.1)

unfoldable pub import_item : Bytes → Context → Reader ProgramItem
import_item text c p = read_import text c p >>= λ x. Some (program_item_v.Import x.0, x.1)

unfoldable pub export_item : Bytes → Readers → Context → Reader ProgramItem
export_item text r c p = read_export text r c p >>= λ x. Some (program_item_v.Export x.0, x.1)

-- `import(` and `import.` begin an expression
abbrev pub begins_import_expr : Bytes → Token → Bool
begins_import_expr text t = is_one_mark text (codes "(" ∷ codes "." ∷ []) t

unfoldable pub begins_import : Bytes → Token → Bool
begins_import text t = is_word text (codes "import") t && not (holds (begins_import_expr text) (token text Operand t.end))

-- an item of a module
unfoldable pub read_module_item : Bytes → Readers → Context → Reader ProgramItem
read_module_item text r c p = token text Operand p >>= λ t.
    if begins_import text t then import_item text c p
    else (if is_word text (codes "export") t then export_item text r c p else plain_item text r c p)

abbrev pub read_program_item : Bytes → Readers → ProgramGoal → Reader ProgramItem
read_program_item text r Script = plain_item text r (at_top Script)
read_program_item text r Module = read_module_item text r (at_top Module)

-- the items of a program, up to its end
unfoldable pub read_items : Bytes → Readers → ProgramGoal → ℕ → Option (List ProgramItem × ℕ)
read_items text r goal p = all_turns text (chain_turn text is_end (read_program_item text r goal)) p

-- what `export default` takes that is a function or a class, its name optional
unfoldable pub read_default : Bytes → Readers → Context → Reader Item
read_default text r c p = token text Operand p >>= declaration_item text r c false p
