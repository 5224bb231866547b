-- Imports and exports, and the items of a program.
use Rattle.std.specs.Prelude.{ℕ, Bool, true, false, ◌&&◌, ◌||◌, Some, None, codes, if◌then◌else◌}
use Rattle.es_tree.specs.declared.tokens.Token.{Token}
use Rattle.es_tree.specs.declared.tokens.Goal.{Goal}
use Rattle.es_tree.specs.declared.tokens.Goal.TheVariants.{Operand, Operator}
use Rattle.es_tree.specs.declared.tokens.ProgramGoal.{ProgramGoal}
use Rattle.es_tree.specs.declared.tokens.ProgramGoal.TheVariants.{Script, Module}
use Rattle.es_grammar.specs.declared.places.Context.{Context}
use Rattle.es_grammar.specs.declared.places.Stop.{Stop}
use Rattle.es_grammar.specs.Reading.{Bytes}
use Rattle.es_grammar.specs.Semicolons.{stop, other, exported_names, request}
use Rattle.es_grammar.specs.Parses.{at_top}
use Rattle.es_outline.specs.declared.mark.Mark.TheVariants as mark_v
use Rattle.es_outline.specs.declared.mark.Part.{Part}
use Rattle.es_outline.specs.declared.mark.Part.TheVariants as part
use Rattle.es_outline.specs.declared.mark.Role.TheVariants as is
use Rattle.es_outline.specs.Outline.{Marks, begin, end, one, put, semicolon, told}
use Rattle.es_reader.specs.Basics.{◌>>=◌, is_mark, is_name, is_word, mark, name, token, word}
use Rattle.es_reader.specs.Modules.{begins_import, id_name, is_end, is_id, is_string, string}
use Rattle.es_reader.specs.Semis.{read_semi}
use Rattle.es_reader.specs.Statements.{begins_declaration}
use Rattle.es_trace.specs.Basics.{Traced, Tracer, Ended}
use Rattle.es_trace.specs.Functions.{trace_class, trace_closed_item, trace_func}
use Rattle.es_trace.specs.Lists.{chain_turn, first_at, list_turn}
use Rattle.es_trace.specs.Loops.{Turning, all_turns}
use Rattle.es_trace.specs.Statements.{declaration_item, lex_behind, var_behind}
use Rattle.es_trace.specs.Tracers.{Tracers}
use Rattle.es_trace.specs.declared.pieces.Turn.{Turn}
use Rattle.es_trace.specs.declared.pieces.Turn.TheVariants.{Ended as ended, More as more}
use Rattle.es_trace.specs.declared.pieces_modules.NamesListed.{NamesListed}

-- Space: `*` `as` Name, whose `*` was seen
unfoldable pub space_behind : Bytes → Context → Marks → Token → Traced ℕ
space_behind text c marks star = word text Operand (codes "as") star.end >>= λ u. name text Operand c u.end >>= λ n.
    Some (told is.ImportedSpace n (one u (one star marks)), n.end)

unfoldable pub renamed_import : Bytes → Context → Marks → Token → Token → Traced ℕ
renamed_import text c marks t u = name text Operand c u.end >>= λ n. Some (told is.Imported n (one u (told is.Outer t marks)), n.end)

-- by the token behind the name
unfoldable pub import_name_by : Bytes → Context → Marks → Token → Token → Traced ℕ
import_name_by text c marks t u =
    if is_word text (codes "as") u then renamed_import text c marks t u
    else (if is_name text c t then Some (told is.Imported t (put mark_v.Shorthand marks), t.end) else None)

-- Name | IdName `as` Name
unfoldable pub trace_import_name : Bytes → Context → Tracer
trace_import_name text c marks p = id_name text p >>= λ t. token text Operand t.end >>= import_name_by text c marks t

-- names that are imported, and `}`; `{` was seen
unfoldable pub named_behind : Bytes → Context → Marks → Token → Traced ℕ
named_behind text c marks left =
    all_turns text (list_turn text (is_mark text (codes "}")) (trace_import_name text c)) (one left marks) (first_at left.end) >>= λ xs.
    mark text Operator (codes "}") xs.1.at >>= λ right. Some (one right xs.0, right.end)

-- a Space or Named, by its first token, which isn't in the marks
unfoldable pub second_clause_by : Bytes → Context → Marks → Token → Traced ℕ
second_clause_by text c marks u =
    if is_mark text (codes "*") u then space_behind text c marks u
    else (if is_mark text (codes "{") u then named_behind text c marks u else None)

-- the same behind a Name and a comma, which was seen
unfoldable pub second_clause : Bytes → Context → Marks → Token → Traced ℕ
second_clause text c marks comma = token text Operand comma.end >>= second_clause_by text c (one comma marks)

-- a Clause that begins with a Name, which is in the marks
unfoldable pub name_clause : Bytes → Context → Marks → ℕ → Traced ℕ
name_clause text c marks p = token text Operator p >>= λ u. if is_mark text (codes ",") u then second_clause text c marks u else Some (marks, p)

-- Clause, by its first token
unfoldable pub clause_by : Bytes → Context → Marks → Token → Traced ℕ
clause_by text c marks t =
    if is_mark text (codes "*") t then space_behind text c marks t
    else (if is_mark text (codes "{") t then named_behind text c marks t
    else (if is_name text c t then name_clause text c (told is.ImportedDefault t marks) t.end else None))

unfoldable pub attribute_behind : Bytes → Marks → Token → Traced ℕ
attribute_behind text marks t = mark text Operator (codes ":") t.end >>= λ colon. string text colon.end >>= λ value.
    Some (one value (one colon (one t marks)), value.end)

-- (IdName | String) `:` String
unfoldable pub trace_attribute : Bytes → Tracer
trace_attribute text marks p = token text Operand p >>= λ t. if is_id t || is_string t then attribute_behind text marks t else None

-- With, whose word was seen
unfoldable pub with_behind : Bytes → Marks → Token → Traced Stop
with_behind text marks t = mark text Operand (codes "{") t.end >>= λ left.
    all_turns text (list_turn text (is_mark text (codes "}")) (trace_attribute text)) (one left (told is.Attributes t marks)) (first_at left.end) >>= λ xs.
    mark text Operator (codes "}") xs.1.at >>= λ right. Some (one right xs.0, stop right.end other)

-- With? behind a request
unfoldable pub trace_optional_with : Bytes → Ended
trace_optional_with text marks p = token text Operator p >>= λ t. if is_word text (codes "with") t then with_behind text marks t else Some (marks, stop p request)

-- what stands behind the text of a request
unfoldable pub trace_tail : Bytes → Tracer
trace_tail text marks p = trace_optional_with text marks p >>= λ x. read_semi text x.1 >>= λ s. Some (semicolon s.0 x.0, s.1)

-- String With? semi, behind `from`, which was seen
unfoldable pub source_behind : Bytes → Marks → Token → Traced ℕ
source_behind text marks t = string text t.end >>= λ u. trace_tail text (told is.Request u (one t marks)) u.end

-- `from` String With? semi
unfoldable pub trace_source : Bytes → Goal → Tracer
trace_source text goal marks p = word text goal (codes "from") p >>= source_behind text marks

unfoldable pub import_from : Bytes → Context → Marks → Token → Traced ℕ
import_from text c marks u = clause_by text c marks u >>= λ x. trace_source text Operator x.0 x.1

-- an import by the token behind `import`, which is in the marks
unfoldable pub import_by : Bytes → Context → Marks → Token → Traced ℕ
import_by text c marks u = if is_string u then trace_tail text (told is.Request u marks) u.end else import_from text c marks u

-- Import
unfoldable pub trace_import : Bytes → Context → Tracer
trace_import text c marks p = word text Operand (codes "import") p >>= λ t. token text Operand t.end >>= λ u.
    import_by text c (one t (begin part.ImportDeclaration marks)) u >>= λ x. Some (end part.ImportDeclaration x.0, x.1)

unfoldable pub renamed_behind : Bytes → Marks → Token → Traced ℕ
renamed_behind text marks t = id_name text t.end >>= λ n. Some (told is.Outer n (one t marks), n.end)

-- (`as` IdName)?
unfoldable pub trace_renamed : Bytes → Tracer
trace_renamed text marks p = token text Operator p >>= λ t. if is_word text (codes "as") t then renamed_behind text marks t else Some (marks, p)

-- Names that are exported. The readers' `are_local` of those so far is handed on.

abbrev pub names_to : Bool → ℕ → NamesListed
names_to local p = record { at = p; local = local }

-- the comma behind a name, where the list goes on
unfoldable pub name_behind : Bytes → Bool → Marks → ℕ → Traced (Turn NamesListed)
name_behind text local marks p = token text Operator p >>= λ t.
    if is_mark text (codes ",") t then Some (one t marks, more (names_to local t.end)) else Some (marks, ended (names_to local p))

-- IdName (`as` IdName)?, and the comma behind it
unfoldable pub name_part : Bytes → Context → Marks → NamesListed → Traced (Turn NamesListed)
name_part text c marks s = id_name text s.at >>= λ t. trace_renamed text (told is.Exported t marks) t.end >>= λ x.
    name_behind text (s.local && is_name text c t) x.0 x.1

unfoldable pub names_turn : Bytes → Context → Turning NamesListed
names_turn text c marks s = token text Operand s.at >>= λ t. if is_mark text (codes "}") t then Some (marks, ended s) else name_part text c marks s

-- names that are exported, and `}`; `{` was seen
unfoldable pub names_behind : Bytes → Context → Marks → Token → Traced NamesListed
names_behind text c marks left = all_turns text (names_turn text c) (one left marks) (names_to true left.end) >>= λ xs.
    mark text Operator (codes "}") xs.1.at >>= λ right. Some (one right xs.0, names_to xs.1.local right.end)

unfoldable pub export_local : Bytes → Tracer
export_local text marks p = read_semi text (stop p exported_names) >>= λ s. Some (semicolon s.0 marks, s.1)

-- an export of names, by the token behind `}`
unfoldable pub names_by : Bytes → NamesListed → Marks → Token → Traced ℕ
names_by text s marks u =
    if is_word text (codes "from") u then source_behind text marks u
    else (if s.local then export_local text marks s.at else None)

unfoldable pub export_names : Bytes → Context → Marks → Token → Traced ℕ
export_names text c marks left = names_behind text c marks left >>= λ x. token text Operator x.1.at >>= names_by text x.1 x.0

unfoldable pub export_space : Bytes → Marks → Token → Traced ℕ
export_space text marks u = id_name text u.end >>= λ n. trace_source text Operator (told is.Outer n (one u marks)) n.end

-- an export of all, by the token behind `*`, which is in the marks
unfoldable pub export_star_by : Bytes → Marks → Token → Traced ℕ
export_star_by text marks u =
    if is_word text (codes "from") u then source_behind text marks u
    else (if is_word text (codes "as") u then export_space text marks u else None)

unfoldable pub export_star : Bytes → Marks → Token → Traced ℕ
export_star text marks star = token text Operand star.end >>= export_star_by text (one star marks)

-- an expression and a semicolon
unfoldable pub default_assign : Bytes → Tracers → Context → Tracer
default_assign text r c marks p = r.assign c (begin part.ExportedValue marks) p >>= λ x. read_semi text x.1 >>= λ s.
    Some (semicolon s.0 (end part.ExportedValue x.0), s.1)

-- what is exported, by its first token, where it begins behind this place
unfoldable pub default_by : Bytes → Tracers → Context → Marks → ℕ → Token → Traced ℕ
default_by text r c marks p v =
    if is_word text (codes "class") v then trace_class text r c false marks p
    else (if begins_declaration text v then trace_func text r c false marks p else default_assign text r c marks p)

unfoldable pub export_default : Bytes → Tracers → Context → Marks → Token → Traced ℕ
export_default text r c marks u = token text Operand u.end >>= default_by text r c (one u marks) u.end

-- a declaration, by its first token, where it begins behind this place
unfoldable pub export_declaration : Bytes → Tracers → Context → Marks → ℕ → Token → Traced ℕ
export_declaration text r c marks p u =
    if is_word text (codes "var") u then var_behind text r c marks u
    else (if is_word text (codes "let") u then lex_behind text r c false marks u
    else (if is_word text (codes "const") u then lex_behind text r c true marks u
    else (if is_word text (codes "class") u then trace_class text r c true marks p else trace_func text r c true marks p)))

-- which part an export is, by the token behind `export`
unfoldable pub export_part : Bytes → Token → Part
export_part text u =
    if is_mark text (codes "*") u then part.ExportStar
    else (if is_mark text (codes "{") u then part.ExportList
    else (if is_word text (codes "default") u then part.ExportDefault else part.ExportedDeclaration))

-- the rest of it; `export` is in the marks, and ends at this place
unfoldable pub export_by : Bytes → Tracers → Context → Marks → ℕ → Token → Traced ℕ
export_by text r c marks p u =
    if is_mark text (codes "*") u then export_star text marks u
    else (if is_mark text (codes "{") u then export_names text c marks u
    else (if is_word text (codes "default") u then export_default text r c marks u else export_declaration text r c marks p u))

-- Export. Which part it is the token behind `export` tells, before anything else is traced.
unfoldable pub trace_export : Bytes → Tracers → Context → Tracer
trace_export text r c marks p = word text Operand (codes "export") p >>= λ t. token text Operand t.end >>= λ u.
    export_by text r c (one t (begin (export_part text u) marks)) t.end u >>= λ x. Some (end (export_part text u) x.0, x.1)

-- an item of a module
unfoldable pub trace_module_item : Bytes → Tracers → Context → Tracer
trace_module_item text r c marks p = token text Operand p >>= λ t.
    if begins_import text t then trace_import text c marks p
    else (if is_word text (codes "export") t then trace_export text r c marks p else trace_closed_item text r c marks p)

abbrev pub trace_program_item : Bytes → Tracers → ProgramGoal → Tracer
trace_program_item text r Script = trace_closed_item text r (at_top Script)
trace_program_item text r Module = trace_module_item text r (at_top Module)

-- the items of a program, up to its end
unfoldable pub trace_items : Bytes → Tracers → ProgramGoal → Tracer
trace_items text r goal marks p = all_turns text (chain_turn text is_end (trace_program_item text r goal)) marks p

-- what `export default` takes that is a function or a class, its name optional
unfoldable pub trace_default : Bytes → Tracers → Context → Tracer
trace_default text r c marks p = token text Operand p >>= declaration_item text r c false marks p
