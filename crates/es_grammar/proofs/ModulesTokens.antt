-- The tokens of imports and exports stand where their production does.
use Rattle.std.specs.Prelude.{ℕ, Option}
use Rattle.es_tree.specs.declared.program.Space.{Space}
use Rattle.es_tree.specs.declared.program.ImportName.{ImportName}
use Rattle.es_tree.specs.declared.program.Named.{Named}
use Rattle.es_tree.specs.declared.program.Clause.{Clause}
use Rattle.es_tree.specs.declared.program.Attribute.{Attribute}
use Rattle.es_tree.specs.declared.program.With.{With}
use Rattle.es_tree.specs.declared.program.Import.{Import}
use Rattle.es_tree.specs.declared.program.Renamed.{Renamed}
use Rattle.es_tree.specs.declared.program.ExportName.{ExportName}
use Rattle.es_tree.specs.declared.program.Names.{Names}
use Rattle.es_tree.specs.declared.program.Export.{Export}
use Rattle.es_tree.specs.declared.program.ProgramItem.{ProgramItem}
use Rattle.es_tree.specs.Yield.{opt, space_tokens, import_name_tokens, named_tokens, clause_tokens, attribute_tokens, with_tokens, import_tokens, renamed_tokens, export_name_tokens, names_tokens, export_tokens, program_item_tokens}
use Rattle.es_grammar.specs.declared.places.Context.{Context}
use Rattle.es_grammar.specs.Reading.{Bytes}
use Rattle.es_grammar.specs.declared.places.Stop.{Stop}
use Rattle.es_grammar.specs.Rules.{Rules}
use Rattle.es_grammar.specs.Modules.{SpaceAt, ImportNameAt, NamedAt, ClauseAt, AttributeAt, WithAt, OptionalWithAt, ImportAt, RenamedAt, ExportNameAt, LocalNameAt, NamesAt, ExportAt, ModuleItemAt, ScriptItemAt}
use Rattle.es_grammar.specs.Tokens.{TokensAt}
use Rattle.es_grammar.proofs.Standing.{nothing, kind_at, mark_at, word_at, name_at, semi_stands, Stands, list_stands, ◌▹◌}
use Rattle.es_grammar.proofs.Tells.{Tells}
use Rattle.es_grammar.proofs.FunctionsTokens.{closed_item_stands, func_stands, class_stands}
use Rattle.es_grammar.proofs.StatementsTokens.{lex_stands, var_stands}

pub space_stands : {text : Bytes} {c : Context} {p : ℕ} {x : Space} {q : ℕ} → SpaceAt text c p x q → TokensAt text p (space_tokens x) q
space_stands (SpaceAt.space star word name h1 h2 h3) = mark_at h1 ▹ word_at h2 ▹ name_at h3

pub import_name_stands : {text : Bytes} {c : Context} {p : ℕ} {x : ImportName} {q : ℕ} → ImportNameAt text c p x q
    → TokensAt text p (import_name_tokens x) q
import_name_stands (ImportNameAt.name token h1) = name_at h1
import_name_stands (ImportNameAt.renamed imported word name h1 h2 h3) = kind_at h1 ▹ word_at h2 ▹ name_at h3

pub named_stands : {text : Bytes} {c : Context} {p : ℕ} {x : Named} {q : ℕ} → NamedAt text c p x q → TokensAt text p (named_tokens x) q
named_stands (NamedAt.named left xs right h1 h2 h3) = mark_at h1 ▹ list_stands import_name_tokens h2 (λ p x q h. import_name_stands h) ▹ mark_at h3

pub clause_stands : {text : Bytes} {c : Context} {p : ℕ} {x : Clause} {q : ℕ} → ClauseAt text c p x q → TokensAt text p (clause_tokens x) q
clause_stands (ClauseAt.name token h1) = name_at h1
clause_stands (ClauseAt.space x h1) = space_stands h1
clause_stands (ClauseAt.named x h1) = named_stands h1
clause_stands (ClauseAt.name_space token comma x h1 h2 h3) = name_at h1 ▹ mark_at h2 ▹ space_stands h3
clause_stands (ClauseAt.name_named token comma x h1 h2 h3) = name_at h1 ▹ mark_at h2 ▹ named_stands h3

pub attribute_stands : {text : Bytes} {p : ℕ} {x : Attribute} {q : ℕ} → AttributeAt text p x q → TokensAt text p (attribute_tokens x) q
attribute_stands (AttributeAt.word key colon value h1 h2 h3) = kind_at h1 ▹ mark_at h2 ▹ kind_at h3
attribute_stands (AttributeAt.string key colon value h1 h2 h3) = kind_at h1 ▹ mark_at h2 ▹ kind_at h3

pub with_stands : {text : Bytes} {p : ℕ} {x : With} {q : ℕ} → WithAt text p x q → TokensAt text p (with_tokens x) q
with_stands (WithAt.with word left xs right h1 h2 h3 h4) =
    word_at h1 ▹ mark_at h2 ▹ list_stands attribute_tokens h3 (λ p x q h. attribute_stands h) ▹ mark_at h4

pub optional_with_stands : {text : Bytes} {p : ℕ} {x : Option With} {s : Stop} → OptionalWithAt text p x s
    → TokensAt text p (opt with_tokens x) s.at
optional_with_stands OptionalWithAt.none = nothing
optional_with_stands (OptionalWithAt.some x h1) = with_stands h1

pub import_stands : {text : Bytes} {c : Context} {p : ℕ} {x : Import} {q : ℕ} → ImportAt text c p x q → TokensAt text p (import_tokens x) q
import_stands (ImportAt.bare word request attributes semi h1 h2 h3 h4) = word_at h1 ▹ kind_at h2 ▹ optional_with_stands h3 ▹ semi_stands h4
import_stands (ImportAt.from word x from_word request attributes semi h1 h2 h3 h4 h5 h6) =
    word_at h1 ▹ clause_stands h2 ▹ word_at h3 ▹ kind_at h4 ▹ optional_with_stands h5 ▹ semi_stands h6

pub renamed_stands : {text : Bytes} {p : ℕ} {x : Option Renamed} {q : ℕ} → RenamedAt text p x q → TokensAt text p (opt renamed_tokens x) q
renamed_stands RenamedAt.none = nothing
renamed_stands (RenamedAt.renamed word name h1 h2) = word_at h1 ▹ kind_at h2

pub export_name_stands : {text : Bytes} {p : ℕ} {x : ExportName} {q : ℕ} → ExportNameAt text p x q → TokensAt text p (export_name_tokens x) q
export_name_stands (ExportNameAt.name token x h1 h2) = kind_at h1 ▹ renamed_stands h2

pub local_name_stands : {text : Bytes} {c : Context} {p : ℕ} {x : ExportName} {q : ℕ} → LocalNameAt text c p x q
    → TokensAt text p (export_name_tokens x) q
local_name_stands (LocalNameAt.name token x h1 h2) = name_at h1 ▹ renamed_stands h2

pub names_stands : {text : Bytes} {a_name : ℕ → ExportName → ℕ → Type 0} {p : ℕ} {x : Names} {q : ℕ} → NamesAt text a_name p x q
    → Stands text export_name_tokens a_name → TokensAt text p (names_tokens x) q
names_stands (NamesAt.names left xs right h1 h2 h3) part = mark_at h1 ▹ list_stands export_name_tokens h2 part ▹ mark_at h3

pub export_stands : {text : Bytes} {r : Rules} {c : Context} {p : ℕ} {x : Export} {q : ℕ} (t : Tells text r) → ExportAt text r c p x q
    → TokensAt text p (export_tokens x) q
export_stands t (ExportAt.all word star from_word request attributes semi h1 h2 h3 h4 h5 h6) =
    word_at h1 ▹ mark_at h2 ▹ word_at h3 ▹ kind_at h4 ▹ optional_with_stands h5 ▹ semi_stands h6
export_stands t (ExportAt.space word star as_word name from_word request attributes semi h1 h2 h3 h4 h5 h6 h7 h8) =
    word_at h1 ▹ mark_at h2 ▹ word_at h3 ▹ kind_at h4 ▹ word_at h5 ▹ kind_at h6 ▹ optional_with_stands h7 ▹ semi_stands h8
export_stands t (ExportAt.from word x from_word request attributes semi h1 h2 h3 h4 h5 h6) =
    word_at h1 ▹ names_stands h2 (λ p x q h. export_name_stands h) ▹ word_at h3 ▹ kind_at h4 ▹ optional_with_stands h5 ▹ semi_stands h6
export_stands t (ExportAt.names word x semi h1 h2 h3) = word_at h1 ▹ names_stands h2 (λ p x q h. local_name_stands h) ▹ semi_stands h3
export_stands t (ExportAt.var word x h1 h2) = word_at h1 ▹ var_stands t h2
export_stands t (ExportAt.lex word x h1 h2) = word_at h1 ▹ lex_stands t h2
export_stands t (ExportAt.func word x h1 h2) = word_at h1 ▹ func_stands t h2
export_stands t (ExportAt.class word x h1 h2) = word_at h1 ▹ class_stands t h2
export_stands t (ExportAt.default_func word default_word x h1 h2 h3) = word_at h1 ▹ word_at h2 ▹ func_stands t h3
export_stands t (ExportAt.default_class word default_word x h1 h2 h3) = word_at h1 ▹ word_at h2 ▹ class_stands t h3
export_stands t (ExportAt.default word default_word x semi h1 h2 h3 h4 h5) = word_at h1 ▹ word_at h2 ▹ t.assign _ _ _ _ h4 ▹ semi_stands h5

pub module_item_stands : {text : Bytes} {r : Rules} {c : Context} {p : ℕ} {x : ProgramItem} {q : ℕ} (t : Tells text r) → ModuleItemAt text r c p x q
    → TokensAt text p (program_item_tokens x) q
module_item_stands t (ModuleItemAt.item x h1) = closed_item_stands t h1
module_item_stands t (ModuleItemAt.import_from x h1) = import_stands h1
module_item_stands t (ModuleItemAt.export x h1) = export_stands t h1

pub script_item_stands : {text : Bytes} {r : Rules} {c : Context} {p : ℕ} {x : ProgramItem} {q : ℕ} (t : Tells text r) → ScriptItemAt text r c p x q
    → TokensAt text p (program_item_tokens x) q
script_item_stands t (ScriptItemAt.item x h1) = closed_item_stands t h1
