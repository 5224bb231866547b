-- Imports and exports (ECMA-262, clause 16.2).
use Rattle.std.specs.Prelude.{ℕ, true, false, List, Option, Some, None, codes}
use Rattle.es_tree.specs.declared.tokens.Token.{Token}
use Rattle.es_tree.specs.declared.tokens.TokenKind.TheVariants as kind
use Rattle.es_tree.specs.declared.tokens.Goal.TheVariants.{Operand, Operator}
use Rattle.es_tree.specs.declared.parts.Separated.{Separated}
use Rattle.es_tree.specs.declared.program.Attribute.{Attribute}
use Rattle.es_tree.specs.declared.program.Clause.{Clause}
use Rattle.es_tree.specs.declared.program.Clause.TheVariants as clause_v
use Rattle.es_tree.specs.declared.program.Export.{Export}
use Rattle.es_tree.specs.declared.program.Export.TheVariants as export_v
use Rattle.es_tree.specs.declared.program.ExportName.{ExportName}
use Rattle.es_tree.specs.declared.program.Import.{Import}
use Rattle.es_tree.specs.declared.program.Import.TheVariants as import_v
use Rattle.es_tree.specs.declared.program.ImportName.{ImportName}
use Rattle.es_tree.specs.declared.program.ImportName.TheVariants as import_name_v
use Rattle.es_tree.specs.declared.program.Named.{Named}
use Rattle.es_tree.specs.declared.program.Names.{Names}
use Rattle.es_tree.specs.declared.program.ProgramItem.{ProgramItem}
use Rattle.es_tree.specs.declared.program.ProgramItem.TheVariants as program_item_v
use Rattle.es_tree.specs.declared.program.Renamed.{Renamed}
use Rattle.es_tree.specs.declared.program.Space.{Space}
use Rattle.es_tree.specs.declared.program.With.{With}
use Rattle.es_tree.specs.declared.cycle.Assign.{Assign}
use Rattle.es_tree.specs.declared.cycle.Class.{Class}
use Rattle.es_tree.specs.declared.cycle.Func.{Func}
use Rattle.es_tree.specs.declared.cycle.Item.{Item}
use Rattle.es_grammar.specs.declared.places.Context.{Context}
use Rattle.es_grammar.specs.Reading.{Bytes, KindAt, MarkAt, NameAt, WordAt}
use Rattle.es_grammar.specs.declared.places.Stop.{Stop}
use Rattle.es_grammar.specs.Semicolons.{stop, other, exported_names, request, SemiAt}
use Rattle.es_grammar.specs.Lists.{ListAt}
use Rattle.es_grammar.specs.Rules.{Rules}
use Rattle.es_grammar.specs.Functions.{ClassAt, ClosedItemAt, FuncAt}
use Rattle.es_grammar.specs.Statements.{Lex, Var, LexAt, VarAt, BeginsNoDeclaration}

-- the text of a request
abbrev pub StringAt : Bytes → ℕ → Token → Type 0
StringAt text p token = KindAt text Operand kind.String p token

-- Space: `*` `as` Name
pub data SpaceAt (text : Bytes) (c : Context) : ℕ → Space → ℕ → Type 0 where
  space : {p : ℕ} (star word name : Token) → MarkAt text Operand (codes "*") p star → WordAt text Operand (codes "as") star.end word
      → NameAt text Operand c word.end name → SpaceAt text c p (record { star = star; word = word; name = name }) name.end

-- Name | IdName `as` Name
pub data ImportNameAt (text : Bytes) (c : Context) : ℕ → ImportName → ℕ → Type 0 where
  name : {p : ℕ} (token : Token) → NameAt text Operand c p token → ImportNameAt text c p (import_name_v.Name token) token.end
  renamed : {p : ℕ} (imported word name : Token) → KindAt text Operand kind.IdName p imported → WordAt text Operand (codes "as") imported.end word
      → NameAt text Operand c word.end name → ImportNameAt text c p (import_name_v.Renamed imported word name) name.end

-- Named
pub data NamedAt (text : Bytes) (c : Context) : ℕ → Named → ℕ → Type 0 where
  named : {p q : ℕ} (left : Token) (xs : List (Separated ImportName)) (right : Token)
      → MarkAt text Operand (codes "{") p left → ListAt text (ImportNameAt text c) left.end xs q → MarkAt text Operator (codes "}") q right
      → NamedAt text c p (record { left = left; list = xs; right = right }) right.end

-- Clause
pub data ClauseAt (text : Bytes) (c : Context) : ℕ → Clause → ℕ → Type 0 where
  name : {p : ℕ} (token : Token) → NameAt text Operand c p token → ClauseAt text c p (clause_v.Name token) token.end
  space : {p q : ℕ} (x : Space) → SpaceAt text c p x q → ClauseAt text c p (clause_v.Space x) q
  named : {p q : ℕ} (x : Named) → NamedAt text c p x q → ClauseAt text c p (clause_v.Named x) q
  name_space : {p q : ℕ} (token comma : Token) (x : Space) → NameAt text Operand c p token → MarkAt text Operator (codes ",") token.end comma
      → SpaceAt text c comma.end x q → ClauseAt text c p (clause_v.NameSpace token comma x) q
  name_named : {p q : ℕ} (token comma : Token) (x : Named) → NameAt text Operand c p token → MarkAt text Operator (codes ",") token.end comma
      → NamedAt text c comma.end x q → ClauseAt text c p (clause_v.NameNamed token comma x) q

-- (IdName | String) `:` String
pub data AttributeAt (text : Bytes) : ℕ → Attribute → ℕ → Type 0 where
  word : {p : ℕ} (key colon value : Token) → KindAt text Operand kind.IdName p key → MarkAt text Operator (codes ":") key.end colon
      → StringAt text colon.end value → AttributeAt text p (record { key = key; colon = colon; value = value }) value.end
  string : {p : ℕ} (key colon value : Token) → StringAt text p key → MarkAt text Operator (codes ":") key.end colon
      → StringAt text colon.end value → AttributeAt text p (record { key = key; colon = colon; value = value }) value.end

-- With, which may stand on a new line
pub data WithAt (text : Bytes) : ℕ → With → ℕ → Type 0 where
  with : {p q : ℕ} (word left : Token) (xs : List (Separated Attribute)) (right : Token)
      → WordAt text Operator (codes "with") p word → MarkAt text Operand (codes "{") word.end left → ListAt text (AttributeAt text) left.end xs q
      → MarkAt text Operator (codes "}") q right → WithAt text p (record { word = word; left = left; list = xs; right = right }) right.end

-- With? behind a request
pub data OptionalWithAt (text : Bytes) : ℕ → Option With → Stop → Type 0 where
  none : {p : ℕ} → OptionalWithAt text p None (stop p request)
  some : {p q : ℕ} (x : With) → WithAt text p x q → OptionalWithAt text p (Some x) (stop q other)

-- Import
pub data ImportAt (text : Bytes) (c : Context) : ℕ → Import → ℕ → Type 0 where
  bare : {p q : ℕ} {s : Stop} (word request : Token) (attributes : Option With) (semi : Option Token) → WordAt text Operand (codes "import") p word
      → StringAt text word.end request → OptionalWithAt text request.end attributes s → SemiAt text s semi q
      → ImportAt text c p (import_v.Bare word request attributes semi) q
  from : {p a q : ℕ} {s : Stop} (word : Token) (x : Clause) (from_word request : Token) (attributes : Option With) (semi : Option Token) → WordAt text Operand (codes "import") p word
      → ClauseAt text c word.end x a → WordAt text Operator (codes "from") a from_word → StringAt text from_word.end request
      → OptionalWithAt text request.end attributes s → SemiAt text s semi q
      → ImportAt text c p (import_v.From word x from_word request attributes semi) q

pub data RenamedAt (text : Bytes) : ℕ → Option Renamed → ℕ → Type 0 where
  none : {p : ℕ} → RenamedAt text p None p
  renamed : {p : ℕ} (word name : Token) → WordAt text Operator (codes "as") p word → KindAt text Operand kind.IdName word.end name
      → RenamedAt text p (Some (record { word = word; name = name })) name.end

-- IdName (`as` IdName)?
pub data ExportNameAt (text : Bytes) : ℕ → ExportName → ℕ → Type 0 where
  name : {p q : ℕ} (token : Token) (x : Option Renamed) → KindAt text Operand kind.IdName p token → RenamedAt text token.end x q
      → ExportNameAt text p (record { name = token; renamed = x }) q

-- the same where the first word names what the module declares, so that it is a Name
pub data LocalNameAt (text : Bytes) (c : Context) : ℕ → ExportName → ℕ → Type 0 where
  name : {p q : ℕ} (token : Token) (x : Option Renamed) → NameAt text Operand c p token → RenamedAt text token.end x q
      → LocalNameAt text c p (record { name = token; renamed = x }) q

-- Names
pub data NamesAt (text : Bytes) (a_name : ℕ → ExportName → ℕ → Type 0) : ℕ → Names → ℕ → Type 0 where
  names : {p q : ℕ} (left : Token) (xs : List (Separated ExportName)) (right : Token)
      → MarkAt text Operand (codes "{") p left → ListAt text a_name left.end xs q → MarkAt text Operator (codes "}") q right
      → NamesAt text a_name p (record { left = left; list = xs; right = right }) right.end

-- Export
pub data ExportAt (text : Bytes) (r : Rules) (c : Context) : ℕ → Export → ℕ → Type 0 where
  all : {p q : ℕ} {s : Stop} (word star from_word request : Token) (attributes : Option With) (semi : Option Token) → WordAt text Operand (codes "export") p word
      → MarkAt text Operand (codes "*") word.end star → WordAt text Operand (codes "from") star.end from_word → StringAt text from_word.end request
      → OptionalWithAt text request.end attributes s → SemiAt text s semi q
      → ExportAt text r c p (export_v.All word star from_word request attributes semi) q
  space : {p q : ℕ} {s : Stop} (word star as_word name from_word request : Token) (attributes : Option With) (semi : Option Token) → WordAt text Operand (codes "export") p word
      → MarkAt text Operand (codes "*") word.end star → WordAt text Operand (codes "as") star.end as_word
      → KindAt text Operand kind.IdName as_word.end name → WordAt text Operator (codes "from") name.end from_word
      → StringAt text from_word.end request → OptionalWithAt text request.end attributes s → SemiAt text s semi q
      → ExportAt text r c p (export_v.Space word star as_word name from_word request attributes semi) q
  from : {p a q : ℕ} {s : Stop} (word : Token) (x : Names) (from_word request : Token) (attributes : Option With) (semi : Option Token) → WordAt text Operand (codes "export") p word
      → NamesAt text (ExportNameAt text) word.end x a → WordAt text Operator (codes "from") a from_word → StringAt text from_word.end request
      → OptionalWithAt text request.end attributes s → SemiAt text s semi q
      → ExportAt text r c p (export_v.From word x from_word request attributes semi) q
  names : {p a q : ℕ} (word : Token) (x : Names) (semi : Option Token) → WordAt text Operand (codes "export") p word
      → NamesAt text (LocalNameAt text c) word.end x a → SemiAt text (stop a exported_names) semi q
      → ExportAt text r c p (export_v.Names word x semi) q
  var : {p q : ℕ} (word : Token) (x : Var) → WordAt text Operand (codes "export") p word → VarAt text r c word.end x q
      → ExportAt text r c p (export_v.Var word x) q
  lex : {p q : ℕ} (word : Token) (x : Lex) → WordAt text Operand (codes "export") p word → LexAt text r c word.end x q
      → ExportAt text r c p (export_v.Lex word x) q
  func : {p q : ℕ} (word : Token) (x : Func) → WordAt text Operand (codes "export") p word → FuncAt text r c true word.end x q
      → ExportAt text r c p (export_v.Func word x) q
  class : {p q : ℕ} (word : Token) (x : Class) → WordAt text Operand (codes "export") p word → ClassAt text r c true word.end x q
      → ExportAt text r c p (export_v.Class word x) q
  default_func : {p q : ℕ} (word default_word : Token) (x : Func) → WordAt text Operand (codes "export") p word
      → WordAt text Operand (codes "default") word.end default_word → FuncAt text r c false default_word.end x q
      → ExportAt text r c p (export_v.DefaultFunc word default_word x) q
  default_class : {p q : ℕ} (word default_word : Token) (x : Class) → WordAt text Operand (codes "export") p word
      → WordAt text Operand (codes "default") word.end default_word → ClassAt text r c false default_word.end x q
      → ExportAt text r c p (export_v.DefaultClass word default_word x) q
  default : {p q : ℕ} {s : Stop} (word default_word : Token) (x : Assign) (semi : Option Token) → WordAt text Operand (codes "export") p word
      → WordAt text Operand (codes "default") word.end default_word → BeginsNoDeclaration text default_word.end → r.assign c default_word.end x s
      → SemiAt text s semi q → ExportAt text r c p (export_v.Default word default_word x semi) q

-- an item of a module; one of a script is an Item alone
pub data ModuleItemAt (text : Bytes) (r : Rules) (c : Context) : ℕ → ProgramItem → ℕ → Type 0 where
  item : {p q : ℕ} (x : Item) → ClosedItemAt text r c p x q → ModuleItemAt text r c p (program_item_v.Item x) q
  import_from : {p q : ℕ} (x : Import) → ImportAt text c p x q → ModuleItemAt text r c p (program_item_v.Import x) q
  export : {p q : ℕ} (x : Export) → ExportAt text r c p x q → ModuleItemAt text r c p (program_item_v.Export x) q

pub data ScriptItemAt (text : Bytes) (r : Rules) (c : Context) : ℕ → ProgramItem → ℕ → Type 0 where
  item : {p q : ℕ} (x : Item) → ClosedItemAt text r c p x q → ScriptItemAt text r c p (program_item_v.Item x) q
