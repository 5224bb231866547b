-- What the text of a module says that holds simple calls and bare import declarations alone.
use Rattle.std.specs.Prelude.{◌≡◌, ℕ, Bool, false, List, [], ◌∷◌, Option, None, Some}
use Rattle.std.specs.List.{list_any}
use Rattle.std.specs.Str.{bytes_eq}
use Rattle.indexmap.specs.IndexSet.{insert_all}
use Rattle.es_tree.specs.declared.tokens.Token.{Token}
use Rattle.pk_types.specs.declared.facts.Kind.{Kind}
use Rattle.pk_types.specs.declared.facts.Kind.TheVariants.{Es, Cjs}
use Rattle.bare_modules.specs.Tokens.{HasTokens}
use Rattle.bare_modules.specs.Parts.{part_in, is_script_name}
use Rattle.bare_modules.specs.Statements.{AreStatements}
use Rattle.bare_modules.specs.Body.{body_of}
use Rattle.bare_modules.specs.declared.read.ModuleText.{ModuleText}

-- a module with an import declaration is one of ECMAScript
abbrev pub kind_of : List (List ℕ) → Kind
kind_of [] = Cjs
kind_of (request ∷ requests) = Es

-- the texts, each once, in the order of their first places
abbrev pub each_once : List (List ℕ) → List (List ℕ)
each_once texts = insert_all bytes_eq [] texts

-- some token is a name in scripts alone
abbrev pub has_script_name : List ℕ → List Token → Bool
has_script_name text tokens = list_any (λ token. is_script_name (part_in text token)) tokens

-- the text is this module's
pub record IsModuleText (text : List ℕ) (m : ModuleText) : Type 0 where
  pub tokens : List Token
  pub kept : List Token
  pub requests : List (List ℕ)
  pub read : HasTokens text 0 tokens
  pub statements : AreStatements text tokens kept requests
  pub kind : m.kind ≡ kind_of requests
  pub strict : m.kind ≡ Es → has_script_name text kept ≡ false
  pub asked : m.requests ≡ each_once requests
  pub joined : m.body ≡ body_of text kept

-- what is answered of a text: the module whose text it is, or that it is the text of none
abbrev pub ReadsModule : List ℕ → Option ModuleText → Type 0
ReadsModule text None = (m : ModuleText) → IsModuleText text m → ⊥
ReadsModule text (Some m) = IsModuleText text m
