-- How a module's text is read, token by token.
use Rattle.std.specs.Prelude.{ℕ, Bool, true, false, ◌||◌, ◌&&◌, List, [], ◌++◌, slice_range, Option, None, Some, option_to_list, if◌then◌else◌}
use Rattle.std.specs.Str.{bytes_eq}
use Rattle.indexmap.specs.IndexSet.{insert_key}
use Rattle.es_tree.specs.declared.tokens.Token.{Token}
use Rattle.pk_types.specs.declared.facts.Kind.{Kind}
use Rattle.pk_types.specs.declared.facts.Kind.TheVariants.{Es, Cjs, Json}
use Rattle.bare_modules.specs.Tokens.{text_of}
use Rattle.bare_modules.specs.Parts.{is_script_name}
use Rattle.bare_modules.specs.Statements.{unquoted}
use Rattle.bare_modules.specs.Body.{separator_of}
use Rattle.bare_modules.specs.Meaning.{kind_of}
use Rattle.bare_modules.specs.declared.parts.Part.{Part}
use Rattle.bare_modules.specs.declared.parts.Part.TheVariants as part
use Rattle.bare_modules.specs.declared.read.ModuleText.{ModuleText}
use Rattle.bare_modules.specs.declared.steps.Deed.{Deed}
use Rattle.bare_modules.specs.declared.steps.Deed.TheVariants.{Keep, Ask, Drop}
use Rattle.bare_modules.specs.declared.steps.Place.{Place}
use Rattle.bare_modules.specs.declared.steps.Place.TheVariants.{Between, BehindName, BehindOpen, BehindArgument, BehindComma, BehindClose, BehindImport, BehindRequest}

-- what is done with a token, and the place behind it, where a statement can go on with it
abbrev pub step_of : Place → Part → Option (Deed × Place)
step_of Between part.Name = Some (Keep, BehindName)
step_of Between part.ScriptName = Some (Keep, BehindName)
step_of Between part.Import = Some (Drop, BehindImport)
step_of BehindName part.Open = Some (Keep, BehindOpen)
step_of BehindOpen part.Name = Some (Keep, BehindArgument)
step_of BehindOpen part.ScriptName = Some (Keep, BehindArgument)
step_of BehindOpen part.Number = Some (Keep, BehindArgument)
step_of BehindOpen part.String = Some (Keep, BehindArgument)
step_of BehindOpen part.Close = Some (Keep, BehindClose)
step_of BehindArgument part.Comma = Some (Keep, BehindComma)
step_of BehindArgument part.Close = Some (Keep, BehindClose)
step_of BehindComma part.Name = Some (Keep, BehindArgument)
step_of BehindComma part.ScriptName = Some (Keep, BehindArgument)
step_of BehindComma part.Number = Some (Keep, BehindArgument)
step_of BehindComma part.String = Some (Keep, BehindArgument)
step_of BehindClose part.Semicolon = Some (Keep, Between)
step_of BehindImport part.String = Some (Ask, BehindRequest)
step_of BehindRequest part.Semicolon = Some (Drop, Between)
step_of _ _ = None

-- what was read so far: the body, where its last token ended, whether it has a name of scripts alone, and the requests
pub record Drafted : Type 0 where
  pub body : List ℕ
  pub end : Option ℕ
  pub has_script_name : Bool
  pub requests : List (List ℕ)

-- before the first token
abbrev pub empty_draft : Drafted
empty_draft = record { body = []; end = None; has_script_name = false; requests = [] }

-- what is put before a token, behind what a body has so far: nothing before the first
abbrev pub put_before : List ℕ → Option ℕ → Token → List ℕ
put_before text None token = []
put_before text (Some end) token = option_to_list (separator_of (slice_range text end token.start))

-- with a token behind the body
abbrev pub put : List ℕ → Drafted → Part → Token → Drafted
put text draft part token = record draft {
  body = draft.body ++ put_before text draft.end token ++ text_of text token;
  end = Some token.end;
  has_script_name = draft.has_script_name || is_script_name part;
}

-- with a request
abbrev pub ask : Drafted → List ℕ → Drafted
ask draft request = record draft { requests = insert_key bytes_eq draft.requests request }

-- once this is done with a token
abbrev pub done : List ℕ → Deed → Drafted → Part → Token → Drafted
done text Keep draft part token = put text draft part token
done text Ask draft part token = ask draft (unquoted (text_of text token))
done text Drop draft part token = draft

abbrev pub is_es : Kind → Bool
is_es Es = true
is_es Cjs = false
is_es Json = false

-- what the text says, once it is read
abbrev pub finished : Drafted → Option ModuleText
finished draft =
    if draft.has_script_name && is_es (kind_of draft.requests) then None
    else Some (record { kind = kind_of draft.requests; requests = draft.requests; body = draft.body })
