-- What a place asks for, told of the marks at it and behind it.
use Rattle.std.specs.Prelude.{ℕ, ◌+◌, Bool, true, false, ◌&&◌, is_some, if◌then◌else◌, List, Option, Some, None, slice_get}
use Rattle.es_tree.specs.declared.tokens.ProgramGoal.{ProgramGoal}
use Rattle.es_tree.specs.declared.tokens.ProgramGoal.TheVariants.{Script, Module}
use Rattle.es_outline.specs.declared.mark.Mark.{Mark}
use Rattle.es_outline.specs.declared.mark.Mark.TheVariants as mark
use Rattle.es_outline.specs.declared.mark.Role.TheVariants as is
use Rattle.pk_types.specs.declared.facts.Request.{Request}
use Rattle.es_scope.specs.Source.{Source}
use Rattle.es_scope.specs.Telling.{Told}
use Rattle.es_scope.specs.Asking.{AsksFor}
use Rattle.es_asks.specs.declared.requests.Manner.TheVariants as manner
use Rattle.es_asks.specs.declared.asking.Asking.{Asking}
use Rattle.es_asks.specs.Texts.{text_at, is_string, argument_end, asks_for_json, is_call_word}
use Rattle.es_asks.specs.Free.{require_end}
use Rattle.es_asks.specs.Requested.{request_of, Takes}

abbrev pub is_script : ProgramGoal → Bool
is_script Script = true
is_script Module = false

-- a declaration with a request at the place
abbrev pub declared : Source → ℕ → Option Asking
declared source place = if is_string source place
    then Some (record { text = place; how = if asks_for_json source place then manner.Json else manner.Import }) else None

-- an `import()`
abbrev pub imported : Source → ℕ → Option Asking
imported source place = if is_some (argument_end source (place + 1)) then Some (record { text = place + 2; how = manner.Import }) else None

-- a call of `require`
abbrev pub required : Source → Told → List ℕ → ℕ → Option Asking
required source told forwarded place = if is_script source.goal && is_some (require_end source told forwarded place)
    then Some (record { text = place + 3; how = manner.Require }) else None

abbrev pub is_request : Option Mark → Bool
is_request (Some (mark.Token is.Request token)) = true
is_request _ = false

abbrev pub asked_at : Source → Told → List ℕ → ℕ → Option Asking
asked_at source told forwarded place =
    if is_request (slice_get source.marks place) then declared source place
    else (if is_call_word (slice_get source.marks place) then imported source place else required source told forwarded place)

-- what is asked for
abbrev pub asked_for : Source → Asking → Request
asked_for source asking = request_of (text_at source asking.text) asking.how

-- the request of the place is noted, if it asks for one, and this is its number
pub data Passes (source : Source) (place : ℕ) (old : List Request) : List Request → Option ℕ → Type 0 where
  none : ((request : Request) → ¬ AsksFor source place request) → Passes source place old old None
  some : (new : List Request) (request : Request) (number : ℕ) → AsksFor source place request → Takes old new request number
      → Passes source place old new (Some number)
