-- The faults that stand in a file, each at its place, and the first of them: the least by rank and place.
use Rattle.std.specs.Prelude.{◌≡◌, ◌≢◌, ℕ, List, [], ◌∷◌, Bool, true, false, Option, Some, None, Ok, Err}
use Rattle.std.specs.Str.{IsUtf8}
use Rattle.es_tree.specs.declared.tokens.ProgramGoal.{ProgramGoal}
use Rattle.es_grammar.specs.Reading.{Bytes}
use Rattle.es_outline.specs.Outline.{Marks}
use Rattle.pk_types.specs.declared.facts.NameKind.{NameKind}
use Rattle.pk_types.specs.declared.facts.NameKind.TheVariants as name
use Rattle.es_scope.specs.declared.kinds.EarlyError.{EarlyError}
use Rattle.es_scope.specs.declared.kinds.Refusal.{Refusal}
use Rattle.es_scope.specs.Faults.{IsEarly, rank as error_rank}
use Rattle.es_scope.specs.Refused.{IsRefused}
use Rattle.es_facts.specs.Answer.{IsOutlined, IsSyntax, IsJson, source_of}
use Rattle.es_facts.specs.Errors.{SpeaksOf, start_at}
use Rattle.es_facts.specs.declared.answer.ModuleFault.{ModuleFault}
use Rattle.es_facts.specs.declared.answer.ModuleFault.TheVariants as text_fault
use Rattle.module_graph.specs.Shortlex.{IsAtMost}
use Rattle.module_at_path.specs.declared.fault.FileFault.{FileFault}
use Rattle.module_at_path.specs.declared.fault.FileFault.TheVariants as fault
use Rattle.module_at_path.specs.Files.{Scope, File, kind_of}

-- the fault of a text as one of a file
abbrev pub of_text : ModuleFault → FileFault
of_text text_fault.NotUtf8 = fault.NotUtf8
of_text text_fault.Syntax = fault.Syntax
of_text (text_fault.Early error start name) = fault.Early error start name
of_text (text_fault.Refused refusal start) = fault.Refused refusal start
of_text text_fault.BadJson = fault.BadJson
of_text text_fault.NoMemory = fault.NoMemory

-- This fault stands at this place of a text of this kind. Places are those of an outline's marks; a fault of the whole text has
-- the place 0.
pub data StandsIn (text : Bytes) (named : NameKind) : ℕ → FileFault → Type 0 where
  not_utf8 : named ≢ name.Json → ¬ IsUtf8 text → StandsIn text named 0 fault.NotUtf8
  syntax : IsSyntax text named → StandsIn text named 0 fault.Syntax
  early : (goal : ProgramGoal) (marks : Marks) (place : ℕ) (error : EarlyError) (name : List ℕ) → IsOutlined text named goal marks
      → IsEarly (source_of text goal marks) place error → SpeaksOf (source_of text goal marks) place error name
      → StandsIn text named place (fault.Early error (start_at (source_of text goal marks) place) name)
  refused : (goal : ProgramGoal) (marks : Marks) (place : ℕ) (refusal : Refusal) → IsOutlined text named goal marks → IsRefused (source_of text goal marks) place refusal
      → StandsIn text named place (fault.Refused refusal (start_at (source_of text goal marks) place))
  bad_json : named ≡ name.Json → ¬ IsJson text → StandsIn text named 0 fault.BadJson

-- This fault stands at this place of a file: the file is too large, its name says no kind, its nearest manifest is bad though
-- its name says a kind, or the fault stands in its text.
pub data Stands (file : File) : ℕ → FileFault → Type 0 where
  too_large : file.text ≡ None → Stands file 0 fault.TooLarge
  bad_scope : (named : NameKind) (bad : List ℕ) → kind_of file ≡ Some named → file.scope ≡ Err bad → Stands file 0 (fault.BadScope bad)
  in_text : (text : Bytes) (named : NameKind) (place : ℕ) (one_fault : FileFault) → file.text ≡ Some text → kind_of file ≡ Some named
      → StandsIn text named place one_fault → Stands file place one_fault
  unknown_type : kind_of file ≡ None → Stands file 0 fault.UnknownType

-- the order in which faults are looked for
abbrev pub rank : FileFault → ℕ
rank fault.TooLarge = 0
rank fault.NotUtf8 = 1
rank (fault.BadScope bad) = 2
rank fault.Syntax = 3
rank (fault.Early error start name) = 4
rank (fault.Refused refusal start) = 5
rank fault.BadJson = 6
rank fault.UnknownType = 7
rank fault.NoMemory = 8

-- which early error of one place comes first
abbrev pub rank_at_place : FileFault → ℕ
rank_at_place (fault.Early error start name) = error_rank error
rank_at_place _ = 0

-- the rank and the place of a fault; faults are in the order of these lists of one length
abbrev pub order : ℕ → FileFault → List ℕ
order place one_fault = rank one_fault ∷ place ∷ rank_at_place one_fault ∷ []

-- the fault stands, and none that stands comes before it
pub record IsFirst (file : File) (one_fault : FileFault) : Type 0 where
  pub place : ℕ
  pub stands : Stands file place one_fault
  pub least : (other : ℕ) (further : FileFault) → Stands file other further → IsAtMost (order place one_fault) (order other further)

-- the fault can be told only once the nearest manifest is known
abbrev pub needs_manifest : FileFault → Bool
needs_manifest fault.TooLarge = false
needs_manifest fault.NotUtf8 = false
needs_manifest fault.UnknownType = false
needs_manifest _ = true

abbrev pub scope_fault : Scope → Option FileFault
scope_fault (Ok found) = None
scope_fault (Err bad) = Some (fault.BadScope bad)
