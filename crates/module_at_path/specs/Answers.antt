-- What is answered of the module at a path.
use Rattle.std.specs.Prelude.{◌≡◌, ◌≢◌, ◌⊎◌, ℕ, Option, Some, None, Result, Ok, Err}
use Rattle.std.specs.Str.{IsUtf8}
use Rattle.es_grammar.specs.Reading.{Bytes}
use Rattle.pk_types.specs.declared.facts.NameKind.{NameKind}
use Rattle.pk_types.specs.declared.facts.NameKind.TheVariants as name
use Rattle.pk_types.specs.Fitting.{AreFitting}
use Rattle.es_facts.specs.Answer.{HasFacts, HasFault, FaultOr, TakesSteps as TakesTextSteps}
use Rattle.es_facts.specs.declared.answer.ModuleFault.{ModuleFault}
use Rattle.es_facts.specs.declared.answer.Parsed.{Parsed}
use Rattle.module_at_path.specs.declared.fault.FileFault.{FileFault}
use Rattle.module_at_path.specs.declared.fault.FileFault.TheVariants as fault
use Rattle.module_at_path.specs.Files.{Scope, File, kind_of}
use Rattle.module_at_path.specs.Faults.{Stands, IsFirst, of_text}

abbrev pub LacksUtf8 : Bytes → NameKind → Type 0
LacksUtf8 text named = (named ≢ name.Json) × (¬ IsUtf8 text)

-- the first of the two faults of a file with a bad manifest
abbrev pub IsByManifest : Bytes → NameKind → FileFault → FileFault → Type 0
IsByManifest text named bad_scope answer = (LacksUtf8 text named × (answer ≡ fault.NotUtf8)) ⊎ ((¬ LacksUtf8 text named) × (answer ≡ bad_scope))

-- these are the facts of the file's text, and no fault stands in the file
pub record IsModule (file : File) (parsed : Parsed) : Type 0 where
  pub text : Bytes
  pub named : NameKind
  pub text_is : file.text ≡ Some text
  pub kind_is : kind_of file ≡ Some named
  pub facts : HasFacts text named parsed.facts parsed.outline
  pub no_fault : (place : ℕ) (one_fault : FileFault) → ¬ Stands file place one_fault

-- the module at the path, or the first fault; of want of memory nothing is said
abbrev pub Answers : File → Result Parsed FileFault → Type 0
Answers file (Ok parsed) = IsModule file parsed
Answers file (Err one_fault) = (one_fault ≡ fault.NoMemory) ⊎ IsFirst file one_fault

-- what the reader of texts said
pub record IsFaultOfText (text : Bytes) (named : NameKind) (one_fault : FileFault) : Type 0 where
  pub given : ModuleFault
  pub is : one_fault ≡ of_text given
  pub has : FaultOr (HasFault text named) given

abbrev pub AnswersText : Bytes → NameKind → Result Parsed FileFault → Type 0
AnswersText text named (Ok parsed) = HasFacts text named parsed.facts parsed.outline
AnswersText text named (Err one_fault) = IsFaultOfText text named one_fault

abbrev pub FitParsed : Result Parsed FileFault → Type 0
FitParsed (Ok parsed) = AreFitting parsed.facts
FitParsed (Err one_fault) = Unit {0}

abbrev pub TakesSteps : Bytes → NameKind → ℕ → ℕ → Type 0
TakesSteps = TakesTextSteps

-- Nothing is parsed where the name says no kind or the nearest manifest is bad; for want of memory too this may be so.
abbrev pub TakesFileSteps : Option NameKind → Bytes → Scope → ℕ → ℕ → Type 0
TakesFileSteps (Some named) text (Ok found) before after = TakesTextSteps text named before after
TakesFileSteps (Some named) text (Err bad) before after = after ≡ before
TakesFileSteps None text scope before after = after ≡ before
