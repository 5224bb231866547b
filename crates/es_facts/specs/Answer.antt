-- What is answered of a module's text: its facts and the outline that gave them, or its first fault.
use Rattle.std.specs.Prelude.{◌≡◌, ◌≢◌, ◌⊎◌, ℕ, ◌+◌, Bool, true, false, length, List, Option, Some, None, Result, Ok, Err}
use Rattle.std.specs.Str.{IsUtf8}
use Rattle.es_tree.specs.declared.tokens.ProgramGoal.{ProgramGoal}
use Rattle.es_tree.specs.declared.tokens.ProgramGoal.TheVariants.{Script, Module}
use Rattle.es_grammar.specs.Reading.{Bytes}
use Rattle.es_outline.specs.Outline.{Marks}
use Rattle.es_outline.specs.Outlined.{Outlined}
use Rattle.es_trace.specs.Trees.{IsOutlineOf, HasNoTree}
use Rattle.pk_types.specs.declared.facts.Facts.{Facts}
use Rattle.pk_types.specs.declared.facts.Kind.TheVariants as kind
use Rattle.pk_types.specs.declared.facts.NameKind.{NameKind}
use Rattle.pk_types.specs.declared.facts.NameKind.TheVariants as name
use Rattle.pk_types.specs.Fitting.{AreFitting}
use Rattle.pk_types.specs.NoFacts.{no_facts}
use Rattle.pkg_manifest.specs.declared.value.Json.{Json}
use Rattle.pkg_manifest.specs.declared.fault.ManifestFault.{ManifestFault}
use Rattle.pkg_manifest.specs.declared.fault.ManifestFault.TheVariants as manifest
use Rattle.pkg_manifest.specs.Grammar.{StandsFor}
use Rattle.es_scope.specs.declared.kinds.EarlyError.{EarlyError}
use Rattle.es_scope.specs.declared.kinds.Refusal.{Refusal}
use Rattle.es_scope.specs.Source.{Source}
use Rattle.es_scope.specs.Faults.{IsFirstEarly, IsFirstRefused, HasNoFault}
use Rattle.es_scope.specs.FactsOf.{AreFacts}
use Rattle.es_facts.specs.Errors.{SpeaksOf, start_at}
use Rattle.es_facts.specs.declared.answer.ModuleFault.{ModuleFault}
use Rattle.es_facts.specs.declared.answer.ModuleFault.TheVariants as fault
use Rattle.es_facts.specs.declared.answer.Parsed.{Parsed}

-- These marks are the outline of the text at the goal that its name says. Where the name says none, the text is a script if it has a tree
-- as one.
pub data IsOutlined (text : Bytes) : NameKind → ProgramGoal → Marks → Type 0 where
  es : (marks : Marks) → IsOutlineOf text Module marks → IsOutlined text name.Module Module marks
  common : (marks : Marks) → IsOutlineOf text Script marks → IsOutlined text name.Common Script marks
  script : (marks : Marks) → IsOutlineOf text Script marks → IsOutlined text name.Either Script marks
  otherwise : (marks : Marks) → HasNoTree text Script → IsOutlineOf text Module marks → IsOutlined text name.Either Module marks

-- the text has no tree at any goal that its name allows
pub data IsSyntax (text : Bytes) : NameKind → Type 0 where
  es : HasNoTree text Module → IsSyntax text name.Module
  common : HasNoTree text Script → IsSyntax text name.Common
  both : HasNoTree text Script → HasNoTree text Module → IsSyntax text name.Either

abbrev pub IsJson : Bytes → Type 0
IsJson text = (value : Json) × StandsFor text value

-- what the reader of manifests says of a text tells whether it is JSON
abbrev pub JudgesJson : Bytes → Option ManifestFault → Type 0
JudgesJson text None = IsJson text
JudgesJson text (Some manifest.NotObject) = IsJson text
JudgesJson text (Some manifest.NotJson) = ¬ IsJson text
JudgesJson text (Some manifest.NoMemory) = Unit {0}

-- whether the text is JSON
abbrev pub TellsJson : Bytes → Result Bool ModuleFault → Type 0
TellsJson text (Ok true) = IsJson text
TellsJson text (Ok false) = ¬ IsJson text
TellsJson text (Err one_fault) = one_fault ≡ fault.NoMemory

-- the text at the goal, with the marks of its outline
abbrev pub source_of : Bytes → ProgramGoal → Marks → Source
source_of text goal marks = record { text = text; goal = goal; marks = marks }

-- a text that parses at a goal has no fault, and these are its facts
pub record AreFactsAt (source : Source) (facts : Facts) : Type 0 where
  pub no_fault : HasNoFault source
  pub facts_are : AreFacts source facts

pub data HasFacts (text : Bytes) : NameKind → Facts → Option Outlined → Type 0 where
  json : IsJson text → HasFacts text name.Json (no_facts kind.Json) None
  program : (named : NameKind) (goal : ProgramGoal) (facts : Facts) (outline : Outlined) → IsUtf8 text → IsOutlined text named goal outline.marks
      → AreFactsAt (source_of text goal outline.marks) facts → HasFacts text named facts (Some outline)

-- the fault of a text that parses at a goal, at the byte where its token starts
pub data HasFaultAt (source : Source) : ModuleFault → Type 0 where
  early : (place : ℕ) (error : EarlyError) (name : List ℕ) → IsFirstEarly source place error → SpeaksOf source place error name
      → HasFaultAt source (fault.Early error (start_at source place) name)
  refused : (place : ℕ) (refusal : Refusal) → IsFirstRefused source place refusal → HasFaultAt source (fault.Refused refusal (start_at source place))

pub data HasFault (text : Bytes) : NameKind → ModuleFault → Type 0 where
  not_utf8 : (named : NameKind) → named ≢ name.Json → ¬ IsUtf8 text → HasFault text named fault.NotUtf8
  syntax : (named : NameKind) → IsUtf8 text → IsSyntax text named → HasFault text named fault.Syntax
  at_goal : (named : NameKind) (goal : ProgramGoal) (marks : Marks) (one_fault : ModuleFault) → IsUtf8 text → IsOutlined text named goal marks
      → HasFaultAt (source_of text goal marks) one_fault → HasFault text named one_fault
  bad_json : ¬ IsJson text → HasFault text name.Json fault.BadJson

-- of want of memory nothing is said
abbrev pub FaultOr : (ModuleFault → Type 0) → ModuleFault → Type 0
FaultOr IsFault fault.NoMemory = Unit {0}
FaultOr IsFault one_fault = IsFault one_fault

-- the text has no fault, or this one
abbrev pub Judges : Source → Result (Unit {0}) ModuleFault → Type 0
Judges source (Ok nothing) = HasNoFault source
Judges source (Err one_fault) = FaultOr (HasFaultAt source) one_fault

abbrev pub AnswersAt : Source → Result Facts ModuleFault → Type 0
AnswersAt source (Ok facts) = AreFactsAt source facts
AnswersAt source (Err one_fault) = FaultOr (HasFaultAt source) one_fault

abbrev pub Answers : Bytes → NameKind → Result Parsed ModuleFault → Type 0
Answers text named (Ok parsed) = HasFacts text named parsed.facts parsed.outline
Answers text named (Err one_fault) = FaultOr (HasFault text named) one_fault

-- the outline of the text at the goal, or that it has no tree there
abbrev pub OutlinesGoal : Bytes → ProgramGoal → Result (Option Outlined) ModuleFault → Type 0
OutlinesGoal text goal (Ok (Some outline)) = IsOutlineOf text goal outline.marks
OutlinesGoal text goal (Ok None) = HasNoTree text goal
OutlinesGoal text goal (Err one_fault) = one_fault ≡ fault.NoMemory

-- the facts that the outline gives at the goal, or the fault
abbrev pub AnswersMarks : Bytes → ProgramGoal → Outlined → Result Parsed ModuleFault → Type 0
AnswersMarks text goal outline (Ok parsed) = (parsed.outline ≡ Some outline) × AreFactsAt (source_of text goal outline.marks) parsed.facts
AnswersMarks text goal outline (Err one_fault) = FaultOr (HasFaultAt (source_of text goal outline.marks)) one_fault

-- the text has an outline at the goal, and this fault
abbrev pub HasGoalFault : Bytes → ProgramGoal → ModuleFault → Type 0
HasGoalFault text goal one_fault = (marks : Marks) × IsOutlineOf text goal marks × HasFaultAt (source_of text goal marks) one_fault

-- the text has this outline at the goal, and these facts
abbrev pub HasGoalFacts : Bytes → ProgramGoal → Parsed → Type 0
HasGoalFacts text goal parsed = (outline : Outlined) × (parsed.outline ≡ Some outline) × IsOutlineOf text goal outline.marks
    × AreFactsAt (source_of text goal outline.marks) parsed.facts

abbrev pub AnswersGoal : Bytes → ProgramGoal → Result (Option Parsed) ModuleFault → Type 0
AnswersGoal text goal (Ok (Some parsed)) = HasGoalFacts text goal parsed
AnswersGoal text goal (Ok None) = HasNoTree text goal
AnswersGoal text goal (Err one_fault) = FaultOr (HasGoalFault text goal) one_fault

-- the answer is that the text has no tree
abbrev pub is_treeless : Result (Option Parsed) ModuleFault → Bool
is_treeless (Ok None) = true
is_treeless _ = false

-- the facts of the answer, if there are any, fit
abbrev pub FitParsed : Result Parsed ModuleFault → Type 0
FitParsed (Ok parsed) = AreFitting parsed.facts
FitParsed (Err one_fault) = Unit {0}

abbrev pub FitGoal : Result (Option Parsed) ModuleFault → Type 0
FitGoal (Ok (Some parsed)) = AreFitting parsed.facts
FitGoal (Ok None) = Unit {0}
FitGoal (Err one_fault) = Unit {0}

-- that there is no tree is the fault
abbrev pub or_syntax : Result (Option Parsed) ModuleFault → Result Parsed ModuleFault
or_syntax (Ok (Some parsed)) = Ok parsed
or_syntax (Ok None) = Err fault.Syntax
or_syntax (Err one_fault) = Err one_fault

-- the steps of one parse
abbrev pub steps_of : Bytes → ℕ
steps_of text = length text + 1

-- one parse as a script, and where the text has no tree as one, one as a module
abbrev pub TakesOnceOrTwice : Bytes → ℕ → ℕ → Type 0
TakesOnceOrTwice text before after = (after ≡ before + steps_of text) ⊎ (HasNoTree text Script × (after ≡ before + steps_of text + steps_of text))

-- the text is parsed once at each goal that is needed
abbrev pub TakesParses : Bytes → NameKind → ℕ → ℕ → Type 0
TakesParses text name.Either before after = TakesOnceOrTwice text before after
TakesParses text _ before after = after ≡ before + steps_of text

-- and not at all where it is not UTF-8
abbrev pub TakesProgramSteps : Bytes → NameKind → ℕ → ℕ → Type 0
TakesProgramSteps text named before after = (¬ IsUtf8 text × (after ≡ before)) ⊎ (IsUtf8 text × TakesParses text named before after)

-- or JSON
abbrev pub TakesSteps : Bytes → NameKind → ℕ → ℕ → Type 0
TakesSteps text name.Json before after = after ≡ before
TakesSteps text named before after = TakesProgramSteps text named before after
