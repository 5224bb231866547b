-- From the answer at a goal to that for a name.
use Rattle.std.proofs.Common.{◌≡◌, true, false, Option, Some, None, Result, Ok, Err, sym, subst, true≢false}
use Rattle.std.specs.Str.{IsUtf8}
use Rattle.es_tree.specs.declared.tokens.ProgramGoal.{ProgramGoal}
use Rattle.es_tree.specs.declared.tokens.ProgramGoal.TheVariants.{Script, Module}
use Rattle.es_grammar.specs.Reading.{Bytes}
use Rattle.es_outline.specs.Outline.{Marks}
use Rattle.es_trace.specs.Trees.{IsOutlineOf, HasNoTree}
use Rattle.pk_types.specs.declared.facts.NameKind.{NameKind}
use Rattle.pk_types.specs.declared.facts.NameKind.TheVariants as name
use Rattle.es_facts.specs.declared.answer.ModuleFault.{ModuleFault}
use Rattle.es_facts.specs.declared.answer.ModuleFault.TheVariants as fault
use Rattle.es_facts.specs.declared.answer.Parsed.{Parsed}
use Rattle.es_facts.specs.Answer.{IsOutlined, IsSyntax, HasFacts, HasFault, FaultOr, HasGoalFacts, HasGoalFault, AnswersGoal, Answers, or_syntax, is_treeless}

-- what holds of a fault, where this follows from something else
pub fault_or : {P Q : ModuleFault → Type 0} → ((one_fault : ModuleFault) → P one_fault → Q one_fault) → (one_fault : ModuleFault) → FaultOr P one_fault → FaultOr Q one_fault
fault_or f fault.NoMemory p = tt
fault_or f fault.NotUtf8 p = f fault.NotUtf8 p
fault_or f fault.Syntax p = f fault.Syntax p
fault_or f (fault.Early error place name) p = f (fault.Early error place name) p
fault_or f (fault.Refused refusal place) p = f (fault.Refused refusal place) p
fault_or f fault.BadJson p = f fault.BadJson p

-- a name for which an outline at the goal is the text's
abbrev pub Takes : Bytes → NameKind → ProgramGoal → Type 0
Takes text named goal = (marks : Marks) → IsOutlineOf text goal marks → IsOutlined text named goal marks

module _ {text : Bytes} (named : NameKind) (goal : ProgramGoal) (utf8 : IsUtf8 text) (takes : Takes text named goal) where
  pub has_facts : (parsed : Parsed) → HasGoalFacts text goal parsed → HasFacts text named parsed.facts parsed.outline
  has_facts parsed has =
      subst (HasFacts text named parsed.facts) (sym has.1)
      (HasFacts.program named goal parsed.facts has.0 utf8 (takes has.0.marks has.2) has.3)

  at_goal : (one_fault : ModuleFault) → HasGoalFault text goal one_fault → HasFault text named one_fault
  at_goal one_fault has = HasFault.at_goal named goal has.0 one_fault utf8 (takes has.0 has.1) has.2

  pub has_fault : (one_fault : ModuleFault) → FaultOr (HasGoalFault text goal) one_fault → FaultOr (HasFault text named) one_fault
  has_fault one_fault = fault_or at_goal one_fault

module _ (text : Bytes) where
  pub module_takes : Takes text name.Module Module
  module_takes marks outline = IsOutlined.es marks outline

  pub common_takes : Takes text name.Common Script
  common_takes marks outline = IsOutlined.common marks outline

  pub either_takes : Takes text name.Either Script
  either_takes marks outline = IsOutlined.script marks outline

  pub otherwise_takes : HasNoTree text Script → Takes text name.Either Module
  otherwise_takes none marks outline = IsOutlined.otherwise marks none outline

-- the answer for a name that is parsed at this goal first
module _ {text : Bytes} (named : NameKind) (goal : ProgramGoal) (utf8 : IsUtf8 text) (takes : Takes text named goal) where
  first_answer : (HasNoTree text goal → IsSyntax text named) → (answer : Result (Option Parsed) ModuleFault) → AnswersGoal text goal answer
      → Answers text named (or_syntax answer)
  first_answer none (Ok (Some parsed)) has = has_facts named goal utf8 takes parsed has
  first_answer none (Ok None) has = HasFault.syntax named utf8 (none has)
  first_answer none (Err one_fault) has = has_fault named goal utf8 takes one_fault has

module _ (text : Bytes) (utf8 : IsUtf8 text) where
  pub module_answer : (answer : Result (Option Parsed) ModuleFault) → AnswersGoal text Module answer → Answers text name.Module (or_syntax answer)
  module_answer = first_answer name.Module Module utf8 (module_takes text) IsSyntax.es

  pub common_answer : (answer : Result (Option Parsed) ModuleFault) → AnswersGoal text Script answer → Answers text name.Common (or_syntax answer)
  common_answer = first_answer name.Common Script utf8 (common_takes text) IsSyntax.common

  pub otherwise_answer : HasNoTree text Script → (answer : Result (Option Parsed) ModuleFault) → AnswersGoal text Module answer
      → Answers text name.Either (or_syntax answer)
  otherwise_answer none = first_answer name.Either Module utf8 (otherwise_takes text none) (IsSyntax.both none)

  pub either_answer : (answer : Result (Option Parsed) ModuleFault) → is_treeless answer ≡ false → AnswersGoal text Script answer → Answers text name.Either (or_syntax answer)
  either_answer (Ok None) some has = absurd (true≢false some)
  either_answer (Ok (Some parsed)) some has = has_facts name.Either Script utf8 (either_takes text) parsed has
  either_answer (Err one_fault) some has = has_fault name.Either Script utf8 (either_takes text) one_fault has

-- the answer is that there is none
pub no_tree : (text : Bytes) (goal : ProgramGoal) (answer : Result (Option Parsed) ModuleFault) → is_treeless answer ≡ true → AnswersGoal text goal answer → HasNoTree text goal
no_tree text goal (Ok None) none has = has
no_tree text goal (Ok (Some parsed)) none has = absurd (true≢false (sym none))
no_tree text goal (Err one_fault) none has = absurd (true≢false (sym none))
