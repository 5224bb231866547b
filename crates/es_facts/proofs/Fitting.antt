-- The facts of a text fit.
use Rattle.std.proofs.Common.{◌≡◌, ◌+◌, ◌<◌, ◌^◌, Result, Ok, Err, IfOk, length, subst}
use Rattle.es_tree.specs.declared.tokens.ProgramGoal.{ProgramGoal}
use Rattle.es_grammar.specs.Reading.{Bytes}
use Rattle.es_outline.specs.Outline.{Marks}
use Rattle.es_reader.proofs.Tying.{program_sound}
use Rattle.es_trace.specs.Trees.{IsOutlineOf}
use Rattle.pk_types.specs.declared.facts.Facts.{Facts}
use Rattle.pk_types.specs.Fitting.{AreFitting}
use Rattle.es_scope.specs.Source.{Source}
use Rattle.facts_laws.specs.Conditions.{IsOutlined}
use Rattle.facts_laws.proofs.Whole as law
use Rattle.es_facts.specs.declared.answer.ModuleFault.{ModuleFault}
use Rattle.es_facts.specs.Answer.{source_of, AreFactsAt, AnswersAt}

is_outlined : (text : Bytes) (goal : ProgramGoal) (marks : Marks) → IsOutlineOf text goal marks → IsOutlined (source_of text goal marks)
is_outlined text goal marks is =
    let sound = program_sound text goal is.0 is.1 in
    record { program = is.0; parses = sound.0; goal = sound.1; marks = is.2 }

facts_fit : (text : Bytes) (goal : ProgramGoal) (marks : Marks) → IsOutlineOf text goal marks → length marks + 2 < 2 ^ 32 → (facts : Facts)
    → AreFactsAt (source_of text goal marks) facts → AreFitting facts
facts_fit text goal marks is few facts are =
    law.facts_fit (source_of text goal marks) facts (is_outlined text goal marks is) few are.no_fault are.facts_are

pub fit_answer : (text : Bytes) (goal : ProgramGoal) (marks : Marks) → IsOutlineOf text goal marks → length marks + 2 < 2 ^ 32 → (source : Source)
    → source ≡ source_of text goal marks → (answer : Result Facts ModuleFault) → AnswersAt source answer → IfOk answer AreFitting
fit_answer text goal marks is few source same (Ok facts) are = facts_fit text goal marks is few facts (subst (λ one. AreFactsAt one facts) same are)
fit_answer text goal marks is few source same (Err one_fault) are = tt
