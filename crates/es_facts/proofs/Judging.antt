-- From the tables of a text to its first fault.
use Rattle.std.proofs.Common.{◌≡◌, ℕ, List, Some, None, sym, subst}
use Rattle.es_scope.specs.declared.kinds.EarlyError.{EarlyError}
use Rattle.es_scope.specs.declared.kinds.Refusal.{Refusal}
use Rattle.es_scope.specs.Source.{Source}
use Rattle.es_scope.specs.Faults.{IsEarly, IsFirstEarly, IsFirstRefused, HasNoFault}
use Rattle.es_refusals.specs.First.{IsFirst}
use Rattle.es_facts.specs.declared.tables.Tables.{Tables}
use Rattle.es_facts.specs.declared.answer.ModuleFault.TheVariants as fault
use Rattle.es_facts.specs.Answer.{HasFaultAt}
use Rattle.es_facts.specs.Errors.{IsFirstError, SpeaksOf, first_error, start_at}
use Rattle.es_facts.specs.Tables.{AreTables}
use Rattle.es_facts.proofs.FirstErrors.{first_of_all}

-- the first early error, as the tables tell it
pub first_early : (source : Source) (tables : Tables) → AreTables source tables
    → IsFirstError source (first_error tables.scopes.twice tables.exports.twice tables.exports.undeclared)
first_early source tables are =
    first_of_all source tables.scopes.twice tables.exports.twice tables.exports.undeclared are.scopes.twice are.exports.twice are.exports.undeclared

found : (source : Source) (place : ℕ) (error : EarlyError) → IsFirstError source (Some (place, error)) → IsFirstEarly source place error
found source place error (IsFirstError.some _ _ first) = first

no_error : (source : Source) → IsFirstError source None → (place : ℕ) (error : EarlyError) → ¬ IsEarly source place error
no_error source (IsFirstError.none never) = never

pub is_early : (source : Source) (place start : ℕ) (error : EarlyError) (name : List ℕ) → IsFirstError source (Some (place, error)) → SpeaksOf source place error name
    → start ≡ start_at source place → HasFaultAt source (fault.Early error start name)
is_early source place start error name first speaks at =
    subst (λ (n : ℕ). HasFaultAt source (fault.Early error n name)) (sym at) (HasFaultAt.early place error name (found source place error first) speaks)

first_of : (source : Source) (place : ℕ) (refusal : Refusal) → IsFirstError source None → IsFirst source (Some (place, refusal)) → IsFirstRefused source place refusal
first_of source place refusal never (IsFirst.some _ _ there least) = record { no_error = no_error source never; is_there = there; first = least }

pub is_refused : (source : Source) (place start : ℕ) (refusal : Refusal) → IsFirstError source None → IsFirst source (Some (place, refusal))
    → start ≡ start_at source place → HasFaultAt source (fault.Refused refusal start)
is_refused source place start refusal never first at =
    subst (λ (n : ℕ). HasFaultAt source (fault.Refused refusal n)) (sym at) (HasFaultAt.refused place refusal (first_of source place refusal never first))

pub no_fault : (source : Source) → IsFirstError source None → IsFirst source None → HasNoFault source
no_fault source never (IsFirst.none nothing) = record { no_error = no_error source never; no_refusal = nothing }
