-- The first fault of a text is the least of those that stand in it.
use Rattle.std.proofs.Common.{◌≡◌, ◌⊎◌, inl, inr, ℕ, ◌<◌, ◌≤◌, lit<, arith, List, Option, refl, subst}
use Rattle.std.specs.Str.{IsUtf8}
use Rattle.es_tree.specs.declared.tokens.ProgramGoal.{ProgramGoal}
use Rattle.es_grammar.specs.Reading.{Bytes}
use Rattle.es_outline.specs.Outline.{Marks}
use Rattle.es_outline.specs.Outlined.{Outlined}
use Rattle.pk_types.specs.declared.facts.Facts.{Facts}
use Rattle.pk_types.specs.declared.facts.NameKind.{NameKind}
use Rattle.pk_types.specs.declared.facts.NameKind.TheVariants as name
use Rattle.es_scope.specs.declared.kinds.EarlyError.{EarlyError}
use Rattle.es_scope.specs.declared.kinds.Refusal.{Refusal}
use Rattle.es_scope.specs.Faults.{IsEarly, IsFirstEarly, IsFirstRefused, HasNoFault, rank as error_rank}
use Rattle.es_scope.specs.Refused.{IsRefused}
use Rattle.es_facts.specs.Answer.{IsOutlined, IsJson, HasFacts, HasFault, HasFaultAt, source_of}
use Rattle.es_facts.specs.Errors.{start_at}
use Rattle.es_facts.specs.declared.answer.ModuleFault.{ModuleFault}
use Rattle.module_graph.specs.Shortlex.{IsAtMost}
use Rattle.module_at_path.specs.declared.fault.FileFault.{FileFault}
use Rattle.module_at_path.specs.declared.fault.FileFault.TheVariants as fault
use Rattle.module_at_path.specs.Faults.{StandsIn, order, of_text}
use Rattle.module_at_path.proofs.Outlines.{one_source, outlined_reads, json_no_outline, json_reads, outlined_program}

less_or : (m n : ℕ) → m ≤ n → (m < n) ⊎ (m ≡ n)
less_or m n most = grind (arith, most)

-- the text's fault, the least of those in it
pub record IsFirstIn (text : Bytes) (named : NameKind) (one_fault : FileFault) : Type 0 where
  pub place : ℕ
  pub stands : StandsIn text named place one_fault
  pub least : (other : ℕ) (further : FileFault) → StandsIn text named other further → IsAtMost (order place one_fault) (order other further)

module _ (text : Bytes) (named : NameKind) where
  pub least_large : (other : ℕ) (further : FileFault) → StandsIn text named other further → IsAtMost (order 0 fault.TooLarge) (order other further)
  least_large other further (StandsIn.not_utf8 _ _) = inr (inr (refl, inl (lit< tt)))
  least_large other further (StandsIn.syntax _) = inr (inr (refl, inl (lit< tt)))
  least_large other further (StandsIn.early _ _ _ _ _ _ _ _) = inr (inr (refl, inl (lit< tt)))
  least_large other further (StandsIn.refused _ _ _ _ _ _) = inr (inr (refl, inl (lit< tt)))
  least_large other further (StandsIn.bad_json _ _) = inr (inr (refl, inl (lit< tt)))

  pub least_utf8 : (other : ℕ) (further : FileFault) → StandsIn text named other further → IsAtMost (order 0 fault.NotUtf8) (order other further)
  least_utf8 other further (StandsIn.not_utf8 _ _) = inl refl
  least_utf8 other further (StandsIn.syntax _) = inr (inr (refl, inl (lit< tt)))
  least_utf8 other further (StandsIn.early _ _ _ _ _ _ _ _) = inr (inr (refl, inl (lit< tt)))
  least_utf8 other further (StandsIn.refused _ _ _ _ _ _) = inr (inr (refl, inl (lit< tt)))
  least_utf8 other further (StandsIn.bad_json _ _) = inr (inr (refl, inl (lit< tt)))

  least_syntax : IsUtf8 text → (other : ℕ) (further : FileFault) → StandsIn text named other further → IsAtMost (order 0 fault.Syntax) (order other further)
  least_syntax utf8 other further (StandsIn.not_utf8 _ lacks) = absurd (lacks utf8)
  least_syntax utf8 other further (StandsIn.syntax _) = inl refl
  least_syntax utf8 other further (StandsIn.early _ _ _ _ _ _ _ _) = inr (inr (refl, inl (lit< tt)))
  least_syntax utf8 other further (StandsIn.refused _ _ _ _ _ _) = inr (inr (refl, inl (lit< tt)))
  least_syntax utf8 other further (StandsIn.bad_json _ _) = inr (inr (refl, inl (lit< tt)))

  -- the earlier of two early errors
  early_order : (place other : ℕ) (error further : EarlyError) (start start_of : ℕ) (name called : List ℕ) → place < other ⊎ ((place ≡ other) × (error_rank error ≤ error_rank further))
      → IsAtMost (order place (fault.Early error start name)) (order other (fault.Early further start_of called))
  early_order place other error further start start_of name called (inl before) = inr (inr (refl, inr (refl, inl before)))
  early_order place other error further start start_of name called (inr same) = at_place (less_or (error_rank error) (error_rank further) same.1)
    where
      at_place : (error_rank error < error_rank further) ⊎ (error_rank error ≡ error_rank further)
          → IsAtMost (order place (fault.Early error start name)) (order other (fault.Early further start_of called))
      at_place (inl less) = inr (inr (refl, inr (refl, inr (same.0, inl less))))
      at_place (inr equal) = inl cc

  refused_order : (place other : ℕ) (refusal further : Refusal) (start start_of : ℕ) → place ≤ other
      → IsAtMost (order place (fault.Refused refusal start)) (order other (fault.Refused further start_of))
  refused_order place other refusal further start start_of le = by_place (less_or place other le)
    where
      by_place : (place < other) ⊎ (place ≡ other) → IsAtMost (order place (fault.Refused refusal start)) (order other (fault.Refused further start_of))
      by_place (inl before) = inr (inr (refl, inr (refl, inl before)))
      by_place (inr same) = inl cc

  module _ (utf8 : IsUtf8 text) (goal : ProgramGoal) (marks : Marks) (outlined : IsOutlined text named goal marks) where
    same_of : (other : ProgramGoal) (further : Marks) → IsOutlined text named other further → source_of text other further ≡ source_of text goal marks
    same_of other further again = one_source text named other goal further marks again outlined

    early_here : (other : ProgramGoal) (further : Marks) (place : ℕ) (error : EarlyError) → IsOutlined text named other further
        → IsEarly (source_of text other further) place error → IsEarly (source_of text goal marks) place error
    early_here other further place error again is = subst (λ source. IsEarly source place error) (same_of other further again) is

    refused_here : (other : ProgramGoal) (further : Marks) (place : ℕ) (refusal : Refusal) → IsOutlined text named other further
        → IsRefused (source_of text other further) place refusal → IsRefused (source_of text goal marks) place refusal
    refused_here other further place refusal again is = subst (λ source. IsRefused source place refusal) (same_of other further again) is

    least_early : (place : ℕ) (error : EarlyError) (start : ℕ) (name : List ℕ) → IsFirstEarly (source_of text goal marks) place error → (other : ℕ) (further : FileFault)
        → StandsIn text named other further → IsAtMost (order place (fault.Early error start name)) (order other further)
    least_early place error start name first other further (StandsIn.not_utf8 _ lacks) = absurd (lacks utf8)
    least_early place error start name first other further (StandsIn.syntax none) = absurd (outlined_reads text named goal marks outlined none)
    least_early place error start name first other further (StandsIn.early one many at wrong called again is speaks) =
        early_order place at error wrong start (start_at (source_of text one many) at) name called (first.first at wrong (early_here one many at wrong again is))
    least_early place error start name first other further (StandsIn.refused _ _ _ _ _ _) = inr (inr (refl, inl (lit< tt)))
    least_early place error start name first other further (StandsIn.bad_json _ _) = inr (inr (refl, inl (lit< tt)))

    least_refused : (place : ℕ) (refusal : Refusal) (start : ℕ) → IsFirstRefused (source_of text goal marks) place refusal → (other : ℕ) (further : FileFault)
        → StandsIn text named other further → IsAtMost (order place (fault.Refused refusal start)) (order other further)
    least_refused place refusal start first other further (StandsIn.not_utf8 _ lacks) = absurd (lacks utf8)
    least_refused place refusal start first other further (StandsIn.syntax none) = absurd (outlined_reads text named goal marks outlined none)
    least_refused place refusal start first other further (StandsIn.early one many at wrong called again is speaks) =
        absurd (first.no_error at wrong (early_here one many at wrong again is))
    least_refused place refusal start first other further (StandsIn.refused one many at wrong again is) =
        refused_order place at refusal wrong start (start_at (source_of text one many) at) (first.first at wrong (refused_here one many at wrong again is))
    least_refused place refusal start first other further (StandsIn.bad_json _ _) = inr (inr (refl, inl (lit< tt)))

    first_at_goal : (one_fault : ModuleFault) → HasFaultAt (source_of text goal marks) one_fault → IsFirstIn text named (of_text one_fault)
    first_at_goal one_fault (HasFaultAt.early place error name first speaks) = record {
      place = place;
      stands = StandsIn.early goal marks place error name outlined first.is_there speaks;
      least = least_early place error (start_at (source_of text goal marks) place) name first;
    }
    first_at_goal one_fault (HasFaultAt.refused place refusal first) =
        record { place = place; stands = StandsIn.refused goal marks place refusal outlined first.is_there; least = least_refused place refusal (start_at (source_of text goal marks) place) first }

    no_fault_here : HasNoFault (source_of text goal marks) → (other : ℕ) (further : FileFault) → ¬ StandsIn text named other further
    no_fault_here never other further (StandsIn.not_utf8 _ lacks) = lacks utf8
    no_fault_here never other further (StandsIn.syntax none) = outlined_reads text named goal marks outlined none
    no_fault_here never other further (StandsIn.early one many at wrong called again is speaks) = never.no_error at wrong (early_here one many at wrong again is)
    no_fault_here never other further (StandsIn.refused one many at wrong again is) = never.no_refusal at wrong (refused_here one many at wrong again is)
    no_fault_here never other further (StandsIn.bad_json json _) = outlined_program text named goal marks outlined json

module _ (text : Bytes) where
  least_json : (other : ℕ) (further : FileFault) → StandsIn text name.Json other further → IsAtMost (order 0 fault.BadJson) (order other further)
  least_json other further (StandsIn.not_utf8 program _) = absurd (program refl)
  least_json other further (StandsIn.syntax none) = absurd (json_reads text none)
  least_json other further (StandsIn.early goal marks _ _ _ is _ _) = absurd (json_no_outline text goal marks is)
  least_json other further (StandsIn.refused goal marks _ _ is _) = absurd (json_no_outline text goal marks is)
  least_json other further (StandsIn.bad_json _ _) = inl refl

  no_fault_json : IsJson text → (other : ℕ) (further : FileFault) → ¬ StandsIn text name.Json other further
  no_fault_json json other further (StandsIn.not_utf8 program _) = program refl
  no_fault_json json other further (StandsIn.syntax none) = json_reads text none
  no_fault_json json other further (StandsIn.early goal marks _ _ _ is _ _) = json_no_outline text goal marks is
  no_fault_json json other further (StandsIn.refused goal marks _ _ is _) = json_no_outline text goal marks is
  no_fault_json json other further (StandsIn.bad_json _ lacks) = lacks json

  pub first_in : (named : NameKind) (one_fault : ModuleFault) → HasFault text named one_fault → IsFirstIn text named (of_text one_fault)
  first_in named one_fault (HasFault.not_utf8 _ program lacks) = record { place = 0; stands = StandsIn.not_utf8 program lacks; least = least_utf8 text named }
  first_in named one_fault (HasFault.syntax _ utf8 none) = record { place = 0; stands = StandsIn.syntax none; least = least_syntax text named utf8 }
  first_in named one_fault (HasFault.at_goal _ goal marks _ utf8 outlined has) = first_at_goal text named utf8 goal marks outlined one_fault has
  first_in named one_fault (HasFault.bad_json lacks) = record { place = 0; stands = StandsIn.bad_json refl lacks; least = least_json }

  pub no_fault_in : (named : NameKind) (facts : Facts) (outline : Option Outlined) → HasFacts text named facts outline
      → (other : ℕ) (further : FileFault) → ¬ StandsIn text named other further
  no_fault_in named facts outline (HasFacts.json json) = no_fault_json json
  no_fault_in named facts outline (HasFacts.program _ goal _ one utf8 outlined are) = no_fault_here text named utf8 goal one.marks outlined are.no_fault
