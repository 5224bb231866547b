-- The name by which a place exports.
use Rattle.std.proofs.Common.{◌≡◌, ◌+◌, ◌||◌, ⊎_elim, ℕ, true, false, List, Option, Result, Ok, Err, IfOk, true≢false, sym, subst, ◌∙◌}
use Rattle.std.proofs.lemmas.Bool.{and_parts, and_from, or_cases, or_left, or_right}
use Rattle.es_scope.specs.declared.kinds.EarlyError.{EarlyError}
use Rattle.es_scope.specs.declared.kinds.EarlyError.TheVariants.{ExportedTwice}
use Rattle.es_scope.specs.Declaring.{default}
use Rattle.es_scope.specs.Exporting.{ExportedAs, ExportsName}
use Rattle.es_scope.specs.Source.{Source, name_at}
use Rattle.es_exports.specs.Seeing.{role_at, begun_before, is_outer, is_exported, is_star, says_outer, says_default}
use Rattle.es_facts.specs.Errors.{SpeaksOf, said_at}
use Rattle.es_exports.proofs.Marks.{outer_here, outer_there, exported_here, exported_there}
use Rattle.es_exports.proofs.Naming.{space_here, space_there, default_here, default_there}

module _ (source : Source) (place : ℕ) where
  pub by_default : says_default source place ≡ true → ExportsName source place default
  by_default e = let there = default_there source place e in ExportsName.by_default there.0 there.1

  pub by_outer : says_outer source place ≡ true → ExportsName source place (name_at source (place + 2))
  by_outer e =
      let both = and_parts (is_exported (role_at source place) || is_star (begun_before source place)) (is_outer (role_at source (place + 2))) e in
      ⊎_elim
      (λ listed. ExportsName.listed (name_at source (place + 2)) (exported_there source place listed) (ExportedAs.renamed (outer_there source (place + 2) both.1)))
      (λ star. ExportsName.space (space_there source place (and_from (is_star (begun_before source place)) (is_outer (role_at source (place + 2))) star both.1)))
      (or_cases (is_exported (role_at source place)) (is_star (begun_before source place)) both.0)

  never : {A : Type 0} → says_outer source place ≡ false → says_outer source place ≡ true → A
  never none some = absurd (true≢false (sym some ∙ none))

  -- where neither is so, the name is the place's own
  pub by_own : says_default source place ≡ false → says_outer source place ≡ false → (name : List ℕ) → ExportsName source place name
      → ExportsName source place (name_at source place)
  by_own no_default no_outer name (ExportsName.listed _ t (ExportedAs.same none)) = ExportsName.listed (name_at source place) t (ExportedAs.same none)
  by_own no_default no_outer name (ExportsName.listed _ t (ExportedAs.renamed outer)) = never no_outer
      (and_from (is_exported (role_at source place) || is_star (begun_before source place)) (is_outer (role_at source (place + 2)))
      (or_left (is_exported (role_at source place)) (is_star (begun_before source place)) (exported_here source place t))
      (outer_here source (place + 2) outer))
  by_own no_default no_outer name (ExportsName.space h) = never no_outer
      (and_from (is_exported (role_at source place) || is_star (begun_before source place)) (is_outer (role_at source (place + 2)))
      (or_right (is_exported (role_at source place)) (is_star (begun_before source place))
      (and_parts (is_star (begun_before source place)) (is_outer (role_at source (place + 2))) (space_here source place h)).0)
      (outer_here source (place + 2) h.named))
  by_own no_default no_outer name (ExportsName.declared h) = ExportsName.declared h
  by_own no_default no_outer name (ExportsName.by_default opening h) = absurd (true≢false (sym (default_here source place opening h) ∙ no_default))

-- a name that stands where the error says
module _ {E : Type 0} (source : Source) (place : ℕ) (at : Option ℕ) where
  pub speaks_where : (error : EarlyError) → ((name : List ℕ) → name ≡ said_at source at → SpeaksOf source place error name) → (result : Result (List ℕ) E)
      → IfOk result (λ name. name ≡ said_at source at) → IfOk result (SpeaksOf source place error)
  speaks_where error so (Ok name) is = so name is
  speaks_where error so (Err e) is = tt

pub speaks_here : (source : Source) (place : ℕ) (error known : EarlyError) → error ≡ known → SpeaksOf source place known (name_at source place) → (name : List ℕ)
    → name ≡ name_at source place → SpeaksOf source place error name
speaks_here source place error known is speaks name said =
    subst (λ e. SpeaksOf source place e name) (sym is) (subst (SpeaksOf source place known) (sym said) speaks)

pub speaks_exported : (source : Source) (place : ℕ) (error : EarlyError) → error ≡ ExportedTwice → (at : Option ℕ) → ExportsName source place (said_at source at) → (name : List ℕ)
    → name ≡ said_at source at → SpeaksOf source place error name
speaks_exported source place error is at exports name said =
    subst (λ e. SpeaksOf source place e name) (sym is) (SpeaksOf.exported name (subst (ExportsName source place) (sym said) exports))
