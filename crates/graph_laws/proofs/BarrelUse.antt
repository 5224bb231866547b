-- What is used of the graph of the barrel doesn't depend on what is said of side effects.
use Rattle.std.proofs.Common.{◌≡◌, ◌↔◌, ℕ, zero, suc, ◌+◌, Bool, true, false, true≢false, List, [], ◌∷◌, Contains, Some, slice_get, refl, sym, ap, subst, ◌∙◌, arith}
use Rattle.std.proofs.lemmas.Option.{none-some, same_Some}
use Rattle.pk_types.specs.declared.facts.Origin.TheVariants.{Own, Other, Space}
use Rattle.pk_types.specs.declared.facts.Ref.TheVariants.{Imported}
use Rattle.pk_types.specs.declared.facts.SiteKind.{SiteKind}
use Rattle.pk_types.specs.declared.facts.SiteKind.TheVariants as site
use Rattle.pk_types.specs.declared.graph.Graph.{Graph}
use Rattle.pk_types.specs.declared.graph.Row.{Row}
use Rattle.pk_types.specs.Sites.{is_call}
use Rattle.pk_types.specs.Resolving.{origin_of}
use Rattle.pk_types.specs.ExportedNames.{AreInByteOrder}
use Rattle.pk_types.specs.Requests.{site_kinds, CallsRequire, CallsImport, NamesAtSite, UsesSpaceAtSite}
use Rattle.pk_types.specs.Reexports.{PassesOn, ExportsSpace}
use Rattle.pk_types.specs.Use.{IsReached, IsUsed, IsUsedThrough, IsWholeThrough, HasUse}
use Rattle.pk_types.proofs.Parts.{Contains-one, one_only, none_within}
use Rattle.graph_laws.specs.SmallUse.{v1, v2, v3, user, barrel, owner, barrel_used}
use Rattle.graph_laws.proofs.SmallUse.{at_user, other_place, one_in_order, none_in_order}
use Rattle.graph_laws.proofs.StarBarrel.{quiet, init_space, at_owner}

read_space : (request : ℕ) → site.Read (Imported 0) ≡ site.Space request → ⊥
read_space request e = grind arith

own_other : (request : ℕ) (name : List ℕ) → Some (Own 0) ≡ Some (Other request name) → ⊥
own_other request name e = grind arith

own_space : (request : ℕ) → Some (Own 0) ≡ Some (Space request) → ⊥
own_space request e = grind arith

other_space : (request : ℕ) → Some (Other 1 v2) ≡ Some (Space request) → ⊥
other_space request e = grind arith

module _ (barrel_flag owner_flag : Bool) where
  abbrev middle : Row
  middle = record barrel { flagged = barrel_flag }

  abbrev behind : List ℕ → Row
  behind name = record (owner name) { flagged = owner_flag }

  abbrev graph : Graph
  graph = record { rows = user ∷ middle ∷ behind v1 ∷ behind v2 ∷ behind v3 ∷ []; entries = 0 ∷ [] }

  -- which module has which row
  data Which : ℕ → Row → Type 0 where
    is_user : Which 0 user
    is_barrel : Which 1 middle
    is_first : Which 2 (behind v1)
    is_second : Which 3 (behind v2)
    is_third : Which 4 (behind v3)

  which : (number : ℕ) (row : Row) → slice_get graph.rows number ≡ Some row → Which number row
  which zero row e = subst (Which 0) (same_Some user row e) Which.is_user
  which (suc zero) row e = subst (Which 1) (same_Some middle row e) Which.is_barrel
  which (suc (suc zero)) row e = subst (Which 2) (same_Some (behind v1) row e) Which.is_first
  which (suc (suc (suc zero))) row e = subst (Which 3) (same_Some (behind v2) row e) Which.is_second
  which (suc (suc (suc (suc zero)))) row e = subst (Which 4) (same_Some (behind v3) row e) Which.is_third
  which (suc (suc (suc (suc (suc number))))) row e = absurd (none-some row e)

  -- no site calls for a module, or uses a namespace
  no_calls : (number : ℕ) (row : Row) → Which number row → (kind : SiteKind) → Contains (site_kinds row) kind → is_call kind ≡ false
  no_calls _ _ Which.is_user = quiet user (refl, tt)
  no_calls _ _ Which.is_barrel = quiet middle tt
  no_calls _ _ Which.is_first = quiet (behind v1) (refl, tt)
  no_calls _ _ Which.is_second = quiet (behind v2) (refl, tt)
  no_calls _ _ Which.is_third = quiet (behind v3) (refl, tt)

  pub calls_require : (number target : ℕ) → CallsRequire graph number target → ⊥
  calls_require number target c = true≢false (no_calls number c.0 (which number c.0 c.2) (site.Require c.1) c.3)

  pub calls_import : (number target : ℕ) → CallsImport graph number target → ⊥
  calls_import number target c = true≢false (no_calls number c.0 (which number c.0 c.2) (site.Import c.1) c.3)

  no_space : (number : ℕ) (row : Row) → Which number row → (request : ℕ) → UsesSpaceAtSite row request → ⊥
  no_space _ _ Which.is_user request c = read_space request (one_only (site.Read (Imported 0)) (site.Space request) c)
  no_space _ _ Which.is_barrel request c = none_within (site.Space request) c
  no_space _ _ Which.is_first request c = init_space request (one_only (site.Init 0) (site.Space request) c)
  no_space _ _ Which.is_second request c = init_space request (one_only (site.Init 0) (site.Space request) c)
  no_space _ _ Which.is_third request c = init_space request (one_only (site.Init 0) (site.Space request) c)

  no_stars : (number : ℕ) (row : Row) → Which number row → (star : ℕ) → Contains row.facts.stars star → ⊥
  no_stars _ _ Which.is_user star m = none_within star m
  no_stars _ _ Which.is_barrel star m = none_within star m
  no_stars _ _ Which.is_first star m = none_within star m
  no_stars _ _ Which.is_second star m = none_within star m
  no_stars _ _ Which.is_third star m = none_within star m

  -- the used names, and the names that are used through requests
  data Named : ℕ → List ℕ → Type 0 where
    at_barrel : Named 1 v2
    at_second : Named 3 v2

  data Through : ℕ → ℕ → List ℕ → Type 0 where
    asked : Through 0 0 v2
    passed : Through 1 1 v2

  names_at : (number : ℕ) (row : Row) → Which number row → (request : ℕ) (name : List ℕ) → NamesAtSite row request name → Through number request name
  names_at _ _ Which.is_user request name s =
      let e = at_user request name s in subst (λ n. Through 0 n name) (sym e.0) (subst (Through 0 0) (sym e.1) Through.asked)
  names_at _ _ Which.is_barrel _ _ (NamesAtSite.reads place request name c a) = none_within (site.Read (Imported place)) c
  names_at _ _ Which.is_barrel _ _ (NamesAtSite.writes place request name c a) = none_within (site.Write (Imported place)) c
  names_at _ _ Which.is_barrel _ _ (NamesAtSite.member request name c) = none_within (site.Member request name) c
  names_at _ _ Which.is_first request name s = absurd (at_owner (behind v1) refl request name s)
  names_at _ _ Which.is_second request name s = absurd (at_owner (behind v2) refl request name s)
  names_at _ _ Which.is_third request name s = absurd (at_owner (behind v3) refl request name s)

  passes_on : (number : ℕ) (exported : List ℕ) → Named number exported → (row : Row) → slice_get graph.rows number ≡ Some row
      → (request : ℕ) (name : List ℕ) → PassesOn graph number row exported request name → Through number request name
  passes_on _ _ Named.at_barrel row e _ _ (PassesOn.by_name request name o) =
      let p = other_place request name (ap (λ r. origin_of r.facts v2) (same_Some middle row e) ∙ o) in
      subst (λ n. Through 1 n name) (sym p.0) (subst (Through 1 1) (sym p.1) Through.passed)
  passes_on _ _ Named.at_second row e _ _ (PassesOn.by_name request name o) =
      absurd (own_other request name (ap (λ r. origin_of r.facts v2) (same_Some (behind v2) row e) ∙ o))
  passes_on number exported n row e _ _ (PassesOn.by_star star f) = absurd (no_stars number row (which number row e) star f.among)

  exports_space : (number : ℕ) (name : List ℕ) → Named number name → (row : Row) → slice_get graph.rows number ≡ Some row
      → (request : ℕ) → ExportsSpace row name request → ⊥
  exports_space _ _ Named.at_barrel row e request p = other_space request (ap (λ r. origin_of r.facts v2) (same_Some middle row e) ∙ p)
  exports_space _ _ Named.at_second row e request p = own_space request (ap (λ r. origin_of r.facts v2) (same_Some (behind v2) row e) ∙ p)

  through_named : (number request : ℕ) (name : List ℕ) → Through number request name → (row : Row) (target : ℕ) → slice_get graph.rows number ≡ Some row
      → slice_get row.targets request ≡ Some target → Named target name
  through_named _ _ _ Through.asked row target e t =
      subst (λ n. Named n v2) (same_Some 1 target (ap (λ r. slice_get r.targets 0) (same_Some user row e) ∙ t)) Named.at_barrel
  through_named _ _ _ Through.passed row target e t =
      subst (λ n. Named n v2) (same_Some 3 target (ap (λ r. slice_get r.targets 1) (same_Some middle row e) ∙ t)) Named.at_second

  mutual
    only_used : (number : ℕ) (name : List ℕ) → IsUsed graph number name → Named number name
    only_used _ _ (IsUsed.by_request number request target name row w at t) = through_named number request name (only_through number request name w) row target at t
    only_used _ _ (IsUsed.by_require number target name r c x) = absurd (calls_require number target c)
    only_used _ _ (IsUsed.by_import number target name r c x) = absurd (calls_import number target c)
    only_used _ _ (IsUsed.by_space number request target name row w at t x) = absurd (none_whole number request w)

    only_through : (number request : ℕ) (name : List ℕ) → IsUsedThrough graph number request name → Through number request name
    only_through _ _ _ (IsUsedThrough.at_site number request name row r at s) = names_at number row (which number row at) request name s
    only_through _ _ _ (IsUsedThrough.passed_on number request exported name row u at p) =
        passes_on number exported (only_used number exported u) row at request name p

    none_whole : (number request : ℕ) → IsWholeThrough graph number request → ⊥
    none_whole _ _ (IsWholeThrough.space_at_site number request row r at s) = no_space number row (which number row at) request s
    none_whole _ _ (IsWholeThrough.space_exported number request name row u at x) =
        exports_space number name (only_used number name u) row at request x

  -- what is used is so
  user_asks : IsUsedThrough graph 0 0 v2
  user_asks = IsUsedThrough.at_site 0 0 v2 user (IsReached.entry 0 (Contains-one 0)) refl
      (NamesAtSite.reads 0 0 v2 (Contains-one (site.Read (Imported 0))) (record { request = 0; name = Some v2; place = 9 }, refl, refl, refl))

  used_at_barrel : IsUsed graph 1 v2
  used_at_barrel = IsUsed.by_request 0 0 1 v2 user user_asks refl refl

  used_at_second : IsUsed graph 3 v2
  used_at_second = IsUsed.by_request 1 1 3 v2 middle (IsUsedThrough.passed_on 1 1 v2 v2 middle used_at_barrel refl (PassesOn.by_name 1 v2 refl)) refl refl

  -- the names of a module in the record are exactly the used ones
  SaysUsed : ℕ → List (List ℕ) → Type 0
  SaysUsed number names = AreInByteOrder names × ((name : List ℕ) → Contains names name ↔ IsUsed graph number name)

  unused : (number : ℕ) → ((name : List ℕ) → Named number name → ⊥) → SaysUsed number []
  unfolding SaysUsed
  unused number n = (none_in_order, λ name. (λ c. none_within name c, λ u. absurd (n name (only_used number name u))))

  named_is : (number : ℕ) (name : List ℕ) → Named number name → v2 ≡ name
  named_is _ _ Named.at_barrel = refl
  named_is _ _ Named.at_second = refl

  used_there : (number : ℕ) → IsUsed graph number v2 → SaysUsed number (v2 ∷ [])
  unfolding SaysUsed
  used_there number u = (
    one_in_order v2,
    λ name. (
      λ c. subst (IsUsed graph number) (one_only v2 name c) u,
      λ w. subst (Contains (v2 ∷ [])) (named_is number name (only_used number name w)) (Contains-one v2),
    ),
  )

  odd_named : (number : ℕ) (name : List ℕ) → Named number name → (half : ℕ) → number ≡ half + half → ⊥
  odd_named _ _ Named.at_barrel half e = omega (arith, e)
  odd_named _ _ Named.at_second half e = omega (arith, e)

  names_say : (number : ℕ) (names : List (List ℕ)) → slice_get barrel_used.names number ≡ Some names → SaysUsed number names
  names_say zero names e = subst (SaysUsed 0) (same_Some [] names e) (unused 0 (λ name n. odd_named 0 name n 0 refl))
  names_say (suc zero) names e = subst (SaysUsed 1) (same_Some (v2 ∷ []) names e) (used_there 1 used_at_barrel)
  names_say (suc (suc zero)) names e = subst (SaysUsed 2) (same_Some [] names e) (unused 2 (λ name n. odd_named 2 name n 1 refl))
  names_say (suc (suc (suc zero))) names e = subst (SaysUsed 3) (same_Some (v2 ∷ []) names e) (used_there 3 used_at_second)
  names_say (suc (suc (suc (suc zero)))) names e = subst (SaysUsed 4) (same_Some [] names e) (unused 4 (λ name n. odd_named 4 name n 2 refl))
  names_say (suc (suc (suc (suc (suc number))))) names e = absurd (none-some names e)

  whole_false : (number : ℕ) → slice_get barrel_used.whole number ≡ Some true → ⊥
  whole_false zero e = true≢false (sym (same_Some false true e))
  whole_false (suc zero) e = true≢false (sym (same_Some false true e))
  whole_false (suc (suc zero)) e = true≢false (sym (same_Some false true e))
  whole_false (suc (suc (suc zero))) e = true≢false (sym (same_Some false true e))
  whole_false (suc (suc (suc (suc zero)))) e = true≢false (sym (same_Some false true e))
  whole_false (suc (suc (suc (suc (suc number))))) e = none-some true e

  pub same_use : HasUse graph barrel_used
  unfolding SaysUsed
  same_use = record {
    each_names = refl;
    each_whole = refl;
    order = λ number names e. (names_say number names e).0;
    names = λ number names e. (names_say number names e).1;
    whole = λ number. (λ e. absurd (whole_false number e), λ w. absurd (none_whole w.0 w.1 w.3));
  }
