-- What used names are passed on to, one after the other.
use Rattle.std.proofs.Common.{◌≡◌, ◌↔◌, ◌⊎◌, inl, inr, ⊎_elim, ℕ, ◌<◌, List, [], ◌∷◌, ◌++◌, length, Contains, Some, None, refl, sym, ap, subst, subst₂, ◌∙◌}
use Rattle.std.proofs.lemmas.Option.{none-some}
use Rattle.std.proofs.lemmas.List.Elements.{All-contains, All-head, Contains-append_left, Contains-append_cases, Contains-push}
use Rattle.pk_types.specs.declared.facts.Origin.{Origin}
use Rattle.pk_types.specs.declared.facts.Origin.TheVariants.{Own, Other, Space}
use Rattle.pk_types.specs.declared.graph.Graph.{Graph}
use Rattle.pk_types.specs.declared.graph.Row.{Row}
use Rattle.pk_types.specs.ActiveEdges.{GoesThrough, SpaceGoesThrough}
use Rattle.pk_types.specs.Fitting.{RowFits}
use Rattle.pk_types.specs.Origins.{origin_requests}
use Rattle.pk_types.specs.Places.{ArePlacesIn}
use Rattle.pk_types.specs.Reexports.{PassesOn, ExportsSpace}
use Rattle.pk_types.specs.Requests.{NamesAtSite, UsesSpaceAtSite}
use Rattle.pk_types.specs.Resolving.{origin_of}
use Rattle.pk_types.proofs.Parts.{one_only, none_within, export_of}
use Rattle.pk_types.proofs.Stops.{own_other, own_space, other_space, same_space, same_other}
use Rattle.prune_graph.specs.declared.passing.Passing.{Passing}
use Rattle.prune_graph.specs.declared.passing.Passing.TheVariants as passing
use Rattle.prune_graph.specs.declared.through.Through.{Through}
use Rattle.prune_graph.specs.Gathering.{IsNamed, IsSpaced, HasRequests, IsUnused, Gains, AreWithin, IsTheName, IsTheStar, IsNoSpace, IsThrough}
use Rattle.prune_graph.specs.PassedNames.{PassesTo, PassesToSpace, OnePassesOn, OneExportsSpace}
use Rattle.prune_graph.specs.PassingOn.{IsPassedBy}
use Rattle.prune_graph.proofs.Gaining.{gains_none, gains_same, gains_then}

-- one element more
module _ {A : Type 0} (items more : List A) (item : A) (is : more ≡ items ++ item ∷ []) where
  old_one : (one : A) → Contains items one → Contains more one
  old_one one m = subst (λ l. Contains l one) (sym is) (Contains-append_left items (item ∷ []) one m)

  new_one : Contains more item
  new_one = subst (λ l. Contains l item) (sym is) (Contains-push items item)

  one_cases : (one : A) → Contains more one → Contains items one ⊎ (item ≡ one)
  one_cases one m = ⊎_elim (λ before. inl before) (λ last. inr (one_only item one last)) (Contains-append_cases items (item ∷ []) one (subst (λ l. Contains l one) is m))

-- one star more
pub star_more : (old between new : Through) (stars more : List ℕ) (star : ℕ) (named : List ℕ) → more ≡ stars ++ star ∷ []
    → Gains old (IsTheStar stars named) IsNoSpace between → Gains between (IsTheName star named) IsNoSpace new → Gains old (IsTheStar more named) IsNoSpace new
star_more old between new stars more star named is first second = gains_same old new
    (λ request name. IsTheStar stars named request name ⊎ IsTheName star named request name) (IsTheStar more named)
    (λ request. IsNoSpace request ⊎ IsNoSpace request) IsNoSpace
    (gains_then old between new (IsTheStar stars named) (IsTheName star named) IsNoSpace IsNoSpace first second)
    (λ request name. (
      λ either. ⊎_elim (λ one. (old_one stars more star is request one.0, one.1))
          (λ now. (subst (Contains more) now.0 (new_one stars more star is), now.1)) either,
      λ one. ⊎_elim (λ before. inl (before, one.1)) (λ same. inr (same, one.1)) (one_cases stars more star is request one.0),
    ))
    (λ request. (λ either. ⊎_elim (λ none. none) (λ none. none) either, λ none. absurd none))

-- ---- one exported name

module _ (graph : Graph) (number : ℕ) (row : Row) (exported : List ℕ) where
  passes_to : (way : Passing) → IsPassedBy graph number row exported way → (request : ℕ) (name : List ℕ) → PassesTo way exported request name
      → PassesOn graph number row exported request name
  passes_to passing.Nowhere is request name to = absurd to
  passes_to (passing.Name place named) is request name to =
      PassesOn.by_name request name (subst₂ (λ p n. origin_of row.facts exported ≡ Some (Other p n)) to.0 to.1 is)
  passes_to (passing.Space place) is request name to = absurd to
  passes_to (passing.Stars stars) is request name to =
      subst (PassesOn graph number row exported request) to.1 (PassesOn.by_star request ((is.1 request).0 to.0))

  no_origin : {B : Type 0} (origin : Origin) → origin_of row.facts exported ≡ None → origin_of row.facts exported ≡ Some origin → B
  no_origin origin none some = absurd (none-some origin (sym none ∙ some))

  to_passes : (way : Passing) → IsPassedBy graph number row exported way → (request : ℕ) (name : List ℕ) → PassesOn graph number row exported request name
      → PassesTo way exported request name
  to_passes passing.Nowhere is _ _ (PassesOn.by_name request name o) = absurd (own_other is.0 request name o is.1)
  to_passes passing.Nowhere is _ _ (PassesOn.by_star star f) = no_origin (Own is.0) f.none is.1
  to_passes (passing.Name place named) is _ _ (PassesOn.by_name request name o) = same_other place request named.now name is o
  to_passes (passing.Name place named) is _ _ (PassesOn.by_star star f) = no_origin (Other place named.now) f.none is
  to_passes (passing.Space place) is _ _ (PassesOn.by_name request name o) = absurd (other_space place request name is o)
  to_passes (passing.Space place) is _ _ (PassesOn.by_star star f) = no_origin (Space place) f.none is
  to_passes (passing.Stars stars) is _ _ (PassesOn.by_name request name o) = no_origin (Other request name) is.0 o
  to_passes (passing.Stars stars) is _ _ (PassesOn.by_star star f) = ((is.1 star).1 f, refl)

  space_passes : (way : Passing) → IsPassedBy graph number row exported way → (request : ℕ) → PassesToSpace way request ↔ ExportsSpace row exported request
  space_passes passing.Nowhere is request = (λ none. absurd none, λ o. absurd (own_space is.0 request o is.1))
  space_passes (passing.Name place named) is request = (λ none. absurd none, λ o. absurd (other_space request place named.now o is))
  space_passes (passing.Space place) is request =
      (λ e. subst (λ p. origin_of row.facts exported ≡ Some (Space p)) e is, λ o. same_space place request is o)
  space_passes (passing.Stars stars) is request = (λ none. absurd none, λ o. no_origin (Space request) is.0 o)

  module _ (fits : RowFits graph row) where
    pub export_within : (origin : Origin) (request : ℕ) → origin_of row.facts exported ≡ Some origin → origin_requests origin ≡ request ∷ [] → request < length row.facts.requests
    export_within origin request o are =
        let x = export_of row.facts exported origin o in
        All-head (λ place. place < length row.facts.requests) request [] (subst (ArePlacesIn row.facts.requests) (ap origin_requests x.2 ∙ are)
        (All-contains (λ entry. ArePlacesIn row.facts.requests (origin_requests entry.origin)) row.facts.exports x.0 fits.facts.places.export_requests x.1))

    pub name_within : (request : ℕ) (name : List ℕ) → PassesOn graph number row exported request name → request < length row.facts.requests
    name_within _ _ (PassesOn.by_name request name o) = export_within (Other request name) request o refl
    name_within _ _ (PassesOn.by_star star f) = All-contains (λ place. place < length row.facts.requests) row.facts.stars star fits.facts.places.stars f.among

    pub passed_within : (way : Passing) → IsPassedBy graph number row exported way → (through : Through) → HasRequests (length row.facts.requests) through
        → AreWithin through (PassesTo way exported) (PassesToSpace way)
    passed_within way is through has = record {
      names = λ request name to. subst (λ count. request < count) (sym has.names) (name_within request name (passes_to way is request name to));
      spaces = λ request to. subst (λ count. request < count) (sym has.spaces) (export_within (Space request) request ((space_passes way is request).0 to) refl);
    }

-- ---- all of them

module _ (graph : Graph) (number : ℕ) (row : Row) where
  pub passed_by_none : (through : Through) → Gains through (OnePassesOn graph number row []) (OneExportsSpace row []) through
  passed_by_none through = gains_none through (OnePassesOn graph number row []) (OneExportsSpace row []) (λ request name one. none_within one.0 one.1)
      (λ request one. none_within one.0 one.1)

  pub passed_by_more : (old between new : Through) (used more : List (List ℕ)) (exported : List ℕ) (way : Passing) → more ≡ used ++ exported ∷ []
      → IsPassedBy graph number row exported way → Gains old (OnePassesOn graph number row used) (OneExportsSpace row used) between
      → Gains between (PassesTo way exported) (PassesToSpace way) new → Gains old (OnePassesOn graph number row more) (OneExportsSpace row more) new
  passed_by_more old between new used more exported way is passed first second = gains_same old new
      (λ request name. OnePassesOn graph number row used request name ⊎ PassesTo way exported request name) (OnePassesOn graph number row more)
      (λ request. OneExportsSpace row used request ⊎ PassesToSpace way request) (OneExportsSpace row more)
      (gains_then old between new (OnePassesOn graph number row used) (PassesTo way exported) (OneExportsSpace row used) (PassesToSpace way) first second)
      (λ request name. (
        λ either. ⊎_elim (λ one. (one.0, old_one used more exported is one.0 one.1, one.2))
            (λ to. (exported, new_one used more exported is, passes_to graph number row exported way passed request name to)) either,
        λ one. ⊎_elim (λ before. inl (one.0, before, one.2))
            (λ same. inr (to_passes graph number row exported way passed request name (subst (λ e. PassesOn graph number row e request name) (sym same) one.2)))
            (one_cases used more exported is one.0 one.1),
      ))
      (λ request. (
        λ either. ⊎_elim (λ one. (one.0, old_one used more exported is one.0 one.1, one.2))
            (λ to. (exported, new_one used more exported is, (space_passes graph number row exported way passed request).0 to)) either,
        λ one. ⊎_elim (λ before. inl (one.0, before, one.2))
            (λ same. inr ((space_passes graph number row exported way passed request).1 (subst (λ e. ExportsSpace row e request) (sym same) one.2)))
            (one_cases used more exported is one.0 one.1),
      ))

  -- what goes through: from the sites, and from the used names
  pub gathered : (used : List (List ℕ)) (none sited all : Through) → IsUnused (length row.facts.requests) none → Gains none (NamesAtSite row) (UsesSpaceAtSite row) sited
      → Gains sited (OnePassesOn graph number row used) (OneExportsSpace row used) all → IsThrough graph number row used all
  gathered used none sited all unused first second = record {
    requests = record {
      names = second.each_names ∙ first.each_names ∙ unused.requests.names;
      spaces = second.each_spaces ∙ first.each_spaces ∙ unused.requests.spaces;
    };
    names = λ request name. (
      λ m. ⊎_elim
          (λ before. ⊎_elim (λ was. absurd (unused.names request name was)) (λ at. GoesThrough.at_site request name at) ((first.names request name).0 before))
          (λ one. GoesThrough.passed_on request one.0 name one.1 one.2) ((second.names request name).0 m),
      λ goes. (second.names request name).1 (through_names request name goes),
    );
    spaces = λ request. (
      λ m. ⊎_elim
          (λ before. ⊎_elim (λ was. absurd (unused.spaces request was)) (λ at. SpaceGoesThrough.at_site request at) ((first.spaces request).0 before))
          (λ one. SpaceGoesThrough.exported request one.0 one.1 one.2) ((second.spaces request).0 m),
      λ goes. (second.spaces request).1 (through_spaces request goes),
    );
  }
    where
      through_names : (request : ℕ) (name : List ℕ) → GoesThrough graph number row used request name
          → IsNamed sited request name ⊎ OnePassesOn graph number row used request name
      through_names _ _ (GoesThrough.at_site request name at) = inl ((first.names request name).1 (inr at))
      through_names _ _ (GoesThrough.passed_on request exported name m on) = inr (exported, m, on)

      through_spaces : (request : ℕ) → SpaceGoesThrough row used request → IsSpaced sited request ⊎ OneExportsSpace row used request
      through_spaces _ (SpaceGoesThrough.at_site request at) = inl ((first.spaces request).1 (inr at))
      through_spaces _ (SpaceGoesThrough.exported request name m on) = inr (name, m, on)
