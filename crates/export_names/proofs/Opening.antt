-- What a module of ECMAScript leads to that is asked for a name for the first time.
use Rattle.std.proofs.Common.{Bor, ◌≡◌, ◌≢◌, ℕ, ◌<◌, List, [], ◌∷◌, ◌++◌, length, Some, None, slice_get, get_or, sym, ap, subst, ◌∙◌, arith}
use Rattle.std.specs.List.{All}
use Rattle.std.specs.Str.{bytes_eq}
use Rattle.std.proofs.lemmas.Option.{same_Some, slice_get-get_or}
use Rattle.std.proofs.lemmas.List.Elements.{All-head, All-get_or}
use Rattle.pk_types.specs.declared.facts.ExportEntry.{ExportEntry}
use Rattle.pk_types.specs.declared.facts.Origin.{Origin}
use Rattle.pk_types.specs.declared.facts.Origin.TheVariants.{Own, Other, Space}
use Rattle.pk_types.specs.declared.graph.Graph.{Graph}
use Rattle.pk_types.specs.declared.graph.Row.{Row}
use Rattle.pk_types.specs.declared.found.Found.TheVariants.{Binding, Namespace, Nothing}
use Rattle.pk_types.specs.Fitting.{RowFits}
use Rattle.pk_types.specs.Origins.{origin_requests}
use Rattle.pk_types.specs.Places.{ArePlacesIn}
use Rattle.pk_types.specs.Resolving.{Pair, default_name, origin_of, IsFirst, ResolvesTo, StarsLeadTo, own, space, indirect, no_default, by_stars}
use Rattle.export_names.specs.declared.step.Stars.{Stars}
use Rattle.export_names.specs.declared.step.Step.TheVariants as steps
use Rattle.export_names.specs.Searching.{Opens, IsWithin}
use Rattle.export_names.proofs.PassedNames.{origin_all, passed_on}

module _ (graph : Graph) (number : ℕ) (name : List ℕ) (row : Row) (at : slice_get graph.rows number ≡ Some row) where
  first_of : (before : List Pair) (other : Row) → IsFirst graph before number name other → IsFirst graph before number name row
  first_of before other first = subst (IsFirst graph before number name) (same_Some other row (sym first.at ∙ at)) first

  pub opens_own : (binding : ℕ) → origin_of row.facts name ≡ Some (Own binding) → Opens graph number name (steps.Answer (Binding number binding))
  opens_own binding from = record {
    leads = λ before other found after first same.
        subst (λ a. ResolvesTo graph before number name found a) same.1
        (subst (λ f. ResolvesTo graph before number name f (before ++ (number, name) ∷ [])) same.0 (own before number name row binding (first_of before other first) from));
    fits = tt;
    within = λ first h. tt;
    light = omega arith;
  }

  pub opens_default : origin_of row.facts name ≡ None → name ≡ default_name → Opens graph number name (steps.Answer Nothing)
  opens_default from is = record {
    leads = λ before other found after first same.
        subst (λ a. ResolvesTo graph before number name found a) same.1
        (subst (λ f. ResolvesTo graph before number name f (before ++ (number, name) ∷ [])) same.0 (no_default before number name row (first_of before other first) from is));
    fits = tt;
    within = λ first h. tt;
    light = omega arith;
  }

  module _ (fits : RowFits graph row) where
    -- the request of an export has a target
    pub request_within : (origin : Origin) → origin_of row.facts name ≡ Some origin → ArePlacesIn row.targets (origin_requests origin)
    request_within origin from = subst (λ count. All (λ request. request < count) (origin_requests origin)) (sym fits.each)
        (origin_all (λ o. ArePlacesIn row.facts.requests (origin_requests o)) (λ (entry : ExportEntry). bytes_eq entry.name name) row.facts.exports origin fits.facts.places.export_requests from)

    pub space_within : (request : ℕ) → origin_of row.facts name ≡ Some (Space request) → request < length row.targets
    space_within request from = All-head (λ r. r < length row.targets) request [] (request_within (Space request) from)

    pub other_within : (request : ℕ) (other : List ℕ) → origin_of row.facts name ≡ Some (Other request other) → request < length row.targets
    other_within request other from = All-head (λ r. r < length row.targets) request [] (request_within (Other request other) from)

    pub opens_space : (request : ℕ) (targets : List ℕ) → origin_of row.facts name ≡ Some (Space request) → targets ≡ row.targets → Opens graph number name (steps.Answer (Namespace (get_or targets request 0)))
    opens_space request targets from is = record {
      leads = λ before other found after first same.
          subst (λ a. ResolvesTo graph before number name found a) same.1
          (subst (λ f. ResolvesTo graph before number name f (before ++ (number, name) ∷ [])) same.0
          (subst (λ l. ResolvesTo graph before number name (Namespace (get_or l request 0)) (before ++ (number, name) ∷ [])) (sym is)
          (space before number name row request (get_or row.targets request 0) (first_of before other first) from (slice_get-get_or row.targets request 0 (space_within request from)))));
      fits = tt;
      within = λ first h. tt;
      light = omega arith;
    }

    pub opens_other : (request : ℕ) (other : List ℕ) (asked : Bor (List ℕ)) (targets : List ℕ) → origin_of row.facts name ≡ Some (Other request other) → asked.now ≡ other → targets ≡ row.targets
        → Opens graph number name (steps.Ask (get_or targets request 0) asked)
    opens_other request other asked targets from same is = record {
      leads = λ before another found after first rest. indirect before number name row request (get_or row.targets request 0) other found after (first_of before another first) from
          (slice_get-get_or row.targets request 0 (other_within request other from))
          (subst (λ l. ResolvesTo graph (before ++ (number, name) ∷ []) (get_or l request 0) other found after) is
          (subst (λ n. ResolvesTo graph (before ++ (number, name) ∷ []) (get_or targets request 0) n found after) same rest));
      fits = subst (λ l. get_or l request 0 < length graph.rows) (sym is) (All-get_or (λ target. target < length graph.rows) row.targets request 0 (other_within request other from) fits.targets);
      within = λ first h. subst (λ n. IsWithin graph first n) (sym same) (passed_on graph number request other name row at from first);
      light = omega arith;
    }

    pub opens_stars : (stars : Stars) → stars.targets.now ≡ row.targets → stars.name.now ≡ name → stars.stars.now ≡ row.facts.stars → stars.so_far ≡ Nothing
        → origin_of row.facts name ≡ None → name ≢ default_name → Opens graph number name (steps.Stars stars)
    opens_stars stars targets named are nothing from is = record {
      leads = λ before other found after first rest. by_stars before number name row found after (first_of before other first) from is
          (subst (λ l. StarsLeadTo graph (before ++ (number, name) ∷ []) l name row.facts.stars Nothing found after) targets
          (subst (λ n. StarsLeadTo graph (before ++ (number, name) ∷ []) (stars.targets.now) n row.facts.stars Nothing found after) named
          (subst (λ l. StarsLeadTo graph (before ++ (number, name) ∷ []) (stars.targets.now) (stars.name.now) l Nothing found after) are
          (subst (λ f. StarsLeadTo graph (before ++ (number, name) ∷ []) (stars.targets.now) (stars.name.now) (stars.stars.now) f found after) nothing rest))));
      fits = record {
        places = subst (λ l. ArePlacesIn l (stars.stars.now)) (sym targets) (subst (ArePlacesIn row.targets) (sym are)
            (subst (λ count. All (λ star. star < count) row.facts.stars) (sym fits.each) fits.facts.places.stars));
        targets = subst (ArePlacesIn graph.rows) (sym targets) fits.targets;
        few = omega (arith, ap length are, fits.facts.short.stars);
      };
      within = λ first h. subst (λ n. IsWithin graph first n) (sym named) h;
      light = omega (arith, ap length are, fits.facts.short.stars);
    }
