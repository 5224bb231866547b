-- What a name leads to is one thing: ResolvesTo is a function of the pairs gone through before, the module and the name.
use Rattle.std.proofs.Common.{◌≡◌, ◌≢◌, ℕ, List, [], ◌∷◌, ◌++◌, Option, Some, None, slice_get, option_map, refl, sym, ap, subst, ◌∙◌, arith}
use Rattle.std.specs.List.{Contains}
use Rattle.std.proofs.lemmas.Option.{same_Some}
use Rattle.pk_types.specs.declared.facts.Kind.{Kind}
use Rattle.pk_types.specs.declared.facts.Kind.TheVariants.{Es}
use Rattle.pk_types.specs.declared.facts.Origin.{Origin}
use Rattle.pk_types.specs.declared.facts.Origin.TheVariants.{Own, Other, Space}
use Rattle.pk_types.specs.declared.graph.Graph.{Graph}
use Rattle.pk_types.specs.declared.graph.Row.{Row}
use Rattle.pk_types.specs.declared.found.Found.{Found}
use Rattle.pk_types.specs.declared.found.Found.TheVariants.{Binding, Namespace, Foreign, Nothing, Ambiguous}
use Rattle.pk_types.specs.Joined.{joined}
use Rattle.pk_types.specs.Resolving.{Pair, default_name, origin_of, kind_at, IsFirst, ResolvesTo, StarsLeadTo, Resolves}
use Rattle.pk_types.specs.Resolving.{foreign, circular, own, space, indirect, no_default, by_stars, ended, passed, joins, conflicts}

abbrev Same : Found → List Pair → Found → List Pair → Type 0
Same found after other last = (found ≡ other) × (after ≡ last)

abbrev tag : Option Origin → ℕ
tag None = 0
tag (Some (Own binding)) = 1
tag (Some (Other request name)) = 2
tag (Some (Space request)) = 3

-- the number that the origin names
abbrev place : Option Origin → ℕ
place None = 0
place (Some (Own binding)) = binding
place (Some (Other request name)) = request
place (Some (Space request)) = request

abbrev other_name : Option Origin → List ℕ
other_name None = []
other_name (Some (Own binding)) = []
other_name (Some (Other request name)) = name
other_name (Some (Space request)) = []

not_both : (graph : Graph) (number : ℕ) (kind : Kind) → kind_at graph number ≡ Some kind → kind ≢ Es → kind_at graph number ≡ Some Es → ⊥
not_both graph number kind at not_es es = not_es (same_Some kind Es (sym at ∙ es))

target_once : (targets : List ℕ) (request target other : ℕ) → slice_get targets request ≡ Some target → slice_get targets request ≡ Some other → target ≡ other
target_once targets request target other to also = same_Some target other (sym to ∙ also)

module _ (graph : Graph) (before : List Pair) (number : ℕ) (name : List ℕ) where
  is_es : (row : Row) → IsFirst graph before number name row → kind_at graph number ≡ Some Es
  is_es row first = ap (option_map (λ (r : Row). r.facts.kind)) first.at ∙ ap Some first.kind

  one_row : (row other : Row) → IsFirst graph before number name row → IsFirst graph before number name other → row ≡ other
  one_row row other first also = same_Some row other (sym first.at ∙ also.at)

  one_origin : (row other : Row) (origin also_origin : Option Origin) → IsFirst graph before number name row → IsFirst graph before number name other → origin_of row.facts name ≡ origin → origin_of other.facts name ≡ also_origin
      → origin ≡ also_origin
  one_origin row other origin also_origin first also from also_from = sym from ∙ ap (λ (r : Row). origin_of r.facts name) (one_row row other first also) ∙ also_from

  one_target : (row other : Row) (request also_request target also_target : ℕ) → IsFirst graph before number name row → IsFirst graph before number name other → request ≡ also_request
      → slice_get row.targets request ≡ Some target → slice_get other.targets also_request ≡ Some also_target → target ≡ also_target
  one_target row other request also_request target also_target first also same to also_to =
      target_once row.targets request target also_target to
      (ap (λ (r : Row). slice_get r.targets request) (one_row row other first also) ∙ ap (slice_get other.targets) same ∙ also_to)

  once_foreign : (kind : Kind) → kind_at graph number ≡ Some kind → kind ≢ Es
      → (one : Found) (end : List Pair) → ResolvesTo graph before number name one end → Same (Foreign number name) before one end
  once_foreign kind at not_es _ _ (foreign _ _ _ o_kind o_at o_not_es) = (refl, refl)
  once_foreign kind at not_es _ _ (circular _ _ _ o_at o_seen) = absurd (not_both graph number kind at not_es o_at)
  once_foreign kind at not_es _ _ (own _ _ _ o_row o_binding o_first o_from) = absurd (not_both graph number kind at not_es (is_es o_row o_first))
  once_foreign kind at not_es _ _ (space _ _ _ o_row o_request o_target o_first o_from o_to) = absurd (not_both graph number kind at not_es (is_es o_row o_first))
  once_foreign kind at not_es _ _ (indirect _ _ _ o_row o_request o_target o_other o_found o_after o_first o_from o_to o_rest) = absurd (not_both graph number kind at not_es (is_es o_row o_first))
  once_foreign kind at not_es _ _ (no_default _ _ _ o_row o_first o_from o_is) = absurd (not_both graph number kind at not_es (is_es o_row o_first))
  once_foreign kind at not_es _ _ (by_stars _ _ _ o_row o_found o_after o_first o_from o_is o_stars) = absurd (not_both graph number kind at not_es (is_es o_row o_first))

  once_circular : kind_at graph number ≡ Some Es → Contains before (number, name)
      → (one : Found) (end : List Pair) → ResolvesTo graph before number name one end → Same Nothing before one end
  once_circular at seen _ _ (foreign _ _ _ o_kind o_at o_not_es) = absurd (not_both graph number o_kind o_at o_not_es at)
  once_circular at seen _ _ (circular _ _ _ o_at o_seen) = (refl, refl)
  once_circular at seen _ _ (own _ _ _ o_row o_binding o_first o_from) = absurd (o_first.first seen)
  once_circular at seen _ _ (space _ _ _ o_row o_request o_target o_first o_from o_to) = absurd (o_first.first seen)
  once_circular at seen _ _ (indirect _ _ _ o_row o_request o_target o_other o_found o_after o_first o_from o_to o_rest) = absurd (o_first.first seen)
  once_circular at seen _ _ (no_default _ _ _ o_row o_first o_from o_is) = absurd (o_first.first seen)
  once_circular at seen _ _ (by_stars _ _ _ o_row o_found o_after o_first o_from o_is o_stars) = absurd (o_first.first seen)

  once_own : (row : Row) (binding : ℕ) → IsFirst graph before number name row → origin_of row.facts name ≡ Some (Own binding)
      → (one : Found) (end : List Pair) → ResolvesTo graph before number name one end → Same (Binding number binding) (before ++ (number, name) ∷ []) one end
  once_own row binding first from _ _ (foreign _ _ _ o_kind o_at o_not_es) = absurd (not_both graph number o_kind o_at o_not_es (is_es row first))
  once_own row binding first from _ _ (circular _ _ _ o_at o_seen) = absurd (first.first o_seen)
  once_own row binding first from _ _ (own _ _ _ o_row o_binding o_first o_from) = (ap (Binding number) (ap place (one_origin row o_row (Some (Own binding)) (Some (Own o_binding)) first o_first from o_from)), refl)
  once_own row binding first from _ _ (space _ _ _ o_row o_request o_target o_first o_from o_to) = absurd (omega (arith, ap tag (one_origin row o_row (Some (Own binding)) (Some (Space o_request)) first o_first from o_from)))
  once_own row binding first from _ _ (indirect _ _ _ o_row o_request o_target o_other o_found o_after o_first o_from o_to o_rest) = absurd (omega (arith, ap tag (one_origin row o_row (Some (Own binding)) (Some (Other o_request o_other)) first o_first from o_from)))
  once_own row binding first from _ _ (no_default _ _ _ o_row o_first o_from o_is) = absurd (omega (arith, ap tag (one_origin row o_row (Some (Own binding)) None first o_first from o_from)))
  once_own row binding first from _ _ (by_stars _ _ _ o_row o_found o_after o_first o_from o_is o_stars) = absurd (omega (arith, ap tag (one_origin row o_row (Some (Own binding)) None first o_first from o_from)))

  once_space : (row : Row) (request target : ℕ) → IsFirst graph before number name row → origin_of row.facts name ≡ Some (Space request) → slice_get row.targets request ≡ Some target
      → (one : Found) (end : List Pair) → ResolvesTo graph before number name one end → Same (Namespace target) (before ++ (number, name) ∷ []) one end
  once_space row request target first from to _ _ (foreign _ _ _ o_kind o_at o_not_es) = absurd (not_both graph number o_kind o_at o_not_es (is_es row first))
  once_space row request target first from to _ _ (circular _ _ _ o_at o_seen) = absurd (first.first o_seen)
  once_space row request target first from to _ _ (own _ _ _ o_row o_binding o_first o_from) = absurd (omega (arith, ap tag (one_origin row o_row (Some (Space request)) (Some (Own o_binding)) first o_first from o_from)))
  once_space row request target first from to _ _ (space _ _ _ o_row o_request o_target o_first o_from o_to) = (ap Namespace (one_target row o_row request o_request target o_target first o_first (ap place (one_origin row o_row (Some (Space request)) (Some (Space o_request)) first o_first from o_from)) to o_to), refl)
  once_space row request target first from to _ _ (indirect _ _ _ o_row o_request o_target o_other o_found o_after o_first o_from o_to o_rest) = absurd (omega (arith, ap tag (one_origin row o_row (Some (Space request)) (Some (Other o_request o_other)) first o_first from o_from)))
  once_space row request target first from to _ _ (no_default _ _ _ o_row o_first o_from o_is) = absurd (omega (arith, ap tag (one_origin row o_row (Some (Space request)) None first o_first from o_from)))
  once_space row request target first from to _ _ (by_stars _ _ _ o_row o_found o_after o_first o_from o_is o_stars) = absurd (omega (arith, ap tag (one_origin row o_row (Some (Space request)) None first o_first from o_from)))

  once_indirect : (row : Row) (request target : ℕ) (other : List ℕ) (found : Found) (after : List Pair) → IsFirst graph before number name row → origin_of row.facts name ≡ Some (Other request other) → slice_get row.targets request ≡ Some target
      → ((one : Found) (end : List Pair) → ResolvesTo graph (before ++ (number, name) ∷ []) target other one end → Same found after one end)
      → (one : Found) (end : List Pair) → ResolvesTo graph before number name one end → Same found after one end
  once_indirect row request target other found after first from to rest _ _ (foreign _ _ _ o_kind o_at o_not_es) = absurd (not_both graph number o_kind o_at o_not_es (is_es row first))
  once_indirect row request target other found after first from to rest _ _ (circular _ _ _ o_at o_seen) = absurd (first.first o_seen)
  once_indirect row request target other found after first from to rest _ _ (own _ _ _ o_row o_binding o_first o_from) = absurd (omega (arith, ap tag (one_origin row o_row (Some (Other request other)) (Some (Own o_binding)) first o_first from o_from)))
  once_indirect row request target other found after first from to rest _ _ (space _ _ _ o_row o_request o_target o_first o_from o_to) = absurd (omega (arith, ap tag (one_origin row o_row (Some (Other request other)) (Some (Space o_request)) first o_first from o_from)))
  once_indirect row request target other found after first from to rest _ _ (indirect _ _ _ o_row o_request o_target o_other o_found o_after o_first o_from o_to o_rest) = rest o_found o_after
      (subst (λ t. ResolvesTo graph (before ++ (number, name) ∷ []) t other o_found o_after) (sym (one_target row o_row request o_request target o_target first o_first (ap place (one_origin row o_row (Some (Other request other)) (Some (Other o_request o_other)) first o_first from o_from)) to o_to))
      (subst (λ n. ResolvesTo graph (before ++ (number, name) ∷ []) o_target n o_found o_after) (sym (ap other_name (one_origin row o_row (Some (Other request other)) (Some (Other o_request o_other)) first o_first from o_from))) o_rest))
  once_indirect row request target other found after first from to rest _ _ (no_default _ _ _ o_row o_first o_from o_is) = absurd (omega (arith, ap tag (one_origin row o_row (Some (Other request other)) None first o_first from o_from)))
  once_indirect row request target other found after first from to rest _ _ (by_stars _ _ _ o_row o_found o_after o_first o_from o_is o_stars) = absurd (omega (arith, ap tag (one_origin row o_row (Some (Other request other)) None first o_first from o_from)))

  once_no_default : (row : Row) → IsFirst graph before number name row → origin_of row.facts name ≡ None → name ≡ default_name
      → (one : Found) (end : List Pair) → ResolvesTo graph before number name one end → Same Nothing (before ++ (number, name) ∷ []) one end
  once_no_default row first from is _ _ (foreign _ _ _ o_kind o_at o_not_es) = absurd (not_both graph number o_kind o_at o_not_es (is_es row first))
  once_no_default row first from is _ _ (circular _ _ _ o_at o_seen) = absurd (first.first o_seen)
  once_no_default row first from is _ _ (own _ _ _ o_row o_binding o_first o_from) = absurd (omega (arith, ap tag (one_origin row o_row None (Some (Own o_binding)) first o_first from o_from)))
  once_no_default row first from is _ _ (space _ _ _ o_row o_request o_target o_first o_from o_to) = absurd (omega (arith, ap tag (one_origin row o_row None (Some (Space o_request)) first o_first from o_from)))
  once_no_default row first from is _ _ (indirect _ _ _ o_row o_request o_target o_other o_found o_after o_first o_from o_to o_rest) = absurd (omega (arith, ap tag (one_origin row o_row None (Some (Other o_request o_other)) first o_first from o_from)))
  once_no_default row first from is _ _ (no_default _ _ _ o_row o_first o_from o_is) = (refl, refl)
  once_no_default row first from is _ _ (by_stars _ _ _ o_row o_found o_after o_first o_from o_is o_stars) = absurd (o_is is)

  once_by_stars : (row : Row) (found : Found) (after : List Pair) → IsFirst graph before number name row → origin_of row.facts name ≡ None → name ≢ default_name
      → ((one : Found) (end : List Pair) → StarsLeadTo graph (before ++ (number, name) ∷ []) row.targets name row.facts.stars Nothing one end → Same found after one end)
      → (one : Found) (end : List Pair) → ResolvesTo graph before number name one end → Same found after one end
  once_by_stars row found after first from is stars _ _ (foreign _ _ _ o_kind o_at o_not_es) = absurd (not_both graph number o_kind o_at o_not_es (is_es row first))
  once_by_stars row found after first from is stars _ _ (circular _ _ _ o_at o_seen) = absurd (first.first o_seen)
  once_by_stars row found after first from is stars _ _ (own _ _ _ o_row o_binding o_first o_from) = absurd (omega (arith, ap tag (one_origin row o_row None (Some (Own o_binding)) first o_first from o_from)))
  once_by_stars row found after first from is stars _ _ (space _ _ _ o_row o_request o_target o_first o_from o_to) = absurd (omega (arith, ap tag (one_origin row o_row None (Some (Space o_request)) first o_first from o_from)))
  once_by_stars row found after first from is stars _ _ (indirect _ _ _ o_row o_request o_target o_other o_found o_after o_first o_from o_to o_rest) = absurd (omega (arith, ap tag (one_origin row o_row None (Some (Other o_request o_other)) first o_first from o_from)))
  once_by_stars row found after first from is stars _ _ (no_default _ _ _ o_row o_first o_from o_is) = absurd (is o_is)
  once_by_stars row found after first from is stars _ _ (by_stars _ _ _ o_row o_found o_after o_first o_from o_is o_stars) = stars o_found o_after
      (subst (λ (r : Row). StarsLeadTo graph (before ++ (number, name) ∷ []) r.targets name r.facts.stars Nothing o_found o_after) (sym (one_row row o_row first o_first)) o_stars)

-- ---- stars

module _ (graph : Graph) (before : List Pair) (targets name : List ℕ) where
  not_es_and_es : (star target other : ℕ) (kind : Kind) → slice_get targets star ≡ Some target → slice_get targets star ≡ Some other → kind_at graph target ≡ Some kind → kind ≢ Es → kind_at graph other ≡ Some Es → ⊥
  not_es_and_es star target other kind to also at not_es es =
      not_both graph target kind at not_es (subst (λ t. kind_at graph t ≡ Some Es) (sym (target_once targets star target other to also)) es)

  once_ended : (so_far one : Found) (end : List Pair) → StarsLeadTo graph before targets name [] so_far one end → Same so_far before one end
  once_ended so_far _ _ (ended _ _ _ _) = (refl, refl)

  once_passed : (star target : ℕ) (stars : List ℕ) (so_far found : Found) (after : List Pair) (kind : Kind) → slice_get targets star ≡ Some target → kind_at graph target ≡ Some kind → kind ≢ Es
      → ((one : Found) (end : List Pair) → StarsLeadTo graph before targets name stars so_far one end → Same found after one end)
      → (one : Found) (end : List Pair) → StarsLeadTo graph before targets name (star ∷ stars) so_far one end → Same found after one end
  once_passed star target stars so_far found after kind to at not_es rest _ _ (passed _ _ _ _ o_target _ _ o_found o_after o_kind o_to o_at o_not_es o_rest) = rest o_found o_after o_rest
  once_passed star target stars so_far found after kind to at not_es rest _ _ (joins _ o_between _ _ _ o_target _ _ o_one o_found o_after o_to o_at o_resolves o_agree o_rest) =
      absurd (not_es_and_es star target o_target kind to o_to at not_es o_at)
  once_passed star target stars so_far found after kind to at not_es rest _ _ (conflicts _ o_after _ _ _ o_target _ _ o_one o_to o_at o_resolves o_conflict) =
      absurd (not_es_and_es star target o_target kind to o_to at not_es o_at)

  once_joins : (star target : ℕ) (stars : List ℕ) (so_far value found : Found) (between after : List Pair) → slice_get targets star ≡ Some target → kind_at graph target ≡ Some Es → joined so_far value ≢ Ambiguous
      → ((one : Found) (end : List Pair) → ResolvesTo graph before target name one end → Same value between one end)
      → ((one : Found) (end : List Pair) → StarsLeadTo graph between targets name stars (joined so_far value) one end → Same found after one end)
      → (one : Found) (end : List Pair) → StarsLeadTo graph before targets name (star ∷ stars) so_far one end → Same found after one end
  once_joins star target stars so_far value found between after to at agree asked rest _ _ (passed _ _ _ _ o_target _ _ o_found o_after o_kind o_to o_at o_not_es o_rest) =
      absurd (not_es_and_es star o_target target o_kind o_to to o_at o_not_es at)
  once_joins star target stars so_far value found between after to at agree asked rest _ _ (joins _ o_between _ _ _ o_target _ _ o_one o_found o_after o_to o_at o_resolves o_agree o_rest) =
      let same = asked o_one o_between (subst (λ t. ResolvesTo graph before t name o_one o_between) (sym (target_once targets star target o_target to o_to)) o_resolves) in
      rest o_found o_after
      (subst (λ b. StarsLeadTo graph b targets name stars (joined so_far value) o_found o_after) (sym same.1)
      (subst (λ v. StarsLeadTo graph o_between targets name stars (joined so_far v) o_found o_after) (sym same.0) o_rest))
  once_joins star target stars so_far value found between after to at agree asked rest _ _ (conflicts _ o_after _ _ _ o_target _ _ o_one o_to o_at o_resolves o_conflict) =
      let same = asked o_one o_after (subst (λ t. ResolvesTo graph before t name o_one o_after) (sym (target_once targets star target o_target to o_to)) o_resolves) in
      absurd (agree (ap (joined so_far) same.0 ∙ o_conflict))

  once_conflicts : (star target : ℕ) (stars : List ℕ) (so_far value : Found) (after : List Pair) → slice_get targets star ≡ Some target → kind_at graph target ≡ Some Es → joined so_far value ≡ Ambiguous
      → ((one : Found) (end : List Pair) → ResolvesTo graph before target name one end → Same value after one end)
      → (one : Found) (end : List Pair) → StarsLeadTo graph before targets name (star ∷ stars) so_far one end → Same Ambiguous after one end
  once_conflicts star target stars so_far value after to at conflict asked _ _ (passed _ _ _ _ o_target _ _ o_found o_after o_kind o_to o_at o_not_es o_rest) =
      absurd (not_es_and_es star o_target target o_kind o_to to o_at o_not_es at)
  once_conflicts star target stars so_far value after to at conflict asked _ _ (joins _ o_between _ _ _ o_target _ _ o_one o_found o_after o_to o_at o_resolves o_agree o_rest) =
      let same = asked o_one o_between (subst (λ t. ResolvesTo graph before t name o_one o_between) (sym (target_once targets star target o_target to o_to)) o_resolves) in
      absurd (o_agree (ap (joined so_far) (sym same.0) ∙ conflict))
  once_conflicts star target stars so_far value after to at conflict asked _ _ (conflicts _ o_after _ _ _ o_target _ _ o_one o_to o_at o_resolves o_conflict) =
      let same = asked o_one o_after (subst (λ t. ResolvesTo graph before t name o_one o_after) (sym (target_once targets star target o_target to o_to)) o_resolves) in
      (refl, same.1)

-- ---- both

mutual
  pub once : (graph : Graph) (before : List Pair) (number : ℕ) (name : List ℕ) (found : Found) (after : List Pair) → ResolvesTo graph before number name found after
      → (one : Found) (end : List Pair) → ResolvesTo graph before number name one end → Same found after one end
  once graph _ _ _ _ _ (foreign before number name kind at not_es) = once_foreign graph before number name kind at not_es
  once graph _ _ _ _ _ (circular before number name at seen) = once_circular graph before number name at seen
  once graph _ _ _ _ _ (own before number name row binding first from) = once_own graph before number name row binding first from
  once graph _ _ _ _ _ (space before number name row request target first from to) = once_space graph before number name row request target first from to
  once graph _ _ _ _ _ (indirect before number name row request target other found after first from to rest) =
      once_indirect graph before number name row request target other found after first from to (once graph (before ++ (number, name) ∷ []) target other found after rest)
  once graph _ _ _ _ _ (no_default before number name row first from is) = once_no_default graph before number name row first from is
  once graph _ _ _ _ _ (by_stars before number name row found after first from is stars) =
      once_by_stars graph before number name row found after first from is (stars_once graph (before ++ (number, name) ∷ []) row.targets name row.facts.stars Nothing found after stars)

  stars_once : (graph : Graph) (before : List Pair) (targets name stars : List ℕ) (so_far found : Found) (after : List Pair) → StarsLeadTo graph before targets name stars so_far found after
      → (one : Found) (end : List Pair) → StarsLeadTo graph before targets name stars so_far one end → Same found after one end
  stars_once graph _ _ _ _ _ _ _ (ended before targets name found) = once_ended graph before targets name found
  stars_once graph _ _ _ _ _ _ _ (passed before targets name star target stars so_far found after kind to at not_es rest) =
      once_passed graph before targets name star target stars so_far found after kind to at not_es (stars_once graph before targets name stars so_far found after rest)
  stars_once graph _ _ _ _ _ _ _ (joins before between targets name star target stars so_far value found after to at resolves agree rest) =
      once_joins graph before targets name star target stars so_far value found between after to at agree (once graph before target name value between resolves)
      (stars_once graph between targets name stars (joined so_far value) found after rest)
  stars_once graph _ _ _ _ _ _ _ (conflicts before after targets name star target stars so_far value to at resolves conflict) =
      once_conflicts graph before targets name star target stars so_far value after to at conflict (once graph before target name value after resolves)

-- what a name leads to where a module imports it is one thing
pub resolves_once : (graph : Graph) (number : ℕ) (name : List ℕ) (found other : Found) → Resolves graph number name found → Resolves graph number name other → found ≡ other
resolves_once graph number name found other (after, one) (last, two) = (once graph [] number name found after one other last two).0
