-- Laws of given names.
use Rattle.std.proofs.Common.{◌≡◌, ◌≢◌, ℕ, ◌<◌, List, [], ◌∷◌, length, map, refl, sym, ap, subst, ◌∙◌, arith, AllPairs, flat_map, take, slice_get, slice_index_or, append-nil, ⊎_elim, Option, Some, None, option_map, unwrap_or}
use Rattle.std.specs.List.{Contains}
use Rattle.std.specs.Cmp.Lexicographic.{bytes_decides}
use Rattle.std.proofs.lemmas.List.{get_or_default}
use Rattle.std.proofs.lemmas.List.Elements.{All-contains, Contains-append_left, Contains-append_right}
use Rattle.std.proofs.lemmas.Map.Made.{AllPairs-from_IsDistinct}
use Rattle.pk_types.specs.declared.graph.Graph.{Graph}
use Rattle.pk_types.specs.declared.graph.Row.{Row}
use Rattle.pk_types.specs.Fitting.{Fits, RowFits}
use Rattle.pk_types.specs.GivenNames.{own_names, avoided_names, IsGivenFor, unchanged, renamed, GivesInOrder, GivesNames}
use Rattle.pk_types.proofs.Members.{Contains-at}
use Rattle.pk_types.proofs.ListMembers.{within_take, one_of, none_in}

-- a given name isn't taken
pub given_free : (taken : List (List ℕ)) (name given : List ℕ) → IsGivenFor taken name given → ¬ Contains taken given
given_free taken name given (unchanged free) = free
given_free taken name given (renamed number needed above free first) = free

-- none is avoided
pub none_captured : (avoided names given : List (List ℕ)) → GivesInOrder avoided names given → (place : ℕ) → place < length names
    → ¬ Contains avoided (slice_index_or given place [])
none_captured avoided names given gives place inside c =
    given_free _ _ _ (gives.next place inside) (Contains-append_left avoided (take place given) (slice_index_or given place []) c)

-- no two are the same
pub names_apart : (avoided names given : List (List ℕ)) → GivesInOrder avoided names given → (place other : ℕ) → place < other → other < length names
    → slice_index_or given place [] ≢ slice_index_or given other []
names_apart avoided names given gives place other before inside same =
    let long = gives.each in
    let here_too : Contains (take other given) (slice_index_or given place []) = within_take given place other [] before (omega arith) in
    given_free _ _ _ (gives.next other inside)
    (Contains-append_right avoided (take other given) (slice_index_or given other []) (subst (Contains (take other given)) same here_too))

-- the own names of a module of a graph that fits differ
own_apart : (graph : Graph) → Fits graph → (member : ℕ) → AllPairs (λ name other. name ≢ other) (own_names graph member)
own_apart graph fits member = by (slice_get graph.rows member) refl
  where
    by : (row : Option Row) → slice_get graph.rows member ≡ row
        → AllPairs (λ name other. name ≢ other) (unwrap_or (option_map (λ row. map (λ binding. binding.name) row.facts.bindings) row) [])
    by None at = λ i j d before inside. absurd (omega arith)
    by (Some row) at = AllPairs-from_IsDistinct bytes_decides (map (λ binding. binding.name) row.facts.bindings)
        (All-contains (RowFits graph) graph.rows row fits.rows (Contains-at graph.rows member row at)).facts.lawful.bindings

-- no two bindings of a set have one name
pub set_names_apart : (graph : Graph) → Fits graph → (members : List ℕ) (given : List (List (List ℕ))) → 0 < length members → GivesNames graph members given
    → AllPairs (λ name other. name ≢ other) (flat_map (λ names. names) given)
set_names_apart graph fits [] given some gives = absurd (omega arith)
set_names_apart graph fits (member ∷ []) given some gives =
    subst (AllPairs (λ name other. name ≢ other)) (sym (ap (flat_map (λ names. names)) (gives.alone refl) ∙ append-nil (own_names graph member))) (own_apart graph fits member)
set_names_apart graph fits (member ∷ other ∷ members) given some gives = λ i j d before inside.
    let shared = gives.shared (omega arith) in
    let long = shared.each in
    let names = flat_map (λ names. names) given in
    (λ same. names_apart (flat_map (avoided_names graph) (member ∷ other ∷ members)) (flat_map (own_names graph) (member ∷ other ∷ members)) names shared i j before (omega arith)
    (get_or_default names i [] d (omega arith) ∙ (same ∙ get_or_default names j d [] inside)))

-- what one of the lists has, they have together
in_flat : (avoided : ℕ → List (List ℕ)) (members : List ℕ) (member : ℕ) (name : List ℕ) → Contains members member → Contains (avoided member) name
    → Contains (flat_map avoided members) name
in_flat avoided [] member name among c = absurd (none_in member among)
in_flat avoided (first ∷ rest) member name among c = ⊎_elim
    (λ same. Contains-append_left (avoided first) (flat_map avoided rest) name (subst (λ z. Contains (avoided z) name) (sym same) c))
    (λ later. Contains-append_right (avoided first) (flat_map avoided rest) name (in_flat avoided rest member name later c))
    (one_of first rest member among)

-- in a set of several members none is to be avoided beside any member
pub none_captured_in_set : (graph : Graph) (members : List ℕ) (given : List (List (List ℕ))) → GivesNames graph members given → 1 < length members
    → (name : List ℕ) → Contains (flat_map (λ names. names) given) name → (member : ℕ) → Contains members member → ¬ Contains (avoided_names graph member) name
none_captured_in_set graph members given gives several name (place, inside, at) member among c =
    let shared = gives.shared several in
    let long = shared.each in
    let names = flat_map (λ names. names) given in
    none_captured (flat_map (avoided_names graph) members) (flat_map (own_names graph) members) names shared place (omega (arith, inside))
    (subst (Contains (flat_map (avoided_names graph) members)) (sym (get_or_default names place [] name inside ∙ at))
    (in_flat (avoided_names graph) members member name among c))
