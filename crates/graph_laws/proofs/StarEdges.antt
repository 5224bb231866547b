-- The use, the active edges and the group of a graph with stars and namespaces.
use Rattle.std.proofs.Common.{◌≡◌, ◌⊎◌, ◌↔◌, inl, inr, ℕ, zero, suc, true, false, true≢false, List, [], ◌∷◌, Contains, Some, slice_get, refl, sym, subst, lit<, arith}
use Rattle.std.specs.List.Sorted.{IsStrictlyIncreasing}
use Rattle.std.proofs.lemmas.Option.{none-some, same_Some}
use Rattle.pk_types.specs.declared.facts.Ref.TheVariants.{Imported}
use Rattle.pk_types.specs.declared.facts.SiteKind.TheVariants as site
use Rattle.pk_types.specs.declared.found.Found.TheVariants.{Binding, Namespace}
use Rattle.pk_types.specs.declared.graph.Row.{Row}
use Rattle.pk_types.specs.ExportedNames.{AreInByteOrder}
use Rattle.pk_types.specs.Requests.{site_kinds, NamesAtSite}
use Rattle.pk_types.specs.Reexports.{IsFoundThrough, PassesOn}
use Rattle.pk_types.specs.Stops.{IsPassed}
use Rattle.pk_types.specs.StopSearch.{AreFoundThrough, StopsAt, StarsStopAt, HasStops}
use Rattle.pk_types.specs.Use.{IsReached, IsUsed, IsUsedThrough, IsWholeThrough, IsWhole, HasUse}
use Rattle.pk_types.specs.ActiveEdges.{GoesThrough, SpaceGoesThrough, AreNamesThrough, GivesEdges, HasEdges, IsLedTo, IsActive}
use Rattle.pk_types.specs.ChunkGroups.{IsInClosure, IsImportTarget, LeadsTo, AreAll, IsGroups}
use Rattle.pk_types.proofs.Parts.{Contains-one, Contains-head, Contains-tail, Contains-cases, one_only, none_within}
use Rattle.graph_laws.specs.SmallUse.{v1, v2, v3, owner}
use Rattle.graph_laws.specs.StarBarrel.{ns, star_user, star_barrel, star_graph, star_used, star_active, star_groups}
use Rattle.graph_laws.proofs.Tests.{has}
use Rattle.graph_laws.proofs.SmallUse.{one_in_order, none_in_order}
use Rattle.graph_laws.proofs.QuietGraph.{rising_none, rising_one, all_of}
use Rattle.graph_laws.proofs.StarBarrel.{Reached, Named, Through, Spaced, calls_require, calls_import, at_user, user_space, not_asked, owner_finds, barrel_finds, space_finds, first_star, only_star, spaced_of, only_reached, only_used, only_whole}

-- the names that the imports of the user ask for
pub reads_first : NamesAtSite star_user 0 v1
reads_first = NamesAtSite.reads 0 0 v1 (Contains-head (site.Read (Imported 0)) (site.Read (Imported 1) ∷ site.Space 1 ∷ []))
    (record { request = 0; name = Some v1; place = 9 }, refl, refl, refl)

pub reads_space : NamesAtSite star_user 0 ns
reads_space = NamesAtSite.reads 1 0 ns
    (Contains-tail (site.Read (Imported 0)) (site.Read (Imported 1) ∷ site.Space 1 ∷ []) (site.Read (Imported 1))
    (Contains-head (site.Read (Imported 1)) (site.Space 1 ∷ [])))
    (record { request = 0; name = Some ns; place = 13 }, refl, refl, refl)

pub has_space : Contains (site_kinds star_user) (site.Space 1)
has_space = Contains-tail (site.Read (Imported 0)) (site.Read (Imported 1) ∷ site.Space 1 ∷ []) (site.Space 1)
    (Contains-tail (site.Read (Imported 1)) (site.Space 1 ∷ []) (site.Space 1) (Contains-one (site.Space 1)))

-- what is reached and used is so
user_reached : IsReached star_graph 0
user_reached = IsReached.entry 0 (Contains-one 0)

asks_first : IsUsedThrough star_graph 0 0 v1
asks_first = IsUsedThrough.at_site 0 0 v1 star_user user_reached refl reads_first

asks_space : IsUsedThrough star_graph 0 0 ns
asks_space = IsUsedThrough.at_site 0 0 ns star_user user_reached refl reads_space

first_at_barrel : IsUsed star_graph 1 v1
first_at_barrel = IsUsed.by_request 0 0 1 v1 star_user asks_first refl refl

space_at_barrel : IsUsed star_graph 1 ns
space_at_barrel = IsUsed.by_request 0 0 1 ns star_user asks_space refl refl

first_at_owner : IsUsed star_graph 3 v1
first_at_owner = IsUsed.by_request 1 0 3 v1 star_barrel (IsUsedThrough.passed_on 1 0 v1 v1 star_barrel first_at_barrel refl (PassesOn.by_star 0 first_star)) refl refl

user_whole : IsWholeThrough star_graph 0 1
user_whole = IsWholeThrough.space_at_site 0 1 star_user user_reached refl has_space

barrel_whole : IsWholeThrough star_graph 1 1
barrel_whole = IsWholeThrough.space_exported 1 1 ns star_barrel space_at_barrel refl refl

second_used : IsUsed star_graph 2 v2
second_used = IsUsed.by_space 0 1 2 v2 star_user user_whole refl refl (inl (owner v2, refl, Contains-one v2))

third_used : IsUsed star_graph 4 v3
third_used = IsUsed.by_space 1 1 4 v3 star_barrel barrel_whole refl refl (inl (owner v3, refl, Contains-one v3))

two_in_order : AreInByteOrder (ns ∷ v1 ∷ [])
two_in_order zero zero d h l = absurd (omega (arith, h))
two_in_order zero (suc zero) d h l = refl
two_in_order zero (suc (suc j)) d h l = absurd (omega (arith, l))
two_in_order (suc i) zero d h l = absurd (omega (arith, h))
two_in_order (suc i) (suc zero) d h l = absurd (omega (arith, h))
two_in_order (suc i) (suc (suc j)) d h l = absurd (omega (arith, l))

-- the names of a module in the record are exactly the used ones
SaysUsed : ℕ → List (List ℕ) → Type 0
SaysUsed number names = AreInByteOrder names × ((name : List ℕ) → Contains names name ↔ IsUsed star_graph number name)

unused : (number : ℕ) → ((name : List ℕ) → Named number name → ⊥) → SaysUsed number []
unfolding SaysUsed
unused number n = (none_in_order, λ name. (λ c. none_within name c, λ u. absurd (n name (only_used number name u))))

one_used : (number : ℕ) (named : List ℕ) → IsUsed star_graph number named → ((name : List ℕ) → Named number name → named ≡ name) → SaysUsed number (named ∷ [])
unfolding SaysUsed
one_used number named u only = (
  one_in_order named,
  λ name. (
    λ c. subst (IsUsed star_graph number) (one_only named name c) u,
    λ w. subst (Contains (named ∷ [])) (only name (only_used number name w)) (Contains-one named),
  ),
)

-- of a list of two names
of_two : (P : List ℕ → Type 0) (one two : List ℕ) → P one → P two → (name : List ℕ) → Contains (one ∷ two ∷ []) name → P name
of_two P one two p q name c = elim (Contains-cases one (two ∷ []) name c) [ inl e ↦ subst P e p | inr h ↦ subst P (one_only two name h) q ]

at_barrel : (name : List ℕ) → Named 1 name → Contains (ns ∷ v1 ∷ []) name
at_barrel _ Named.space_passed = Contains-head ns (v1 ∷ [])
at_barrel _ Named.first_passed = Contains-tail ns (v1 ∷ []) v1 (Contains-one v1)

barrel_used : SaysUsed 1 (ns ∷ v1 ∷ [])
unfolding SaysUsed
barrel_used = (two_in_order, λ name. (of_two (IsUsed star_graph 1) ns v1 space_at_barrel first_at_barrel name, λ w. at_barrel name (only_used 1 name w)))

named_none : (number : ℕ) (name : List ℕ) → Named number name → (number ≡ 0) ⊎ (number ≡ 5) → ⊥
named_none _ _ Named.space_passed e = grind arith
named_none _ _ Named.first_passed e = grind arith
named_none _ _ Named.second_named e = grind arith
named_none _ _ Named.first_named e = grind arith
named_none _ _ Named.third_named e = grind arith

named_second : (name : List ℕ) → Named 2 name → v2 ≡ name
named_second _ Named.second_named = refl

named_first : (name : List ℕ) → Named 3 name → v1 ≡ name
named_first _ Named.first_named = refl

named_third : (name : List ℕ) → Named 4 name → v3 ≡ name
named_third _ Named.third_named = refl

names_say : (number : ℕ) (names : List (List ℕ)) → slice_get star_used.names number ≡ Some names → SaysUsed number names
names_say zero names e = subst (SaysUsed 0) (same_Some [] names e) (unused 0 (λ name n. named_none 0 name n (inl refl)))
names_say (suc zero) names e = subst (SaysUsed 1) (same_Some (ns ∷ v1 ∷ []) names e) barrel_used
names_say (suc (suc zero)) names e = subst (SaysUsed 2) (same_Some (v2 ∷ []) names e) (one_used 2 v2 second_used named_second)
names_say (suc (suc (suc zero))) names e = subst (SaysUsed 3) (same_Some (v1 ∷ []) names e) (one_used 3 v1 first_at_owner named_first)
names_say (suc (suc (suc (suc zero)))) names e = subst (SaysUsed 4) (same_Some (v3 ∷ []) names e) (one_used 4 v3 third_used named_third)
names_say (suc (suc (suc (suc (suc zero))))) names e = subst (SaysUsed 5) (same_Some [] names e) (unused 5 (λ name n. named_none 5 name n (inr refl)))
names_say (suc (suc (suc (suc (suc (suc number)))))) names e = absurd (none-some names e)

says_whole : (number : ℕ) → slice_get star_used.whole number ≡ Some true → IsWhole star_graph number
says_whole zero e = absurd (true≢false (sym (same_Some false true e)))
says_whole (suc zero) e = absurd (true≢false (sym (same_Some false true e)))
says_whole (suc (suc zero)) e = (0, 1, star_user, user_whole, refl, refl)
says_whole (suc (suc (suc zero))) e = absurd (true≢false (sym (same_Some false true e)))
says_whole (suc (suc (suc (suc zero)))) e = (1, 1, star_barrel, barrel_whole, refl, refl)
says_whole (suc (suc (suc (suc (suc zero))))) e = absurd (true≢false (sym (same_Some false true e)))
says_whole (suc (suc (suc (suc (suc (suc number)))))) e = absurd (none-some true e)

whole_said : (number : ℕ) → Spaced number → slice_get star_used.whole number ≡ Some true
whole_said _ Spaced.second_spaced = refl
whole_said _ Spaced.third_spaced = refl

pub star_use : HasUse star_graph star_used
unfolding SaysUsed
star_use = record {
  each_names = refl;
  each_whole = refl;
  order = λ number names e. (names_say number names e).0;
  names = λ number names e. (names_say number names e).1;
  whole = λ number. (λ e. says_whole number e, λ w. whole_said number (spaced_of w.0 w.1 (only_whole w.0 w.1 w.3) w.2 number w.4 w.5));
}

-- the stops of the two names
space_stops : HasStops star_graph 1 ns (4 ∷ [])
space_stops = (
  (1, ns) ∷ [],
  StopsAt.namespace [] 1 ns star_barrel 1 4 (not_asked [] 1 ns refl) (record { at = refl; found = Namespace 4; finds = space_finds; flagged = refl; kind = refl }) refl refl,
)

barrel_passes : IsPassed star_graph 1 v1 star_barrel
barrel_passes = record { at = refl; found = Binding 3 0; finds = barrel_finds; flagged = refl; kind = refl }

stars_through : AreFoundThrough star_graph 1 star_barrel v1 (0 ∷ [])
stars_through = record {
  ascending = rising_one 0;
  each = λ star. (
    λ c. subst (IsFoundThrough star_graph 1 star_barrel v1) (one_only 0 star c) first_star,
    λ f. subst (Contains (0 ∷ [])) (only_star star f) (Contains-one 0),
  );
}

first_stops : HasStops star_graph 1 v1 (3 ∷ [])
first_stops = (
  (1, v1) ∷ (3, v1) ∷ [],
  StopsAt.by_stars [] 1 v1 star_barrel (0 ∷ []) (3 ∷ []) ((1, v1) ∷ (3, v1) ∷ []) (not_asked [] 1 v1 refl) barrel_passes refl stars_through
      (StarsStopAt.next ((1, v1) ∷ []) ((1, v1) ∷ (3, v1) ∷ []) ((1, v1) ∷ (3, v1) ∷ []) star_barrel.targets v1 0 3 [] (3 ∷ []) [] refl
      (StopsAt.here ((1, v1) ∷ []) 3 v1 (owner v1) (Binding 3 0) (not_asked ((1, v1) ∷ []) 3 v1 refl) refl owner_finds (inr (inr (0, refl))))
      (StarsStopAt.ended ((1, v1) ∷ (3, v1) ∷ []) star_barrel.targets v1)),
)

-- the edges of the user
user_goes : (name : List ℕ) → Through 0 0 name → Contains (ns ∷ v1 ∷ []) name
user_goes _ Through.asks_first = Contains-tail ns (v1 ∷ []) v1 (Contains-one v1)
user_goes _ Through.asks_space = Contains-head ns (v1 ∷ [])

goes_by_user : (request : ℕ) (name : List ℕ) → GoesThrough star_graph 0 star_user [] request name → Through 0 request name
goes_by_user _ _ (GoesThrough.at_site request name s) = at_user request name s
goes_by_user _ _ (GoesThrough.passed_on request exported name c p) = none_within exported c

user_names : AreNamesThrough star_graph 0 star_user [] 0 (ns ∷ v1 ∷ [])
user_names = record {
  order = two_in_order;
  each = λ name. (
    of_two (GoesThrough star_graph 0 star_user [] 0) ns v1 (GoesThrough.at_site 0 ns reads_space) (GoesThrough.at_site 0 v1 reads_first) name,
    λ g. user_goes name (goes_by_user 0 name g),
  );
}

names_alone : (request : ℕ) → SpaceGoesThrough star_user [] request → 1 ≡ request
names_alone _ (SpaceGoesThrough.at_site request s) = user_space request s
names_alone _ (SpaceGoesThrough.exported request name c x) = none_within name c

user_edges : HasEdges star_graph 0 star_user [] (4 ∷ 3 ∷ 2 ∷ [])
user_edges = (
  (4 ∷ 3 ∷ []) ∷ (2 ∷ []) ∷ [],
  (
    GivesEdges.replaced 0 1 (ns ∷ v1 ∷ []) ((4 ∷ []) ∷ (3 ∷ []) ∷ []) refl refl (λ s. omega (arith, names_alone 0 s)) user_names (space_stops, (first_stops, tt)),
    (GivesEdges.whole 1 2 refl refl (SpaceGoesThrough.at_site 1 has_space), tt),
  ),
  refl,
)

-- what the edges lead to
user_led : IsLedTo star_graph star_active.edges 0
user_led = IsLedTo.entry 0 (Contains-one 0)

of_three : (P : ℕ → Type 0) → P 4 → P 3 → P 2 → (number : ℕ) → Contains (4 ∷ 3 ∷ 2 ∷ []) number → P number
of_three P third first second number c = elim (Contains-cases 4 (3 ∷ 2 ∷ []) number c) [
  | inl e ↦ subst P e third
  | inr h ↦ elim (Contains-cases 3 (2 ∷ []) number h) [ inl e ↦ subst P e first | inr w ↦ subst P (one_only 2 number w) second ]
]

-- the edges of a module lead to reached ones
edge_reached : (number : ℕ) → Reached number → (target : ℕ) (targets : List ℕ) → slice_get star_active.edges number ≡ Some targets → Contains targets target
    → Reached target
edge_reached _ Reached.user_is target targets e m =
    of_three Reached Reached.third_is Reached.first_is Reached.second_is target
    (subst (λ l. Contains l target) (sym (same_Some (4 ∷ 3 ∷ 2 ∷ []) targets e)) m)
edge_reached _ Reached.second_is target targets e m = none_within target (subst (λ l. Contains l target) (sym (same_Some [] targets e)) m)
edge_reached _ Reached.first_is target targets e m = none_within target (subst (λ l. Contains l target) (sym (same_Some [] targets e)) m)
edge_reached _ Reached.third_is target targets e m = none_within target (subst (λ l. Contains l target) (sym (same_Some [] targets e)) m)

only_led : (number : ℕ) → IsLedTo star_graph star_active.edges number → Reached number
only_led _ (IsLedTo.entry number c) = subst Reached (one_only 0 number c) Reached.user_is
only_led _ (IsLedTo.along number target targets l e m) = edge_reached number (only_led number l) target targets e m
only_led _ (IsLedTo.required number target l c) = absurd (calls_require number target c)
only_led _ (IsLedTo.imported number target l c) = absurd (calls_import number target c)

second_edge : Contains {X = ℕ} (4 ∷ 3 ∷ 2 ∷ []) 2
second_edge = Contains-tail 4 (3 ∷ 2 ∷ []) 2 (Contains-tail 3 (2 ∷ []) 2 (Contains-one 2))

first_edge : Contains {X = ℕ} (4 ∷ 3 ∷ 2 ∷ []) 3
first_edge = Contains-tail 4 (3 ∷ 2 ∷ []) 3 (Contains-head 3 (2 ∷ []))

third_edge : Contains {X = ℕ} (4 ∷ 3 ∷ 2 ∷ []) 4
third_edge = Contains-head 4 (3 ∷ 2 ∷ [])

user_leads : (target : ℕ) → Contains (4 ∷ 3 ∷ 2 ∷ []) target → IsLedTo star_graph star_active.edges target
user_leads target m = IsLedTo.along 0 target (4 ∷ 3 ∷ 2 ∷ []) user_led refl m

reached_led : (number : ℕ) → slice_get star_active.reached number ≡ Some true → IsLedTo star_graph star_active.edges number
reached_led zero e = user_led
reached_led (suc zero) e = absurd (true≢false (sym (same_Some false true e)))
reached_led (suc (suc zero)) e = user_leads 2 second_edge
reached_led (suc (suc (suc zero))) e = user_leads 3 first_edge
reached_led (suc (suc (suc (suc zero)))) e = user_leads 4 third_edge
reached_led (suc (suc (suc (suc (suc zero))))) e = absurd (true≢false (sym (same_Some false true e)))
reached_led (suc (suc (suc (suc (suc (suc number)))))) e = absurd (none-some true e)

led_reached : (number : ℕ) → Reached number → slice_get star_active.reached number ≡ Some true
led_reached _ Reached.user_is = refl
led_reached _ Reached.second_is = refl
led_reached _ Reached.first_is = refl
led_reached _ Reached.third_is = refl

-- a reached module has edges by its used names
EdgesThere : ℕ → Row → List ℕ → Type 0
EdgesThere number row edges = (names : List (List ℕ)) × (slice_get star_used.names number ≡ Some names) × HasEdges star_graph number row names edges

edges_there : (number : ℕ) → Reached number → (row : Row) (edges : List ℕ) → slice_get star_graph.rows number ≡ Some row
    → slice_get star_active.edges number ≡ Some edges → EdgesThere number row edges
unfolding EdgesThere
edges_there _ Reached.user_is row edges e g =
    subst (λ w. EdgesThere 0 w edges) (same_Some star_user row e) (subst (EdgesThere 0 star_user) (same_Some (4 ∷ 3 ∷ 2 ∷ []) edges g) ([], refl, user_edges))
edges_there _ Reached.second_is row edges e g =
    subst (λ w. EdgesThere 2 w edges) (same_Some (owner v2) row e) (subst (EdgesThere 2 (owner v2)) (same_Some [] edges g) (v2 ∷ [], refl, ([], tt, refl)))
edges_there _ Reached.first_is row edges e g =
    subst (λ w. EdgesThere 3 w edges) (same_Some (owner v1) row e) (subst (EdgesThere 3 (owner v1)) (same_Some [] edges g) (v1 ∷ [], refl, ([], tt, refl)))
edges_there _ Reached.third_is row edges e g =
    subst (λ w. EdgesThere 4 w edges) (same_Some (owner v3) row e) (subst (EdgesThere 4 (owner v3)) (same_Some [] edges g) (v3 ∷ [], refl, ([], tt, refl)))

no_edges : (number : ℕ) → slice_get star_active.reached number ≡ Some false → slice_get star_active.edges number ≡ Some []
no_edges zero e = absurd (true≢false (same_Some true false e))
no_edges (suc zero) e = refl
no_edges (suc (suc zero)) e = refl
no_edges (suc (suc (suc zero))) e = refl
no_edges (suc (suc (suc (suc zero)))) e = refl
no_edges (suc (suc (suc (suc (suc zero))))) e = refl
no_edges (suc (suc (suc (suc (suc (suc number)))))) e = absurd (none-some false e)

pub star_edges : IsActive star_graph star_used star_active
unfolding EdgesThere
star_edges = record {
  each_edges = refl;
  each_reached = refl;
  reached = λ number. (λ e. reached_led number e, λ l. led_reached number (only_led number l));
  edges = λ number row edges r e g. edges_there number (only_led number (reached_led number r)) row edges e g;
  others = λ number e. no_edges number e;
}

-- the modules that pass names on, or that the other star alone leads to, are not reached
reached_others : (number : ℕ) → Reached number → (number ≡ 1) ⊎ (number ≡ 5) → ⊥
reached_others _ Reached.user_is e = grind arith
reached_others _ Reached.second_is e = grind arith
reached_others _ Reached.first_is e = grind arith
reached_others _ Reached.third_is e = grind arith

pub star_barrel_is_skipped : ¬ IsReached star_graph 1
star_barrel_is_skipped r = reached_others 1 (only_reached 1 r) (inl refl)

pub fourth_is_skipped : ¬ IsReached star_graph 5
fourth_is_skipped r = reached_others 5 (only_reached 5 r) (inr refl)

-- the group of the entry
in_closure : (number : ℕ) → IsInClosure star_graph star_active.edges 0 number → Reached number
in_closure _ IsInClosure.itself = Reached.user_is
in_closure _ (IsInClosure.along number target targets i e m) = edge_reached number (in_closure number i) target targets e m
in_closure _ (IsInClosure.required number target i c) = absurd (calls_require number target c)

has_reached : (number : ℕ) → Reached number → has (0 ∷ 2 ∷ 3 ∷ 4 ∷ []) number ≡ true
has_reached _ Reached.user_is = refl
has_reached _ Reached.second_is = refl
has_reached _ Reached.first_is = refl
has_reached _ Reached.third_is = refl

rising : IsStrictlyIncreasing (0 ∷ 2 ∷ 3 ∷ 4 ∷ [])
rising zero l = lit< tt
rising (suc zero) l = lit< tt
rising (suc (suc zero)) l = lit< tt
rising (suc (suc (suc k))) l = absurd (omega (arith, l))

along_user : (target : ℕ) → Contains (4 ∷ 3 ∷ 2 ∷ []) target → IsInClosure star_graph star_active.edges 0 target
along_user target m = IsInClosure.along 0 target (4 ∷ 3 ∷ 2 ∷ []) IsInClosure.itself refl m

entry_closure : AreAll (IsInClosure star_graph star_active.edges 0) (0 ∷ 2 ∷ 3 ∷ 4 ∷ [])
entry_closure = all_of (IsInClosure star_graph star_active.edges 0) (0 ∷ 2 ∷ 3 ∷ 4 ∷ []) rising
    (IsInClosure.itself, (along_user 2 second_edge, (along_user 3 first_edge, (along_user 4 third_edge, tt))))
    (λ number i. has_reached number (in_closure number i))

closure_of : (group target : ℕ) (modules : List ℕ) → slice_get star_groups.targets group ≡ Some target → slice_get star_groups.closures group ≡ Some modules
    → AreAll (IsInClosure star_graph star_active.edges target) modules
closure_of zero target modules e f =
    subst (λ n. AreAll (IsInClosure star_graph star_active.edges n) modules) (same_Some 0 target e)
    (subst (AreAll (IsInClosure star_graph star_active.edges 0)) (same_Some (0 ∷ 2 ∷ 3 ∷ 4 ∷ []) modules f) entry_closure)
closure_of (suc group) target modules e f = absurd (none-some target e)

leads_of : (group : ℕ) (modules next : List ℕ) → slice_get star_groups.closures group ≡ Some modules → slice_get star_groups.leads group ≡ Some next
    → AreAll (LeadsTo star_graph star_groups modules) next
leads_of zero modules next e f = subst (AreAll (LeadsTo star_graph star_groups modules)) (same_Some [] next f)
    (all_of (LeadsTo star_graph star_groups modules) [] rising_none tt (λ other l. absurd (calls_import l.3.0 l.0 l.3.2)))
leads_of (suc group) modules next e f = absurd (none-some modules e)

pub star_has_groups : IsGroups star_graph star_active star_groups
star_has_groups = record {
  targets = record {
    entries = refl;
    imported = [];
    targets = refl;
    others = all_of (IsImportTarget star_graph star_active) [] rising_none tt (λ number i. absurd (calls_import i.0 number i.2));
  };
  each_closure = refl;
  each_lead = refl;
  closures = closure_of;
  leads = leads_of;
}
