-- The use, the active edges and the groups of a small graph.
use Rattle.std.proofs.Common.{◌≡◌, ◌⊎◌, inl, inr, ℕ, zero, suc, ◌<◌, true, false, true≢false, List, [], ◌∷◌, Contains, Some, slice_get, refl, sym, ap, subst, ◌∙◌, lit<, lit≤, arith}
use Rattle.std.specs.List.Sorted.{IsStrictlyIncreasing}
use Rattle.std.proofs.lemmas.Option.{none-some, same_Some}
use Rattle.pk_types.specs.declared.facts.SiteKind.{SiteKind}
use Rattle.pk_types.specs.declared.facts.SiteKind.TheVariants as site
use Rattle.pk_types.specs.declared.graph.Row.{Row}
use Rattle.pk_types.specs.Requests.{site_kinds, CallsImport}
use Rattle.pk_types.specs.Use.{HasUse}
use Rattle.pk_types.specs.ActiveEdges.{GivesEdges, HasEdges, IsLedTo, IsActive}
use Rattle.pk_types.specs.ChunkGroups.{IsInClosure, IsImportTarget, LeadsTo, AreAll, HasTargets, IsGroups}
use Rattle.pk_types.proofs.Parts.{Contains-one, Contains-head, Contains-tail, Contains-cases, one_only, none_within}
use Rattle.graph_laws.specs.SmallGroups.{one_parent}
use Rattle.graph_laws.specs.SharedLater.{module_index, module_p, module_q, module_m, module_t, shared_graph, shared_used, shared_active}
use Rattle.graph_laws.proofs.Tests.{has, passes, tested}
use Rattle.graph_laws.proofs.QuietGraph.{IsLater, calls_require, quiet_use, rising_none, rising_one, rising_two}

data Which : ℕ → Row → Type 0 where
  is_index : Which 0 module_index
  is_p : Which 1 module_p
  is_q : Which 2 module_q
  is_m : Which 3 module_m
  is_t : Which 4 module_t

which : (number : ℕ) (row : Row) → slice_get shared_graph.rows number ≡ Some row → Which number row
which zero row e = subst (Which 0) (same_Some module_index row e) Which.is_index
which (suc zero) row e = subst (Which 1) (same_Some module_p row e) Which.is_p
which (suc (suc zero)) row e = subst (Which 2) (same_Some module_q row e) Which.is_q
which (suc (suc (suc zero))) row e = subst (Which 3) (same_Some module_m row e) Which.is_m
which (suc (suc (suc (suc zero)))) row e = subst (Which 4) (same_Some module_t row e) Which.is_t
which (suc (suc (suc (suc (suc number))))) row e = absurd (none-some row e)

-- each site is an `import()`, and nothing is exported
all_later : (number : ℕ) (row : Row) → Which number row → (kind : SiteKind) → Contains (site_kinds row) kind → IsLater kind
all_later _ _ Which.is_index kind c = elim (Contains-cases (site.Import 0) (site.Import 1 ∷ []) kind c) [
  | inl e ↦ (0, e)
  | inr h ↦ (1, one_only (site.Import 1) kind h)
]
all_later _ _ Which.is_p kind c = (1, one_only (site.Import 1) kind c)
all_later _ _ Which.is_q kind c = (0, one_only (site.Import 0) kind c)
all_later _ _ Which.is_m kind c = none_within kind c
all_later _ _ Which.is_t kind c = none_within kind c

exports_at : (number : ℕ) (row : Row) → Which number row → row.facts.exports ≡ []
exports_at _ _ Which.is_index = refl
exports_at _ _ Which.is_p = refl
exports_at _ _ Which.is_q = refl
exports_at _ _ Which.is_m = refl
exports_at _ _ Which.is_t = refl

stars_at : (number : ℕ) (row : Row) → Which number row → row.facts.stars ≡ []
stars_at _ _ Which.is_index = refl
stars_at _ _ Which.is_p = refl
stars_at _ _ Which.is_q = refl
stars_at _ _ Which.is_m = refl
stars_at _ _ Which.is_t = refl

sites : (number : ℕ) (row : Row) → slice_get shared_graph.rows number ≡ Some row → (kind : SiteKind) → Contains (site_kinds row) kind → IsLater kind
sites number row e = all_later number row (which number row e)

exports : (number : ℕ) (row : Row) → slice_get shared_graph.rows number ≡ Some row → row.facts.exports ≡ []
exports number row e = exports_at number row (which number row e)

stars : (number : ℕ) (row : Row) → slice_get shared_graph.rows number ≡ Some row → row.facts.stars ≡ []
stars number row e = stars_at number row (which number row e)

same_import : (request other : ℕ) → site.Import request ≡ site.Import other → request ≡ other
same_import request other e = grind arith

-- which `import()` leads where
Later : ℕ → ℕ → Type 0
Later number target = ((number ≡ 0) × ((target ≡ 1) ⊎ (target ≡ 2))) ⊎ (((number ≡ 1) ⊎ (number ≡ 2)) × (target ≡ 4))

by_index : (request target : ℕ) → (0 ≡ request) ⊎ (1 ≡ request) → slice_get module_index.targets request ≡ Some target → (target ≡ 1) ⊎ (target ≡ 2)
by_index request target (inl e) u = inl (sym (same_Some 1 target (ap (slice_get module_index.targets) e ∙ u)))
by_index request target (inr e) u = inr (sym (same_Some 2 target (ap (slice_get module_index.targets) e ∙ u)))

at_index : (request : ℕ) → Contains (site_kinds module_index) (site.Import request) → (0 ≡ request) ⊎ (1 ≡ request)
at_index request c = elim (Contains-cases (site.Import 0) (site.Import 1 ∷ []) (site.Import request) c) [
  | inl e ↦ inl (same_import 0 request e)
  | inr h ↦ inr (same_import 1 request (one_only (site.Import 1) (site.Import request) h))
]

later_at : (number : ℕ) (row : Row) → Which number row → (request target : ℕ) → Contains (site_kinds row) (site.Import request)
    → slice_get row.targets request ≡ Some target → Later number target
unfolding Later
later_at _ _ Which.is_index request target c u = inl (refl, by_index request target (at_index request c) u)
later_at _ _ Which.is_p request target c u =
    let e : 1 ≡ request = same_import 1 request (one_only (site.Import 1) (site.Import request) c) in
    inr (inl refl, sym (same_Some 4 target (ap (slice_get module_p.targets) e ∙ u)))
later_at _ _ Which.is_q request target c u =
    let e : 0 ≡ request = same_import 0 request (one_only (site.Import 0) (site.Import request) c) in
    inr (inr refl, sym (same_Some 4 target (ap (slice_get module_q.targets) e ∙ u)))
later_at _ _ Which.is_m request target c u = none_within (site.Import request) c
later_at _ _ Which.is_t request target c u = none_within (site.Import request) c

calls_later : (number target : ℕ) → CallsImport shared_graph number target → Later number target
calls_later number target c = later_at number c.0 (which number c.0 c.2) c.1 target c.3 c.4

index_calls_p : CallsImport shared_graph 0 1
index_calls_p = (module_index, 0, refl, Contains-head (site.Import 0) (site.Import 1 ∷ []), refl)

index_calls_q : CallsImport shared_graph 0 2
index_calls_q = (module_index, 1, refl, Contains-tail (site.Import 0) (site.Import 1 ∷ []) (site.Import 1) (Contains-one (site.Import 1)), refl)

p_calls_t : CallsImport shared_graph 1 4
p_calls_t = (module_p, 1, refl, Contains-one (site.Import 1), refl)

q_calls_t : CallsImport shared_graph 2 4
q_calls_t = (module_q, 0, refl, Contains-one (site.Import 0), refl)

later_below : (number target : ℕ) → Later number target → target < 5
unfolding Later
later_below number target l = grind arith

names_empty : (number : ℕ) (names : List (List ℕ)) → slice_get shared_used.names number ≡ Some names → [] ≡ names
names_empty zero names e = same_Some [] names e
names_empty (suc zero) names e = same_Some [] names e
names_empty (suc (suc zero)) names e = same_Some [] names e
names_empty (suc (suc (suc zero))) names e = same_Some [] names e
names_empty (suc (suc (suc (suc zero)))) names e = same_Some [] names e
names_empty (suc (suc (suc (suc (suc number))))) names e = absurd (none-some names e)

whole_false : (number : ℕ) → slice_get shared_used.whole number ≡ Some true → ⊥
whole_false zero e = true≢false (sym (same_Some false true e))
whole_false (suc zero) e = true≢false (sym (same_Some false true e))
whole_false (suc (suc zero)) e = true≢false (sym (same_Some false true e))
whole_false (suc (suc (suc zero))) e = true≢false (sym (same_Some false true e))
whole_false (suc (suc (suc (suc zero)))) e = true≢false (sym (same_Some false true e))
whole_false (suc (suc (suc (suc (suc number))))) e = none-some true e

pub shared_use : HasUse shared_graph shared_used
shared_use = quiet_use shared_graph sites exports stars shared_used refl refl names_empty whole_false

-- the edges
edge_at : (number target : ℕ) (targets : List ℕ) → slice_get shared_active.edges number ≡ Some targets → Contains targets target
    → ((number ≡ 1) ⊎ (number ≡ 4)) × (target ≡ 3)
edge_at zero target targets e c = none_within target (subst (λ l. Contains l target) (sym (same_Some [] targets e)) c)
edge_at (suc zero) target targets e c = (inl refl, sym (one_only 3 target (subst (λ l. Contains l target) (sym (same_Some (3 ∷ []) targets e)) c)))
edge_at (suc (suc zero)) target targets e c = none_within target (subst (λ l. Contains l target) (sym (same_Some [] targets e)) c)
edge_at (suc (suc (suc zero))) target targets e c = none_within target (subst (λ l. Contains l target) (sym (same_Some [] targets e)) c)
edge_at (suc (suc (suc (suc zero)))) target targets e c = (inr refl, sym (one_only 3 target (subst (λ l. Contains l target) (sym (same_Some (3 ∷ []) targets e)) c)))
edge_at (suc (suc (suc (suc (suc number))))) target targets e c = absurd (none-some targets e)

index_led : IsLedTo shared_graph shared_active.edges 0
index_led = IsLedTo.entry 0 (Contains-one 0)

p_led : IsLedTo shared_graph shared_active.edges 1
p_led = IsLedTo.imported 0 1 index_led index_calls_p

q_led : IsLedTo shared_graph shared_active.edges 2
q_led = IsLedTo.imported 0 2 index_led index_calls_q

m_led : IsLedTo shared_graph shared_active.edges 3
m_led = IsLedTo.along 1 3 (3 ∷ []) p_led refl (Contains-one 3)

t_led : IsLedTo shared_graph shared_active.edges 4
t_led = IsLedTo.imported 1 4 p_led p_calls_t

all_led : (number : ℕ) → slice_get shared_active.reached number ≡ Some true → IsLedTo shared_graph shared_active.edges number
all_led zero e = index_led
all_led (suc zero) e = p_led
all_led (suc (suc zero)) e = q_led
all_led (suc (suc (suc zero))) e = m_led
all_led (suc (suc (suc (suc zero)))) e = t_led
all_led (suc (suc (suc (suc (suc number))))) e = absurd (none-some true e)

led_below : (number : ℕ) → IsLedTo shared_graph shared_active.edges number → number < 5
led_below _ (IsLedTo.entry number c) = omega (arith, one_only 0 number c)
led_below _ (IsLedTo.along number target targets l e c) = omega (arith, (edge_at number target targets e c).1)
led_below _ (IsLedTo.required number target l c) = absurd (calls_require shared_graph sites exports stars number target c)
led_below _ (IsLedTo.imported number target l c) = later_below number target (calls_later number target c)

below_reached : (number : ℕ) → number < 5 → slice_get shared_active.reached number ≡ Some true
below_reached zero l = refl
below_reached (suc zero) l = refl
below_reached (suc (suc zero)) l = refl
below_reached (suc (suc (suc zero))) l = refl
below_reached (suc (suc (suc (suc zero)))) l = refl
below_reached (suc (suc (suc (suc (suc number))))) l = absurd (omega (arith, l))

edges_at : (number : ℕ) (row : Row) → Which number row → (edges : List ℕ) → slice_get shared_active.edges number ≡ Some edges
    → HasEdges shared_graph number row [] edges
edges_at _ _ Which.is_index edges e = ([], tt, sym (same_Some [] edges e))
edges_at _ _ Which.is_p edges e = ((3 ∷ []) ∷ [], (GivesEdges.kept 0 3 refl refl, tt), sym (same_Some (3 ∷ []) edges e))
edges_at _ _ Which.is_q edges e = ([], tt, sym (same_Some [] edges e))
edges_at _ _ Which.is_m edges e = ([], tt, sym (same_Some [] edges e))
edges_at _ _ Which.is_t edges e = ((3 ∷ []) ∷ [], (GivesEdges.kept 0 3 refl refl, tt), sym (same_Some (3 ∷ []) edges e))

names_at : (number : ℕ) (row : Row) → Which number row → slice_get shared_used.names number ≡ Some []
names_at _ _ Which.is_index = refl
names_at _ _ Which.is_p = refl
names_at _ _ Which.is_q = refl
names_at _ _ Which.is_m = refl
names_at _ _ Which.is_t = refl

none_unreached : (number : ℕ) → slice_get shared_active.reached number ≡ Some false → ⊥
none_unreached zero e = true≢false (same_Some true false e)
none_unreached (suc zero) e = true≢false (same_Some true false e)
none_unreached (suc (suc zero)) e = true≢false (same_Some true false e)
none_unreached (suc (suc (suc zero))) e = true≢false (same_Some true false e)
none_unreached (suc (suc (suc (suc zero)))) e = true≢false (same_Some true false e)
none_unreached (suc (suc (suc (suc (suc number))))) e = none-some false e

pub shared_edges : IsActive shared_graph shared_used shared_active
shared_edges = record {
  each_edges = refl;
  each_reached = refl;
  reached = λ number. (λ e. all_led number e, λ l. below_reached number (led_below number l));
  edges = λ number row edges r e g. ([], names_at number row (which number row e), edges_at number row (which number row e) edges g);
  others = λ number e. absurd (none_unreached number e);
}

-- the groups
rising_targets : IsStrictlyIncreasing (1 ∷ 2 ∷ 4 ∷ [])
rising_targets zero l = lit< tt
rising_targets (suc zero) l = lit< tt
rising_targets (suc (suc k)) l = absurd (omega (arith, l))

later_target : (number target : ℕ) → Later number target → has (1 ∷ 2 ∷ 4 ∷ []) target ≡ true
unfolding Later
later_target number target (inl (z, inl e)) = ap (has (1 ∷ 2 ∷ 4 ∷ [])) e
later_target number target (inl (z, inr e)) = ap (has (1 ∷ 2 ∷ 4 ∷ [])) e
later_target number target (inr (z, e)) = ap (has (1 ∷ 2 ∷ 4 ∷ [])) e

three_cases : (number : ℕ) → Contains (1 ∷ 2 ∷ 4 ∷ []) number → (1 ≡ number) ⊎ ((2 ≡ number) ⊎ (4 ≡ number))
three_cases number c = elim (Contains-cases 1 (2 ∷ 4 ∷ []) number c) [
  | inl e ↦ inl e
  | inr h ↦ elim (Contains-cases 2 (4 ∷ []) number h) [ inl e ↦ inr (inl e) | inr g ↦ inr (inr (one_only 4 number g)) ]
]

to_target : (number : ℕ) → (1 ≡ number) ⊎ ((2 ≡ number) ⊎ (4 ≡ number)) → IsImportTarget shared_graph shared_active number
to_target number (inl e) = subst (IsImportTarget shared_graph shared_active) e (0, refl, index_calls_p)
to_target number (inr (inl e)) = subst (IsImportTarget shared_graph shared_active) e (0, refl, index_calls_q)
to_target number (inr (inr e)) = subst (IsImportTarget shared_graph shared_active) e (1, refl, p_calls_t)

targets_right : HasTargets shared_graph shared_active one_parent
targets_right = record {
  entries = refl;
  imported = 1 ∷ 2 ∷ 4 ∷ [];
  targets = refl;
  others = record {
    ascending = rising_targets;
    each = λ number. (
      λ c. to_target number (three_cases number c),
      λ i. passes (1 ∷ 2 ∷ 4 ∷ []) number (later_target i.0 number (calls_later i.0 number i.2)),
    );
  };
}

-- a list with the first module, and with 3 beside 1 and beside 4, has the closure
module _ (from : ℕ) (modules : List ℕ) (first : has modules from ≡ true) (after : has modules 1 ≡ true → has modules 3 ≡ true)
    (behind : has modules 4 ≡ true → has modules 3 ≡ true) where
  along_edge : (number target : ℕ) → ((number ≡ 1) ⊎ (number ≡ 4)) × (target ≡ 3) → has modules number ≡ true → has modules target ≡ true
  along_edge number target (inl e, f) h = ap (has modules) f ∙ after (sym (ap (has modules) e) ∙ h)
  along_edge number target (inr e, f) h = ap (has modules) f ∙ behind (sym (ap (has modules) e) ∙ h)

  within : (number : ℕ) → IsInClosure shared_graph shared_active.edges from number → has modules number ≡ true
  within _ IsInClosure.itself = first
  within _ (IsInClosure.along number target targets i e c) = along_edge number target (edge_at number target targets e c) (within number i)
  within _ (IsInClosure.required number target i c) = absurd (calls_require shared_graph sites exports stars number target c)

no_way : {A : Type 0} → false ≡ true → A
no_way e = absurd (true≢false (sym e))

alone : (from : ℕ) → has (from ∷ []) from ≡ true → (has (from ∷ []) 1 ≡ true → has (from ∷ []) 3 ≡ true) → (has (from ∷ []) 4 ≡ true → has (from ∷ []) 3 ≡ true)
    → AreAll (IsInClosure shared_graph shared_active.edges from) (from ∷ [])
alone from h a b = record {
  ascending = rising_one from;
  each = λ number. (
    λ c. subst (IsInClosure shared_graph shared_active.edges from) (one_only from number c) IsInClosure.itself,
    λ i. passes (from ∷ []) number (within from (from ∷ []) h a b number i),
  );
}

with_m : (a b from : ℕ) → a < b → has (a ∷ b ∷ []) from ≡ true → has (a ∷ b ∷ []) 3 ≡ true → IsInClosure shared_graph shared_active.edges from a
    → IsInClosure shared_graph shared_active.edges from b → AreAll (IsInClosure shared_graph shared_active.edges from) (a ∷ b ∷ [])
with_m a b from l h three i j = record {
  ascending = rising_two a b l;
  each = λ number. (
    λ c. elim (Contains-cases a (b ∷ []) number c) [
      | inl e ↦ subst (IsInClosure shared_graph shared_active.edges from) e i
      | inr g ↦ subst (IsInClosure shared_graph shared_active.edges from) (one_only b number g) j
    ],
    λ k. passes (a ∷ b ∷ []) number (within from (a ∷ b ∷ []) h (λ e. three) (λ e. three) number k),
  );
}

closure_of : (group target : ℕ) (modules : List ℕ) → slice_get one_parent.targets group ≡ Some target → slice_get one_parent.closures group ≡ Some modules
    → AreAll (IsInClosure shared_graph shared_active.edges target) modules
closure_of zero target modules e f =
    subst (λ n. AreAll (IsInClosure shared_graph shared_active.edges n) modules) (same_Some 0 target e)
    (subst (AreAll (IsInClosure shared_graph shared_active.edges 0)) (same_Some (0 ∷ []) modules f) (alone 0 refl no_way no_way))
closure_of (suc zero) target modules e f =
    subst (λ n. AreAll (IsInClosure shared_graph shared_active.edges n) modules) (same_Some 1 target e)
    (subst (AreAll (IsInClosure shared_graph shared_active.edges 1)) (same_Some (1 ∷ 3 ∷ []) modules f)
    (with_m 1 3 1 (lit< tt) refl refl IsInClosure.itself (IsInClosure.along 1 3 (3 ∷ []) IsInClosure.itself refl (Contains-one 3))))
closure_of (suc (suc zero)) target modules e f =
    subst (λ n. AreAll (IsInClosure shared_graph shared_active.edges n) modules) (same_Some 2 target e)
    (subst (AreAll (IsInClosure shared_graph shared_active.edges 2)) (same_Some (2 ∷ []) modules f) (alone 2 refl no_way no_way))
closure_of (suc (suc (suc zero))) target modules e f =
    subst (λ n. AreAll (IsInClosure shared_graph shared_active.edges n) modules) (same_Some 4 target e)
    (subst (AreAll (IsInClosure shared_graph shared_active.edges 4)) (same_Some (3 ∷ 4 ∷ []) modules f)
    (with_m 3 4 4 (lit< tt) refl refl (IsInClosure.along 4 3 (3 ∷ []) IsInClosure.itself refl (Contains-one 3)) IsInClosure.itself))
closure_of (suc (suc (suc (suc group)))) target modules e f = absurd (none-some target e)

-- the group of a target
group_of : (group target : ℕ) → slice_get one_parent.targets group ≡ Some target
    → ((group ≡ 0) × (target ≡ 0)) ⊎ (((group ≡ 1) × (target ≡ 1)) ⊎ (((group ≡ 2) × (target ≡ 2)) ⊎ ((group ≡ 3) × (target ≡ 4))))
group_of zero target e = inl (refl, sym (same_Some 0 target e))
group_of (suc zero) target e = inr (inl (refl, sym (same_Some 1 target e)))
group_of (suc (suc zero)) target e = inr (inr (inl (refl, sym (same_Some 2 target e))))
group_of (suc (suc (suc zero))) target e = inr (inr (inr (refl, sym (same_Some 4 target e))))
group_of (suc (suc (suc (suc group)))) target e = absurd (none-some target e)

by_target : (group target : ℕ) → slice_get one_parent.targets group ≡ Some target → (target ≡ 1 → group ≡ 1) × (target ≡ 2 → group ≡ 2) × (target ≡ 4 → group ≡ 3)
by_target group target e =
    let g = group_of group target e in
    (λ f. grind arith, λ f. grind arith, λ f. grind arith)

leads_index : (group : ℕ) → LeadsTo shared_graph one_parent (0 ∷ []) group → (group ≡ 1) ⊎ (group ≡ 2)
unfolding Later
leads_index group l = at_zero l.3.0 (one_only 0 l.3.0 l.3.1) (calls_later l.3.0 l.0 l.3.2)
  where
    at_zero : (number : ℕ) → 0 ≡ number → Later number l.0 → (group ≡ 1) ⊎ (group ≡ 2)
    at_zero number z (inl (y, inl e)) = inl ((by_target group l.0 l.2).0 e)
    at_zero number z (inl (y, inr e)) = inr ((by_target group l.0 l.2).1 e)
    at_zero number z (inr (inl y, e)) = absurd (omega (arith, z, y))
    at_zero number z (inr (inr y, e)) = absurd (omega (arith, z, y))

leads_last : (modules : List ℕ) (group : ℕ) → has modules 0 ≡ false → LeadsTo shared_graph one_parent modules group → group ≡ 3
unfolding Later
leads_last modules group h l = at_number l.3.0 l.3.1 (calls_later l.3.0 l.0 l.3.2)
  where
    at_number : (number : ℕ) → Contains modules number → Later number l.0 → group ≡ 3
    at_number number c (inl (y, e)) = absurd (true≢false (sym (tested modules number c) ∙ ap (has modules) y ∙ h))
    at_number number c (inr (y, e)) = (by_target group l.0 l.2).2 e

leads_none : (group : ℕ) → LeadsTo shared_graph one_parent (3 ∷ 4 ∷ []) group → ⊥
unfolding Later
leads_none group l = at_number l.3.0 (tested (3 ∷ 4 ∷ []) l.3.0 l.3.1) (calls_later l.3.0 l.0 l.3.2)
  where
    at_number : (number : ℕ) → has (3 ∷ 4 ∷ []) number ≡ true → Later number l.0 → ⊥
    at_number number h (inl (y, e)) = true≢false (sym h ∙ ap (has (3 ∷ 4 ∷ [])) y)
    at_number number h (inr (inl y, e)) = true≢false (sym h ∙ ap (has (3 ∷ 4 ∷ [])) y)
    at_number number h (inr (inr y, e)) = true≢false (sym h ∙ ap (has (3 ∷ 4 ∷ [])) y)

one_lead : (modules : List ℕ) → has modules 0 ≡ false → LeadsTo shared_graph one_parent modules 3 → AreAll (LeadsTo shared_graph one_parent modules) (3 ∷ [])
one_lead modules h l = record {
  ascending = rising_one 3;
  each = λ group. (
    λ c. subst (LeadsTo shared_graph one_parent modules) (one_only 3 group c) l,
    λ k. subst (Contains (3 ∷ [])) (sym (leads_last modules group h k)) (Contains-one 3),
  );
}

index_leads : AreAll (LeadsTo shared_graph one_parent (0 ∷ [])) (1 ∷ 2 ∷ [])
index_leads = record {
  ascending = rising_two 1 2 (lit< tt);
  each = λ group. (
    λ c. elim (Contains-cases 1 (2 ∷ []) group c) [
      | inl e ↦ subst (LeadsTo shared_graph one_parent (0 ∷ [])) e (1, lit≤ tt, refl, (0, Contains-one 0, index_calls_p))
      | inr g ↦ subst (LeadsTo shared_graph one_parent (0 ∷ [])) (one_only 2 group g) (2, lit≤ tt, refl, (0, Contains-one 0, index_calls_q))
    ],
    λ k. elim (leads_index group k) [
      | inl e ↦ subst (Contains (1 ∷ 2 ∷ [])) (sym e) (Contains-head 1 (2 ∷ []))
      | inr e ↦ subst (Contains (1 ∷ 2 ∷ [])) (sym e) (Contains-tail 1 (2 ∷ []) 2 (Contains-one 2))
    ],
  );
}

leads_of : (group : ℕ) (modules next : List ℕ) → slice_get one_parent.closures group ≡ Some modules → slice_get one_parent.leads group ≡ Some next
    → AreAll (LeadsTo shared_graph one_parent modules) next
leads_of zero modules next e f =
    subst (λ l. AreAll (LeadsTo shared_graph one_parent l) next) (same_Some (0 ∷ []) modules e)
    (subst (AreAll (LeadsTo shared_graph one_parent (0 ∷ []))) (same_Some (1 ∷ 2 ∷ []) next f) index_leads)
leads_of (suc zero) modules next e f =
    subst (λ l. AreAll (LeadsTo shared_graph one_parent l) next) (same_Some (1 ∷ 3 ∷ []) modules e)
    (subst (AreAll (LeadsTo shared_graph one_parent (1 ∷ 3 ∷ []))) (same_Some (3 ∷ []) next f)
    (one_lead (1 ∷ 3 ∷ []) refl (4, lit≤ tt, refl, (1, Contains-head 1 (3 ∷ []), p_calls_t))))
leads_of (suc (suc zero)) modules next e f =
    subst (λ l. AreAll (LeadsTo shared_graph one_parent l) next) (same_Some (2 ∷ []) modules e)
    (subst (AreAll (LeadsTo shared_graph one_parent (2 ∷ []))) (same_Some (3 ∷ []) next f)
    (one_lead (2 ∷ []) refl (4, lit≤ tt, refl, (2, Contains-one 2, q_calls_t))))
leads_of (suc (suc (suc zero))) modules next e f =
    subst (λ l. AreAll (LeadsTo shared_graph one_parent l) next) (same_Some (3 ∷ 4 ∷ []) modules e)
    (subst (AreAll (LeadsTo shared_graph one_parent (3 ∷ 4 ∷ []))) (same_Some [] next f)
    (record { ascending = rising_none; each = λ group. (λ c. none_within group c, λ k. absurd (leads_none group k)) }))
leads_of (suc (suc (suc (suc group)))) modules next e f = absurd (none-some modules e)

pub shared_groups : IsGroups shared_graph shared_active one_parent
shared_groups = record {
  targets = targets_right;
  each_closure = refl;
  each_lead = refl;
  closures = closure_of;
  leads = leads_of;
}
