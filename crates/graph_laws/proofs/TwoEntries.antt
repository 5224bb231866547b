-- The use, the active edges and the groups of a graph with two entries.
use Rattle.std.proofs.Common.{◌≡◌, ◌⊎◌, inl, inr, ℕ, zero, suc, ◌<◌, true, false, true≢false, List, [], ◌∷◌, Contains, Some, slice_get, refl, sym, ap, subst, ◌∙◌, ⊎_elim, lit≤, arith}
use Rattle.std.proofs.lemmas.Option.{none-some, same_Some}
use Rattle.pk_types.specs.declared.facts.SiteKind.{SiteKind}
use Rattle.pk_types.specs.declared.facts.SiteKind.TheVariants as site
use Rattle.pk_types.specs.declared.graph.Row.{Row}
use Rattle.pk_types.specs.Requests.{site_kinds, CallsImport}
use Rattle.pk_types.specs.Use.{HasUse}
use Rattle.pk_types.specs.ActiveEdges.{HasEdges, IsLedTo, IsActive}
use Rattle.pk_types.specs.ChunkGroups.{IsInClosure, IsImportTarget, LeadsTo, AreAll, IsGroups}
use Rattle.pk_types.proofs.Parts.{Contains-one, Contains-cases, Contains-head, Contains-tail, one_only, none_within}
use Rattle.graph_laws.specs.SmallGroups.{two_entries}
use Rattle.graph_laws.specs.TwoEntries.{module_a, module_b, module_c, entries_graph, entries_used, entries_active}
use Rattle.graph_laws.proofs.Tests.{has, tested}
use Rattle.graph_laws.proofs.QuietGraph.{IsLater, calls_require, quiet_use, within, rising_none, rising_one, all_of}

data Which : ℕ → Row → Type 0 where
  is_a : Which 0 module_a
  is_b : Which 1 module_b
  is_c : Which 2 module_c

which : (number : ℕ) (row : Row) → slice_get entries_graph.rows number ≡ Some row → Which number row
which zero row e = subst (Which 0) (same_Some module_a row e) Which.is_a
which (suc zero) row e = subst (Which 1) (same_Some module_b row e) Which.is_b
which (suc (suc zero)) row e = subst (Which 2) (same_Some module_c row e) Which.is_c
which (suc (suc (suc number))) row e = absurd (none-some row e)

sites_at : (number : ℕ) (row : Row) → Which number row → (kind : SiteKind) → Contains (site_kinds row) kind → IsLater kind
sites_at _ _ Which.is_a kind c = (0, one_only (site.Import 0) kind c)
sites_at _ _ Which.is_b kind c = (0, one_only (site.Import 0) kind c)
sites_at _ _ Which.is_c kind c = none_within kind c

exports_at : (number : ℕ) (row : Row) → Which number row → row.facts.exports ≡ []
exports_at _ _ Which.is_a = refl
exports_at _ _ Which.is_b = refl
exports_at _ _ Which.is_c = refl

stars_at : (number : ℕ) (row : Row) → Which number row → row.facts.stars ≡ []
stars_at _ _ Which.is_a = refl
stars_at _ _ Which.is_b = refl
stars_at _ _ Which.is_c = refl

sites : (number : ℕ) (row : Row) → slice_get entries_graph.rows number ≡ Some row → (kind : SiteKind) → Contains (site_kinds row) kind → IsLater kind
sites number row e = sites_at number row (which number row e)

exports : (number : ℕ) (row : Row) → slice_get entries_graph.rows number ≡ Some row → row.facts.exports ≡ []
exports number row e = exports_at number row (which number row e)

stars : (number : ℕ) (row : Row) → slice_get entries_graph.rows number ≡ Some row → row.facts.stars ≡ []
stars number row e = stars_at number row (which number row e)

names_empty : (number : ℕ) (names : List (List ℕ)) → slice_get entries_used.names number ≡ Some names → [] ≡ names
names_empty zero names e = same_Some [] names e
names_empty (suc zero) names e = same_Some [] names e
names_empty (suc (suc zero)) names e = same_Some [] names e
names_empty (suc (suc (suc number))) names e = absurd (none-some names e)

whole_false : (number : ℕ) → slice_get entries_used.whole number ≡ Some true → ⊥
whole_false zero e = true≢false (sym (same_Some false true e))
whole_false (suc zero) e = true≢false (sym (same_Some false true e))
whole_false (suc (suc zero)) e = true≢false (sym (same_Some false true e))
whole_false (suc (suc (suc number))) e = none-some true e

pub entries_use : HasUse entries_graph entries_used
entries_use = quiet_use entries_graph sites exports stars entries_used refl refl names_empty whole_false

-- which `import()` leads where
same_import : (request other : ℕ) → site.Import request ≡ site.Import other → request ≡ other
same_import request other e = grind arith

later_at : (number : ℕ) (row : Row) → Which number row → (request target : ℕ) → Contains (site_kinds row) (site.Import request)
    → slice_get row.targets request ≡ Some target → ((number ≡ 0) ⊎ (number ≡ 1)) × (target ≡ 2)
later_at _ _ Which.is_a request target c u =
    let e : 0 ≡ request = same_import 0 request (one_only (site.Import 0) (site.Import request) c) in
    (inl refl, sym (same_Some 2 target (ap (slice_get module_a.targets) e ∙ u)))
later_at _ _ Which.is_b request target c u =
    let e : 0 ≡ request = same_import 0 request (one_only (site.Import 0) (site.Import request) c) in
    (inr refl, sym (same_Some 2 target (ap (slice_get module_b.targets) e ∙ u)))
later_at _ _ Which.is_c request target c u = none_within (site.Import request) c

calls_later : (number target : ℕ) → CallsImport entries_graph number target → ((number ≡ 0) ⊎ (number ≡ 1)) × (target ≡ 2)
calls_later number target c = later_at number c.0 (which number c.0 c.2) c.1 target c.3 c.4

a_calls_c : CallsImport entries_graph 0 2
a_calls_c = (module_a, 0, refl, Contains-one (site.Import 0), refl)

b_calls_c : CallsImport entries_graph 1 2
b_calls_c = (module_b, 0, refl, Contains-one (site.Import 0), refl)

-- the edges
edge_none : (number target : ℕ) (targets : List ℕ) → slice_get entries_active.edges number ≡ Some targets → Contains targets target → ⊥
edge_none zero target targets e c = none_within target (subst (λ l. Contains l target) (sym (same_Some [] targets e)) c)
edge_none (suc zero) target targets e c = none_within target (subst (λ l. Contains l target) (sym (same_Some [] targets e)) c)
edge_none (suc (suc zero)) target targets e c = none_within target (subst (λ l. Contains l target) (sym (same_Some [] targets e)) c)
edge_none (suc (suc (suc number))) target targets e c = none-some targets e

a_led : IsLedTo entries_graph entries_active.edges 0
a_led = IsLedTo.entry 0 (Contains-head 0 (1 ∷ []))

all_led : (number : ℕ) → slice_get entries_active.reached number ≡ Some true → IsLedTo entries_graph entries_active.edges number
all_led zero e = a_led
all_led (suc zero) e = IsLedTo.entry 1 (Contains-tail 0 (1 ∷ []) 1 (Contains-one 1))
all_led (suc (suc zero)) e = IsLedTo.imported 0 2 a_led a_calls_c
all_led (suc (suc (suc number))) e = absurd (none-some true e)

led_below : (number : ℕ) → IsLedTo entries_graph entries_active.edges number → number < 3
led_below _ (IsLedTo.entry number c) = elim (Contains-cases 0 (1 ∷ []) number c) [ inl e ↦ omega (arith, e) | inr h ↦ omega (arith, one_only 1 number h) ]
led_below _ (IsLedTo.along number target targets l e c) = absurd (edge_none number target targets e c)
led_below _ (IsLedTo.required number target l c) = absurd (calls_require entries_graph sites exports stars number target c)
led_below _ (IsLedTo.imported number target l c) = omega (arith, (calls_later number target c).1)

below_reached : (number : ℕ) → number < 3 → slice_get entries_active.reached number ≡ Some true
below_reached zero l = refl
below_reached (suc zero) l = refl
below_reached (suc (suc zero)) l = refl
below_reached (suc (suc (suc number))) l = absurd (omega (arith, l))

-- a module has no used names and these edges
EdgesThere : ℕ → Row → List ℕ → Type 0
EdgesThere number row edges = (names : List (List ℕ)) × (slice_get entries_used.names number ≡ Some names) × HasEdges entries_graph number row names edges

edges_at : (number : ℕ) (row : Row) → Which number row → (edges : List ℕ) → slice_get entries_active.edges number ≡ Some edges → EdgesThere number row edges
unfolding EdgesThere
edges_at _ _ Which.is_a edges e = ([], refl, ([], tt, sym (same_Some [] edges e)))
edges_at _ _ Which.is_b edges e = ([], refl, ([], tt, sym (same_Some [] edges e)))
edges_at _ _ Which.is_c edges e = ([], refl, ([], tt, sym (same_Some [] edges e)))

none_unreached : (number : ℕ) → slice_get entries_active.reached number ≡ Some false → ⊥
none_unreached zero e = true≢false (same_Some true false e)
none_unreached (suc zero) e = true≢false (same_Some true false e)
none_unreached (suc (suc zero)) e = true≢false (same_Some true false e)
none_unreached (suc (suc (suc number))) e = none-some false e

pub entries_edges : IsActive entries_graph entries_used entries_active
unfolding EdgesThere
entries_edges = record {
  each_edges = refl;
  each_reached = refl;
  reached = λ number. (λ e. all_led number e, λ l. below_reached number (led_below number l));
  edges = λ number row edges r e g. edges_at number row (which number row e) edges g;
  others = λ number e. absurd (none_unreached number e);
}

-- the groups
targets_all : AreAll (IsImportTarget entries_graph entries_active) (2 ∷ [])
targets_all = all_of (IsImportTarget entries_graph entries_active) (2 ∷ []) (rising_one 2) ((0, refl, a_calls_c), tt)
    (λ number i. ap (has (2 ∷ [])) (calls_later i.0 number i.2).1)

alone : (from : ℕ) → AreAll (IsInClosure entries_graph entries_active.edges from) (from ∷ [])
alone from = all_of (IsInClosure entries_graph entries_active.edges from) (from ∷ []) (rising_one from) (IsInClosure.itself, tt)
    (within entries_graph sites exports stars entries_active.edges from (from ∷ []) (tested (from ∷ []) from (Contains-one from))
    (λ number target targets e c. absurd (edge_none number target targets e c)))

closure_of : (group target : ℕ) (modules : List ℕ) → slice_get two_entries.targets group ≡ Some target → slice_get two_entries.closures group ≡ Some modules
    → AreAll (IsInClosure entries_graph entries_active.edges target) modules
closure_of zero target modules e f =
    subst (λ n. AreAll (IsInClosure entries_graph entries_active.edges n) modules) (same_Some 0 target e)
    (subst (AreAll (IsInClosure entries_graph entries_active.edges 0)) (same_Some (0 ∷ []) modules f) (alone 0))
closure_of (suc zero) target modules e f =
    subst (λ n. AreAll (IsInClosure entries_graph entries_active.edges n) modules) (same_Some 1 target e)
    (subst (AreAll (IsInClosure entries_graph entries_active.edges 1)) (same_Some (1 ∷ []) modules f) (alone 1))
closure_of (suc (suc zero)) target modules e f =
    subst (λ n. AreAll (IsInClosure entries_graph entries_active.edges n) modules) (same_Some 2 target e)
    (subst (AreAll (IsInClosure entries_graph entries_active.edges 2)) (same_Some (2 ∷ []) modules f) (alone 2))
closure_of (suc (suc (suc group))) target modules e f = absurd (none-some target e)

last_only : (next target : ℕ) → slice_get two_entries.targets next ≡ Some target → target ≡ 2 → next ≡ 2
last_only zero target e t = absurd (omega (arith, same_Some 0 target e, t))
last_only (suc zero) target e t = absurd (omega (arith, same_Some 1 target e, t))
last_only (suc (suc zero)) target e t = refl
last_only (suc (suc (suc next))) target e t = absurd (none-some target e)

one_lead : (number : ℕ) → CallsImport entries_graph number 2 → AreAll (LeadsTo entries_graph two_entries (number ∷ [])) (2 ∷ [])
one_lead number c = all_of (LeadsTo entries_graph two_entries (number ∷ [])) (2 ∷ []) (rising_one 2) ((2, lit≤ tt, refl, (number, Contains-one number, c)), tt)
    (λ next l. ap (has (2 ∷ [])) (last_only next l.0 l.2 (calls_later l.3.0 l.0 l.3.2).1))

no_lead : AreAll (LeadsTo entries_graph two_entries (2 ∷ [])) []
no_lead = all_of (LeadsTo entries_graph two_entries (2 ∷ [])) [] rising_none tt
    (λ next l. absurd (⊎_elim (λ e. omega (arith, e, one_only 2 l.3.0 l.3.1)) (λ e. omega (arith, e, one_only 2 l.3.0 l.3.1)) (calls_later l.3.0 l.0 l.3.2).0))

leads_of : (group : ℕ) (modules next : List ℕ) → slice_get two_entries.closures group ≡ Some modules → slice_get two_entries.leads group ≡ Some next
    → AreAll (LeadsTo entries_graph two_entries modules) next
leads_of zero modules next e f =
    subst (λ l. AreAll (LeadsTo entries_graph two_entries l) next) (same_Some (0 ∷ []) modules e)
    (subst (AreAll (LeadsTo entries_graph two_entries (0 ∷ []))) (same_Some (2 ∷ []) next f) (one_lead 0 a_calls_c))
leads_of (suc zero) modules next e f =
    subst (λ l. AreAll (LeadsTo entries_graph two_entries l) next) (same_Some (1 ∷ []) modules e)
    (subst (AreAll (LeadsTo entries_graph two_entries (1 ∷ []))) (same_Some (2 ∷ []) next f) (one_lead 1 b_calls_c))
leads_of (suc (suc zero)) modules next e f =
    subst (λ l. AreAll (LeadsTo entries_graph two_entries l) next) (same_Some (2 ∷ []) modules e)
    (subst (AreAll (LeadsTo entries_graph two_entries (2 ∷ []))) (same_Some [] next f) no_lead)
leads_of (suc (suc (suc group))) modules next e f = absurd (none-some modules e)

pub entries_groups : IsGroups entries_graph entries_active two_entries
entries_groups = record {
  targets = record { entries = refl; imported = 2 ∷ []; targets = refl; others = targets_all };
  each_closure = refl;
  each_lead = refl;
  closures = closure_of;
  leads = leads_of;
}
