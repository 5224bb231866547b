-- The use, the active edges and the groups of a graph whose entry imports again what it evaluates.
use Rattle.std.proofs.Common.{◌≡◌, ℕ, zero, suc, ◌<◌, true, false, true≢false, List, [], ◌∷◌, Contains, Some, slice_get, refl, sym, ap, subst, ◌∙◌, lit<, lit≤, arith}
use Rattle.std.proofs.lemmas.Option.{none-some, same_Some}
use Rattle.pk_types.specs.declared.facts.SiteKind.{SiteKind}
use Rattle.pk_types.specs.declared.facts.SiteKind.TheVariants as site
use Rattle.pk_types.specs.declared.graph.Row.{Row}
use Rattle.pk_types.specs.Requests.{site_kinds, CallsImport}
use Rattle.pk_types.specs.Use.{HasUse}
use Rattle.pk_types.specs.ActiveEdges.{GivesEdges, HasEdges, IsLedTo, IsActive}
use Rattle.pk_types.specs.ChunkGroups.{IsInClosure, IsImportTarget, LeadsTo, AreAll, IsGroups}
use Rattle.pk_types.proofs.Parts.{Contains-one, Contains-head, one_only, none_within}
use Rattle.graph_laws.specs.SmallGroups.{entry_itself}
use Rattle.graph_laws.specs.EntryItself.{module_index, module_a, itself_graph, itself_used, itself_active}
use Rattle.graph_laws.proofs.Tests.{has}
use Rattle.graph_laws.proofs.QuietGraph.{IsLater, calls_require, quiet_use, within, rising_none, rising_one, rising_two, all_of}

data Which : ℕ → Row → Type 0 where
  is_index : Which 0 module_index
  is_a : Which 1 module_a

which : (number : ℕ) (row : Row) → slice_get itself_graph.rows number ≡ Some row → Which number row
which zero row e = subst (Which 0) (same_Some module_index row e) Which.is_index
which (suc zero) row e = subst (Which 1) (same_Some module_a row e) Which.is_a
which (suc (suc number)) row e = absurd (none-some row e)

sites_at : (number : ℕ) (row : Row) → Which number row → (kind : SiteKind) → Contains (site_kinds row) kind → IsLater kind
sites_at _ _ Which.is_index kind c = (0, one_only (site.Import 0) kind c)
sites_at _ _ Which.is_a kind c = none_within kind c

exports_at : (number : ℕ) (row : Row) → Which number row → row.facts.exports ≡ []
exports_at _ _ Which.is_index = refl
exports_at _ _ Which.is_a = refl

stars_at : (number : ℕ) (row : Row) → Which number row → row.facts.stars ≡ []
stars_at _ _ Which.is_index = refl
stars_at _ _ Which.is_a = refl

sites : (number : ℕ) (row : Row) → slice_get itself_graph.rows number ≡ Some row → (kind : SiteKind) → Contains (site_kinds row) kind → IsLater kind
sites number row e = sites_at number row (which number row e)

exports : (number : ℕ) (row : Row) → slice_get itself_graph.rows number ≡ Some row → row.facts.exports ≡ []
exports number row e = exports_at number row (which number row e)

stars : (number : ℕ) (row : Row) → slice_get itself_graph.rows number ≡ Some row → row.facts.stars ≡ []
stars number row e = stars_at number row (which number row e)

names_empty : (number : ℕ) (names : List (List ℕ)) → slice_get itself_used.names number ≡ Some names → [] ≡ names
names_empty zero names e = same_Some [] names e
names_empty (suc zero) names e = same_Some [] names e
names_empty (suc (suc number)) names e = absurd (none-some names e)

whole_false : (number : ℕ) → slice_get itself_used.whole number ≡ Some true → ⊥
whole_false zero e = true≢false (sym (same_Some false true e))
whole_false (suc zero) e = true≢false (sym (same_Some false true e))
whole_false (suc (suc number)) e = none-some true e

pub itself_use : HasUse itself_graph itself_used
itself_use = quiet_use itself_graph sites exports stars itself_used refl refl names_empty whole_false

-- the one `import()`
same_import : (request other : ℕ) → site.Import request ≡ site.Import other → request ≡ other
same_import request other e = grind arith

later_at : (number : ℕ) (row : Row) → Which number row → (request target : ℕ) → Contains (site_kinds row) (site.Import request)
    → slice_get row.targets request ≡ Some target → (number ≡ 0) × (target ≡ 1)
later_at _ _ Which.is_index request target c u =
    let e : 0 ≡ request = same_import 0 request (one_only (site.Import 0) (site.Import request) c) in
    (refl, sym (same_Some 1 target (ap (slice_get module_index.targets) e ∙ u)))
later_at _ _ Which.is_a request target c u = none_within (site.Import request) c

calls_later : (number target : ℕ) → CallsImport itself_graph number target → (number ≡ 0) × (target ≡ 1)
calls_later number target c = later_at number c.0 (which number c.0 c.2) c.1 target c.3 c.4

index_calls_a : CallsImport itself_graph 0 1
index_calls_a = (module_index, 0, refl, Contains-one (site.Import 0), refl)

-- the edges
edge_at : (number target : ℕ) (targets : List ℕ) → slice_get itself_active.edges number ≡ Some targets → Contains targets target → (number ≡ 0) × (target ≡ 1)
edge_at zero target targets e c = (refl, sym (one_only 1 target (subst (λ l. Contains l target) (sym (same_Some (1 ∷ []) targets e)) c)))
edge_at (suc zero) target targets e c = none_within target (subst (λ l. Contains l target) (sym (same_Some [] targets e)) c)
edge_at (suc (suc number)) target targets e c = absurd (none-some targets e)

index_led : IsLedTo itself_graph itself_active.edges 0
index_led = IsLedTo.entry 0 (Contains-one 0)

all_led : (number : ℕ) → slice_get itself_active.reached number ≡ Some true → IsLedTo itself_graph itself_active.edges number
all_led zero e = index_led
all_led (suc zero) e = IsLedTo.imported 0 1 index_led index_calls_a
all_led (suc (suc number)) e = absurd (none-some true e)

led_below : (number : ℕ) → IsLedTo itself_graph itself_active.edges number → number < 2
led_below _ (IsLedTo.entry number c) = omega (arith, one_only 0 number c)
led_below _ (IsLedTo.along number target targets l e c) = omega (arith, (edge_at number target targets e c).1)
led_below _ (IsLedTo.required number target l c) = absurd (calls_require itself_graph sites exports stars number target c)
led_below _ (IsLedTo.imported number target l c) = omega (arith, (calls_later number target c).1)

below_reached : (number : ℕ) → number < 2 → slice_get itself_active.reached number ≡ Some true
below_reached zero l = refl
below_reached (suc zero) l = refl
below_reached (suc (suc number)) l = absurd (omega (arith, l))

-- a module has no used names and these edges
EdgesThere : ℕ → Row → List ℕ → Type 0
EdgesThere number row edges = (names : List (List ℕ)) × (slice_get itself_used.names number ≡ Some names) × HasEdges itself_graph number row names edges

edges_at : (number : ℕ) (row : Row) → Which number row → (edges : List ℕ) → slice_get itself_active.edges number ≡ Some edges → EdgesThere number row edges
unfolding EdgesThere
edges_at _ _ Which.is_index edges e = ([], refl, ((1 ∷ []) ∷ [], (GivesEdges.kept 0 1 refl refl, tt), sym (same_Some (1 ∷ []) edges e)))
edges_at _ _ Which.is_a edges e = ([], refl, ([], tt, sym (same_Some [] edges e)))

none_unreached : (number : ℕ) → slice_get itself_active.reached number ≡ Some false → ⊥
none_unreached zero e = true≢false (same_Some true false e)
none_unreached (suc zero) e = true≢false (same_Some true false e)
none_unreached (suc (suc number)) e = none-some false e

pub itself_edges : IsActive itself_graph itself_used itself_active
unfolding EdgesThere
itself_edges = record {
  each_edges = refl;
  each_reached = refl;
  reached = λ number. (λ e. all_led number e, λ l. below_reached number (led_below number l));
  edges = λ number row edges r e g. edges_at number row (which number row e) edges g;
  others = λ number e. absurd (none_unreached number e);
}

-- the groups
targets_all : AreAll (IsImportTarget itself_graph itself_active) (1 ∷ [])
targets_all = all_of (IsImportTarget itself_graph itself_active) (1 ∷ []) (rising_one 1) ((0, refl, index_calls_a), tt)
    (λ number i. ap (has (1 ∷ [])) (calls_later i.0 number i.2).1)

index_closure : AreAll (IsInClosure itself_graph itself_active.edges 0) (0 ∷ 1 ∷ [])
index_closure = all_of (IsInClosure itself_graph itself_active.edges 0) (0 ∷ 1 ∷ []) (rising_two 0 1 (lit< tt))
    (IsInClosure.itself, (IsInClosure.along 0 1 (1 ∷ []) IsInClosure.itself refl (Contains-one 1), tt))
    (within itself_graph sites exports stars itself_active.edges 0 (0 ∷ 1 ∷ []) refl
    (λ number target targets e c. ap (has (0 ∷ 1 ∷ [])) (edge_at number target targets e c).1))

a_closure : AreAll (IsInClosure itself_graph itself_active.edges 1) (1 ∷ [])
a_closure = all_of (IsInClosure itself_graph itself_active.edges 1) (1 ∷ []) (rising_one 1) (IsInClosure.itself, tt)
    (within itself_graph sites exports stars itself_active.edges 1 (1 ∷ []) refl
    (λ number target targets e c. ap (has (1 ∷ [])) (edge_at number target targets e c).1))

closure_of : (group target : ℕ) (modules : List ℕ) → slice_get entry_itself.targets group ≡ Some target → slice_get entry_itself.closures group ≡ Some modules
    → AreAll (IsInClosure itself_graph itself_active.edges target) modules
closure_of zero target modules e f =
    subst (λ n. AreAll (IsInClosure itself_graph itself_active.edges n) modules) (same_Some 0 target e)
    (subst (AreAll (IsInClosure itself_graph itself_active.edges 0)) (same_Some (0 ∷ 1 ∷ []) modules f) index_closure)
closure_of (suc zero) target modules e f =
    subst (λ n. AreAll (IsInClosure itself_graph itself_active.edges n) modules) (same_Some 1 target e)
    (subst (AreAll (IsInClosure itself_graph itself_active.edges 1)) (same_Some (1 ∷ []) modules f) a_closure)
closure_of (suc (suc group)) target modules e f = absurd (none-some target e)

second_only : (next target : ℕ) → slice_get entry_itself.targets next ≡ Some target → target ≡ 1 → next ≡ 1
second_only zero target e t = absurd (omega (arith, same_Some 0 target e, t))
second_only (suc zero) target e t = refl
second_only (suc (suc next)) target e t = absurd (none-some target e)

index_lead : AreAll (LeadsTo itself_graph entry_itself (0 ∷ 1 ∷ [])) (1 ∷ [])
index_lead = all_of (LeadsTo itself_graph entry_itself (0 ∷ 1 ∷ [])) (1 ∷ []) (rising_one 1)
    ((1, lit≤ tt, refl, (0, Contains-head 0 (1 ∷ []), index_calls_a)), tt)
    (λ next l. ap (has (1 ∷ [])) (second_only next l.0 l.2 (calls_later l.3.0 l.0 l.3.2).1))

no_lead : AreAll (LeadsTo itself_graph entry_itself (1 ∷ [])) []
no_lead = all_of (LeadsTo itself_graph entry_itself (1 ∷ [])) [] rising_none tt
    (λ next l. absurd (omega (arith, one_only 1 l.3.0 l.3.1, (calls_later l.3.0 l.0 l.3.2).0)))

leads_of : (group : ℕ) (modules next : List ℕ) → slice_get entry_itself.closures group ≡ Some modules → slice_get entry_itself.leads group ≡ Some next
    → AreAll (LeadsTo itself_graph entry_itself modules) next
leads_of zero modules next e f =
    subst (λ l. AreAll (LeadsTo itself_graph entry_itself l) next) (same_Some (0 ∷ 1 ∷ []) modules e)
    (subst (AreAll (LeadsTo itself_graph entry_itself (0 ∷ 1 ∷ []))) (same_Some (1 ∷ []) next f) index_lead)
leads_of (suc zero) modules next e f =
    subst (λ l. AreAll (LeadsTo itself_graph entry_itself l) next) (same_Some (1 ∷ []) modules e)
    (subst (AreAll (LeadsTo itself_graph entry_itself (1 ∷ []))) (same_Some [] next f) no_lead)
leads_of (suc (suc group)) modules next e f = absurd (none-some modules e)

pub itself_groups : IsGroups itself_graph itself_active entry_itself
itself_groups = record {
  targets = record { entries = refl; imported = 1 ∷ []; targets = refl; others = targets_all };
  each_closure = refl;
  each_lead = refl;
  closures = closure_of;
  leads = leads_of;
}
