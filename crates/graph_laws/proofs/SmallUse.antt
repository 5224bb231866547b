-- What is used of a small graph, and its active edges.
use Rattle.std.proofs.Common.{◌≡◌, ◌⊎◌, ◌↔◌, inl, inr, ℕ, zero, suc, true, false, true≢false, List, [], ◌∷◌, ◌++◌, Contains, Some, slice_get, refl, sym, ap, subst, ◌∙◌, ⊎_elim, arith}
use Rattle.std.proofs.lemmas.Option.{none-some, same_Some}
use Rattle.pk_types.specs.declared.facts.Origin.TheVariants.{Own, Other, Space}
use Rattle.pk_types.specs.declared.facts.Ref.TheVariants.{Imported}
use Rattle.pk_types.specs.declared.facts.SiteKind.TheVariants as site
use Rattle.pk_types.specs.declared.found.Found.TheVariants.{Binding}
use Rattle.pk_types.specs.declared.graph.Row.{Row}
use Rattle.pk_types.specs.Resolving.{Pair, origin_of, ResolvesTo}
use Rattle.pk_types.specs.Requests.{site_kinds, flag_of, CallsRequire, CallsImport, AsksFor, NamesAtSite}
use Rattle.pk_types.specs.Reexports.{FindsOne, PassesOn, ExportsSpace}
use Rattle.pk_types.specs.ExportedNames.{AreInByteOrder}
use Rattle.pk_types.specs.Stops.{EndsAt, IsStopOf}
use Rattle.pk_types.specs.StopSearch.{StopsAt, HasStops}
use Rattle.pk_types.specs.Use.{IsReached, IsUsed, IsUsedThrough, IsWholeThrough, HasUse}
use Rattle.pk_types.specs.ActiveEdges.{GoesThrough, SpaceGoesThrough, AreNamesThrough, GivesEdges, HasEdges, IsLedTo, IsActive}
use Rattle.pk_types.proofs.Parts.{Contains-one, one_only, none_within}
use Rattle.graph_laws.specs.SmallUse.{v1, v2, v3, user, barrel, owner, barrel_graph, barrel_used, barrel_active}

-- which module has which row
data Which : ℕ → Row → Type 0 where
  is_user : Which 0 user
  is_barrel : Which 1 barrel
  is_first : Which 2 (owner v1)
  is_second : Which 3 (owner v2)
  is_third : Which 4 (owner v3)

which : (number : ℕ) (row : Row) → slice_get barrel_graph.rows number ≡ Some row → Which number row
which zero row e = subst (Which 0) (same_Some user row e) Which.is_user
which (suc zero) row e = subst (Which 1) (same_Some barrel row e) Which.is_barrel
which (suc (suc zero)) row e = subst (Which 2) (same_Some (owner v1) row e) Which.is_first
which (suc (suc (suc zero))) row e = subst (Which 3) (same_Some (owner v2) row e) Which.is_second
which (suc (suc (suc (suc zero)))) row e = subst (Which 4) (same_Some (owner v3) row e) Which.is_third
which (suc (suc (suc (suc (suc number))))) row e = absurd (none-some row e)

-- the kinds of sites that there are
no_require : (number : ℕ) (row : Row) (request : ℕ) → Which number row → Contains (site_kinds row) (site.Require request) → ⊥
no_require _ _ request Which.is_user c = let e = one_only (site.Read (Imported 0)) (site.Require request) c in grind arith
no_require _ _ request Which.is_barrel c = none_within (site.Require request) c
no_require _ _ request Which.is_first c = let e = one_only (site.Init 0) (site.Require request) c in grind arith
no_require _ _ request Which.is_second c = let e = one_only (site.Init 0) (site.Require request) c in grind arith
no_require _ _ request Which.is_third c = let e = one_only (site.Init 0) (site.Require request) c in grind arith

no_import : (number : ℕ) (row : Row) (request : ℕ) → Which number row → Contains (site_kinds row) (site.Import request) → ⊥
no_import _ _ request Which.is_user c = let e = one_only (site.Read (Imported 0)) (site.Import request) c in grind arith
no_import _ _ request Which.is_barrel c = none_within (site.Import request) c
no_import _ _ request Which.is_first c = let e = one_only (site.Init 0) (site.Import request) c in grind arith
no_import _ _ request Which.is_second c = let e = one_only (site.Init 0) (site.Import request) c in grind arith
no_import _ _ request Which.is_third c = let e = one_only (site.Init 0) (site.Import request) c in grind arith

no_space : (number : ℕ) (row : Row) (request : ℕ) → Which number row → Contains (site_kinds row) (site.Space request) → ⊥
no_space _ _ request Which.is_user c = let e = one_only (site.Read (Imported 0)) (site.Space request) c in grind arith
no_space _ _ request Which.is_barrel c = none_within (site.Space request) c
no_space _ _ request Which.is_first c = let e = one_only (site.Init 0) (site.Space request) c in grind arith
no_space _ _ request Which.is_second c = let e = one_only (site.Init 0) (site.Space request) c in grind arith
no_space _ _ request Which.is_third c = let e = one_only (site.Init 0) (site.Space request) c in grind arith

calls_require : (number target : ℕ) → CallsRequire barrel_graph number target → ⊥
calls_require number target c = no_require number c.0 c.1 (which number c.0 c.2) c.3

calls_import : (number target : ℕ) → CallsImport barrel_graph number target → ⊥
calls_import number target c = no_import number c.0 c.1 (which number c.0 c.2) c.3

read_place : (place : ℕ) → site.Read (Imported 0) ≡ site.Read (Imported place) → place ≡ 0
read_place place e = grind arith

asked : (place request : ℕ) (name : List ℕ) → place ≡ 0 → AsksFor user place request name → (request ≡ 0) × (name ≡ v2)
asked place request name e a =
    let f : record { request = 0; name = Some v2; place = 9 } ≡ a.0 = same_Some (record { request = 0; name = Some v2; place = 9 }) a.0
    (sym (ap (slice_get user.facts.imports) e) ∙ a.1) in
    (sym a.2 ∙ sym (ap (λ entry. entry.request) f), same_Some name v2 (sym a.3 ∙ sym (ap (λ entry. entry.name) f)))

pub at_user : (request : ℕ) (name : List ℕ) → NamesAtSite user request name → (request ≡ 0) × (name ≡ v2)
at_user _ _ (NamesAtSite.reads place request name c a) = asked place request name (read_place place (one_only (site.Read (Imported 0)) (site.Read (Imported place)) c)) a
at_user _ _ (NamesAtSite.writes place request name c a) = let e = one_only (site.Read (Imported 0)) (site.Write (Imported place)) c in absurd (grind arith)
at_user _ _ (NamesAtSite.member request name c) = let e = one_only (site.Read (Imported 0)) (site.Member request name) c in absurd (grind arith)

at_owner : (named : List ℕ) (request : ℕ) (name : List ℕ) → NamesAtSite (owner named) request name → ⊥
at_owner named _ _ (NamesAtSite.reads place request name c a) = let e = one_only (site.Init 0) (site.Read (Imported place)) c in grind arith
at_owner named _ _ (NamesAtSite.writes place request name c a) = let e = one_only (site.Init 0) (site.Write (Imported place)) c in grind arith
at_owner named _ _ (NamesAtSite.member request name c) = let e = one_only (site.Init 0) (site.Member request name) c in grind arith

-- the reached modules, the used names, and the names that are used through requests
abbrev Reached : ℕ → Type 0
Reached number = (number ≡ 0) ⊎ (number ≡ 3)

abbrev Named : ℕ → List ℕ → Type 0
Named number name = ((number ≡ 1) ⊎ (number ≡ 3)) × (name ≡ v2)

abbrev Through : ℕ → ℕ → List ℕ → Type 0
Through number request name = (((number ≡ 0) × (request ≡ 0)) ⊎ ((number ≡ 1) × (request ≡ 1))) × (name ≡ v2)

pub other_place : (request : ℕ) (name : List ℕ) → Some (Other 1 v2) ≡ Some (Other request name) → (request ≡ 1) × (name ≡ v2)
other_place request name e = grind arith

passes_on : (number : ℕ) (row : Row) → Which number row → (exported : List ℕ) → Named number exported → (request : ℕ) (name : List ℕ)
    → PassesOn barrel_graph number row exported request name → Through number request name
passes_on _ _ Which.is_user exported n request name p = absurd (⊎_elim (λ e. omega (arith, e)) (λ e. omega (arith, e)) n.0)
passes_on _ _ Which.is_first exported n request name p = absurd (⊎_elim (λ e. omega (arith, e)) (λ e. omega (arith, e)) n.0)
passes_on _ _ Which.is_third exported n request name p = absurd (⊎_elim (λ e. omega (arith, e)) (λ e. omega (arith, e)) n.0)
passes_on _ _ Which.is_barrel exported n _ _ (PassesOn.by_name request name o) =
    let e = other_place request name (sym (ap (origin_of barrel.facts) n.1) ∙ o) in (inr (refl, e.0), e.1)
passes_on _ _ Which.is_barrel exported n _ _ (PassesOn.by_star star f) = absurd (none-some (Other 1 v2) (sym f.none ∙ ap (origin_of barrel.facts) n.1))
passes_on _ _ Which.is_second exported n _ _ (PassesOn.by_name request name o) =
    let e : Some (Own 0) ≡ Some (Other request name) = sym (ap (origin_of (owner v2).facts) n.1) ∙ o in absurd (grind arith)
passes_on _ _ Which.is_second exported n _ _ (PassesOn.by_star star f) = absurd (none-some (Own 0) (sym f.none ∙ ap (origin_of (owner v2).facts) n.1))

exports_space : (number : ℕ) (row : Row) → Which number row → (name : List ℕ) → Named number name → (request : ℕ) → ExportsSpace row name request → ⊥
exports_space _ _ Which.is_user name n request p = ⊎_elim (λ e. omega (arith, e)) (λ e. omega (arith, e)) n.0
exports_space _ _ Which.is_first name n request p = ⊎_elim (λ e. omega (arith, e)) (λ e. omega (arith, e)) n.0
exports_space _ _ Which.is_third name n request p = ⊎_elim (λ e. omega (arith, e)) (λ e. omega (arith, e)) n.0
exports_space _ _ Which.is_barrel name n request p =
    let e : Some (Other 1 v2) ≡ Some (Space request) = sym (ap (origin_of barrel.facts) n.1) ∙ p in grind arith
exports_space _ _ Which.is_second name n request p =
    let e : Some (Own 0) ≡ Some (Space request) = sym (ap (origin_of (owner v2).facts) n.1) ∙ p in grind arith

-- a declaration of a reached module is the one of the user
declares : (number : ℕ) (row : Row) → Which number row → Reached number → (request target : ℕ) → Contains row.facts.order request
    → slice_get row.targets request ≡ Some target → (number ≡ 0) × (request ≡ 0) × (target ≡ 1)
declares _ _ Which.is_user r request target c t =
    let e = one_only 0 request c in (refl, sym e, sym (same_Some 1 target (ap (slice_get user.targets) e ∙ t)))
declares _ _ Which.is_barrel r request target c t = absurd (⊎_elim (λ e. omega (arith, e)) (λ e. omega (arith, e)) r)
declares _ _ Which.is_first r request target c t = none_within request c
declares _ _ Which.is_second r request target c t = none_within request c
declares _ _ Which.is_third r request target c t = none_within request c

-- the only stop of the name is its owner
stop_at : (number : ℕ) (row : Row) → Which number row → Named number v2 → EndsAt row v2 → number ≡ 3
stop_at _ _ Which.is_user n e = absurd (⊎_elim (λ e. omega (arith, e)) (λ e. omega (arith, e)) n.0)
stop_at _ _ Which.is_first n e = absurd (⊎_elim (λ e. omega (arith, e)) (λ e. omega (arith, e)) n.0)
stop_at _ _ Which.is_third n e = absurd (⊎_elim (λ e. omega (arith, e)) (λ e. omega (arith, e)) n.0)
stop_at _ _ Which.is_second n e = refl
stop_at _ _ Which.is_barrel n (inl e) = absurd (true≢false e)
stop_at _ _ Which.is_barrel n (inr (inl e)) = absurd (e refl)
stop_at _ _ Which.is_barrel n (inr (inr o)) = let e : Some (Other 1 v2) ≡ Some (Own o.0) = o.1 in absurd (grind arith)

target_at : (number : ℕ) (row : Row) → Which number row → (request target : ℕ) → ((number ≡ 0) × (request ≡ 0)) ⊎ ((number ≡ 1) × (request ≡ 1))
    → slice_get row.targets request ≡ Some target → (target ≡ 1) ⊎ (target ≡ 3)
target_at _ _ Which.is_user request target (inl e) t = inl (sym (same_Some 1 target (sym (ap (slice_get user.targets) e.1) ∙ t)))
target_at _ _ Which.is_user request target (inr e) t = absurd (omega (arith, e.0))
target_at _ _ Which.is_barrel request target (inl e) t = absurd (omega (arith, e.0))
target_at _ _ Which.is_barrel request target (inr e) t = inr (sym (same_Some 3 target (sym (ap (slice_get barrel.targets) e.1) ∙ t)))
target_at _ _ Which.is_first request target e t = absurd (none-some target t)
target_at _ _ Which.is_second request target e t = absurd (none-some target t)
target_at _ _ Which.is_third request target e t = absurd (none-some target t)

stops_there : (number : ℕ) (name : List ℕ) (stop : ℕ) → IsStopOf barrel_graph number name stop → Named number name → stop ≡ 3
stops_there _ _ _ (IsStopOf.here number name row found at f e) n =
    stop_at number row (which number row at) (n.0, refl) (subst (EndsAt row) n.1 e)
stops_there _ _ _ (IsStopOf.namespace number name row request target p o t) n = absurd (exports_space number row (which number row p.at) name n request o)
stops_there _ _ _ (IsStopOf.by_name number name row request target other stop p o t d) n =
    let h : Through number request other = passes_on number row (which number row p.at) name n request other (PassesOn.by_name request other o) in
    stops_there target other stop d (target_at number row (which number row p.at) request target h.0 t, h.1)
stops_there _ _ _ (IsStopOf.by_star number name row star target stop p f t d) n =
    let h : Through number star name = passes_on number row (which number row p.at) name n star name (PassesOn.by_star star f) in
    stops_there target name stop d (target_at number row (which number row p.at) star target h.0 t, h.1)

names_at : (number : ℕ) (row : Row) → Which number row → (request : ℕ) (name : List ℕ) → NamesAtSite row request name → Through number request name
names_at _ _ Which.is_user request name s = let e = at_user request name s in (inl (refl, e.0), e.1)
names_at _ _ Which.is_barrel _ _ (NamesAtSite.reads place request name c a) = none_within (site.Read (Imported place)) c
names_at _ _ Which.is_barrel _ _ (NamesAtSite.writes place request name c a) = none_within (site.Write (Imported place)) c
names_at _ _ Which.is_barrel _ _ (NamesAtSite.member request name c) = none_within (site.Member request name) c
names_at _ _ Which.is_first request name s = absurd (at_owner v1 request name s)
names_at _ _ Which.is_second request name s = absurd (at_owner v2 request name s)
names_at _ _ Which.is_third request name s = absurd (at_owner v3 request name s)

mutual
  only_reached : (number : ℕ) → IsReached barrel_graph number → Reached number
  only_reached _ (IsReached.entry number c) = inl (sym (one_only 0 number c))
  only_reached _ (IsReached.required number target r c) = absurd (calls_require number target c)
  only_reached _ (IsReached.imported number target r c) = absurd (calls_import number target c)
  only_reached _ (IsReached.declared number request target r d f) =
      let e = declares number d.0 (which number d.0 d.1) (only_reached number r) request target d.2 d.3 in
      absurd (true≢false (same_Some true false (sym (ap (flag_of barrel_graph) e.2) ∙ f)))
  only_reached _ (IsReached.stopped number request target stop name r d u s) =
      let e = declares number d.0 (which number d.0 d.1) (only_reached number r) request target d.2 d.3 in
      inr (stops_there target name stop s (inl e.2, (only_through number request name u).1))
  only_reached _ (IsReached.declared_whole number request target r d w) = absurd (none_whole number request w)

  only_used : (number : ℕ) (name : List ℕ) → IsUsed barrel_graph number name → Named number name
  only_used _ _ (IsUsed.by_request number request target name row w at t) =
      let h : Through number request name = only_through number request name w in
      (target_at number row (which number row at) request target h.0 t, h.1)
  only_used _ _ (IsUsed.by_require number target name r c x) = absurd (calls_require number target c)
  only_used _ _ (IsUsed.by_import number target name r c x) = absurd (calls_import number target c)
  only_used _ _ (IsUsed.by_space number request target name row w at t x) = absurd (none_whole number request w)

  only_through : (number request : ℕ) (name : List ℕ) → IsUsedThrough barrel_graph number request name → Through number request name
  only_through _ _ _ (IsUsedThrough.at_site number request name row r at s) = names_at number row (which number row at) request name s
  only_through _ _ _ (IsUsedThrough.passed_on number request exported name row u at p) =
      passes_on number row (which number row at) exported (only_used number exported u) request name p

  none_whole : (number request : ℕ) → IsWholeThrough barrel_graph number request → ⊥
  none_whole _ _ (IsWholeThrough.space_at_site number request row r at s) = no_space number row request (which number row at) s
  none_whole _ _ (IsWholeThrough.space_exported number request name row u at x) =
      exports_space number row (which number row at) name (only_used number name u) request x

-- what is reached and used is so
user_reached : IsReached barrel_graph 0
user_reached = IsReached.entry 0 (Contains-one 0)

user_asks : IsUsedThrough barrel_graph 0 0 v2
user_asks = IsUsedThrough.at_site 0 0 v2 user user_reached refl
    (NamesAtSite.reads 0 0 v2 (Contains-one (site.Read (Imported 0))) (record { request = 0; name = Some v2; place = 9 }, refl, refl, refl))

used_at_barrel : IsUsed barrel_graph 1 v2
used_at_barrel = IsUsed.by_request 0 0 1 v2 user user_asks refl refl

barrel_asks : IsUsedThrough barrel_graph 1 1 v2
barrel_asks = IsUsedThrough.passed_on 1 1 v2 v2 barrel used_at_barrel refl (PassesOn.by_name 1 v2 refl)

used_at_owner : IsUsed barrel_graph 3 v2
used_at_owner = IsUsed.by_request 1 1 3 v2 barrel barrel_asks refl refl

none_before : (number : ℕ) (name : List ℕ) → ¬ Contains {X = Pair} [] (number, name)
none_before number name c = none_within (number, name) c

other_before : ¬ Contains {X = Pair} ((1, v2) ∷ []) (3, v2)
other_before c = let e = one_only {A = Pair} (1, v2) (3, v2) c in let f : 1 ≡ 3 = ap (λ p. p.0) e in omega (arith, f)

owner_has : (before : List Pair) → ¬ Contains before (3, v2) → ResolvesTo barrel_graph before 3 v2 (Binding 3 0) (before ++ (3, v2) ∷ [])
owner_has before n = ResolvesTo.own before 3 v2 (owner v2) 0 (record { at = refl; kind = refl; first = n }) refl

owner_finds : FindsOne barrel_graph 3 v2 (Binding 3 0)
owner_finds = record { resolves = ((3, v2) ∷ [], owner_has [] (none_before 3 v2)); something = λ e. grind arith; one = λ e. grind arith }

barrel_finds : FindsOne barrel_graph 1 v2 (Binding 3 0)
barrel_finds = record {
  resolves = (
    (1, v2) ∷ (3, v2) ∷ [],
    ResolvesTo.indirect [] 1 v2 barrel 1 3 v2 (Binding 3 0) ((1, v2) ∷ (3, v2) ∷ []) (record { at = refl; kind = refl; first = none_before 1 v2 }) refl refl
        (owner_has ((1, v2) ∷ []) other_before),
  );
  something = λ e. grind arith;
  one = λ e. grind arith;
}

barrel_stops : HasStops barrel_graph 1 v2 (3 ∷ [])
barrel_stops = (
  (1, v2) ∷ (3, v2) ∷ [],
  StopsAt.by_name [] 1 v2 barrel 1 3 v2 (3 ∷ []) ((1, v2) ∷ (3, v2) ∷ []) (none_before 1 v2)
      (record { at = refl; found = Binding 3 0; finds = barrel_finds; flagged = refl; kind = refl }) refl refl
      (StopsAt.here ((1, v2) ∷ []) 3 v2 (owner v2) (Binding 3 0) other_before refl owner_finds (inr (inr (0, refl)))),
)

barrel_way : IsStopOf barrel_graph 1 v2 3
barrel_way = IsStopOf.by_name 1 v2 barrel 1 3 v2 3 (record { at = refl; found = Binding 3 0; finds = barrel_finds; flagged = refl; kind = refl }) refl refl
    (IsStopOf.here 3 v2 (owner v2) (Binding 3 0) refl owner_finds (inr (inr (0, refl))))

pub owner_reached : IsReached barrel_graph 3
owner_reached = IsReached.stopped 0 0 1 3 v2 user_reached (user, refl, Contains-one 0, refl) user_asks barrel_way

pub one_in_order : (name : List ℕ) → AreInByteOrder (name ∷ [])
one_in_order name i j d h l = absurd (omega (arith, h, l))

pub none_in_order : AreInByteOrder []
none_in_order i j d h l = absurd (omega (arith, h, l))

-- the names of a module in the record are exactly the used ones
SaysUsed : ℕ → List (List ℕ) → Type 0
SaysUsed number names = AreInByteOrder names × ((name : List ℕ) → Contains names name ↔ IsUsed barrel_graph number name)

unused : (number : ℕ) → ((number ≡ 1) ⊎ (number ≡ 3) → ⊥) → SaysUsed number []
unfolding SaysUsed
unused number n = (none_in_order, λ name. (λ c. none_within name c, λ u. absurd (n (only_used number name u).0)))

used_there : (number : ℕ) → IsUsed barrel_graph number v2 → SaysUsed number (v2 ∷ [])
unfolding SaysUsed
used_there number u = (
  one_in_order v2,
  λ name.
      (λ c. subst (IsUsed barrel_graph number) (one_only v2 name c) u, λ w. subst (Contains (v2 ∷ [])) (sym (only_used number name w).1) (Contains-one v2)),
)

not_one_or_three : (number : ℕ) → (number ≡ 0) ⊎ ((number ≡ 2) ⊎ (number ≡ 4)) → (number ≡ 1) ⊎ (number ≡ 3) → ⊥
not_one_or_three number e f = grind arith

names_say : (number : ℕ) (names : List (List ℕ)) → slice_get barrel_used.names number ≡ Some names → SaysUsed number names
names_say zero names e = subst (SaysUsed 0) (same_Some [] names e) (unused 0 (not_one_or_three 0 (inl refl)))
names_say (suc zero) names e = subst (SaysUsed 1) (same_Some (v2 ∷ []) names e) (used_there 1 used_at_barrel)
names_say (suc (suc zero)) names e = subst (SaysUsed 2) (same_Some [] names e) (unused 2 (not_one_or_three 2 (inr (inl refl))))
names_say (suc (suc (suc zero))) names e = subst (SaysUsed 3) (same_Some (v2 ∷ []) names e) (used_there 3 used_at_owner)
names_say (suc (suc (suc (suc zero)))) names e = subst (SaysUsed 4) (same_Some [] names e) (unused 4 (not_one_or_three 4 (inr (inr refl))))
names_say (suc (suc (suc (suc (suc number))))) names e = absurd (none-some names e)

whole_false : (number : ℕ) → slice_get barrel_used.whole number ≡ Some true → ⊥
whole_false zero e = true≢false (sym (same_Some false true e))
whole_false (suc zero) e = true≢false (sym (same_Some false true e))
whole_false (suc (suc zero)) e = true≢false (sym (same_Some false true e))
whole_false (suc (suc (suc zero))) e = true≢false (sym (same_Some false true e))
whole_false (suc (suc (suc (suc zero)))) e = true≢false (sym (same_Some false true e))
whole_false (suc (suc (suc (suc (suc number))))) e = none-some true e

pub barrel_use : HasUse barrel_graph barrel_used
unfolding SaysUsed
barrel_use = record {
  each_names = refl;
  each_whole = refl;
  order = λ number names e. (names_say number names e).0;
  names = λ number names e. (names_say number names e).1;
  whole = λ number. (λ e. absurd (whole_false number e), λ w. absurd (none_whole w.0 w.1 w.3));
}

-- the edges
only_led : (number : ℕ) → IsLedTo barrel_graph barrel_active.edges number → Reached number
only_led _ (IsLedTo.entry number c) = inl (sym (one_only 0 number c))
only_led _ (IsLedTo.required number target l c) = absurd (calls_require number target c)
only_led _ (IsLedTo.imported number target l c) = absurd (calls_import number target c)
only_led _ (IsLedTo.along number target targets l e m) = from number target targets (only_led number l) e m
  where
    from : (number target : ℕ) (targets : List ℕ) → Reached number → slice_get barrel_active.edges number ≡ Some targets → Contains targets target → Reached target
    from number target targets (inl z) e m =
        let q : 3 ∷ [] ≡ targets = same_Some (3 ∷ []) targets (sym (ap (slice_get barrel_active.edges) z) ∙ e) in
        inr (sym (one_only 3 target (subst (λ l. Contains l target) (sym q) m)))
    from number target targets (inr z) e m =
        let q : [] ≡ targets = same_Some [] targets (sym (ap (slice_get barrel_active.edges) z) ∙ e) in
        none_within target (subst (λ l. Contains l target) (sym q) m)

user_led : IsLedTo barrel_graph barrel_active.edges 0
user_led = IsLedTo.entry 0 (Contains-one 0)

owner_led : IsLedTo barrel_graph barrel_active.edges 3
owner_led = IsLedTo.along 0 3 (3 ∷ []) user_led refl (Contains-one 3)

reached_led : (number : ℕ) → slice_get barrel_active.reached number ≡ Some true → IsLedTo barrel_graph barrel_active.edges number
reached_led zero e = user_led
reached_led (suc zero) e = absurd (true≢false (sym (same_Some false true e)))
reached_led (suc (suc zero)) e = absurd (true≢false (sym (same_Some false true e)))
reached_led (suc (suc (suc zero))) e = owner_led
reached_led (suc (suc (suc (suc zero)))) e = absurd (true≢false (sym (same_Some false true e)))
reached_led (suc (suc (suc (suc (suc number))))) e = absurd (none-some true e)

led_reached : (number : ℕ) → Reached number → slice_get barrel_active.reached number ≡ Some true
led_reached number (inl e) = ap (slice_get barrel_active.reached) e
led_reached number (inr e) = ap (slice_get barrel_active.reached) e

goes_by_user : (request : ℕ) (name : List ℕ) → GoesThrough barrel_graph 0 user [] request name → (request ≡ 0) × (name ≡ v2)
goes_by_user _ _ (GoesThrough.at_site request name s) = at_user request name s
goes_by_user _ _ (GoesThrough.passed_on request exported name c p) = none_within exported c

no_space_by_user : (request : ℕ) → SpaceGoesThrough user [] request → ⊥
no_space_by_user _ (SpaceGoesThrough.at_site request s) = no_space 0 user request Which.is_user s
no_space_by_user _ (SpaceGoesThrough.exported request name c x) = none_within name c

user_names : AreNamesThrough barrel_graph 0 user [] 0 (v2 ∷ [])
user_names = record {
  order = one_in_order v2;
  each = λ name. (
    λ c. subst (GoesThrough barrel_graph 0 user [] 0) (one_only v2 name c) (GoesThrough.at_site 0 v2
        (NamesAtSite.reads 0 0 v2 (Contains-one (site.Read (Imported 0))) (record { request = 0; name = Some v2; place = 9 }, refl, refl, refl))),
    λ g. subst (Contains (v2 ∷ [])) (sym (goes_by_user 0 name g).1) (Contains-one v2),
  );
}

user_edges : HasEdges barrel_graph 0 user [] (3 ∷ [])
user_edges = ((3 ∷ []) ∷ [], (GivesEdges.replaced 0 1 (v2 ∷ []) ((3 ∷ []) ∷ []) refl refl (no_space_by_user 0) user_names (barrel_stops, tt), tt), refl)

owner_edges : HasEdges barrel_graph 3 (owner v2) (v2 ∷ []) []
owner_edges = ([], tt, refl)

-- a reached module has edges by its used names
EdgesThere : ℕ → Row → List ℕ → Type 0
EdgesThere number row edges = (names : List (List ℕ)) × (slice_get barrel_used.names number ≡ Some names) × HasEdges barrel_graph number row names edges

edges_there : (number : ℕ) (row : Row) (edges : List ℕ) → Reached number → slice_get barrel_graph.rows number ≡ Some row
    → slice_get barrel_active.edges number ≡ Some edges → EdgesThere number row edges
unfolding EdgesThere
edges_there number row edges (inl z) e g =
    let p : user ≡ row = same_Some user row (sym (ap (slice_get barrel_graph.rows) z) ∙ e) in
    let r : 3 ∷ [] ≡ edges = same_Some (3 ∷ []) edges (sym (ap (slice_get barrel_active.edges) z) ∙ g) in
    subst (λ n. EdgesThere n row edges) (sym z) (subst (λ w. EdgesThere 0 w edges) p (subst (EdgesThere 0 user) r ([], refl, user_edges)))
edges_there number row edges (inr z) e g =
    let p : owner v2 ≡ row = same_Some (owner v2) row (sym (ap (slice_get barrel_graph.rows) z) ∙ e) in
    let r : [] ≡ edges = same_Some [] edges (sym (ap (slice_get barrel_active.edges) z) ∙ g) in
    subst (λ n. EdgesThere n row edges) (sym z) (subst (λ w. EdgesThere 3 w edges) p (subst (EdgesThere 3 (owner v2)) r (v2 ∷ [], refl, owner_edges)))

no_edges : (number : ℕ) → slice_get barrel_active.reached number ≡ Some false → slice_get barrel_active.edges number ≡ Some []
no_edges zero e = absurd (true≢false (same_Some true false e))
no_edges (suc zero) e = refl
no_edges (suc (suc zero)) e = refl
no_edges (suc (suc (suc zero))) e = refl
no_edges (suc (suc (suc (suc zero)))) e = refl
no_edges (suc (suc (suc (suc (suc number))))) e = absurd (none-some false e)

pub barrel_edges : IsActive barrel_graph barrel_used barrel_active
unfolding EdgesThere
barrel_edges = record {
  each_edges = refl;
  each_reached = refl;
  reached = λ number. (λ e. reached_led number e, λ l. led_reached number (only_led number l));
  edges = λ number row edges r e g. edges_there number row edges (only_led number (reached_led number r)) e g;
  others = λ number e. no_edges number e;
}

pub barrel_is_skipped : ¬ IsReached barrel_graph 1
barrel_is_skipped r = ⊎_elim (λ e. omega (arith, e)) (λ e. omega (arith, e)) (only_reached 1 r)
