-- The use, the active edges and the groups of a graph in which a module is required.
use Rattle.std.proofs.Common.{◌≡◌, ◌↔◌, inl, inr, ℕ, zero, suc, true, false, true≢false, List, [], ◌∷◌, map, Contains, Some, slice_get, refl, sym, ap, subst, ◌∙◌, lit<, lit≤, arith}
use Rattle.std.specs.List.Sorted.{IsStrictlyIncreasing}
use Rattle.std.proofs.lemmas.List.Elements.{All-from_recursion, All-contains}
use Rattle.std.proofs.lemmas.Option.{none-some, same_Some}
use Rattle.pk_types.specs.declared.facts.Kind.TheVariants.{Cjs}
use Rattle.pk_types.specs.declared.facts.Origin.TheVariants as origin
use Rattle.pk_types.specs.declared.facts.Ref.TheVariants.{Imported}
use Rattle.pk_types.specs.declared.facts.SiteKind.{SiteKind}
use Rattle.pk_types.specs.declared.facts.SiteKind.TheVariants as site
use Rattle.pk_types.specs.declared.found.Found.TheVariants.{Foreign}
use Rattle.pk_types.specs.declared.graph.Row.{Row}
use Rattle.pk_types.specs.Sites.{is_call}
use Rattle.pk_types.specs.Resolving.{origin_of, ResolvesTo}
use Rattle.pk_types.specs.ExportedNames.{AreInByteOrder, StarLeadsTo, IsStarred, IsExported}
use Rattle.pk_types.specs.Requests.{site_kinds, CallsRequire, CallsImport, NamesAtSite, UsesSpaceAtSite}
use Rattle.pk_types.specs.Reexports.{FindsOne, PassesOn, ExportsSpace}
use Rattle.pk_types.specs.Stops.{IsStopOf}
use Rattle.pk_types.specs.StopSearch.{StopsAt, HasStops}
use Rattle.pk_types.specs.Use.{IsReached, IsUsed, IsUsedThrough, IsWholeThrough, HasUse}
use Rattle.pk_types.specs.ActiveEdges.{GoesThrough, SpaceGoesThrough, AreNamesThrough, GivesEdges, HasEdges, IsLedTo, IsActive}
use Rattle.pk_types.specs.ChunkGroups.{IsInClosure, IsImportTarget, LeadsTo, AreAll, IsGroups}
use Rattle.pk_types.proofs.Parts.{Contains-one, Contains-head, Contains-tail, Contains-cases, one_only, none_within}
use Rattle.graph_laws.specs.SmallUse.{v1, v2, owner}
use Rattle.graph_laws.specs.RequiredModule.{requirer, passer, common, require_graph, require_used, require_active, require_groups}
use Rattle.graph_laws.proofs.Tests.{has}
use Rattle.graph_laws.proofs.SmallUse.{one_in_order, none_in_order}
use Rattle.graph_laws.proofs.QuietGraph.{rising_none, rising_one, all_of}
use Rattle.graph_laws.proofs.StarBarrel.{init_space, at_owner}

-- which module has which row
data Which : ℕ → Row → Type 0 where
  is_entry : Which 0 requirer
  is_passer : Which 1 passer
  is_owner : Which 2 (owner v2)
  is_common : Which 3 common

which : (number : ℕ) (row : Row) → slice_get require_graph.rows number ≡ Some row → Which number row
which zero row e = subst (Which 0) (same_Some requirer row e) Which.is_entry
which (suc zero) row e = subst (Which 1) (same_Some passer row e) Which.is_passer
which (suc (suc zero)) row e = subst (Which 2) (same_Some (owner v2) row e) Which.is_owner
which (suc (suc (suc zero))) row e = subst (Which 3) (same_Some common row e) Which.is_common
which (suc (suc (suc (suc number)))) row e = absurd (none-some row e)

-- the sites of the entry
called : (kind : SiteKind) → Contains (site_kinds requirer) kind → is_call kind ≡ true
called kind c = All-contains (λ k. is_call k ≡ true) (site_kinds requirer) kind (All-from_recursion (λ k. is_call k ≡ true) (site_kinds requirer) (refl, (refl, tt))) c

names_none : (number : ℕ) (row : Row) → Which number row → (request : ℕ) (name : List ℕ) → NamesAtSite row request name → ⊥
names_none _ _ Which.is_entry _ _ (NamesAtSite.reads place request name c a) = true≢false (sym (called (site.Read (Imported place)) c))
names_none _ _ Which.is_entry _ _ (NamesAtSite.writes place request name c a) = true≢false (sym (called (site.Write (Imported place)) c))
names_none _ _ Which.is_entry _ _ (NamesAtSite.member request name c) = true≢false (sym (called (site.Member request name) c))
names_none _ _ Which.is_passer _ _ (NamesAtSite.reads place request name c a) = none_within (site.Read (Imported place)) c
names_none _ _ Which.is_passer _ _ (NamesAtSite.writes place request name c a) = none_within (site.Write (Imported place)) c
names_none _ _ Which.is_passer _ _ (NamesAtSite.member request name c) = none_within (site.Member request name) c
names_none _ _ Which.is_owner request name s = at_owner (owner v2) refl request name s
names_none _ _ Which.is_common _ _ (NamesAtSite.reads place request name c a) = none_within (site.Read (Imported place)) c
names_none _ _ Which.is_common _ _ (NamesAtSite.writes place request name c a) = none_within (site.Write (Imported place)) c
names_none _ _ Which.is_common _ _ (NamesAtSite.member request name c) = none_within (site.Member request name) c

space_none : (number : ℕ) (row : Row) → Which number row → (request : ℕ) → UsesSpaceAtSite row request → ⊥
space_none _ _ Which.is_entry request c = true≢false (sym (called (site.Space request) c))
space_none _ _ Which.is_passer request c = none_within (site.Space request) c
space_none _ _ Which.is_owner request c = init_space request (one_only (site.Init 0) (site.Space request) c)
space_none _ _ Which.is_common request c = none_within (site.Space request) c

same_require : (request place : ℕ) → site.Require place ≡ site.Require request → place ≡ request
same_require request place e = grind arith

same_import : (request place : ℕ) → site.Import place ≡ site.Import request → place ≡ request
same_import request place e = grind arith

import_require : (request place : ℕ) → site.Import place ≡ site.Require request → ⊥
import_require request place e = grind arith

require_import : (request place : ℕ) → site.Require place ≡ site.Import request → ⊥
require_import request place e = grind arith

init_require : (request : ℕ) → site.Init 0 ≡ site.Require request → ⊥
init_require request e = grind arith

init_import : (request : ℕ) → site.Init 0 ≡ site.Import request → ⊥
init_import request e = grind arith

require_at : (number : ℕ) (row : Row) → Which number row → (request target : ℕ) → Contains (site_kinds row) (site.Require request)
    → slice_get row.targets request ≡ Some target → (number ≡ 0) × (target ≡ 1)
require_at _ _ Which.is_entry request target c t = elim (Contains-cases (site.Require 0) (site.Import 1 ∷ []) (site.Require request) c) [
  | inl e ↦ (refl, sym (same_Some 1 target (ap (slice_get requirer.targets) (same_require request 0 e) ∙ t)))
  | inr h ↦ absurd (import_require request 1 (one_only (site.Import 1) (site.Require request) h))
]
require_at _ _ Which.is_passer request target c t = none_within (site.Require request) c
require_at _ _ Which.is_owner request target c t = absurd (init_require request (one_only (site.Init 0) (site.Require request) c))
require_at _ _ Which.is_common request target c t = none_within (site.Require request) c

import_at : (number : ℕ) (row : Row) → Which number row → (request target : ℕ) → Contains (site_kinds row) (site.Import request)
    → slice_get row.targets request ≡ Some target → (number ≡ 0) × (target ≡ 2)
import_at _ _ Which.is_entry request target c t = elim (Contains-cases (site.Require 0) (site.Import 1 ∷ []) (site.Import request) c) [
  | inl e ↦ absurd (require_import request 0 e)
  | inr h ↦ (refl, sym (same_Some 2 target (ap (slice_get requirer.targets) (same_import request 1 (one_only (site.Import 1) (site.Import request) h)) ∙ t)))
]
import_at _ _ Which.is_passer request target c t = none_within (site.Import request) c
import_at _ _ Which.is_owner request target c t = absurd (init_import request (one_only (site.Init 0) (site.Import request) c))
import_at _ _ Which.is_common request target c t = none_within (site.Import request) c

calls_require : (number target : ℕ) → CallsRequire require_graph number target → (number ≡ 0) × (target ≡ 1)
calls_require number target c = require_at number c.0 (which number c.0 c.2) c.1 target c.3 c.4

calls_import : (number target : ℕ) → CallsImport require_graph number target → (number ≡ 0) × (target ≡ 2)
calls_import number target c = import_at number c.0 (which number c.0 c.2) c.1 target c.3 c.4

entry_requires : CallsRequire require_graph 0 1
entry_requires = (requirer, 0, refl, Contains-head (site.Require 0) (site.Import 1 ∷ []), refl)

entry_imports : CallsImport require_graph 0 2
entry_imports = (requirer, 1, refl, Contains-tail (site.Require 0) (site.Import 1 ∷ []) (site.Import 1) (Contains-one (site.Import 1)), refl)

-- the modules, the used names, and the names that are used through requests
data Reached : ℕ → Type 0 where
  entry_is : Reached 0
  passer_is : Reached 1
  owner_is : Reached 2
  common_is : Reached 3

data Named : ℕ → List ℕ → Type 0 where
  at_passer : Named 1 v1
  at_import : Named 2 v2
  at_common : Named 3 v1

data Through : ℕ → ℕ → List ℕ → Type 0 where
  passed : Through 1 0 v1

-- the names that are exported
no_stars : (number : ℕ) (row : Row) → Which number row → (star : ℕ) → Contains row.facts.stars star → ⊥
no_stars _ _ Which.is_entry star m = none_within star m
no_stars _ _ Which.is_passer star m = none_within star m
no_stars _ _ Which.is_owner star m = none_within star m
no_stars _ _ Which.is_common star m = none_within star m

star_none : (number target : ℕ) → StarLeadsTo require_graph number target → ⊥
star_none number target s = no_stars number s.0 (which number s.0 s.2) s.1 s.3

starred_none : (number : ℕ) (name : List ℕ) → IsStarred require_graph number name → ⊥
starred_none _ _ (IsStarred.here number target name s x) = star_none number target s
starred_none _ _ (IsStarred.further number target name s x) = star_none number target s

exported_at : (number : ℕ) (name : List ℕ) (row : Row) → Which number row → Contains (map (λ entry. entry.name) row.facts.exports) name
    → Named number name
exported_at _ name _ Which.is_entry m = none_within name m
exported_at _ name _ Which.is_passer m = subst (Named 1) (one_only v1 name m) Named.at_passer
exported_at _ name _ Which.is_owner m = subst (Named 2) (one_only v2 name m) Named.at_import
exported_at _ name _ Which.is_common m = none_within name m

exported : (number : ℕ) (name : List ℕ) → IsExported require_graph number name → Named number name
exported number name (inl x) = exported_at number name x.0 (which number x.0 x.1) x.2
exported number name (inr x) = absurd (starred_none number name x.1)

-- what a used name is passed on to
own_other : (request : ℕ) (name : List ℕ) → Some (origin.Own 0) ≡ Some (origin.Other request name) → ⊥
own_other request name e = grind arith

own_space : (request : ℕ) → Some (origin.Own 0) ≡ Some (origin.Space request) → ⊥
own_space request e = grind arith

other_space : (request : ℕ) → Some (origin.Other 0 v1) ≡ Some (origin.Space request) → ⊥
other_space request e = grind arith

same_request : (request : ℕ) (name : List ℕ) → Some (origin.Other 0 v1) ≡ Some (origin.Other request name) → 0 ≡ request
same_request request name e = grind arith

same_name : (request : ℕ) (name : List ℕ) → Some (origin.Other 0 v1) ≡ Some (origin.Other request name) → v1 ≡ name
same_name request name e = grind arith

passes_on : (number : ℕ) (exported : List ℕ) → Named number exported → (row : Row) → slice_get require_graph.rows number ≡ Some row
    → (request : ℕ) (name : List ℕ) → PassesOn require_graph number row exported request name → Through number request name
passes_on _ _ Named.at_passer row e _ _ (PassesOn.by_name request name o) =
    let p = ap (λ r. origin_of r.facts v1) (same_Some passer row e) ∙ o in
    subst (λ n. Through 1 n name) (same_request request name p) (subst (Through 1 0) (same_name request name p) Through.passed)
passes_on _ _ Named.at_import row e _ _ (PassesOn.by_name request name o) =
    absurd (own_other request name (ap (λ r. origin_of r.facts v2) (same_Some (owner v2) row e) ∙ o))
passes_on _ _ Named.at_common row e _ _ (PassesOn.by_name request name o) =
    absurd (none-some (origin.Other request name) (ap (λ r. origin_of r.facts v1) (same_Some common row e) ∙ o))
passes_on number exported n row e _ _ (PassesOn.by_star star f) = absurd (no_stars number row (which number row e) star f.among)

exports_space : (number : ℕ) (name : List ℕ) → Named number name → (row : Row) → slice_get require_graph.rows number ≡ Some row
    → (request : ℕ) → ExportsSpace row name request → ⊥
exports_space _ _ Named.at_passer row e request p = other_space request (ap (λ r. origin_of r.facts v1) (same_Some passer row e) ∙ p)
exports_space _ _ Named.at_import row e request p = own_space request (ap (λ r. origin_of r.facts v2) (same_Some (owner v2) row e) ∙ p)
exports_space _ _ Named.at_common row e request p = none-some (origin.Space request) (ap (λ r. origin_of r.facts v1) (same_Some common row e) ∙ p)

through_target : (number request : ℕ) (name : List ℕ) → Through number request name → (row : Row) (target : ℕ) → slice_get require_graph.rows number ≡ Some row
    → slice_get row.targets request ≡ Some target → Named target name
through_target _ _ _ Through.passed row target e t =
    subst (λ n. Named n v1) (same_Some 3 target (ap (λ r. slice_get r.targets 0) (same_Some passer row e) ∙ t)) Named.at_common

named_reached : (number : ℕ) (name : List ℕ) → Named number name → Reached number
named_reached _ _ Named.at_passer = Reached.passer_is
named_reached _ _ Named.at_import = Reached.owner_is
named_reached _ _ Named.at_common = Reached.common_is

stop_reached : (number : ℕ) (name : List ℕ) (stop : ℕ) → IsStopOf require_graph number name stop → Named number name → Reached stop
stop_reached _ _ _ (IsStopOf.here number name row found at f e) n = named_reached number name n
stop_reached _ _ _ (IsStopOf.namespace number name row request target p o t) n = absurd (exports_space number name n row p.at request o)
stop_reached _ _ _ (IsStopOf.by_name number name row request target other stop p o t d) n =
    stop_reached target other stop d
    (through_target number request other (passes_on number name n row p.at request other (PassesOn.by_name request other o)) row target p.at t)
stop_reached _ _ _ (IsStopOf.by_star number name row star target stop p f t d) n = absurd (no_stars number row (which number row p.at) star f.among)

declared_at : (number : ℕ) (row : Row) → Which number row → (request target : ℕ) → Contains row.facts.order request → slice_get row.targets request ≡ Some target
    → Reached target
declared_at _ _ Which.is_entry request target c t = none_within request c
declared_at _ _ Which.is_passer request target c t = subst Reached (same_Some 3 target (ap (slice_get passer.targets) (one_only 0 request c) ∙ t)) Reached.common_is
declared_at _ _ Which.is_owner request target c t = none_within request c
declared_at _ _ Which.is_common request target c t = none_within request c

mutual
  only_reached : (number : ℕ) → IsReached require_graph number → Reached number
  only_reached _ (IsReached.entry number c) = subst Reached (one_only 0 number c) Reached.entry_is
  only_reached _ (IsReached.required number target r c) = subst Reached (sym (calls_require number target c).1) Reached.passer_is
  only_reached _ (IsReached.imported number target r c) = subst Reached (sym (calls_import number target c).1) Reached.owner_is
  only_reached _ (IsReached.declared number request target r d f) = declared_at number d.0 (which number d.0 d.1) request target d.2 d.3
  only_reached _ (IsReached.stopped number request target stop name r d u s) =
      stop_reached target name stop s (through_target number request name (only_through number request name u) d.0 target d.1 d.3)
  only_reached _ (IsReached.declared_whole number request target r d w) = declared_at number d.0 (which number d.0 d.1) request target d.2 d.3

  only_used : (number : ℕ) (name : List ℕ) → IsUsed require_graph number name → Named number name
  only_used _ _ (IsUsed.by_request number request target name row w at t) = through_target number request name (only_through number request name w) row target at t
  only_used _ _ (IsUsed.by_require number target name r c x) = exported target name x
  only_used _ _ (IsUsed.by_import number target name r c x) = exported target name x
  only_used _ _ (IsUsed.by_space number request target name row w at t x) = exported target name x

  only_through : (number request : ℕ) (name : List ℕ) → IsUsedThrough require_graph number request name → Through number request name
  only_through _ _ _ (IsUsedThrough.at_site number request name row r at s) = absurd (names_none number row (which number row at) request name s)
  only_through _ _ _ (IsUsedThrough.passed_on number request exported name row u at p) =
      passes_on number exported (only_used number exported u) row at request name p

none_whole : (number request : ℕ) → IsWholeThrough require_graph number request → ⊥
none_whole _ _ (IsWholeThrough.space_at_site number request row r at s) = space_none number row (which number row at) request s
none_whole _ _ (IsWholeThrough.space_exported number request name row u at x) = exports_space number name (only_used number name u) row at request x

-- what is reached and used is so
entry_reached : IsReached require_graph 0
entry_reached = IsReached.entry 0 (Contains-one 0)

passer_used : IsUsed require_graph 1 v1
passer_used = IsUsed.by_require 0 1 v1 entry_reached entry_requires (inl (passer, refl, Contains-one v1))

import_used : IsUsed require_graph 2 v2
import_used = IsUsed.by_import 0 2 v2 entry_reached entry_imports (inl (owner v2, refl, Contains-one v2))

common_used : IsUsed require_graph 3 v1
common_used = IsUsed.by_request 1 0 3 v1 passer (IsUsedThrough.passed_on 1 0 v1 v1 passer passer_used refl (PassesOn.by_name 0 v1 refl)) refl refl

-- the names of a module in the record are exactly the used ones
SaysUsed : ℕ → List (List ℕ) → Type 0
SaysUsed number names = AreInByteOrder names × ((name : List ℕ) → Contains names name ↔ IsUsed require_graph number name)

one_used : (number : ℕ) (named : List ℕ) → IsUsed require_graph number named → ((name : List ℕ) → Named number name → named ≡ name) → SaysUsed number (named ∷ [])
unfolding SaysUsed
one_used number named u only = (
  one_in_order named,
  λ name. (
    λ c. subst (IsUsed require_graph number) (one_only named name c) u,
    λ w. subst (Contains (named ∷ [])) (only name (only_used number name w)) (Contains-one named),
  ),
)

named_entry : (number : ℕ) (name : List ℕ) → Named number name → number ≡ 0 → ⊥
named_entry _ _ Named.at_passer e = omega (arith, e)
named_entry _ _ Named.at_import e = omega (arith, e)
named_entry _ _ Named.at_common e = omega (arith, e)

entry_unused : SaysUsed 0 []
unfolding SaysUsed
entry_unused = (none_in_order, λ name. (λ c. none_within name c, λ u. absurd (named_entry 0 name (only_used 0 name u) refl)))

named_passer : (name : List ℕ) → Named 1 name → v1 ≡ name
named_passer _ Named.at_passer = refl

named_import : (name : List ℕ) → Named 2 name → v2 ≡ name
named_import _ Named.at_import = refl

named_common : (name : List ℕ) → Named 3 name → v1 ≡ name
named_common _ Named.at_common = refl

names_say : (number : ℕ) (names : List (List ℕ)) → slice_get require_used.names number ≡ Some names → SaysUsed number names
names_say zero names e = subst (SaysUsed 0) (same_Some [] names e) entry_unused
names_say (suc zero) names e = subst (SaysUsed 1) (same_Some (v1 ∷ []) names e) (one_used 1 v1 passer_used named_passer)
names_say (suc (suc zero)) names e = subst (SaysUsed 2) (same_Some (v2 ∷ []) names e) (one_used 2 v2 import_used named_import)
names_say (suc (suc (suc zero))) names e = subst (SaysUsed 3) (same_Some (v1 ∷ []) names e) (one_used 3 v1 common_used named_common)
names_say (suc (suc (suc (suc number)))) names e = absurd (none-some names e)

whole_false : (number : ℕ) → slice_get require_used.whole number ≡ Some true → ⊥
whole_false zero e = true≢false (sym (same_Some false true e))
whole_false (suc zero) e = true≢false (sym (same_Some false true e))
whole_false (suc (suc zero)) e = true≢false (sym (same_Some false true e))
whole_false (suc (suc (suc zero))) e = true≢false (sym (same_Some false true e))
whole_false (suc (suc (suc (suc number)))) e = none-some true e

pub require_use : HasUse require_graph require_used
unfolding SaysUsed
require_use = record {
  each_names = refl;
  each_whole = refl;
  order = λ number names e. (names_say number names e).0;
  names = λ number names e. (names_say number names e).1;
  whole = λ number. (λ e. absurd (whole_false number e), λ w. absurd (none_whole w.0 w.1 w.3));
}

-- the edges of the module that is required
common_finds : FindsOne require_graph 3 v1 (Foreign 3 v1)
common_finds = record { resolves = ([], ResolvesTo.foreign [] 3 v1 Cjs refl (λ e. grind arith)); something = λ e. grind arith; one = λ e. grind arith }

common_stops : HasStops require_graph 3 v1 (3 ∷ [])
common_stops = (
  (3, v1) ∷ [],
  StopsAt.here [] 3 v1 common (Foreign 3 v1) (λ c. none_within (3, v1) c) refl common_finds (inr (inl (λ e. grind arith))),
)

goes_by_passer : (request : ℕ) (name : List ℕ) → GoesThrough require_graph 1 passer (v1 ∷ []) request name → Through 1 request name
goes_by_passer _ _ (GoesThrough.at_site request name s) = absurd (names_none 1 passer Which.is_passer request name s)
goes_by_passer _ _ (GoesThrough.passed_on request exported name c p) =
    passes_on 1 exported (subst (Named 1) (one_only v1 exported c) Named.at_passer) passer refl request name p

through_name : (request : ℕ) (name : List ℕ) → Through 1 request name → v1 ≡ name
through_name _ _ Through.passed = refl

passer_names : AreNamesThrough require_graph 1 passer (v1 ∷ []) 0 (v1 ∷ [])
passer_names = record {
  order = one_in_order v1;
  each = λ name. (
    λ c. subst (GoesThrough require_graph 1 passer (v1 ∷ []) 0) (one_only v1 name c)
        (GoesThrough.passed_on 0 v1 v1 (Contains-one v1) (PassesOn.by_name 0 v1 refl)),
    λ g. subst (Contains (v1 ∷ [])) (through_name 0 name (goes_by_passer 0 name g)) (Contains-one v1),
  );
}

passer_no_space : (request : ℕ) → SpaceGoesThrough passer (v1 ∷ []) request → ⊥
passer_no_space _ (SpaceGoesThrough.at_site request s) = none_within (site.Space request) s
passer_no_space _ (SpaceGoesThrough.exported request name c x) =
    exports_space 1 name (subst (Named 1) (one_only v1 name c) Named.at_passer) passer refl request x

passer_edges : HasEdges require_graph 1 passer (v1 ∷ []) (3 ∷ [])
passer_edges = (
  (3 ∷ []) ∷ [],
  (GivesEdges.replaced 0 3 (v1 ∷ []) ((3 ∷ []) ∷ []) refl refl (passer_no_space 0) passer_names (common_stops, tt), tt),
  refl,
)

-- what the edges lead to
edge_at : (number target : ℕ) (targets : List ℕ) → slice_get require_active.edges number ≡ Some targets → Contains targets target → (number ≡ 1) × (target ≡ 3)
edge_at zero target targets e c = none_within target (subst (λ l. Contains l target) (sym (same_Some [] targets e)) c)
edge_at (suc zero) target targets e c = (refl, sym (one_only 3 target (subst (λ l. Contains l target) (sym (same_Some (3 ∷ []) targets e)) c)))
edge_at (suc (suc zero)) target targets e c = none_within target (subst (λ l. Contains l target) (sym (same_Some [] targets e)) c)
edge_at (suc (suc (suc zero))) target targets e c = none_within target (subst (λ l. Contains l target) (sym (same_Some [] targets e)) c)
edge_at (suc (suc (suc (suc number)))) target targets e c = absurd (none-some targets e)

entry_led : IsLedTo require_graph require_active.edges 0
entry_led = IsLedTo.entry 0 (Contains-one 0)

passer_led : IsLedTo require_graph require_active.edges 1
passer_led = IsLedTo.required 0 1 entry_led entry_requires

all_led : (number : ℕ) → slice_get require_active.reached number ≡ Some true → IsLedTo require_graph require_active.edges number
all_led zero e = entry_led
all_led (suc zero) e = passer_led
all_led (suc (suc zero)) e = IsLedTo.imported 0 2 entry_led entry_imports
all_led (suc (suc (suc zero))) e = IsLedTo.along 1 3 (3 ∷ []) passer_led refl (Contains-one 3)
all_led (suc (suc (suc (suc number)))) e = absurd (none-some true e)

only_led : (number : ℕ) → IsLedTo require_graph require_active.edges number → Reached number
only_led _ (IsLedTo.entry number c) = subst Reached (one_only 0 number c) Reached.entry_is
only_led _ (IsLedTo.along number target targets l e c) = subst Reached (sym (edge_at number target targets e c).1) Reached.common_is
only_led _ (IsLedTo.required number target l c) = subst Reached (sym (calls_require number target c).1) Reached.passer_is
only_led _ (IsLedTo.imported number target l c) = subst Reached (sym (calls_import number target c).1) Reached.owner_is

led_reached : (number : ℕ) → Reached number → slice_get require_active.reached number ≡ Some true
led_reached _ Reached.entry_is = refl
led_reached _ Reached.passer_is = refl
led_reached _ Reached.owner_is = refl
led_reached _ Reached.common_is = refl

EdgesThere : ℕ → Row → List ℕ → Type 0
EdgesThere number row edges = (names : List (List ℕ)) × (slice_get require_used.names number ≡ Some names) × HasEdges require_graph number row names edges

edges_there : (number : ℕ) (row : Row) → Which number row → (edges : List ℕ) → slice_get require_active.edges number ≡ Some edges → EdgesThere number row edges
unfolding EdgesThere
edges_there _ _ Which.is_entry edges e = subst (EdgesThere 0 requirer) (same_Some [] edges e) ([], refl, ([], tt, refl))
edges_there _ _ Which.is_passer edges e = subst (EdgesThere 1 passer) (same_Some (3 ∷ []) edges e) (v1 ∷ [], refl, passer_edges)
edges_there _ _ Which.is_owner edges e = subst (EdgesThere 2 (owner v2)) (same_Some [] edges e) (v2 ∷ [], refl, ([], tt, refl))
edges_there _ _ Which.is_common edges e = subst (EdgesThere 3 common) (same_Some [] edges e) (v1 ∷ [], refl, ([], tt, refl))

none_unreached : (number : ℕ) → slice_get require_active.reached number ≡ Some false → ⊥
none_unreached zero e = true≢false (same_Some true false e)
none_unreached (suc zero) e = true≢false (same_Some true false e)
none_unreached (suc (suc zero)) e = true≢false (same_Some true false e)
none_unreached (suc (suc (suc zero))) e = true≢false (same_Some true false e)
none_unreached (suc (suc (suc (suc number)))) e = none-some false e

pub require_edges : IsActive require_graph require_used require_active
unfolding EdgesThere
require_edges = record {
  each_edges = refl;
  each_reached = refl;
  reached = λ number. (λ e. all_led number e, λ l. led_reached number (only_led number l));
  edges = λ number row edges r e g. edges_there number row (which number row e) edges g;
  others = λ number e. absurd (none_unreached number e);
}

-- the groups
entry_only : (number : ℕ) → IsInClosure require_graph require_active.edges 0 number → has (0 ∷ 1 ∷ 3 ∷ []) number ≡ true
entry_only _ IsInClosure.itself = refl
entry_only _ (IsInClosure.along number target targets i e c) = ap (has (0 ∷ 1 ∷ 3 ∷ [])) (edge_at number target targets e c).1
entry_only _ (IsInClosure.required number target i c) = ap (has (0 ∷ 1 ∷ 3 ∷ [])) (calls_require number target c).1

later_only : (number : ℕ) → IsInClosure require_graph require_active.edges 2 number → number ≡ 2
later_only _ IsInClosure.itself = refl
later_only _ (IsInClosure.along number target targets i e c) = absurd (omega (arith, later_only number i, (edge_at number target targets e c).0))
later_only _ (IsInClosure.required number target i c) = absurd (omega (arith, later_only number i, (calls_require number target c).0))

rising : IsStrictlyIncreasing (0 ∷ 1 ∷ 3 ∷ [])
rising zero l = lit< tt
rising (suc zero) l = lit< tt
rising (suc (suc k)) l = absurd (omega (arith, l))

passer_in : IsInClosure require_graph require_active.edges 0 1
passer_in = IsInClosure.required 0 1 IsInClosure.itself entry_requires

entry_closure : AreAll (IsInClosure require_graph require_active.edges 0) (0 ∷ 1 ∷ 3 ∷ [])
entry_closure = all_of (IsInClosure require_graph require_active.edges 0) (0 ∷ 1 ∷ 3 ∷ []) rising
    (IsInClosure.itself, (passer_in, (IsInClosure.along 1 3 (3 ∷ []) passer_in refl (Contains-one 3), tt))) entry_only

later_closure : AreAll (IsInClosure require_graph require_active.edges 2) (2 ∷ [])
later_closure = all_of (IsInClosure require_graph require_active.edges 2) (2 ∷ []) (rising_one 2) (IsInClosure.itself, tt)
    (λ number i. ap (has (2 ∷ [])) (later_only number i))

closure_of : (group target : ℕ) (modules : List ℕ) → slice_get require_groups.targets group ≡ Some target → slice_get require_groups.closures group ≡ Some modules
    → AreAll (IsInClosure require_graph require_active.edges target) modules
closure_of zero target modules e f =
    subst (λ n. AreAll (IsInClosure require_graph require_active.edges n) modules) (same_Some 0 target e)
    (subst (AreAll (IsInClosure require_graph require_active.edges 0)) (same_Some (0 ∷ 1 ∷ 3 ∷ []) modules f) entry_closure)
closure_of (suc zero) target modules e f =
    subst (λ n. AreAll (IsInClosure require_graph require_active.edges n) modules) (same_Some 2 target e)
    (subst (AreAll (IsInClosure require_graph require_active.edges 2)) (same_Some (2 ∷ []) modules f) later_closure)
closure_of (suc (suc group)) target modules e f = absurd (none-some target e)

second_only : (next target : ℕ) → slice_get require_groups.targets next ≡ Some target → target ≡ 2 → next ≡ 1
second_only zero target e t = absurd (omega (arith, same_Some 0 target e, t))
second_only (suc zero) target e t = refl
second_only (suc (suc next)) target e t = absurd (none-some target e)

entry_lead : AreAll (LeadsTo require_graph require_groups (0 ∷ 1 ∷ 3 ∷ [])) (1 ∷ [])
entry_lead = all_of (LeadsTo require_graph require_groups (0 ∷ 1 ∷ 3 ∷ [])) (1 ∷ []) (rising_one 1)
    ((2, lit≤ tt, refl, (0, Contains-head 0 (1 ∷ 3 ∷ []), entry_imports)), tt)
    (λ next l. ap (has (1 ∷ [])) (second_only next l.0 l.2 (calls_import l.3.0 l.0 l.3.2).1))

no_lead : AreAll (LeadsTo require_graph require_groups (2 ∷ [])) []
no_lead = all_of (LeadsTo require_graph require_groups (2 ∷ [])) [] rising_none tt
    (λ next l. absurd (omega (arith, one_only 2 l.3.0 l.3.1, (calls_import l.3.0 l.0 l.3.2).0)))

leads_of : (group : ℕ) (modules next : List ℕ) → slice_get require_groups.closures group ≡ Some modules → slice_get require_groups.leads group ≡ Some next
    → AreAll (LeadsTo require_graph require_groups modules) next
leads_of zero modules next e f =
    subst (λ l. AreAll (LeadsTo require_graph require_groups l) next) (same_Some (0 ∷ 1 ∷ 3 ∷ []) modules e)
    (subst (AreAll (LeadsTo require_graph require_groups (0 ∷ 1 ∷ 3 ∷ []))) (same_Some (1 ∷ []) next f) entry_lead)
leads_of (suc zero) modules next e f =
    subst (λ l. AreAll (LeadsTo require_graph require_groups l) next) (same_Some (2 ∷ []) modules e)
    (subst (AreAll (LeadsTo require_graph require_groups (2 ∷ []))) (same_Some [] next f) no_lead)
leads_of (suc (suc group)) modules next e f = absurd (none-some modules e)

pub require_has_groups : IsGroups require_graph require_active require_groups
require_has_groups = record {
  targets = record {
    entries = refl;
    imported = 2 ∷ [];
    targets = refl;
    others = all_of (IsImportTarget require_graph require_active) (2 ∷ []) (rising_one 2) ((0, refl, entry_imports), tt)
        (λ number i. ap (has (2 ∷ [])) (calls_import i.0 number i.2).1);
  };
  each_closure = refl;
  each_lead = refl;
  closures = closure_of;
  leads = leads_of;
}
