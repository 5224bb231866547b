-- What is used of a graph with stars and namespaces.
use Rattle.std.proofs.Common.{◌≡◌, ◌≢◌, ◌⊎◌, inl, inr, ℕ, zero, suc, true, false, true≢false, List, [], ◌∷◌, ◌++◌, length, map, Contains, Some, None, slice_get, refl, sym, ap, subst, subst₂, ◌∙◌, arith}
use Rattle.std.specs.List.{AllByRecursion}
use Rattle.std.proofs.lemmas.List.Elements.{All-from_recursion, All-contains}
use Rattle.std.proofs.lemmas.Option.{none-some, same_Some}
use Rattle.pk_types.specs.declared.facts.Origin.TheVariants as origin
use Rattle.pk_types.specs.declared.facts.Ref.TheVariants.{Imported}
use Rattle.pk_types.specs.declared.facts.SiteKind.{SiteKind}
use Rattle.pk_types.specs.declared.facts.SiteKind.TheVariants as site
use Rattle.pk_types.specs.declared.found.Found.TheVariants.{Binding, Namespace, Nothing, Ambiguous}
use Rattle.pk_types.specs.declared.graph.Row.{Row}
use Rattle.pk_types.specs.Sites.{is_call}
use Rattle.pk_types.specs.Resolving.{Pair, default_name, origin_of, ResolvesTo, StarsLeadTo, Resolves}
use Rattle.pk_types.specs.ExportedNames.{StarLeadsTo, IsStarred, IsExported}
use Rattle.pk_types.specs.Requests.{site_kinds, flag_of, Declares, CallsRequire, CallsImport, AsksFor, NamesAtSite, UsesSpaceAtSite}
use Rattle.pk_types.specs.Reexports.{FindsOne, IsFoundThrough, PassesOn, ExportsSpace}
use Rattle.pk_types.specs.Stops.{EndsAt, IsStopOf}
use Rattle.pk_types.specs.Use.{IsReached, IsUsed, IsUsedThrough, IsWholeThrough}
use Rattle.pk_types.proofs.OneAnswer.{resolves_once}
use Rattle.pk_types.proofs.Parts.{Contains-head, Contains-tail, Contains-cases, one_only, none_within}
use Rattle.graph_laws.proofs.Tests.{has, tested}
use Rattle.graph_laws.specs.SmallUse.{v1, v2, v3, owner}
use Rattle.graph_laws.specs.OpenBarrel.{open_owner}
use Rattle.graph_laws.specs.StarBarrel.{v4, ns, star_user, star_barrel, star_graph}

-- which module has which row
data Which : ℕ → Row → Type 0 where
  is_user : Which 0 star_user
  is_barrel : Which 1 star_barrel
  is_second : Which 2 (owner v2)
  is_first : Which 3 (owner v1)
  is_third : Which 4 (owner v3)
  is_fourth : Which 5 (open_owner v4)

which : (number : ℕ) (row : Row) → slice_get star_graph.rows number ≡ Some row → Which number row
which zero row e = subst (Which 0) (same_Some star_user row e) Which.is_user
which (suc zero) row e = subst (Which 1) (same_Some star_barrel row e) Which.is_barrel
which (suc (suc zero)) row e = subst (Which 2) (same_Some (owner v2) row e) Which.is_second
which (suc (suc (suc zero))) row e = subst (Which 3) (same_Some (owner v1) row e) Which.is_first
which (suc (suc (suc (suc zero)))) row e = subst (Which 4) (same_Some (owner v3) row e) Which.is_third
which (suc (suc (suc (suc (suc zero))))) row e = subst (Which 5) (same_Some (open_owner v4) row e) Which.is_fourth
which (suc (suc (suc (suc (suc (suc number)))))) row e = absurd (none-some row e)

-- no site calls for a module
pub quiet : (row : Row) → AllByRecursion (λ kind. is_call kind ≡ false) (site_kinds row) → (kind : SiteKind) → Contains (site_kinds row) kind → is_call kind ≡ false
quiet row all kind c = All-contains (λ k. is_call k ≡ false) (site_kinds row) kind (All-from_recursion (λ k. is_call k ≡ false) (site_kinds row) all) c

no_calls : (number : ℕ) (row : Row) → Which number row → (kind : SiteKind) → Contains (site_kinds row) kind → is_call kind ≡ false
no_calls _ _ Which.is_user = quiet star_user (refl, (refl, (refl, tt)))
no_calls _ _ Which.is_barrel = quiet star_barrel tt
no_calls _ _ Which.is_second = quiet (owner v2) (refl, tt)
no_calls _ _ Which.is_first = quiet (owner v1) (refl, tt)
no_calls _ _ Which.is_third = quiet (owner v3) (refl, tt)
no_calls _ _ Which.is_fourth = quiet (open_owner v4) (refl, tt)

pub calls_require : (number target : ℕ) → CallsRequire star_graph number target → ⊥
calls_require number target c = true≢false (no_calls number c.0 (which number c.0 c.2) (site.Require c.1) c.3)

pub calls_import : (number target : ℕ) → CallsImport star_graph number target → ⊥
calls_import number target c = true≢false (no_calls number c.0 (which number c.0 c.2) (site.Import c.1) c.3)

-- the sites of the user
kind_cases : (kind : SiteKind) → Contains (site_kinds star_user) kind → (site.Read (Imported 0) ≡ kind) ⊎ ((site.Read (Imported 1) ≡ kind) ⊎ (site.Space 1 ≡ kind))
kind_cases kind c = elim (Contains-cases (site.Read (Imported 0)) (site.Read (Imported 1) ∷ site.Space 1 ∷ []) kind c) [
  | inl e ↦ inl e
  | inr h ↦ elim (Contains-cases (site.Read (Imported 1)) (site.Space 1 ∷ []) kind h) [ inl e ↦ inr (inl e) | inr w ↦ inr (inr (one_only (site.Space 1) kind w)) ]
]

read_member : (place request : ℕ) (name : List ℕ) → site.Read (Imported place) ≡ site.Member request name → ⊥
read_member place request name e = grind arith

space_member : (place request : ℕ) (name : List ℕ) → site.Space place ≡ site.Member request name → ⊥
space_member place request name e = grind arith

read_space : (place request : ℕ) → site.Read (Imported place) ≡ site.Space request → ⊥
read_space place request e = grind arith

same_space : (place request : ℕ) → site.Space place ≡ site.Space request → place ≡ request
same_space place request e = grind arith

user_member : (request : ℕ) (name : List ℕ) → Contains (site_kinds star_user) (site.Member request name) → ⊥
user_member request name c = elim (kind_cases (site.Member request name) c) [
  | inl e ↦ read_member 0 request name e
  | inr h ↦ elim h [ inl e ↦ read_member 1 request name e | inr e ↦ space_member 1 request name e ]
]

pub user_space : (request : ℕ) → UsesSpaceAtSite star_user request → 1 ≡ request
user_space request c = elim (kind_cases (site.Space request) c) [
  | inl e ↦ absurd (read_space 0 request e)
  | inr h ↦ elim h [ inl e ↦ absurd (read_space 1 request e) | inr e ↦ same_space 1 request e ]
]

pub init_read : (place : ℕ) → site.Init 0 ≡ site.Read (Imported place) → ⊥
init_read place e = grind arith

init_write : (place : ℕ) → site.Init 0 ≡ site.Write (Imported place) → ⊥
init_write place e = grind arith

init_member : (request : ℕ) (name : List ℕ) → site.Init 0 ≡ site.Member request name → ⊥
init_member request name e = grind arith

pub init_space : (request : ℕ) → site.Init 0 ≡ site.Space request → ⊥
init_space request e = grind arith

-- a module with the one site of an owner asks for nothing
pub at_owner : (row : Row) → site_kinds row ≡ site.Init 0 ∷ [] → (request : ℕ) (name : List ℕ) → NamesAtSite row request name → ⊥
at_owner row s _ _ (NamesAtSite.reads place request name c a) = init_read place (one_only (site.Init 0) (site.Read (Imported place)) (subst (λ l. Contains l (site.Read (Imported place))) s c))
at_owner row s _ _ (NamesAtSite.writes place request name c a) = init_write place (one_only (site.Init 0) (site.Write (Imported place)) (subst (λ l. Contains l (site.Write (Imported place))) s c))
at_owner row s _ _ (NamesAtSite.member request name c) = init_member request name (one_only (site.Init 0) (site.Member request name) (subst (λ l. Contains l (site.Member request name)) s c))

-- the reached modules, the used names, the names that are used through requests, and the requests whose namespace is used
pub data Reached : ℕ → Type 0 where
  user_is : Reached 0
  second_is : Reached 2
  first_is : Reached 3
  third_is : Reached 4

pub data Named : ℕ → List ℕ → Type 0 where
  space_passed : Named 1 ns
  first_passed : Named 1 v1
  second_named : Named 2 v2
  first_named : Named 3 v1
  third_named : Named 4 v3

pub data Through : ℕ → ℕ → List ℕ → Type 0 where
  asks_first : Through 0 0 v1
  asks_space : Through 0 0 ns
  by_star : Through 1 0 v1

pub data Whole : ℕ → ℕ → Type 0 where
  site_whole : Whole 0 1
  name_whole : Whole 1 1

-- what the imports of the user ask for
asked : (place request : ℕ) (name : List ℕ) → AsksFor star_user place request name → Through 0 request name
asked zero request name a =
    let f = same_Some (record { request = 0; name = Some v1; place = 9 }) a.0 a.1 in
    subst₂ (Through 0) (ap (λ entry. entry.request) f ∙ a.2) (same_Some v1 name (ap (λ entry. entry.name) f ∙ a.3)) Through.asks_first
asked (suc zero) request name a =
    let f = same_Some (record { request = 0; name = Some ns; place = 13 }) a.0 a.1 in
    subst₂ (Through 0) (ap (λ entry. entry.request) f ∙ a.2) (same_Some ns name (ap (λ entry. entry.name) f ∙ a.3)) Through.asks_space
asked (suc (suc zero)) request name a =
    let f = same_Some (record { request = 1; name = None; place = 37 }) a.0 a.1 in absurd (none-some name (ap (λ entry. entry.name) f ∙ a.3))
asked (suc (suc (suc place))) request name a = absurd (none-some a.0 a.1)

pub at_user : (request : ℕ) (name : List ℕ) → NamesAtSite star_user request name → Through 0 request name
at_user _ _ (NamesAtSite.reads place request name c a) = asked place request name a
at_user _ _ (NamesAtSite.writes place request name c a) = asked place request name a
at_user _ _ (NamesAtSite.member request name c) = absurd (user_member request name c)

names_at : (number : ℕ) (row : Row) → Which number row → (request : ℕ) (name : List ℕ) → NamesAtSite row request name → Through number request name
names_at _ _ Which.is_user request name s = at_user request name s
names_at _ _ Which.is_barrel _ _ (NamesAtSite.reads place request name c a) = none_within (site.Read (Imported place)) c
names_at _ _ Which.is_barrel _ _ (NamesAtSite.writes place request name c a) = none_within (site.Write (Imported place)) c
names_at _ _ Which.is_barrel _ _ (NamesAtSite.member request name c) = none_within (site.Member request name) c
names_at _ _ Which.is_second request name s = absurd (at_owner (owner v2) refl request name s)
names_at _ _ Which.is_first request name s = absurd (at_owner (owner v1) refl request name s)
names_at _ _ Which.is_third request name s = absurd (at_owner (owner v3) refl request name s)
names_at _ _ Which.is_fourth request name s = absurd (at_owner (open_owner v4) refl request name s)

space_at : (number : ℕ) (row : Row) → Which number row → (request : ℕ) → UsesSpaceAtSite row request → Whole number request
space_at _ _ Which.is_user request c = subst (Whole 0) (user_space request c) Whole.site_whole
space_at _ _ Which.is_barrel request c = none_within (site.Space request) c
space_at _ _ Which.is_second request c = absurd (init_space request (one_only (site.Init 0) (site.Space request) c))
space_at _ _ Which.is_first request c = absurd (init_space request (one_only (site.Init 0) (site.Space request) c))
space_at _ _ Which.is_third request c = absurd (init_space request (one_only (site.Init 0) (site.Space request) c))
space_at _ _ Which.is_fourth request c = absurd (init_space request (one_only (site.Init 0) (site.Space request) c))

-- a module that no pair has was not asked
numbers_have : (pairs : List Pair) (pair : Pair) → Contains pairs pair → Contains (map (λ p. p.0) pairs) pair.0
numbers_have [] pair m = none_within pair m
numbers_have (one ∷ pairs) pair m = elim (Contains-cases one pairs pair m) [
  | inl e ↦ subst (Contains (one.0 ∷ map (λ p. p.0) pairs)) (ap (λ p. p.0) e) (Contains-head one.0 (map (λ p. p.0) pairs))
  | inr h ↦ Contains-tail one.0 (map (λ p. p.0) pairs) pair.0 (numbers_have pairs pair h)
]

pub not_asked : (pairs : List Pair) (number : ℕ) (name : List ℕ) → has (map (λ p. p.0) pairs) number ≡ false → ¬ Contains pairs (number, name)
not_asked pairs number name e m = true≢false (sym (tested (map (λ p. p.0) pairs) number (numbers_have pairs (number, name) m)) ∙ e)

first_is_no_default : v1 ≢ default_name
first_is_no_default e = omega (arith, ap length e)

-- what the first name leads to
pub owner_has : (before : List Pair) → ¬ Contains before (3, v1) → ResolvesTo star_graph before 3 v1 (Binding 3 0) (before ++ (3, v1) ∷ [])
owner_has before n = ResolvesTo.own before 3 v1 (owner v1) 0 (record { at = refl; kind = refl; first = n }) refl

fourth_lacks : (before : List Pair) → ¬ Contains before (5, v1) → ResolvesTo star_graph before 5 v1 Nothing (before ++ (5, v1) ∷ [])
fourth_lacks before n = ResolvesTo.by_stars before 5 v1 (open_owner v4) Nothing (before ++ (5, v1) ∷ []) (record { at = refl; kind = refl; first = n }) refl
    first_is_no_default (StarsLeadTo.ended (before ++ (5, v1) ∷ []) [] v1 Nothing)

pub owner_finds : FindsOne star_graph 3 v1 (Binding 3 0)
owner_finds = record { resolves = ((3, v1) ∷ [], owner_has [] (not_asked [] 3 v1 refl)); something = λ e. grind arith; one = λ e. grind arith }

binding_is_one : Binding 3 0 ≢ Ambiguous
binding_is_one e = grind arith

pub barrel_finds : FindsOne star_graph 1 v1 (Binding 3 0)
barrel_finds = record {
  resolves = (
    (1, v1) ∷ (3, v1) ∷ (5, v1) ∷ [],
    ResolvesTo.by_stars [] 1 v1 star_barrel (Binding 3 0) ((1, v1) ∷ (3, v1) ∷ (5, v1) ∷ []) (record { at = refl; kind = refl; first = not_asked [] 1 v1 refl })
        refl first_is_no_default
        (StarsLeadTo.joins ((1, v1) ∷ []) ((1, v1) ∷ (3, v1) ∷ []) star_barrel.targets v1 0 3 (2 ∷ []) Nothing (Binding 3 0) (Binding 3 0)
        ((1, v1) ∷ (3, v1) ∷ (5, v1) ∷ []) refl refl (owner_has ((1, v1) ∷ []) (not_asked ((1, v1) ∷ []) 3 v1 refl)) binding_is_one
        (StarsLeadTo.joins ((1, v1) ∷ (3, v1) ∷ []) ((1, v1) ∷ (3, v1) ∷ (5, v1) ∷ []) star_barrel.targets v1 2 5 [] (Binding 3 0) Nothing (Binding 3 0)
        ((1, v1) ∷ (3, v1) ∷ (5, v1) ∷ []) refl refl (fourth_lacks ((1, v1) ∷ (3, v1) ∷ []) (not_asked ((1, v1) ∷ (3, v1) ∷ []) 5 v1 refl)) binding_is_one
        (StarsLeadTo.ended ((1, v1) ∷ (3, v1) ∷ (5, v1) ∷ []) star_barrel.targets v1 (Binding 3 0)))),
  );
  something = λ e. grind arith;
  one = binding_is_one;
}

pub space_finds : FindsOne star_graph 1 ns (Namespace 4)
space_finds = record {
  resolves = (
    (1, ns) ∷ [],
    ResolvesTo.space [] 1 ns star_barrel 1 4 (record { at = refl; kind = refl; first = not_asked [] 1 ns refl }) refl refl,
  );
  something = λ e. grind arith;
  one = λ e. grind arith;
}

-- the first star is the one through which the first name is found
pub first_star : IsFoundThrough star_graph 1 star_barrel v1 0
first_star = record {
  none = refl;
  among = Contains-head 0 (2 ∷ []);
  target = 3;
  leads = refl;
  kind = refl;
  found = Binding 3 0;
  here = barrel_finds;
  there = owner_finds.resolves;
}

second_star : (f : IsFoundThrough star_graph 1 star_barrel v1 2) → ⊥
second_star f =
    let t : 5 ≡ f.target = same_Some 5 f.target f.leads in
    let lacks : Resolves star_graph 5 v1 Nothing = ((5, v1) ∷ [], fourth_lacks [] (not_asked [] 5 v1 refl)) in
    f.here.something (sym (resolves_once star_graph 5 v1 Nothing f.found lacks (subst (λ n. Resolves star_graph n v1 f.found) (sym t) f.there)))

pub only_star : (star : ℕ) → IsFoundThrough star_graph 1 star_barrel v1 star → 0 ≡ star
only_star star f = elim (Contains-cases 0 (2 ∷ []) star f.among) [
  | inl e ↦ e
  | inr h ↦ absurd (second_star (subst (IsFoundThrough star_graph 1 star_barrel v1) (sym (one_only 2 star h)) f))
]

-- what a used name is passed on to
origin_only : (request place : ℕ) (name : List ℕ) → Some (origin.Own place) ≡ Some (origin.Other request name) → ⊥
origin_only request place name e = grind arith

pub own_space : (request place : ℕ) → Some (origin.Own place) ≡ Some (origin.Space request) → ⊥
own_space request place e = grind arith

space_other : (request place : ℕ) (name : List ℕ) → Some (origin.Space place) ≡ Some (origin.Other request name) → ⊥
space_other request place name e = grind arith

space_own : (request place : ℕ) → Some (origin.Space place) ≡ Some (origin.Own request) → ⊥
space_own request place e = grind arith

same_place : (request place : ℕ) → Some (origin.Space place) ≡ Some (origin.Space request) → place ≡ request
same_place request place e = grind arith

pub owner_passes : {B : Type 0} (number : ℕ) (name : List ℕ) → origin_of (owner name).facts name ≡ Some (origin.Own 0) → (request : ℕ) (passed : List ℕ)
    → PassesOn star_graph number (owner name) name request passed → B
owner_passes number name o _ _ (PassesOn.by_name request passed e) = absurd (origin_only request 0 passed (sym o ∙ e))
owner_passes number name o _ _ (PassesOn.by_star star f) = absurd (none-some (origin.Own 0) (sym f.none ∙ o))

space_passes : (request : ℕ) (passed : List ℕ) → PassesOn star_graph 1 star_barrel ns request passed → Through 1 request passed
space_passes _ _ (PassesOn.by_name request passed e) = absurd (space_other request 1 passed e)
space_passes _ _ (PassesOn.by_star star f) = absurd (none-some (origin.Space 1) (sym f.none))

first_passes : (request : ℕ) (passed : List ℕ) → PassesOn star_graph 1 star_barrel v1 request passed → Through 1 request passed
first_passes _ _ (PassesOn.by_name request passed e) = absurd (none-some (origin.Other request passed) e)
first_passes _ _ (PassesOn.by_star star f) = subst (λ n. Through 1 n v1) (only_star star f) Through.by_star

passes_on : (number : ℕ) (exported : List ℕ) → Named number exported → (row : Row) → slice_get star_graph.rows number ≡ Some row
    → (request : ℕ) (name : List ℕ) → PassesOn star_graph number row exported request name → Through number request name
passes_on _ _ Named.space_passed row e request name p =
    space_passes request name (subst (λ r. PassesOn star_graph 1 r ns request name) (sym (same_Some star_barrel row e)) p)
passes_on _ _ Named.first_passed row e request name p =
    first_passes request name (subst (λ r. PassesOn star_graph 1 r v1 request name) (sym (same_Some star_barrel row e)) p)
passes_on _ _ Named.second_named row e request name p =
    owner_passes 2 v2 refl request name (subst (λ r. PassesOn star_graph 2 r v2 request name) (sym (same_Some (owner v2) row e)) p)
passes_on _ _ Named.first_named row e request name p =
    owner_passes 3 v1 refl request name (subst (λ r. PassesOn star_graph 3 r v1 request name) (sym (same_Some (owner v1) row e)) p)
passes_on _ _ Named.third_named row e request name p =
    owner_passes 4 v3 refl request name (subst (λ r. PassesOn star_graph 4 r v3 request name) (sym (same_Some (owner v3) row e)) p)

exports_space : (number : ℕ) (name : List ℕ) → Named number name → (row : Row) → slice_get star_graph.rows number ≡ Some row
    → (request : ℕ) → ExportsSpace row name request → Whole number request
exports_space _ _ Named.space_passed row e request p =
    subst (Whole 1) (same_place request 1 (ap (λ r. origin_of r.facts ns) (same_Some star_barrel row e) ∙ p)) Whole.name_whole
exports_space _ _ Named.first_passed row e request p =
    absurd (none-some (origin.Space request) (ap (λ r. origin_of r.facts v1) (same_Some star_barrel row e) ∙ p))
exports_space _ _ Named.second_named row e request p = absurd (own_space request 0 (ap (λ r. origin_of r.facts v2) (same_Some (owner v2) row e) ∙ p))
exports_space _ _ Named.first_named row e request p = absurd (own_space request 0 (ap (λ r. origin_of r.facts v1) (same_Some (owner v1) row e) ∙ p))
exports_space _ _ Named.third_named row e request p = absurd (own_space request 0 (ap (λ r. origin_of r.facts v3) (same_Some (owner v3) row e) ∙ p))

-- what a request leads to through which a name, or the namespace, is used
target_of : (number request there : ℕ) (row : Row) → slice_get star_graph.rows number ≡ Some row → (other : Row) (target : ℕ) → slice_get star_graph.rows number ≡ Some other
    → slice_get other.targets request ≡ Some target → slice_get row.targets request ≡ Some there → there ≡ target
target_of number request there row e other target f t u =
    same_Some there target (sym u ∙ ap (λ r. slice_get r.targets request) (same_Some row other (sym e ∙ f)) ∙ t)

through_named : (number request : ℕ) (name : List ℕ) → Through number request name → (row : Row) (target : ℕ) → slice_get star_graph.rows number ≡ Some row
    → slice_get row.targets request ≡ Some target → Named target name
through_named _ _ _ Through.asks_first row target e t = subst (λ n. Named n v1) (target_of 0 0 1 star_user refl row target e t refl) Named.first_passed
through_named _ _ _ Through.asks_space row target e t = subst (λ n. Named n ns) (target_of 0 0 1 star_user refl row target e t refl) Named.space_passed
through_named _ _ _ Through.by_star row target e t = subst (λ n. Named n v1) (target_of 1 0 3 star_barrel refl row target e t refl) Named.first_named

-- a module that is used as a namespace
pub data Spaced : ℕ → Type 0 where
  second_spaced : Spaced 2
  third_spaced : Spaced 4

pub spaced_of : (number request : ℕ) → Whole number request → (row : Row) (target : ℕ) → slice_get star_graph.rows number ≡ Some row
    → slice_get row.targets request ≡ Some target → Spaced target
spaced_of _ _ Whole.site_whole row target e t = subst Spaced (target_of 0 1 2 star_user refl row target e t refl) Spaced.second_spaced
spaced_of _ _ Whole.name_whole row target e t = subst Spaced (target_of 1 1 4 star_barrel refl row target e t refl) Spaced.third_spaced

pub spaced_reached : (target : ℕ) → Spaced target → Reached target
spaced_reached _ Spaced.second_spaced = Reached.second_is
spaced_reached _ Spaced.third_spaced = Reached.third_is

-- an owner exports its one name
owner_stars : {B : Type 0} (number : ℕ) (name : List ℕ) → slice_get star_graph.rows number ≡ Some (owner name) → (target : ℕ) → StarLeadsTo star_graph number target → B
owner_stars number name e target s = none_within s.1 (subst (λ r. Contains r.facts.stars s.1) (same_Some s.0 (owner name) (sym s.2 ∙ e)) s.3)

owner_starred : (number : ℕ) (exported : List ℕ) → IsStarred star_graph number exported → (name : List ℕ) → slice_get star_graph.rows number ≡ Some (owner name) → ⊥
owner_starred _ _ (IsStarred.here number target exported s x) name e = owner_stars number name e target s
owner_starred _ _ (IsStarred.further number target exported s x) name e = owner_stars number name e target s

owner_exports : (number : ℕ) (name exported : List ℕ) → slice_get star_graph.rows number ≡ Some (owner name) → IsExported star_graph number exported → name ≡ exported
owner_exports number name exported e (inl x) =
    one_only name exported (subst (λ r. Contains (map (λ entry. entry.name) r.facts.exports) exported) (same_Some x.0 (owner name) (sym x.1 ∙ e)) x.2)
owner_exports number name exported e (inr x) = absurd (owner_starred number exported x.1 name e)

spaced_named : (target : ℕ) (name : List ℕ) → Spaced target → IsExported star_graph target name → Named target name
spaced_named _ name Spaced.second_spaced x = subst (Named 2) (owner_exports 2 v2 name refl x) Named.second_named
spaced_named _ name Spaced.third_spaced x = subst (Named 4) (owner_exports 4 v3 name refl x) Named.third_named

-- the module that passes names on is no end
barrel_no_end : {B : Type 0} (name : List ℕ) → ((binding : ℕ) → origin_of star_barrel.facts name ≡ Some (origin.Own binding) → ⊥) → EndsAt star_barrel name → B
barrel_no_end name n (inl e) = absurd (true≢false e)
barrel_no_end name n (inr (inl e)) = absurd (e refl)
barrel_no_end name n (inr (inr o)) = absurd (n o.0 o.1)

end_reached : (number : ℕ) (name : List ℕ) → Named number name → (row : Row) → slice_get star_graph.rows number ≡ Some row → EndsAt row name → Reached number
end_reached _ _ Named.space_passed row e h =
    barrel_no_end ns (λ binding o. space_own binding 1 o) (subst (λ r. EndsAt r ns) (sym (same_Some star_barrel row e)) h)
end_reached _ _ Named.first_passed row e h =
    barrel_no_end v1 (λ binding o. none-some (origin.Own binding) o) (subst (λ r. EndsAt r v1) (sym (same_Some star_barrel row e)) h)
end_reached _ _ Named.second_named row e h = Reached.second_is
end_reached _ _ Named.first_named row e h = Reached.first_is
end_reached _ _ Named.third_named row e h = Reached.third_is

stop_reached : (number : ℕ) (name : List ℕ) (stop : ℕ) → IsStopOf star_graph number name stop → Named number name → Reached stop
stop_reached _ _ _ (IsStopOf.here number name row found at f e) n = end_reached number name n row at e
stop_reached _ _ _ (IsStopOf.namespace number name row request target p o t) n =
    spaced_reached target (spaced_of number request (exports_space number name n row p.at request o) row target p.at t)
stop_reached _ _ _ (IsStopOf.by_name number name row request target other stop p o t d) n =
    stop_reached target other stop d
    (through_named number request other (passes_on number name n row p.at request other (PassesOn.by_name request other o)) row target p.at t)
stop_reached _ _ _ (IsStopOf.by_star number name row star target stop p f t d) n =
    stop_reached target name stop d
    (through_named number star name (passes_on number name n row p.at star name (PassesOn.by_star star f)) row target p.at t)

-- no declaration of a reached module leads to one that may have side effects
order_flagged : (number : ℕ) → Reached number → (request target : ℕ) → Declares star_graph number request target → flag_of star_graph target ≡ Some true
order_flagged _ Reached.user_is request target d =
    elim (Contains-cases 0 (1 ∷ []) request (subst (λ r. Contains r.facts.order request) (sym (same_Some star_user d.0 d.1)) d.2)) [
      | inl e ↦ sym (ap (flag_of star_graph) (target_of 0 0 1 star_user refl d.0 target d.1 (subst (λ n. slice_get d.0.targets n ≡ Some target) (sym e) d.3) refl))
      | inr h ↦ sym (ap (flag_of star_graph) (target_of 0 1 2 star_user refl d.0 target d.1 (subst (λ n. slice_get d.0.targets n ≡ Some target) (sym (one_only 1 request h)) d.3) refl))
    ]
order_flagged _ Reached.second_is request target d = none_within request (subst (λ r. Contains r.facts.order request) (sym (same_Some (owner v2) d.0 d.1)) d.2)
order_flagged _ Reached.first_is request target d = none_within request (subst (λ r. Contains r.facts.order request) (sym (same_Some (owner v1) d.0 d.1)) d.2)
order_flagged _ Reached.third_is request target d = none_within request (subst (λ r. Contains r.facts.order request) (sym (same_Some (owner v3) d.0 d.1)) d.2)

mutual
  pub only_reached : (number : ℕ) → IsReached star_graph number → Reached number
  only_reached _ (IsReached.entry number c) = subst Reached (one_only 0 number c) Reached.user_is
  only_reached _ (IsReached.required number target r c) = absurd (calls_require number target c)
  only_reached _ (IsReached.imported number target r c) = absurd (calls_import number target c)
  only_reached _ (IsReached.declared number request target r d f) =
      absurd (true≢false (same_Some true false (sym (order_flagged number (only_reached number r) request target d) ∙ f)))
  only_reached _ (IsReached.stopped number request target stop name r d u s) =
      stop_reached target name stop s (through_named number request name (only_through number request name u) d.0 target d.1 d.3)
  only_reached _ (IsReached.declared_whole number request target r d w) =
      spaced_reached target (spaced_of number request (only_whole number request w) d.0 target d.1 d.3)

  pub only_used : (number : ℕ) (name : List ℕ) → IsUsed star_graph number name → Named number name
  only_used _ _ (IsUsed.by_request number request target name row w at t) = through_named number request name (only_through number request name w) row target at t
  only_used _ _ (IsUsed.by_require number target name r c x) = absurd (calls_require number target c)
  only_used _ _ (IsUsed.by_import number target name r c x) = absurd (calls_import number target c)
  only_used _ _ (IsUsed.by_space number request target name row w at t x) =
      spaced_named target name (spaced_of number request (only_whole number request w) row target at t) x

  pub only_through : (number request : ℕ) (name : List ℕ) → IsUsedThrough star_graph number request name → Through number request name
  only_through _ _ _ (IsUsedThrough.at_site number request name row r at s) = names_at number row (which number row at) request name s
  only_through _ _ _ (IsUsedThrough.passed_on number request exported name row u at p) =
      passes_on number exported (only_used number exported u) row at request name p

  pub only_whole : (number request : ℕ) → IsWholeThrough star_graph number request → Whole number request
  only_whole _ _ (IsWholeThrough.space_at_site number request row r at s) = space_at number row (which number row at) request s
  only_whole _ _ (IsWholeThrough.space_exported number request name row u at x) = exports_space number name (only_used number name u) row at request x
