-- Graphs whose sites are all an `import()`, and whose modules export nothing: no name is used.
use Rattle.std.proofs.Common.{◌≡◌, inl, inr, ℕ, zero, suc, ◌<◌, true, List, [], ◌∷◌, length, map, Contains, Some, slice_get, sym, subst, arith}
use Rattle.std.specs.List.{AllByRecursion}
use Rattle.std.specs.List.Sorted.{IsStrictlyIncreasing}
use Rattle.std.proofs.lemmas.List.Elements.{All-from_recursion, All-contains}
use Rattle.pk_types.specs.declared.facts.Ref.TheVariants.{Imported}
use Rattle.pk_types.specs.declared.facts.SiteKind.{SiteKind}
use Rattle.pk_types.specs.declared.facts.SiteKind.TheVariants as site
use Rattle.pk_types.specs.declared.graph.Graph.{Graph}
use Rattle.pk_types.specs.declared.graph.Row.{Row}
use Rattle.pk_types.specs.declared.plan.Used.{Used}
use Rattle.pk_types.specs.ExportedNames.{AreInByteOrder, ExportsItself, StarLeadsTo, IsStarred, IsExported}
use Rattle.pk_types.specs.Requests.{site_kinds, CallsRequire, NamesAtSite}
use Rattle.pk_types.specs.Use.{IsUsed, IsUsedThrough, IsWholeThrough, HasUse}
use Rattle.pk_types.specs.ChunkGroups.{IsInClosure, AreAll}
use Rattle.pk_types.proofs.Parts.{none_within}
use Rattle.graph_laws.proofs.Tests.{has, passes}

abbrev pub IsLater : SiteKind → Type 0
IsLater kind = (request : ℕ) × (site.Import request ≡ kind)

no_read : (place : ℕ) → IsLater (site.Read (Imported place)) → ⊥
no_read place l = let e = l.1 in grind arith

no_write : (place : ℕ) → IsLater (site.Write (Imported place)) → ⊥
no_write place l = let e = l.1 in grind arith

no_member : (request : ℕ) (name : List ℕ) → IsLater (site.Member request name) → ⊥
no_member request name l = let e = l.1 in grind arith

no_space : (request : ℕ) → IsLater (site.Space request) → ⊥
no_space request l = let e = l.1 in grind arith

no_require : (request : ℕ) → IsLater (site.Require request) → ⊥
no_require request l = let e = l.1 in grind arith

none_in_order : AreInByteOrder []
none_in_order i j d h l = absurd (omega (arith, h, l))

module _ (graph : Graph)
    (sites : (number : ℕ) (row : Row) → slice_get graph.rows number ≡ Some row → (kind : SiteKind) → Contains (site_kinds row) kind → IsLater kind)
    (exports : (number : ℕ) (row : Row) → slice_get graph.rows number ≡ Some row → row.facts.exports ≡ [])
    (stars : (number : ℕ) (row : Row) → slice_get graph.rows number ≡ Some row → row.facts.stars ≡ []) where
  pub calls_require : (number target : ℕ) → CallsRequire graph number target → ⊥
  calls_require number target c = no_require c.1 (sites number c.0 c.2 (site.Require c.1) c.3)

  names_none : (number : ℕ) (row : Row) → slice_get graph.rows number ≡ Some row → (request : ℕ) (name : List ℕ) → NamesAtSite row request name → ⊥
  names_none number row w _ _ (NamesAtSite.reads place request name c a) = no_read place (sites number row w (site.Read (Imported place)) c)
  names_none number row w _ _ (NamesAtSite.writes place request name c a) = no_write place (sites number row w (site.Write (Imported place)) c)
  names_none number row w _ _ (NamesAtSite.member request name c) = no_member request name (sites number row w (site.Member request name) c)

  itself_none : (number : ℕ) (name : List ℕ) → ExportsItself graph number name → ⊥
  itself_none number name x = none_within name (subst (λ l. Contains (map (λ entry. entry.name) l) name) (exports number x.0 x.1) x.2)

  star_none : (number target : ℕ) → StarLeadsTo graph number target → ⊥
  star_none number target x = none_within x.1 (subst (λ l. Contains l x.1) (stars number x.0 x.2) x.3)

  starred_none : (number : ℕ) (name : List ℕ) → IsStarred graph number name → ⊥
  starred_none _ _ (IsStarred.here number target name s x) = star_none number target s
  starred_none _ _ (IsStarred.further number target name s x) = star_none number target s

  exported_none : (number : ℕ) (name : List ℕ) → IsExported graph number name → ⊥
  exported_none number name (inl x) = itself_none number name x
  exported_none number name (inr x) = starred_none number name x.1

  mutual
    none_used : (number : ℕ) (name : List ℕ) → IsUsed graph number name → ⊥
    none_used _ _ (IsUsed.by_request number request target name row w at u) = none_through number request name w
    none_used _ _ (IsUsed.by_require number target name r c x) = exported_none target name x
    none_used _ _ (IsUsed.by_import number target name r c x) = exported_none target name x
    none_used _ _ (IsUsed.by_space number request target name row w at u x) = exported_none target name x

    none_through : (number request : ℕ) (name : List ℕ) → IsUsedThrough graph number request name → ⊥
    none_through _ _ _ (IsUsedThrough.at_site number request name row r at s) = names_none number row at request name s
    none_through _ _ _ (IsUsedThrough.passed_on number request exported name row u at x) = none_used number exported u

  none_whole : (number request : ℕ) → IsWholeThrough graph number request → ⊥
  none_whole _ _ (IsWholeThrough.space_at_site number request row r at s) = no_space request (sites number row at (site.Space request) s)
  none_whole _ _ (IsWholeThrough.space_exported number request name row u at x) = none_used number name u

  pub quiet_use : (used : Used) → length used.names ≡ length graph.rows → length used.whole ≡ length graph.rows
      → ((number : ℕ) (names : List (List ℕ)) → slice_get used.names number ≡ Some names → [] ≡ names)
      → ((number : ℕ) → slice_get used.whole number ≡ Some true → ⊥) → HasUse graph used
  quiet_use used each_names each_whole empty none = record {
    each_names = each_names;
    each_whole = each_whole;
    order = λ number names e. subst AreInByteOrder (empty number names e) none_in_order;
    names = λ number names e name.
        (λ c. none_within name (subst (λ l. Contains l name) (sym (empty number names e)) c), λ u. absurd (none_used number name u));
    whole = λ number. (λ e. absurd (none number e), λ w. absurd (none_whole w.0 w.1 w.3));
  }

  -- a list that has the first module, and with a module its edges, has the closure
  pub within : (edges : List (List ℕ)) (from : ℕ) (modules : List ℕ) → has modules from ≡ true
      → ((number target : ℕ) (targets : List ℕ) → slice_get edges number ≡ Some targets → Contains targets target → has modules target ≡ true)
      → (number : ℕ) → IsInClosure graph edges from number → has modules number ≡ true
  within edges from modules h step _ IsInClosure.itself = h
  within edges from modules h step _ (IsInClosure.along number target targets i e c) = step number target targets e c
  within edges from modules h step _ (IsInClosure.required number target i c) = absurd (calls_require number target c)

pub rising_none : IsStrictlyIncreasing []
rising_none k l = absurd (omega (arith, l))

pub rising_one : (a : ℕ) → IsStrictlyIncreasing (a ∷ [])
rising_one a k l = absurd (omega (arith, l))

pub rising_two : (a b : ℕ) → a < b → IsStrictlyIncreasing (a ∷ b ∷ [])
rising_two a b h zero l = h
rising_two a b h (suc k) l = absurd (omega (arith, l))

pub all_of : (P : ℕ → Type 0) (numbers : List ℕ) → IsStrictlyIncreasing numbers → AllByRecursion P numbers
    → ((number : ℕ) → P number → has numbers number ≡ true) → AreAll P numbers
all_of P numbers up each only = record {
  ascending = up;
  each = λ number. (λ c. All-contains P numbers number (All-from_recursion P numbers each) c, λ p. passes numbers number (only number p));
}
