-- The edges of a module that passes names on and may have side effects: it is an edge of its user, and of the modules that own the names, which
-- have none, only the one whose name is used is an edge of it.
use Rattle.std.proofs.Common.{◌≡◌, inr, ℕ, List, [], ◌∷◌, Contains, Some, refl, sym, ap, subst, ◌∙◌, arith}
use Rattle.std.proofs.lemmas.Option.{none-some}
use Rattle.pk_types.specs.declared.facts.Origin.TheVariants.{Other, Space}
use Rattle.pk_types.specs.declared.facts.Ref.TheVariants.{Imported}
use Rattle.pk_types.specs.declared.facts.SiteKind.TheVariants as site
use Rattle.pk_types.specs.declared.found.Found.TheVariants.{Binding}
use Rattle.pk_types.specs.Resolving.{origin_of, ResolvesTo}
use Rattle.pk_types.specs.Requests.{NamesAtSite}
use Rattle.pk_types.specs.Reexports.{FindsOne, PassesOn}
use Rattle.pk_types.specs.StopSearch.{StopsAt, HasStops}
use Rattle.pk_types.specs.ActiveEdges.{GoesThrough, SpaceGoesThrough, AreNamesThrough, GivesEdges, HasEdges}
use Rattle.pk_types.proofs.Parts.{Contains-one, one_only, none_within}
use Rattle.graph_laws.specs.SmallUse.{v2, user, owner}
use Rattle.graph_laws.proofs.SmallUse.{other_place, one_in_order, none_in_order}
use Rattle.graph_laws.specs.OpenBarrel.{open_barrel, open_graph, plain_graph}

names_none : (request : ℕ) (name : List ℕ) → NamesAtSite open_barrel request name → ⊥
names_none _ _ (NamesAtSite.reads place request name c a) = none_within (site.Read (Imported place)) c
names_none _ _ (NamesAtSite.writes place request name c a) = none_within (site.Write (Imported place)) c
names_none _ _ (NamesAtSite.member request name c) = none_within (site.Member request name) c

passes_on : (exported : List ℕ) → v2 ≡ exported → (request : ℕ) (name : List ℕ) → PassesOn open_graph 1 open_barrel exported request name
    → (request ≡ 1) × (name ≡ v2)
passes_on exported n _ _ (PassesOn.by_name request name o) = other_place request name (ap (origin_of open_barrel.facts) n ∙ o)
passes_on exported n _ _ (PassesOn.by_star star f) = absurd (none-some (Other 1 v2) (sym f.none ∙ sym (ap (origin_of open_barrel.facts) n)))

goes : (request : ℕ) (name : List ℕ) → GoesThrough open_graph 1 open_barrel (v2 ∷ []) request name → (request ≡ 1) × (name ≡ v2)
goes _ _ (GoesThrough.at_site request name s) = absurd (names_none request name s)
goes _ _ (GoesThrough.passed_on request exported name c p) = passes_on exported (one_only v2 exported c) request name p

no_space : (request : ℕ) → SpaceGoesThrough open_barrel (v2 ∷ []) request → ⊥
no_space _ (SpaceGoesThrough.at_site request s) = none_within (site.Space request) s
no_space _ (SpaceGoesThrough.exported request name c x) =
    let e : Some (Other 1 v2) ≡ Some (Space request) = ap (origin_of open_barrel.facts) (one_only v2 name c) ∙ x in grind arith

-- no name goes through the other requests
none_through : (request : ℕ) → (request ≡ 1 → ⊥) → AreNamesThrough open_graph 1 open_barrel (v2 ∷ []) request []
none_through request n = record { order = none_in_order; each = λ name. (λ c. none_within name c, λ g. absurd (n (goes request name g).0)) }

one_through : AreNamesThrough open_graph 1 open_barrel (v2 ∷ []) 1 (v2 ∷ [])
one_through = record {
  order = one_in_order v2;
  each = λ name. (
    λ c. subst (GoesThrough open_graph 1 open_barrel (v2 ∷ []) 1) (one_only v2 name c)
        (GoesThrough.passed_on 1 v2 v2 (Contains-one v2) (PassesOn.by_name 1 v2 refl)),
    λ g. subst (Contains (v2 ∷ [])) (sym (goes 1 name g).1) (Contains-one v2),
  );
}

owner_finds : FindsOne open_graph 3 v2 (Binding 3 0)
owner_finds = record {
  resolves = ((3, v2) ∷ [], ResolvesTo.own [] 3 v2 (owner v2) 0 (record { at = refl; kind = refl; first = λ c. none_within (3, v2) c }) refl);
  something = λ e. grind arith;
  one = λ e. grind arith;
}

owner_stops : HasStops open_graph 3 v2 (3 ∷ [])
owner_stops = ((3, v2) ∷ [], StopsAt.here [] 3 v2 (owner v2) (Binding 3 0) (λ c. none_within (3, v2) c) refl owner_finds (inr (inr (0, refl))))

pub user_edges : HasEdges open_graph 0 user [] (1 ∷ [])
user_edges = ((1 ∷ []) ∷ [], (GivesEdges.kept 0 1 refl refl, tt), refl)

pub barrel_edges : HasEdges open_graph 1 open_barrel (v2 ∷ []) (3 ∷ [])
barrel_edges = (
  [] ∷ (3 ∷ []) ∷ [] ∷ [],
  (
    GivesEdges.replaced 0 2 [] [] refl refl (no_space 0) (none_through 0 (λ e. omega (arith, e))) tt,
    (
      GivesEdges.replaced 1 3 (v2 ∷ []) ((3 ∷ []) ∷ []) refl refl (no_space 1) one_through (owner_stops, tt),
      (GivesEdges.replaced 2 4 [] [] refl refl (no_space 2) (none_through 2 (λ e. omega (arith, e))) tt, tt),
    ),
  ),
  refl,
)

-- where no module is flagged each declaration is an edge
pub plain_user_edges : HasEdges plain_graph 0 user [] (1 ∷ [])
plain_user_edges = ((1 ∷ []) ∷ [], (GivesEdges.kept 0 1 refl refl, tt), refl)

pub plain_barrel_edges : HasEdges plain_graph 1 open_barrel (v2 ∷ []) (2 ∷ 3 ∷ 4 ∷ [])
plain_barrel_edges = (
  (2 ∷ []) ∷ (3 ∷ []) ∷ (4 ∷ []) ∷ [],
  (GivesEdges.kept 0 2 refl refl, (GivesEdges.kept 1 3 refl refl, (GivesEdges.kept 2 4 refl refl, tt))),
  refl,
)
