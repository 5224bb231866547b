-- The search for the stops of a name has one answer.
use Rattle.std.proofs.Common.{◌≡◌, ◌⊎◌, inl, inr, ℕ, List, [], ◌∷◌, ◌++◌, Contains, Option, Some, None, slice_get, refl, sym, ap, subst, ◌∙◌}
use Rattle.std.proofs.lemmas.Option.{none-some, same_Some}
use Rattle.pk_types.specs.declared.facts.Origin.{Origin}
use Rattle.pk_types.specs.declared.facts.Origin.TheVariants.{Own, Other, Space}
use Rattle.pk_types.specs.declared.graph.Graph.{Graph}
use Rattle.pk_types.specs.declared.graph.Row.{Row}
use Rattle.pk_types.specs.declared.found.Found.{Found}
use Rattle.pk_types.specs.declared.found.Found.TheVariants.{Nothing, Ambiguous}
use Rattle.pk_types.specs.Resolving.{Pair, origin_of, Resolves}
use Rattle.pk_types.specs.Reexports.{FindsOne}
use Rattle.pk_types.specs.Stops.{EndsAt, IsPassed}
use Rattle.pk_types.specs.StopSearch.{AreFoundThrough, StopsAt, StarsStopAt, HasStops}
use Rattle.pk_types.proofs.OneAnswer.{resolves_once}
use Rattle.pk_types.proofs.OneOrder.{same_rising}
use Rattle.pk_types.proofs.Stops.{own_other, own_space, other_space, same_space, same_other, not_end}

module _ (graph : Graph) where
  lost_found : (number : ℕ) (name : List ℕ) (found other : Found) → Resolves graph number name found → (found ≡ Nothing) ⊎ (found ≡ Ambiguous)
      → FindsOne graph number name other → ⊥
  lost_found number name found other r (inl e) f = f.something (resolves_once graph number name other found f.resolves r ∙ e)
  lost_found number name found other r (inr e) f = f.one (resolves_once graph number name other found f.resolves r ∙ e)

  module _ (number : ℕ) (name : List ℕ) (row other : Row) (p : IsPassed graph number name row) (q : IsPassed graph number name other) where
    same_row : row ≡ other
    same_row = same_Some row other (sym p.at ∙ q.at)

    moved : {x : Option Origin} → origin_of other.facts name ≡ x → origin_of row.facts name ≡ x
    moved e = ap (λ r. origin_of r.facts name) same_row ∙ e

    same_target : (request place target there : ℕ) → request ≡ place → slice_get row.targets request ≡ Some target → slice_get other.targets place ≡ Some there
        → target ≡ there
    same_target request place target there e t u =
        same_Some target there (sym t ∙ ap (λ r. slice_get r.targets request) same_row ∙ ap (slice_get other.targets) e ∙ u)

  -- a module that is passed is none at which the name ends
  not_there : (number : ℕ) (name : List ℕ) (row other : Row) → IsPassed graph number name row → slice_get graph.rows number ≡ Some other
      → ((binding : ℕ) → origin_of row.facts name ≡ Some (Own binding) → ⊥) → EndsAt other name → ⊥
  not_there number name row other p at lacks e =
      not_end row name p.flagged p.kind lacks (subst (λ r. EndsAt r name) (same_Some other row (sym at ∙ p.at)) e)

  at_gone : (before : List Pair) (number : ℕ) (name stops : List ℕ) (last : List Pair) → Contains before (number, name)
      → StopsAt graph before number name stops last → ([] ≡ stops) × (before ≡ last)
  at_gone _ _ _ _ _ c (StopsAt.gone before number name d) = (refl, refl)
  at_gone _ _ _ _ _ c (StopsAt.lost before number name found n r l) = absurd (n c)
  at_gone _ _ _ _ _ c (StopsAt.here before number name row found n at f e) = absurd (n c)
  at_gone _ _ _ _ _ c (StopsAt.namespace before number name row request target n p o t) = absurd (n c)
  at_gone _ _ _ _ _ c (StopsAt.by_name before number name row request target other stops last n p o t d) = absurd (n c)
  at_gone _ _ _ _ _ c (StopsAt.by_stars before number name row stars stops last n p o a d) = absurd (n c)

  at_lost : (before : List Pair) (number : ℕ) (name : List ℕ) (found : Found) (stops : List ℕ) (last : List Pair) → ¬ Contains before (number, name)
      → Resolves graph number name found → (found ≡ Nothing) ⊎ (found ≡ Ambiguous)
      → StopsAt graph before number name stops last → ([] ≡ stops) × (before ++ (number, name) ∷ [] ≡ last)
  at_lost _ _ _ found _ _ n r l (StopsAt.gone before number name d) = absurd (n d)
  at_lost _ _ _ found _ _ n r l (StopsAt.lost before number name also m s k) = (refl, refl)
  at_lost _ _ _ found _ _ n r l (StopsAt.here before number name row also m at f e) = absurd (lost_found number name found also r l f)
  at_lost _ _ _ found _ _ n r l (StopsAt.namespace before number name row request target m p o t) = absurd (lost_found number name found p.found r l p.finds)
  at_lost _ _ _ found _ _ n r l (StopsAt.by_name before number name row request target other stops last m p o t d) =
      absurd (lost_found number name found p.found r l p.finds)
  at_lost _ _ _ found _ _ n r l (StopsAt.by_stars before number name row stars stops last m p o a d) = absurd (lost_found number name found p.found r l p.finds)

  at_here : (before : List Pair) (number : ℕ) (name : List ℕ) (row : Row) (found : Found) (stops : List ℕ) (last : List Pair) → ¬ Contains before (number, name)
      → slice_get graph.rows number ≡ Some row → FindsOne graph number name found → EndsAt row name
      → StopsAt graph before number name stops last → (number ∷ [] ≡ stops) × (before ++ (number, name) ∷ [] ≡ last)
  at_here _ _ _ row found _ _ n at f e (StopsAt.gone before number name d) = absurd (n d)
  at_here _ _ _ row found _ _ n at f e (StopsAt.lost before number name also m s k) = absurd (lost_found number name also found s k f)
  at_here _ _ _ row found _ _ n at f e (StopsAt.here before number name other also m there g h) = (refl, refl)
  at_here _ _ _ row found _ _ n at f e (StopsAt.namespace before number name other request target m p o t) =
      absurd (not_there number name other row p at (λ binding b. own_space binding request o b) e)
  at_here _ _ _ row found _ _ n at f e (StopsAt.by_name before number name other request target named stops last m p o t d) =
      absurd (not_there number name other row p at (λ binding b. own_other binding request named o b) e)
  at_here _ _ _ row found _ _ n at f e (StopsAt.by_stars before number name other stars stops last m p o a d) =
      absurd (not_there number name other row p at (λ binding b. none-some (Own binding) (sym o ∙ b)) e)

  at_space : (before : List Pair) (number : ℕ) (name : List ℕ) (row : Row) (request target : ℕ) (stops : List ℕ) (last : List Pair)
      → ¬ Contains before (number, name) → IsPassed graph number name row → origin_of row.facts name ≡ Some (Space request)
      → slice_get row.targets request ≡ Some target
      → StopsAt graph before number name stops last → (target ∷ [] ≡ stops) × (before ++ (number, name) ∷ [] ≡ last)
  at_space _ _ _ row request target _ _ n p o t (StopsAt.gone before number name d) = absurd (n d)
  at_space _ _ _ row request target _ _ n p o t (StopsAt.lost before number name also m s k) = absurd (lost_found number name also p.found s k p.finds)
  at_space _ _ _ row request target _ _ n p o t (StopsAt.here before number name other also m there g h) =
      absurd (not_there number name row other p there (λ binding b. own_space binding request o b) h)
  at_space _ _ _ row request target _ _ n p o t (StopsAt.namespace before number name other place there m q u v) =
      (ap (λ k. k ∷ []) (same_target number name row other p q request place target there (same_space request place o (moved number name row other p q u)) t v), refl)
  at_space _ _ _ row request target _ _ n p o t (StopsAt.by_name before number name other place there named stops last m q u v d) =
      absurd (other_space request place named o (moved number name row other p q u))
  at_space _ _ _ row request target _ _ n p o t (StopsAt.by_stars before number name other stars stops last m q u a d) =
      absurd (none-some (Space request) (sym (moved number name row other p q u) ∙ o))

  at_name : (before : List Pair) (number : ℕ) (name : List ℕ) (row : Row) (request target : ℕ) (named stops : List ℕ) (last : List Pair)
      → ¬ Contains before (number, name) → IsPassed graph number name row → origin_of row.facts name ≡ Some (Other request named)
      → slice_get row.targets request ≡ Some target
      → StopsAt graph before number name stops last → StopsAt graph (before ++ (number, name) ∷ []) target named stops last
  at_name _ _ _ row request target named _ _ n p o t (StopsAt.gone before number name d) = absurd (n d)
  at_name _ _ _ row request target named _ _ n p o t (StopsAt.lost before number name also m s k) = absurd (lost_found number name also p.found s k p.finds)
  at_name _ _ _ row request target named _ _ n p o t (StopsAt.here before number name other also m there g h) =
      absurd (not_there number name row other p there (λ binding b. own_other binding request named o b) h)
  at_name _ _ _ row request target named _ _ n p o t (StopsAt.namespace before number name other place there m q u v) =
      absurd (other_space place request named (moved number name row other p q u) o)
  at_name _ _ _ row request target named _ _ n p o t (StopsAt.by_name before number name other place there called stops last m q u v d) =
      let e = same_other request place named called o (moved number name row other p q u) in
      subst (λ k. StopsAt graph (before ++ (number, name) ∷ []) k named stops last) (sym (same_target number name row other p q request place target there e.0 t v))
      (subst (λ k. StopsAt graph (before ++ (number, name) ∷ []) there k stops last) (sym e.1) d)
  at_name _ _ _ row request target named _ _ n p o t (StopsAt.by_stars before number name other stars stops last m q u a d) =
      absurd (none-some (Other request named) (sym (moved number name row other p q u) ∙ o))

  same_stars : (number : ℕ) (name : List ℕ) (row other : Row) (stars more : List ℕ) → row ≡ other → AreFoundThrough graph number row name stars
      → AreFoundThrough graph number other name more → more ≡ stars
  same_stars number name row other stars more e a b =
      let c = subst (λ r. AreFoundThrough graph number r name more) (sym e) b in
      same_rising more stars c.ascending a.ascending (λ star. (λ m. (a.each star).1 ((c.each star).0 m), λ m. (c.each star).1 ((a.each star).0 m)))

  at_stars : (before : List Pair) (number : ℕ) (name : List ℕ) (row : Row) (stars stops : List ℕ) (last : List Pair)
      → ¬ Contains before (number, name) → IsPassed graph number name row → origin_of row.facts name ≡ None → AreFoundThrough graph number row name stars
      → StopsAt graph before number name stops last → StarsStopAt graph (before ++ (number, name) ∷ []) row.targets name stars stops last
  at_stars _ _ _ row stars _ _ n p o a (StopsAt.gone before number name d) = absurd (n d)
  at_stars _ _ _ row stars _ _ n p o a (StopsAt.lost before number name also m s k) = absurd (lost_found number name also p.found s k p.finds)
  at_stars _ _ _ row stars _ _ n p o a (StopsAt.here before number name other also m there g h) =
      absurd (not_there number name row other p there (λ binding b. none-some (Own binding) (sym o ∙ b)) h)
  at_stars _ _ _ row stars _ _ n p o a (StopsAt.namespace before number name other place there m q u v) =
      absurd (none-some (Space place) (sym o ∙ moved number name row other p q u))
  at_stars _ _ _ row stars _ _ n p o a (StopsAt.by_name before number name other place there named stops last m q u v d) =
      absurd (none-some (Other place named) (sym o ∙ moved number name row other p q u))
  at_stars _ _ _ row stars _ _ n p o a (StopsAt.by_stars before number name other more stops last m q u b d) =
      let e = same_row number name row other p q in
      subst (λ l. StarsStopAt graph (before ++ (number, name) ∷ []) row.targets name l stops last) (same_stars number name row other stars more e a b)
      (subst (λ r. StarsStopAt graph (before ++ (number, name) ∷ []) r.targets name more stops last) (sym e) d)

  at_next : (before between : List Pair) (targets name : List ℕ) (star target : ℕ) (stars stops others : List ℕ) (last : List Pair)
      → slice_get targets star ≡ Some target
      → ((found : List ℕ) (end : List Pair) → StopsAt graph before target name found end → (stops ≡ found) × (between ≡ end))
      → StarsStopAt graph before targets name (star ∷ stars) others last
      → (more : List ℕ) × (others ≡ stops ++ more) × StarsStopAt graph between targets name stars more last
  at_next _ between _ _ _ target _ stops _ _ t same (StarsStopAt.next before middle last targets name star there stars first more u d e) =
      let p = same first middle (subst (λ m. StopsAt graph before m name first middle) (same_Some there target (sym u ∙ t)) d) in
      (more, ap (λ l. l ++ more) (sym p.0), subst (λ b. StarsStopAt graph b targets name stars more last) (sym p.1) e)

  at_end : (before : List Pair) (targets name others : List ℕ) (last : List Pair) → StarsStopAt graph before targets name [] others last
      → ([] ≡ others) × (before ≡ last)
  at_end _ _ _ _ _ (StarsStopAt.ended before targets name) = (refl, refl)

  mutual
    pub one_search : (before : List Pair) (number : ℕ) (name stops : List ℕ) (last : List Pair) → StopsAt graph before number name stops last
        → (others : List ℕ) (end : List Pair) → StopsAt graph before number name others end → (stops ≡ others) × (last ≡ end)
    one_search _ _ _ _ _ (StopsAt.gone before number name c) others end d = at_gone before number name others end c d
    one_search _ _ _ _ _ (StopsAt.lost before number name found n r l) others end d = at_lost before number name found others end n r l d
    one_search _ _ _ _ _ (StopsAt.here before number name row found n at f e) others end d = at_here before number name row found others end n at f e d
    one_search _ _ _ _ _ (StopsAt.namespace before number name row request target n p o t) others end d =
        at_space before number name row request target others end n p o t d
    one_search _ _ _ _ _ (StopsAt.by_name before number name row request target named stops last n p o t e) others end d =
        one_search (before ++ (number, name) ∷ []) target named stops last e others end (at_name before number name row request target named others end n p o t d)
    one_search _ _ _ _ _ (StopsAt.by_stars before number name row stars stops last n p o a e) others end d =
        one_by_stars (before ++ (number, name) ∷ []) row.targets name stars stops last e others end (at_stars before number name row stars others end n p o a d)

    one_by_stars : (before : List Pair) (targets name stars stops : List ℕ) (last : List Pair) → StarsStopAt graph before targets name stars stops last
        → (others : List ℕ) (end : List Pair) → StarsStopAt graph before targets name stars others end → (stops ≡ others) × (last ≡ end)
    one_by_stars _ _ _ _ _ _ (StarsStopAt.ended before targets name) others end d = at_end before targets name others end d
    one_by_stars _ _ _ _ _ _ (StarsStopAt.next before between last targets name star target stars stops more t e f) others end d =
        let g = at_next before between targets name star target stars stops others end t (one_search before target name stops between e) d in
        let h = one_by_stars between targets name stars more last f g.0 end g.2 in
        (ap (λ l. stops ++ l) h.0 ∙ sym g.1, h.1)

  -- the stops of a name are one list
  pub stops_once : (number : ℕ) (name stops others : List ℕ) → HasStops graph number name stops → HasStops graph number name others → stops ≡ others
  stops_once number name stops others h g = (one_search [] number name stops h.0 h.1 others g.0 g.1).0
