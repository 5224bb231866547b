-- A graph and its use have active edges in one way.
use Rattle.std.proofs.Common.{◌≡◌, ℕ, Bool, true, false, true≢false, List, [], ◌∷◌, Contains, Some, slice_get, refl, sym, ap, subst, ◌∙◌, arith}
use Rattle.std.specs.List.{AllZip, concat}
use Rattle.std.specs.Ordering.{nat_cmp, ordering_reverse}
use Rattle.std.specs.declared.cmp.Ordering.TheVariants.{Less}
use Rattle.std.specs.Cmp.Lexicographic.{slice_cmp}
use Rattle.std.proofs.lemmas.Cmp.{nat_list_cmp_total}
use Rattle.std.proofs.lemmas.Option.{same_Some}
use Rattle.pk_types.specs.declared.graph.Graph.{Graph}
use Rattle.pk_types.specs.declared.graph.Row.{Row}
use Rattle.pk_types.specs.declared.plan.Active.{Active}
use Rattle.pk_types.specs.declared.plan.Used.{Used}
use Rattle.pk_types.specs.Requests.{flag_of}
use Rattle.pk_types.specs.StopSearch.{HasStops}
use Rattle.pk_types.specs.ActiveEdges.{SpaceGoesThrough, AreNamesThrough, GivesEdges, HasEdges, IsLedTo, IsActive}
use Rattle.pk_text.specs.FirstPlaces.{first_places}
use Rattle.pk_types.proofs.Members.{as_long, same_by_place}
use Rattle.pk_types.proofs.OneOrder.{same_in_order}
use Rattle.pk_types.proofs.OneSearch.{stops_once}

less_once : (name other : List ℕ) → slice_cmp nat_cmp name other ≡ Less → slice_cmp nat_cmp other name ≡ Less → ⊥
less_once name other e f =
    let g : Less ≡ ordering_reverse Less = sym e ∙ nat_list_cmp_total.antisymm name other ∙ ap ordering_reverse f in
    grind arith

zip_same : {A : Type 0} (R : A → List ℕ → Type 0) → ((a : A) (x y : List ℕ) → R a x → R a y → x ≡ y) → (keys : List A) (xs ys : List (List ℕ))
    → AllZip R keys xs → AllZip R keys ys → xs ≡ ys
zip_same R once [] [] [] z w = refl
zip_same R once [] [] (y ∷ ys) z w = absurd w
zip_same R once [] (x ∷ xs) ys z w = absurd z
zip_same R once (key ∷ keys) [] ys z w = absurd z
zip_same R once (key ∷ keys) (x ∷ xs) [] z w = absurd w
zip_same R once (key ∷ keys) (x ∷ xs) (y ∷ ys) z w = ap (λ v. v ∷ xs) (once key x y z.0 w.0) ∙ ap (λ l. y ∷ l) (zip_same R once keys xs ys z.1 w.1)

same_bools : (x y : Bool) → (x ≡ true → y ≡ true) → (y ≡ true → x ≡ true) → x ≡ y
same_bools true y f g = sym (f refl)
same_bools false true f g = g refl
same_bools false false f g = refl

same_active : (active other : Active) → active.edges ≡ other.edges → active.reached ≡ other.reached → active ≡ other
same_active active other e r = grind arith

module _ (graph : Graph) where
  module _ (number : ℕ) (row : Row) (used : List (List ℕ)) where
    names_once : (request : ℕ) (names others : List (List ℕ)) → AreNamesThrough graph number row used request names
        → AreNamesThrough graph number row used request others → names ≡ others
    names_once request names others a b =
        same_in_order (λ name other. slice_cmp nat_cmp name other ≡ Less) less_once names others a.order b.order
        (λ name. (λ m. (b.each name).1 ((a.each name).0 m), λ m. (a.each name).1 ((b.each name).0 m)))

    same_target : (request target there : ℕ) → slice_get row.targets request ≡ Some target → slice_get row.targets request ≡ Some there → target ≡ there
    same_target request target there t u = same_Some target there (sym t ∙ u)

    flags_differ : {B : Type 0} (request target there : ℕ) → slice_get row.targets request ≡ Some target → slice_get row.targets request ≡ Some there
        → flag_of graph target ≡ Some false → flag_of graph there ≡ Some true → B
    flags_differ request target there t u f g =
        absurd (true≢false (same_Some true false (sym g ∙ sym (ap (flag_of graph) (same_target request target there t u)) ∙ f)))

    at_kept : (request target : ℕ) (part : List ℕ) → slice_get row.targets request ≡ Some target → flag_of graph target ≡ Some false
        → GivesEdges graph number row used request part → target ∷ [] ≡ part
    at_kept _ target _ t f (GivesEdges.kept request there u g) = ap (λ k. k ∷ []) (same_target request target there t u)
    at_kept _ target _ t f (GivesEdges.whole request there u g s) = flags_differ request target there t u f g
    at_kept _ target _ t f (GivesEdges.replaced request there names stops u g n a z) = flags_differ request target there t u f g

    at_whole : (request target : ℕ) (part : List ℕ) → slice_get row.targets request ≡ Some target → flag_of graph target ≡ Some true
        → SpaceGoesThrough row used request → GivesEdges graph number row used request part → target ∷ [] ≡ part
    at_whole _ target _ t f s (GivesEdges.kept request there u g) = flags_differ request there target u t g f
    at_whole _ target _ t f s (GivesEdges.whole request there u g r) = ap (λ k. k ∷ []) (same_target request target there t u)
    at_whole _ target _ t f s (GivesEdges.replaced request there names stops u g n a z) = absurd (n s)

    at_replaced : (request target : ℕ) (names stops : List (List ℕ)) (part : List ℕ) → slice_get row.targets request ≡ Some target
        → flag_of graph target ≡ Some true → ¬ SpaceGoesThrough row used request → AreNamesThrough graph number row used request names
        → AllZip (HasStops graph target) names stops → GivesEdges graph number row used request part → concat stops ≡ part
    at_replaced _ target names stops _ t f n a z (GivesEdges.kept request there u g) = flags_differ request there target u t g f
    at_replaced _ target names stops _ t f n a z (GivesEdges.whole request there u g s) = absurd (n s)
    at_replaced _ target names stops _ t f n a z (GivesEdges.replaced request there others more u g m b w) =
        let q = same_target request target there t u in
        let v = subst (λ k. AllZip (HasStops graph k) others more) (sym q) w in
        let y = subst (λ l. AllZip (HasStops graph target) l more) (sym (names_once request names others a b)) v in
        ap concat (zip_same (HasStops graph target) (stops_once graph target) names stops more z y)

    part_once : (request : ℕ) (part other : List ℕ) → GivesEdges graph number row used request part → GivesEdges graph number row used request other → part ≡ other
    part_once _ _ other (GivesEdges.kept request target t f) d = at_kept request target other t f d
    part_once _ _ other (GivesEdges.whole request target t f s) d = at_whole request target other t f s d
    part_once _ _ other (GivesEdges.replaced request target names stops t f n a z) d = at_replaced request target names stops other t f n a z d

    pub edges_once : (edges others : List ℕ) → HasEdges graph number row used edges → HasEdges graph number row used others → edges ≡ others
    edges_once edges others h g =
        h.2 ∙ ap (λ parts. first_places (concat parts)) (zip_same (GivesEdges graph number row used) part_once row.facts.order h.0 g.0 h.1 g.1) ∙ sym g.2

  module _ (used : Used) where
    at_reached : (active other : Active) → IsActive graph used active → IsActive graph used other → (number : ℕ) (edges more : List ℕ)
        → slice_get active.reached number ≡ Some true → slice_get other.reached number ≡ Some true
        → slice_get active.edges number ≡ Some edges → slice_get other.edges number ≡ Some more → edges ≡ more
    at_reached active other right also number edges more r s e f =
        let w = as_long active.edges graph.rows number edges e (sym right.each_edges) in
        let h = right.edges number w.0 edges r w.1 e in
        let g = also.edges number w.0 more s w.1 f in
        let q = same_Some h.0 g.0 (sym h.1 ∙ g.1) in
        edges_once number w.0 g.0 edges more (subst (λ n. HasEdges graph number w.0 n edges) q h.2) g.2

    led_moves : (active other : Active) → IsActive graph used active → IsActive graph used other → (number : ℕ) → IsLedTo graph active.edges number
        → IsLedTo graph other.edges number
    led_moves active other right also _ (IsLedTo.entry number c) = IsLedTo.entry number c
    led_moves active other right also _ (IsLedTo.along number target targets l e m) =
        let k = led_moves active other right also number l in
        let o = as_long active.edges other.edges number targets e (also.each_edges ∙ sym right.each_edges) in
        let q = at_reached active other right also number targets o.0 ((right.reached number).1 l) ((also.reached number).1 k) e o.1 in
        IsLedTo.along number target o.0 k o.1 (subst (λ t. Contains t target) q m)
    led_moves active other right also _ (IsLedTo.required number target l c) = IsLedTo.required number target (led_moves active other right also number l) c
    led_moves active other right also _ (IsLedTo.imported number target l c) = IsLedTo.imported number target (led_moves active other right also number l) c

    reached_moves : (active other : Active) → IsActive graph used active → IsActive graph used other → (number : ℕ) (x y : Bool)
        → slice_get active.reached number ≡ Some x → slice_get other.reached number ≡ Some y → x ≡ true → y ≡ true
    reached_moves active other right also number x y e f h =
        same_Some y true (sym f ∙ (also.reached number).1 (led_moves active other right also number ((right.reached number).0 (e ∙ ap Some h))))

    module _ (active other : Active) (right : IsActive graph used active) (also : IsActive graph used other) where
      same_reached : active.reached ≡ other.reached
      same_reached = same_by_place active.reached other.reached (right.each_reached ∙ sym also.each_reached) (λ number x y e f.
          same_bools x y (reached_moves active other right also number x y e f) (reached_moves other active also right number y x f e))

      by_reached : (number : ℕ) (edges more : List ℕ) (flag : Bool) → slice_get active.reached number ≡ Some flag
          → slice_get active.edges number ≡ Some edges → slice_get other.edges number ≡ Some more → edges ≡ more
      by_reached number edges more true r e f =
          at_reached active other right also number edges more r (subst (λ l. slice_get l number ≡ Some true) same_reached r) e f
      by_reached number edges more false r e f =
          same_Some edges [] (sym e ∙ right.others number r)
          ∙ same_Some [] more (sym (also.others number (subst (λ l. slice_get l number ≡ Some false) same_reached r)) ∙ f)

      same_edges : active.edges ≡ other.edges
      same_edges = same_by_place active.edges other.edges (right.each_edges ∙ sym also.each_edges) (λ number edges more e f.
          let r = as_long active.edges active.reached number edges e (right.each_reached ∙ sym right.each_edges) in
          by_reached number edges more r.0 r.1 e f)

      pub active_once : active ≡ other
      active_once = same_active active other same_edges same_reached
