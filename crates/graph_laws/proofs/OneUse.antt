-- A graph has its use in one way, and groups bring what they bring in one way.
use Rattle.std.proofs.Common.{◌≡◌, ℕ, Bool, true, false, List, Some, slice_get, refl, sym, ap, ◌∙◌, arith}
use Rattle.std.specs.Ordering.{nat_cmp, ordering_reverse}
use Rattle.std.specs.declared.cmp.Ordering.TheVariants.{Less}
use Rattle.std.specs.Cmp.Lexicographic.{slice_cmp}
use Rattle.std.proofs.lemmas.Cmp.{nat_list_cmp_total}
use Rattle.std.proofs.lemmas.Option.{same_Some}
use Rattle.pk_types.specs.declared.graph.Graph.{Graph}
use Rattle.pk_types.specs.declared.plan.Groups.{Groups}
use Rattle.pk_types.specs.declared.plan.Used.{Used}
use Rattle.pk_types.specs.Availability.{IsPlaced, ArePlaced}
use Rattle.pk_types.specs.Use.{HasUse}
use Rattle.pk_types.proofs.Members.{same_by_place}
use Rattle.pk_types.proofs.OneOrder.{same_in_order, same_all}

less_once : (name other : List ℕ) → slice_cmp nat_cmp name other ≡ Less → slice_cmp nat_cmp other name ≡ Less → ⊥
less_once name other e f =
    let g : Less ≡ ordering_reverse Less = sym e ∙ nat_list_cmp_total.antisymm name other ∙ ap ordering_reverse f in
    grind arith

same_bools : (x y : Bool) → (x ≡ true → y ≡ true) → (y ≡ true → x ≡ true) → x ≡ y
same_bools true y f g = sym (f refl)
same_bools false true f g = g refl
same_bools false false f g = refl

same_used : (used others : Used) → used.names ≡ others.names → used.whole ≡ others.whole → used ≡ others
same_used used others n w = grind arith

module _ (graph : Graph) (used others : Used) (one : HasUse graph used) (two : HasUse graph others) where
  same_names : (number : ℕ) (names others_names : List (List ℕ)) → slice_get used.names number ≡ Some names → slice_get others.names number ≡ Some others_names
      → names ≡ others_names
  same_names number names others_names e f =
      same_in_order (λ name other. slice_cmp nat_cmp name other ≡ Less) less_once names others_names (one.order number names e) (two.order number others_names f)
      (λ name. (
        λ m. (two.names number others_names f name).1 ((one.names number names e name).0 m),
        λ m. (one.names number names e name).1 ((two.names number others_names f name).0 m),
      ))

  same_whole : (number : ℕ) (whole other : Bool) → slice_get used.whole number ≡ Some whole → slice_get others.whole number ≡ Some other → whole ≡ other
  same_whole number whole other e f = same_bools whole other
      (λ t. same_Some other true (sym f ∙ (two.whole number).1 ((one.whole number).0 (e ∙ ap Some t))))
      (λ t. same_Some whole true (sym e ∙ (one.whole number).1 ((two.whole number).0 (f ∙ ap Some t))))

  pub use_once : used ≡ others
  use_once = same_used used others (same_by_place used.names others.names (one.each_names ∙ sym two.each_names) same_names)
      (same_by_place used.whole others.whole (one.each_whole ∙ sym two.each_whole) same_whole)

pub placed_once : (groups : Groups) (placed others : List (List ℕ)) → ArePlaced groups placed → ArePlaced groups others → placed ≡ others
placed_once groups placed others one two = same_by_place placed others (one.each ∙ sym two.each)
    (λ group modules there e f. same_all (IsPlaced groups group) modules there (one.modules group modules e) (two.modules group there f))
