-- The lists of all scopes, by what is listed and what is spelled.
use Rattle.std.proofs.Common.{◌≡◌, ◌⊎◌, inl, inr, ⊎_elim, ◌<◌, ◌+◌, ℕ, Bool, true, List, [], ◌∷◌, ◌++◌, Option, Some, None, length, get_or, slice_get, Contains, sym, ap, subst, ◌∙◌, arith}
use Rattle.std.proofs.lemmas.List.{get_or_append_left, get_or_push, length-append}
use Rattle.std.proofs.lemmas.Option.{slice_get-get_or, slice_get_within, get_or_from_slice_get}
use Rattle.emit_body.specs.declared.getters.Getter.{Getter}
use Rattle.emit_body.specs.declared.getters.ScopeGetters.{ScopeGetters}
use Rattle.pk_types.specs.declared.plan.Active.{Active}
use Rattle.pk_types.specs.declared.plan.Used.{Used}
use Rattle.module_spelling.specs.Layout.{Layout}
use Rattle.scope_getters.specs.Gaining.{AreSpaces, AreCells, AreListed, IsListed, IsOfModule, IsOfSpace, Below}
use Rattle.scope_getters.specs.Scopes.{Cell, IsCell, IsScope, AreSpace}

next_place : (n k : ℕ) → k < n + 1 → (k < n) ⊎ (n ≡ k)
next_place n k h = grind arith

-- what holds of each item holds with one more behind
pub one_behind : {X : Type 0} (Holds : ℕ → X → Type 0) (old new : List X) (count : ℕ) (x : X) → new ≡ old ++ x ∷ [] → length old ≡ count
    → ((place : ℕ) (y : X) → slice_get old place ≡ Some y → Holds place y) → Holds count x → (place : ℕ) (y : X) → slice_get new place ≡ Some y → Holds place y
one_behind Holds old new count x is each before last place y at =
    let there : slice_get (old ++ x ∷ []) place ≡ Some y = ap (λ l. slice_get l place) (sym is) ∙ at in
    let within : place < count + 1 = omega (arith, slice_get_within (old ++ x ∷ []) place y there, length-append old (x ∷ []), each) in
    let got : get_or (old ++ x ∷ []) place y ≡ y = get_or_from_slice_get (old ++ x ∷ []) place y y there in
    ⊎_elim
    (λ h. let inside : place < length old = omega (arith, h, each) in
    before place y (slice_get-get_or old place y inside ∙ ap Some (sym (get_or_append_left old (x ∷ []) y place inside) ∙ got)))
    (λ here. let same : x ≡ y = sym (get_or_push old x y place (each ∙ here)) ∙ got in
    subst (λ n. Holds n y) here (subst (Holds count) same last))
    (next_place count place within)

module _ (layout : Layout) (active : Active) (used : Used) (spaces : List Bool) (are : AreSpaces layout active used spaces) where
  pub cells_are : (cells : List Cell) → AreCells layout active spaces cells
      → (cell : Cell) → (Contains cells cell → IsCell layout active used cell) × (IsCell layout active used cell → Contains cells cell)
  cells_are cells spelled = λ cell. (
    λ c. ⊎_elim
        (λ (b : Below (length layout.graph.rows) (IsOfModule layout active) cell). inl (b.0, b.2.0, b.2.1, b.2.2, b.2.3))
        (λ (b : Below (length layout.graph.rows) (IsOfSpace layout spaces) cell). inr (b.0, (are.listed b.0).0 b.2.0, b.2.1))
        ((spelled.each cell).0 c),
    λ i. (spelled.each cell).1 (⊎_elim
        (λ m. inl (m.0, slice_get_within layout.graph.rows m.0 m.1 m.3, (m.1, m.2, m.3, m.4)))
        (λ s. let at = (are.listed s.0).1 s.1 in
        inr (s.0, subst (λ n. s.0 < n) are.each (slice_get_within spaces s.0 true at), (at, s.2))) i),
  )

  space_is : (root : ℕ) (space : Option (List Getter)) → AreListed layout spaces root space → AreSpace layout active used root space
  space_is root None listed = λ s. listed ((are.listed root).1 s)
  space_is root (Some getters) listed = ((are.listed root).0 listed.0, listed.1)

  pub scope_is : (cells : List Cell) (root : ℕ) (scope : ScopeGetters) → IsListed layout spaces cells root scope → IsScope layout active used cells root scope
  scope_is cells root scope listed = record {
    variables = listed.variables;
    cells_are = listed.cells_are;
    space = space_is root scope.space listed.space;
  }
