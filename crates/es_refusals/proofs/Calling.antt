-- A name that is called, maybe in parentheses: what goes outward from it finds just these.
use Rattle.std.proofs.Common.{◌≡◌, ◌↔◌, ◌⊎◌, ⊎_elim, ℕ, zero, suc, ◌+◌, ◌-◌, ◌<◌, ◌≤◌, Bool, true, false, ◌&&◌, cond, nat_eq, Option, Some, slice_get, refl, sym, ap, subst, ◌∙◌, arith, true≢false}
use Rattle.std.proofs.lemmas.Bool.{eqb-false, ne_eqb, and_right, and_from}
use Rattle.pk_types.proofs.ListMembers.{first_so, second_so}
use Rattle.es_outline.specs.declared.mark.Mark.{Mark}
use Rattle.es_outline.specs.declared.mark.Mark.TheVariants as mark
use Rattle.es_outline.specs.declared.mark.Role.TheVariants as is
use Rattle.es_outline.specs.Outline.{Marks}
use Rattle.es_scope.specs.Source.{Source, HasRole, IsMark}
use Rattle.es_scope.specs.Around.{IsParenthesised, IsCalled}
use Rattle.es_asks.specs.Free.{is_call}
use Rattle.es_refusals.specs.Around.{is_opens, is_closes, is_enclosed, called_from}

-- what the tests say of marks
pub opens_is : (source : Source) (place : ℕ) (found : Option Mark) → slice_get source.marks place ≡ found → is_opens found ≡ true → HasRole source place is.Opens
opens_is source place (Some (mark.Token is.Opens token)) m e = (token, m)
opens_is source place _ m e = absurd (true≢false (sym e))

pub closes_is : (source : Source) (place : ℕ) (found : Option Mark) → slice_get source.marks place ≡ found → is_closes found ≡ true → HasRole source place is.Closes
closes_is source place (Some (mark.Token is.Closes token)) m e = (token, m)
closes_is source place _ m e = absurd (true≢false (sym e))

pub call_is : (source : Source) (place : ℕ) (found : Option Mark) → slice_get source.marks place ≡ found → is_call found ≡ true → IsMark source place mark.Call
call_is source place (Some mark.Call) m e = m
call_is source place _ m e = absurd (true≢false (sym e))

inner_if : (b c : Bool) → cond b c false ≡ (b && c)
inner_if true c = refl
inner_if false c = refl

-- what holds only of places beyond the first
pub beyond_first : (place : ℕ) (none rest : Bool) → nat_eq place 0 ≡ none → cond none false rest ≡ true → (0 < place) × (rest ≡ true)
beyond_first place true rest n e = absurd (true≢false (sym e))
beyond_first place false rest n e = let apart = eqb-false place 0 n in (omega (arith, apart), e)

pub enclosed_inside : (marks : Marks) (outer last : ℕ) → is_enclosed marks outer last ≡ true → 0 < outer
enclosed_inside marks outer last e =
    (beyond_first outer (nat_eq outer 0) (cond (is_opens (slice_get marks (outer - 1))) (is_closes (slice_get marks (last + 1))) false) refl e).0

test_is : (marks : Marks) (before last : ℕ) → is_enclosed marks (suc before) last ≡ (is_opens (slice_get marks before) && is_closes (slice_get marks (last + 1)))
test_is marks before last =
    let back : suc before - 1 ≡ before = omega arith in
    let some : nat_eq (suc before) 0 ≡ false = ne_eqb (suc before) 0 (λ none. omega (arith, none)) in
    ap (λ b. cond b false (cond (is_opens (slice_get marks (suc before - 1))) (is_closes (slice_get marks (last + 1))) false)) some
    ∙ ap (λ k. cond (is_opens (slice_get marks k)) (is_closes (slice_get marks (last + 1))) false) back
    ∙ inner_if (is_opens (slice_get marks before)) (is_closes (slice_get marks (last + 1)))

pub goes_outward : (marks : Marks) (outer last : ℕ) → is_enclosed marks outer last ≡ true → called_from marks (outer - 1) (last + 1) ≡ called_from marks outer last
unfolding called_from
goes_outward marks zero last e = absurd (let some = enclosed_inside marks zero last e in omega (arith, some))
goes_outward marks (suc before) last e =
    let back : suc before - 1 ≡ before = omega arith in
    ap (λ k. called_from marks k (last + 1)) back
    ∙ sym (ap (λ b. cond b (called_from marks before (last + 1)) (is_call (slice_get marks (last + 1)))) (sym (test_is marks before last) ∙ e))

pub stops_there : (marks : Marks) (outer last : ℕ) (found : Option Mark) → found ≡ slice_get marks (last + 1) → is_enclosed marks outer last ≡ false
    → is_call found ≡ called_from marks outer last
unfolding called_from
stops_there marks zero last found m e = ap is_call m
stops_there marks (suc before) last found m e =
    ap is_call m ∙ sym (ap (λ b. cond b (called_from marks before (last + 1)) (is_call (slice_get marks (last + 1)))) (sym (test_is marks before last) ∙ e))

-- parentheses lie evenly around what they enclose
balanced : (source : Source) (first last outer end : ℕ) → IsParenthesised source first last outer end → (outer + end ≡ first + last) × (last ≤ end)
balanced source first last _ _ IsParenthesised.bare = (refl, omega arith)
balanced source first last _ _ (IsParenthesised.more before outer end next inner o c) =
    let rest = balanced source first last outer end inner in
    (omega (arith, next, rest.0), omega (arith, rest.1))

-- a layer of them around what goes from `from` to `to`
record Layer (source : Source) (from to : ℕ) : Type 0 where
  before : ℕ
  next : before + 1 ≡ from
  opens : HasRole source before is.Opens
  closes : HasRole source (to + 1) is.Closes

layer : (source : Source) (first last outer end from to : ℕ) → IsParenthesised source first last outer end → from + to ≡ first + last → last ≤ to → to < end
    → Layer source from to
layer source first last _ _ from to IsParenthesised.bare even above below = absurd (omega (arith, above, below))
layer source first last _ _ from to (IsParenthesised.more before outer end next inner o c) even above below = ⊎_elim
    (λ same. let sides = balanced source first last outer end inner in
    let there : outer ≡ from = omega (arith, same, even, sides.0) in
    record { before = before; next = next ∙ there; opens = o; closes = subst (λ k. HasRole source (k + 1) is.Closes) (sym same) c })
    (λ further. layer source first last outer end from to inner even above further)
    (ends to end below)
  where
    ends : (a b : ℕ) → a < b + 1 → (a ≡ b) ⊎ (a < b)
    ends a b h = grind arith

not_closes : (found : Option Mark) → is_call found ≡ true → is_closes found ≡ false
not_closes (Some mark.Call) e = refl
not_closes _ e = absurd (true≢false (sym e))

-- a call that stands behind parentheses is found from each layer within
found_from : (source : Source) (first last outer end : ℕ) → IsParenthesised source first last outer end → IsMark source (end + 1) mark.Call
    → (from to : ℕ) → from + to ≡ first + last → last ≤ to → to ≤ end → called_from source.marks from to ≡ true
unfolding called_from
found_from source first last outer end p call zero to even above below = ⊎_elim
    (λ same. subst (λ k. is_call (slice_get source.marks (k + 1)) ≡ true) (sym same) (ap is_call call))
    (λ further. absurd (let one = layer source first last outer end zero to p even above further in let next = one.next in omega (arith, next)))
    (ends to end below)
  where
    ends : (a b : ℕ) → a ≤ b → (a ≡ b) ⊎ (a < b)
    ends a b h = grind arith
found_from source first last outer end p call (suc before) to even above below = ⊎_elim
    (λ same. let there : is_call (slice_get source.marks (to + 1)) ≡ true =
    subst (λ k. is_call (slice_get source.marks (k + 1)) ≡ true) (sym same) (ap is_call call) in
    ap (λ b. cond b (called_from source.marks before (to + 1)) (is_call (slice_get source.marks (to + 1))))
    (and_right (is_opens (slice_get source.marks before)) (is_closes (slice_get source.marks (to + 1))) (not_closes (slice_get source.marks (to + 1)) there)) ∙ there)
    (λ further. let one = layer source first last outer end (suc before) to p even above further in
    let next = one.next in
    let at : one.before ≡ before = omega (arith, next) in
    let opens : is_opens (slice_get source.marks before) ≡ true = subst (λ k. is_opens (slice_get source.marks k) ≡ true) at (ap is_opens one.opens.1) in
    ap (λ b. cond b (called_from source.marks before (to + 1)) (is_call (slice_get source.marks (to + 1))))
    (and_from (is_opens (slice_get source.marks before)) (is_closes (slice_get source.marks (to + 1))) opens (ap is_closes one.closes.1))
    ∙ found_from source first last outer end p call before (to + 1) (omega (arith, even)) (omega (arith, above)) (omega (arith, further)))
    (ends to end below)
  where
    ends : (a b : ℕ) → a ≤ b → (a ≡ b) ⊎ (a < b)
    ends a b h = grind arith

-- what is found is a call
calls_by : (source : Source) (first last outer end : ℕ) → IsParenthesised source first last outer end → called_from source.marks outer end ≡ true → IsCalled source first last
unfolding called_from
calls_by source first last zero end p e =
    record { outer = zero; end = end; parentheses = p; call = call_is source (end + 1) (slice_get source.marks (end + 1)) refl e }
calls_by source first last (suc before) end p e =
    by (is_opens (slice_get source.marks before) && is_closes (slice_get source.marks (end + 1))) refl (λ more f. calls_by source first last before (end + 1) more f) e
  where
    by : (b : Bool) → (is_opens (slice_get source.marks before) && is_closes (slice_get source.marks (end + 1))) ≡ b
        → (IsParenthesised source first last before (end + 1) → called_from source.marks before (end + 1) ≡ true → IsCalled source first last)
        → cond b (called_from source.marks before (end + 1)) (is_call (slice_get source.marks (end + 1))) ≡ true → IsCalled source first last
    by true t further f =
        let opens = first_so (is_opens (slice_get source.marks before)) (is_closes (slice_get source.marks (end + 1))) t in
        let closes = second_so (is_opens (slice_get source.marks before)) (is_closes (slice_get source.marks (end + 1))) t in
        further (IsParenthesised.more before (suc before) end (omega arith) p
        (opens_is source before (slice_get source.marks before) refl opens) (closes_is source (end + 1) (slice_get source.marks (end + 1)) refl closes)) f
    by false t further f = record { outer = suc before; end = end; parentheses = p; call = call_is source (end + 1) (slice_get source.marks (end + 1)) refl f }

pub called_is : (source : Source) (place : ℕ) → (called_from source.marks place place ≡ true) ↔ IsCalled source place place
called_is source place = (
  λ e. calls_by source place place place place IsParenthesised.bare e,
  λ called. let sides = balanced source place place called.outer called.end called.parentheses in
      found_from source place place called.outer called.end called.parentheses called.call place place refl (omega arith) sides.1,
)
