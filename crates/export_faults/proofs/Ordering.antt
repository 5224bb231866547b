-- Faults in their order.
use Rattle.std.proofs.Common.{◌≡◌, ◌⊎◌, inl, inr, ⊎_elim, ℕ, ◌<◌, ◌≤◌, ◌&&◌, ◌||◌, nat_eq, nat_lt, Bool, true, false, sym, ap, ◌∙◌, arith, true≢false}
use Rattle.std.proofs.lemmas.Bool.{ltb-true, ltb-false, le-ltb, eqb-true, eq-eqb, or_cases, or_parts, or_from, and_parts, and_cases, and_left, and_right, cases_eq, ne_eqb}
use Rattle.export_faults.specs.declared.fault.ExportFault.{ExportFault}
use Rattle.export_faults.specs.Order.{rank, is_before}

-- by the first number, then by the second, then by the third
abbrev lexicographic : ℕ → ℕ → ℕ → ℕ → ℕ → ℕ → Bool
lexicographic m p r n q s = nat_lt m n || (nat_eq m n && (nat_lt p q || (nat_eq p q && nat_lt r s)))

-- the first three don't come before the others
abbrev NotBefore : ℕ → ℕ → ℕ → ℕ → ℕ → ℕ → Type 0
NotBefore m p r n q s = (n < m) ⊎ ((m ≡ n) × ((q < p) ⊎ ((p ≡ q) × (s ≤ r))))

by_second : (p r q s : ℕ) → (nat_lt p q || (nat_eq p q && nat_lt r s)) ≡ false → (q < p) ⊎ ((p ≡ q) × (s ≤ r))
by_second p r q s e = by (cases_eq p q)
  where
    not_less : q ≤ p
    not_less = ltb-false p q (or_parts _ _ e).0

    by : (p ≡ q) ⊎ (p ≡ q → ⊥) → (q < p) ⊎ ((p ≡ q) × (s ≤ r))
    by (inl same) = ⊎_elim (λ other. absurd (true≢false (sym (eq-eqb p q same) ∙ other))) (λ last. inr (same, ltb-false r s last)) (and_cases _ _ (or_parts _ _ e).1)
    by (inr other) = inl (omega (arith, not_less, other))

false_not : (m p r n q s : ℕ) → lexicographic m p r n q s ≡ false → NotBefore m p r n q s
false_not m p r n q s e = by (cases_eq m n)
  where
    not_less : n ≤ m
    not_less = ltb-false m n (or_parts _ _ e).0

    by : (m ≡ n) ⊎ (m ≡ n → ⊥) → NotBefore m p r n q s
    by (inl same) = ⊎_elim (λ other. absurd (true≢false (sym (eq-eqb m n same) ∙ other))) (λ last. inr (same, by_second p r q s last)) (and_cases _ _ (or_parts _ _ e).1)
    by (inr other) = inl (omega (arith, not_less, other))

-- where the one comes before, the other doesn't
true_not : (m p r n q s : ℕ) → lexicographic m p r n q s ≡ true → NotBefore n q s m p r
true_not m p r n q s e = ⊎_elim (λ less. inl (ltb-true m n less)) (λ same. first (and_parts _ _ same)) (or_cases _ _ e)
  where
    second : (nat_eq p q ≡ true) × (nat_lt r s ≡ true) → (p < q) ⊎ ((q ≡ p) × (r ≤ s))
    second both = let less : r < s = ltb-true r s both.1 in inr (sym (eqb-true p q both.0), omega (arith, less))

    first : (nat_eq m n ≡ true) × ((nat_lt p q || (nat_eq p q && nat_lt r s)) ≡ true) → NotBefore n q s m p r
    first both = inr (sym (eqb-true m n both.0), ⊎_elim (λ less. inl (ltb-true p q less)) (λ same. second (and_parts _ _ same)) (or_cases _ _ both.1))

not_false : (m p r n q s : ℕ) → NotBefore m p r n q s → lexicographic m p r n q s ≡ false
not_false m p r n q s (inl less) = or_from _ _ (le-ltb m n (omega (arith, less))) (and_left _ _ (ne_eqb m n (λ same. omega (arith, less, same))))
not_false m p r n q s (inr (same, inl less)) = or_from _ _ (le-ltb m n (omega (arith, same)))
    (and_right _ _ (or_from _ _ (le-ltb p q (omega (arith, less))) (and_left _ _ (ne_eqb p q (λ at. omega (arith, less, at))))))
not_false m p r n q s (inr (same, inr (at, less))) = or_from _ _ (le-ltb m n (omega (arith, same)))
    (and_right _ _ (or_from _ _ (le-ltb p q (omega (arith, at))) (and_right _ _ (le-ltb r s less))))

through : (m p r n q s k t v : ℕ) → NotBefore m p r n q s → NotBefore n q s k t v → NotBefore m p r k t v
through m p r n q s k t v (inl a) (inl b) = inl (omega (arith, a, b))
through m p r n q s k t v (inl a) (inr (e, b)) = inl (omega (arith, a, e))
through m p r n q s k t v (inr (e, a)) (inl b) = inl (omega (arith, e, b))
through m p r n q s k t v (inr (e, inl a)) (inr (f, inl b)) = inr (e ∙ f, inl (omega (arith, a, b)))
through m p r n q s k t v (inr (e, inl a)) (inr (f, inr (g, b))) = inr (e ∙ f, inl (omega (arith, a, g)))
through m p r n q s k t v (inr (e, inr (g, a))) (inr (f, inl b)) = inr (e ∙ f, inl (omega (arith, g, b)))
through m p r n q s k t v (inr (e, inr (g, a))) (inr (f, inr (h, b))) = inr (e ∙ f, inr (g ∙ h, omega (arith, a, b)))

-- what doesn't come before a fault that doesn't come before another doesn't come before that one
pub none_between : (one other last : ExportFault) → is_before one other ≡ false → is_before other last ≡ false → is_before one last ≡ false
none_between one other last e f =
    not_false one.module one.place (rank one.kind) last.module last.place (rank last.kind)
    (through one.module one.place (rank one.kind) other.module other.place (rank other.kind) last.module last.place (rank last.kind)
    (false_not one.module one.place (rank one.kind) other.module other.place (rank other.kind) e)
    (false_not other.module other.place (rank other.kind) last.module last.place (rank last.kind) f))

pub not_both : (one other : ExportFault) → is_before one other ≡ true → is_before other one ≡ false
not_both one other e = not_false other.module other.place (rank other.kind) one.module one.place (rank one.kind)
    (true_not one.module one.place (rank one.kind) other.module other.place (rank other.kind) e)

-- at one place, with one kind, neither comes before
pub alike : (one other : ExportFault) → one.module ≡ other.module → one.place ≡ other.place → one.kind ≡ other.kind → is_before one other ≡ false
alike one other at place kind = not_false one.module one.place (rank one.kind) other.module other.place (rank other.kind)
    (inr (at, inr (place, omega (arith, ap rank kind))))

-- a fault of an earlier module isn't behind
pub by_module : (one other : ExportFault) → other.module < one.module → is_before one other ≡ false
by_module one other less = not_false one.module one.place (rank one.kind) other.module other.place (rank other.kind) (inl less)
