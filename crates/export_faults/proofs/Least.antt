-- The first of several faults.
use Rattle.std.proofs.Common.{◌≡◌, ◌⊎◌, inl, inr, ⊎_elim, Bool, true, false, cond, ℕ, ◌+◌, ◌<◌, ◌≤◌, Option, Some, None, is_some, true≢false, refl, ap, ◌∙◌, arith}
use Rattle.std.proofs.lemmas.Bool.{cases_lt}
use Rattle.pk_types.specs.declared.graph.Graph.{Graph}
use Rattle.export_faults.specs.declared.fault.Asker.{Asker}
use Rattle.export_faults.specs.declared.fault.ExportFault.{ExportFault}
use Rattle.export_faults.specs.Order.{is_before, earlier}
use Rattle.export_faults.specs.Faults.{AreLeast, Stands, StandsIn}
use Rattle.export_faults.proofs.Ordering.{none_between, not_both, by_module}

module _ (One Other Both : ExportFault → Type 0) (apart : (fault : ExportFault) → Both fault → One fault ⊎ Other fault)
    (of_one : (fault : ExportFault) → One fault → Both fault) (of_other : (fault : ExportFault) → Other fault → Both fault) where
  of_two : (one other : ExportFault) (b : Bool) → is_before other one ≡ b → AreLeast One (Some one) → AreLeast Other (Some other) → AreLeast Both (Some (cond b other one))
  of_two one other true e p q = (of_other other q.0, λ fault r. ⊎_elim (λ x. none_between fault one other (p.1 fault x) (not_both other one e)) (λ y. q.1 fault y) (apart fault r))
  of_two one other false e p q = (of_one one p.0, λ fault r. ⊎_elim (λ x. p.1 fault x) (λ y. none_between fault other one (q.1 fault y) e) (apart fault r))

  -- the first of both is the earlier one of the two firsts
  pub least_of_both : (one other : Option ExportFault) → AreLeast One one → AreLeast Other other → AreLeast Both (earlier one other)
  least_of_both None None p q = λ fault r. ⊎_elim (λ x. p fault x) (λ y. q fault y) (apart fault r)
  least_of_both None (Some other) p q = (of_other other q.0, λ fault r. ⊎_elim (λ x. absurd (p fault x)) (λ y. q.1 fault y) (apart fault r))
  least_of_both (Some one) None p q = (of_one one p.0, λ fault r. ⊎_elim (λ x. p.1 fault x) (λ y. absurd (q fault y)) (apart fault r))
  least_of_both (Some one) (Some other) p q = of_two one other (is_before other one) refl p q

-- of two conditions that come to the same
pub least_same : (One Both : ExportFault → Type 0) → ((fault : ExportFault) → Both fault → One fault) → ((fault : ExportFault) → One fault → Both fault)
    → (first : Option ExportFault) → AreLeast One first → AreLeast Both first
least_same One Both to from None p = λ fault r. p fault (to fault r)
least_same One Both to from (Some first) p = (from first p.0, λ fault r. p.1 fault (to fault r))

-- what asks is one of the first
abbrev pub AmongFirst : (ℕ → Asker) → ℕ → ExportFault → Type 0
AmongFirst maker count fault = (place : ℕ) × (place < count) × (fault.asker ≡ maker place)

-- the next one joins those that were gone through
pub next_least : (In : ExportFault → Type 0) (maker : ℕ → Asker) (count : ℕ) (first next : Option ExportFault)
    → AreLeast (λ fault. In fault × AmongFirst maker count fault) first → AreLeast (λ fault. In fault × (fault.asker ≡ maker count)) next
    → AreLeast (λ fault. In fault × AmongFirst maker (count + 1) fault) (earlier first next)
next_least In maker count first next p q =
    least_of_both (λ fault. In fault × AmongFirst maker count fault) (λ fault. In fault × (fault.asker ≡ maker count)) (λ fault. In fault × AmongFirst maker (count + 1) fault)
    split (λ fault x. (x.0, (x.1.0, omega (arith, x.1.1), x.1.2))) (λ fault y. (y.0, (count, omega arith, y.1))) first next p q
  where
    split : (fault : ExportFault) → In fault × AmongFirst maker (count + 1) fault → (In fault × AmongFirst maker count fault) ⊎ (In fault × (fault.asker ≡ maker count))
    split fault (inside, (place, below, is)) =
        ⊎_elim (λ (less : place < count). inl (inside, (place, less, is)))
        (λ (above : count ≤ place). let at : place ≡ count = omega (arith, above, below) in inr (inside, is ∙ ap maker at)) (cases_lt place count)

-- before any was gone through
pub none_least : (In : ExportFault → Type 0) (maker : ℕ → Asker) → AreLeast (λ fault. In fault × AmongFirst maker 0 fault) None
none_least In maker = λ fault x. omega (arith, x.1.1)

-- the first fault of a module is that of the graph, where the modules before have none
pub least_of_graph : (graph : Graph) (number : ℕ) (first : ExportFault) → ((fault : ExportFault) → Stands graph fault → fault.module < number → ⊥)
    → AreLeast (StandsIn graph number) (Some first) → AreLeast (Stands graph) (Some first)
least_of_graph graph number first none p = (p.0.0, λ fault s. ⊎_elim (λ less. absurd (none fault s less)) (λ least. later fault s least) (cases_lt fault.module number))
  where
    later : (fault : ExportFault) → Stands graph fault → number ≤ fault.module → is_before fault first ≡ false
    later fault s least = ⊎_elim (λ (less : number < fault.module). by_module fault first (omega (arith, less, p.0.1)))
        (λ (more : fault.module ≤ number). let at : fault.module ≡ number = omega (arith, more, least) in p.1 fault (s, at)) (cases_lt number fault.module)

pub none_stands : (Stand : ExportFault → Type 0) (first : Option ExportFault) → is_some first ≡ false → AreLeast Stand first → (fault : ExportFault) → ¬ Stand fault
none_stands Stand None none p = p
none_stands Stand (Some first) none p = absurd (true≢false none)
