-- Places that are noted of parts, from place to place.
use Rattle.std.proofs.Common.{◌≡◌, ◌≢◌, ◌<◌, ◌≤◌, ◌+◌, ◌⊎◌, ⊎_elim, ℕ, Bool, true, false, cond, [], Option, Some, None, nat_eq, refl, sym, ap, subst, ◌∙◌, arith}
use Rattle.std.proofs.lemmas.Bool.{eqb-true, eqb-false}
use Rattle.std.proofs.lemmas.Option.{none-some, same_Some}
use Rattle.es_exports.specs.Entries.{Entries, at, noted_at, Notes}
use Rattle.es_exports.specs.Noting.{IsNoted, AreNoted}

here_or_earlier : (place limit : ℕ) → place < limit + 1 → (place < limit) ⊎ (place ≡ limit)
here_or_earlier place limit h = grind arith

module _ (part_of : ℕ → Option ℕ) where
  kept : (limit part : ℕ) (was : Option ℕ) → part_of limit ≢ Some part → IsNoted part_of limit part was → IsNoted part_of (limit + 1) part was
  kept limit part _ not_here (IsNoted.none none) = IsNoted.none (λ place before e. ⊎_elim
      (λ earlier. none place earlier e)
      (λ same. not_here (subst (λ p. part_of p ≡ Some part) same e))
      (here_or_earlier place limit before))
  kept limit part _ not_here (IsNoted.some place e) = IsNoted.some place e

  by_number : (limit part number : ℕ) (was : Option ℕ) (b : Bool) → nat_eq number part ≡ b → part_of limit ≡ Some number → IsNoted part_of limit part was
      → IsNoted part_of (limit + 1) part (cond b (Some limit) was)
  by_number limit part number was true same e so_far = IsNoted.some limit (e ∙ ap (λ (n : ℕ). Some n) (eqb-true number part same))
  by_number limit part number was false unlike e so_far =
      kept limit part was (λ f. eqb-false number part unlike (same_Some number part (sym e ∙ f))) so_far

  noted_by : (limit part : ℕ) (told was : Option ℕ) → part_of limit ≡ told → IsNoted part_of limit part was
      → IsNoted part_of (limit + 1) part (noted_at told limit part was)
  noted_by limit part None was e so_far = kept limit part was (λ f. none-some part (sym e ∙ f)) so_far
  noted_by limit part (Some number) was e so_far = by_number limit part number was (nat_eq number part) refl e so_far

  pub none_noted : (entries : Entries) → entries ≡ [] → AreNoted part_of 0 entries
  none_noted entries none part =
      subst (λ (l : Entries). IsNoted part_of 0 part (at l part)) (sym none) (IsNoted.none (λ place before e. absurd (omega arith)))

  pub one_noted : (limit : ℕ) (told : Option ℕ) (old new : Entries) → told ≡ part_of limit → Notes told limit old new → AreNoted part_of limit old
      → AreNoted part_of (limit + 1) new
  one_noted limit told old new e notes so_far part =
      subst (IsNoted part_of (limit + 1) part) (sym (notes part)) (noted_by limit part told (at old part) (sym e) (so_far part))

  pub all_noted : (limit place : ℕ) (entries : Entries) → limit ≤ place → place ≤ limit → AreNoted part_of place entries → AreNoted part_of limit entries
  all_noted limit place entries most least so_far =
      let same : place ≡ limit = omega arith in subst (λ n. AreNoted part_of n entries) same so_far

  -- what is found of a part
  found_by : (limit part place : ℕ) (found : Option ℕ) → IsNoted part_of limit part found → found ≡ Some place → part_of place ≡ Some part
  found_by limit part place _ (IsNoted.none none) e = absurd (none-some place e)
  found_by limit part place _ (IsNoted.some other h) e = subst (λ p. part_of p ≡ Some part) (same_Some other place e) h

  pub noted_there : (limit part place : ℕ) (entries : Entries) → AreNoted part_of limit entries → at entries part ≡ Some place → part_of place ≡ Some part
  noted_there limit part place entries are e = found_by limit part place (at entries part) (are part) e

  some_by : (limit part place : ℕ) (found : Option ℕ) → IsNoted part_of limit part found → place < limit → part_of place ≡ Some part
      → (other : ℕ) × (found ≡ Some other)
  some_by limit part place _ (IsNoted.none none) before e = absurd (none place before e)
  some_by limit part place _ (IsNoted.some other h) before e = (other, refl)

  pub noted_here : (limit part place : ℕ) (entries : Entries) → AreNoted part_of limit entries → place < limit → part_of place ≡ Some part
      → (other : ℕ) × (at entries part ≡ Some other)
  noted_here limit part place entries are before e = some_by limit part place (at entries part) (are part) before e
