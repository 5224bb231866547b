-- Small facts of tests and of lists of one number.
use Rattle.std.proofs.Common.{◌≡◌, ◌&&◌, ℕ, Bool, true, false, [], ◌∷◌, refl, sym, ⊎_elim, true≢false}
use Rattle.std.specs.List.{Contains}
use Rattle.pk_types.proofs.ListMembers.{one_of, none_in}

pub both_of : (b c : Bool) → (b && c) ≡ true → (b ≡ true) × (c ≡ true)
both_of true c e = (refl, e)
both_of false c e = absurd (true≢false (sym e))

pub only : (number other : ℕ) → Contains (number ∷ []) other → number ≡ other
only number other c = ⊎_elim (λ same. same) (λ none. absurd (none_in other none)) (one_of number [] other c)
