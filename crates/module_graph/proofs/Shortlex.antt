-- The order of addresses is transitive, and grows with a last number.
use Rattle.std.proofs.Common.{◌≡◌, ℕ, ◌+◌, ◌<◌, inl, inr, List, [], ◌∷◌, ◌++◌, length, refl, sym, ap, subst, ◌∙◌, arith}
use Rattle.std.proofs.lemmas.List.{length_push}
use Rattle.module_graph.specs.Shortlex.{IsSmaller, ComesBefore, IsAtMost}

smaller_trans : (xs ys zs : List ℕ) → IsSmaller xs ys → IsSmaller ys zs → IsSmaller xs zs
smaller_trans [] ys zs h k = absurd h
smaller_trans (x ∷ xs) [] zs h k = absurd h
smaller_trans (x ∷ xs) (y ∷ ys) [] h k = absurd k
smaller_trans (x ∷ xs) (y ∷ ys) (z ∷ zs) (inl h) (inl k) = inl (omega arith)
smaller_trans (x ∷ xs) (y ∷ ys) (z ∷ zs) (inl h) (inr k) = let e : y ≡ z = k.0 in inl (omega arith)
smaller_trans (x ∷ xs) (y ∷ ys) (z ∷ zs) (inr h) (inl k) = let e : x ≡ y = h.0 in inl (omega arith)
smaller_trans (x ∷ xs) (y ∷ ys) (z ∷ zs) (inr h) (inr k) = inr (h.0 ∙ k.0, smaller_trans xs ys zs h.1 k.1)

smaller_push : (xs ys : List ℕ) (a b : ℕ) → IsSmaller xs ys → IsSmaller (xs ++ a ∷ []) (ys ++ b ∷ [])
smaller_push [] ys a b h = absurd h
smaller_push (x ∷ xs) [] a b h = absurd h
smaller_push (x ∷ xs) (y ∷ ys) a b (inl h) = inl h
smaller_push (x ∷ xs) (y ∷ ys) a b (inr h) = inr (h.0, smaller_push xs ys a b h.1)

smaller_last : (xs : List ℕ) (a b : ℕ) → a < b → IsSmaller (xs ++ a ∷ []) (xs ++ b ∷ [])
smaller_last [] a b h = inl h
smaller_last (x ∷ xs) a b h = inr (refl, smaller_last xs a b h)

pub before_trans : (xs ys zs : List ℕ) → ComesBefore xs ys → ComesBefore ys zs → ComesBefore xs zs
before_trans xs ys zs (inl h) (inl k) = inl (omega arith)
before_trans xs ys zs (inl h) (inr k) = let e : length ys ≡ length zs = k.0 in inl (omega arith)
before_trans xs ys zs (inr h) (inl k) = let e : length xs ≡ length ys = h.0 in inl (omega arith)
before_trans xs ys zs (inr h) (inr k) = inr (h.0 ∙ k.0, smaller_trans xs ys zs h.1 k.1)

pub before_push : (xs ys : List ℕ) (a b : ℕ) → ComesBefore xs ys → ComesBefore (xs ++ a ∷ []) (ys ++ b ∷ [])
before_push xs ys a b (inl h) = inl (omega (arith, length_push xs a, length_push ys b))
before_push xs ys a b (inr h) = inr (length_push xs a ∙ ap (λ n. n + 1) h.0 ∙ sym (length_push ys b), smaller_push xs ys a b h.1)

pub before_last : (xs : List ℕ) (a b : ℕ) → a < b → ComesBefore (xs ++ a ∷ []) (xs ++ b ∷ [])
before_last xs a b h = inr (length_push xs a ∙ sym (length_push xs b), smaller_last xs a b h)

pub at_most_before : (xs ys zs : List ℕ) → IsAtMost xs ys → ComesBefore ys zs → ComesBefore xs zs
at_most_before xs ys zs (inl e) k = subst (λ l. ComesBefore l zs) (sym e) k
at_most_before xs ys zs (inr h) k = before_trans xs ys zs h k

pub before_at_most : (xs ys zs : List ℕ) → ComesBefore xs ys → IsAtMost ys zs → ComesBefore xs zs
before_at_most xs ys zs h (inl e) = subst (λ l. ComesBefore xs l) e h
before_at_most xs ys zs h (inr k) = before_trans xs ys zs h k

pub at_most_trans : (xs ys zs : List ℕ) → IsAtMost xs ys → IsAtMost ys zs → IsAtMost xs zs
at_most_trans xs ys zs h (inl e) = subst (λ l. IsAtMost xs l) e h
at_most_trans xs ys zs h (inr k) = inr (at_most_before xs ys zs h k)

pub at_most_push : (xs ys : List ℕ) (a : ℕ) → IsAtMost xs ys → IsAtMost (xs ++ a ∷ []) (ys ++ a ∷ [])
at_most_push xs ys a (inl e) = inl (ap (λ l. l ++ a ∷ []) e)
at_most_push xs ys a (inr h) = inr (before_push xs ys a a h)
