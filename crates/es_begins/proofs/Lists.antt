-- What is among two lists of spellings, and the comma of the last part of a list.
use Rattle.std.proofs.Common.{◌≡◌, ℕ, suc, ◌-◌, List, [], ◌∷◌, ◌++◌, length, Some, ap, ◌∙◌, arith}
use Rattle.std.specs.Prelude.{◌||◌, bytes_eq, is_some}
use Rattle.std.specs.List.{list_any, slice_get}
use Rattle.std.proofs.lemmas.List.Folds.{list_any-append}
use Rattle.es_tree.specs.declared.parts.Separated.{Separated}
use Rattle.es_reader.specs.Lists.{ends_with_comma}

pub any_of_both : (spelling : List ℕ) (xs ys : List (List ℕ))
    → list_any (bytes_eq spelling) (xs ++ ys) ≡ (list_any (bytes_eq spelling) xs || list_any (bytes_eq spelling) ys)
any_of_both spelling xs ys = list_any-append (bytes_eq spelling) xs ys

one_before : {X : Type 0} (y z : X) (zs : List X) → length (y ∷ z ∷ zs) - 1 ≡ suc (length (z ∷ zs) - 1)
one_before y z zs = omega arith

pub comma_at_last : {X : Type 0} (xs : List (Separated X)) (x : Separated X) → Some x ≡ slice_get xs (length xs - 1)
    → is_some x.comma ≡ ends_with_comma xs
comma_at_last [] x last = cc
comma_at_last (y ∷ []) x last = cc
comma_at_last (y ∷ z ∷ zs) x last = comma_at_last (z ∷ zs) x (last ∙ ap (slice_get (y ∷ z ∷ zs)) (one_before y z zs))
