-- One more part at the end of a list.
use Rattle.std.specs.Prelude.{◌≡◌, List, [], ◌∷◌, ◌++◌}
use Rattle.std.proofs.Common.{refl}
use Rattle.es_outline.specs.Outline.{Marks, Lays, listed}

pub listed_push : {X : Type 0} (f : X → Lays) (xs : List X) (x : X) (marks : Marks) → listed f (xs ++ x ∷ []) marks ≡ f x (listed f xs marks)
listed_push f [] x marks = refl
listed_push f (y ∷ ys) x marks = listed_push f ys x (f y marks)
