-- The texts of the items of a list, by their places.
use Rattle.std.proofs.Common.{◌≡◌, ℕ, ◌<◌, List, [], length, get_or}
use Rattle.std.specs.Prelude.{map}
use Rattle.std.proofs.lemmas.List.{get_or-map}

-- the text at a place is that of the item there
pub text_read : {A : Type 0} (text : A → List ℕ) (items : List A) (place : ℕ) (default : A)
    → place < length items → get_or (map text items) place [] ≡ text (get_or items place default)
text_read text items place default within = get_or-map text items place default [] within
