-- What holds of each item of a short list.
use Rattle.std.proofs.Common.{[], ◌∷◌}
use Rattle.std.proofs.lemmas.List.Elements.{All-nil, All-cons}
use Rattle.std.specs.List.{All}

pub all_one : {A : Type 0} (P : A → Type 0) (x : A) → P x → All P (x ∷ [])
all_one P x holds = All-cons P x [] holds (All-nil P)

pub all_two : {A : Type 0} (P : A → Type 0) (x y : A) → P x → P y → All P (x ∷ y ∷ [])
all_two P x y first second = All-cons P x (y ∷ []) first (all_one P y second)

pub all_none : {A : Type 0} (P : A → Type 0) → All P []
all_none P = All-nil P
