-- Lists whose parts are marks already.
use Rattle.std.proofs.Common.{◌≡◌, List, [], ◌∷◌, Option, Some, None, map, refl, ap, ap₂}
use Rattle.es_tree.specs.declared.parts.Separated.{Separated}
use Rattle.es_tree.specs.declared.parts.Joined.{Joined}
use Rattle.es_tree.specs.declared.parts.Argument.{Argument}
use Rattle.es_tree.specs.declared.parts.Piece.{Piece}
use Rattle.es_tree.specs.declared.parts.ExprOf.{ExprOf}
use Rattle.es_outline.specs.Outline.{Lays, ◌⨾◌, nothing, one, opt, inner, listed, separated_marks, joined_marks, argument_marks, piece_marks, expr_of_marks}

pub ap₃ : {A B C D : Type 0} (f : A → B → C → D) {a a' : A} {b b' : B} {c c' : C} → a ≡ a' → b ≡ b' → c ≡ c' → f a b c ≡ f a' b' c'
ap₃ f p q r = λ i. f (p i) (q i) (r i)

pub listed_map : {X Y : Type 0} (f : Y → Lays) (g : X → Y) (xs : List X) → listed f (map g xs) ≡ listed (λ x. f (g x)) xs
listed_map f g [] = refl
listed_map f g (x ∷ xs) = ap (λ t. f (g x) ⨾ t) (listed_map f g xs)

pub separated_over : {X : Type 0} (f : X → Lays) (xs : List (Separated X)) → listed (separated_marks inner) (map (λ s. record { item = f s.item; comma = s.comma }) xs) ≡ listed (separated_marks f) xs
separated_over f xs = listed_map (separated_marks inner) (λ s. record { item = f s.item; comma = s.comma }) xs

pub joined_over : {X : Type 0} (f : X → Lays) (xs : List (Joined X)) → listed (joined_marks inner) (map (λ j. record { op = j.op; operand = f j.operand }) xs) ≡ listed (joined_marks f) xs
joined_over f xs = listed_map (joined_marks inner) (λ j. record { op = j.op; operand = f j.operand }) xs

pub arguments_over : {X : Type 0} (f : X → Lays) (xs : List (Separated (Argument X))) → listed (separated_marks (argument_marks inner)) (map (λ s. record { item = record { spread = s.item.spread; value = f s.item.value }; comma = s.comma }) xs) ≡ listed (separated_marks (argument_marks f)) xs
arguments_over f xs = listed_map (separated_marks (argument_marks inner)) (λ s. record { item = record { spread = s.item.spread; value = f s.item.value }; comma = s.comma }) xs

optional_at : {X Y : Type 0} (m : Option X → Option Y) (f : Y → Lays) (h : X → Lays) → opt f (m None) ≡ nothing → ((x : X) → opt f (m (Some x)) ≡ h x) → (o : Option X) → opt f (m o) ≡ opt h o
optional_at m f h none some None = none
optional_at m f h none some (Some x) = some x

pub optional_over : {X Y : Type 0} (m : Option X → Option Y) (f : Y → Lays) (h : X → Lays) → opt f (m None) ≡ nothing → ((x : X) → opt f (m (Some x)) ≡ h x) → (xs : List (Separated (Option X))) → listed (separated_marks (opt f)) (map (λ s. record { item = m s.item; comma = s.comma }) xs) ≡ listed (separated_marks (opt h)) xs
optional_over m f h none some [] = refl
optional_over m f h none some (x ∷ xs) = ap₂ (λ t u. (t ⨾ opt one x.comma) ⨾ u) (optional_at m f h none some x.item) (optional_over m f h none some xs)

pub pieces_over : {X : Type 0} (f : X → Lays) (xs : List (Piece (ExprOf X))) → listed (piece_marks (expr_of_marks inner)) (map (λ p. record { expr = record { list = map (λ s. record { item = f s.item; comma = s.comma }) p.expr.list }; next = p.next }) xs) ≡ listed (piece_marks (expr_of_marks f)) xs
pieces_over f [] = refl
pieces_over f (x ∷ xs) = ap₂ (λ t u. (t ⨾ one x.next) ⨾ u) (separated_over f x.expr.list) (pieces_over f xs)
