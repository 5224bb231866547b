-- Lists of productions, one behind the other, and lists with commas.
use Rattle.std.specs.Prelude.{ℕ, List, [], ◌∷◌, Option, Some, None, codes}
use Rattle.es_tree.specs.declared.tokens.Token.{Token}
use Rattle.es_tree.specs.declared.tokens.Goal.TheVariants.{Operator}
use Rattle.es_tree.specs.declared.parts.Separated.{Separated}
use Rattle.es_grammar.specs.Reading.{Bytes, MarkAt}
use Rattle.es_grammar.specs.declared.places.Stop.{Stop}

-- one behind the other
pub data Chain {X : Type 0} (a_part : ℕ → X → ℕ → Type 0) : ℕ → List X → ℕ → Type 0 where
  none : {p : ℕ} → Chain a_part p [] p
  more : {p a q : ℕ} (x : X) (xs : List X) → a_part p x a → Chain a_part a xs q → Chain a_part p (x ∷ xs) q

abbrev pub separated : {X : Type 0} → X → Option Token → Separated X
separated x comma = record { item = x; comma = comma }

-- some, with a comma between each two, and perhaps one behind the last
pub data SomeAt {X : Type 0} (text : Bytes) (a_part : ℕ → X → ℕ → Type 0) : ℕ → List (Separated X) → ℕ → Type 0 where
  last : {p q : ℕ} (x : X) → a_part p x q → SomeAt text a_part p (separated x None ∷ []) q
  ended : {p a : ℕ} (x : X) (comma : Token) → a_part p x a → MarkAt text Operator (codes ",") a comma
      → SomeAt text a_part p (separated x (Some comma) ∷ []) comma.end
  more : {p a q : ℕ} (x : X) (comma : Token) (xs : List (Separated X)) → a_part p x a → MarkAt text Operator (codes ",") a comma
      → SomeAt text a_part comma.end xs q → SomeAt text a_part p (separated x (Some comma) ∷ xs) q

-- none, or some with perhaps a comma behind the last
pub data ListAt {X : Type 0} (text : Bytes) (a_part : ℕ → X → ℕ → Type 0) : ℕ → List (Separated X) → ℕ → Type 0 where
  none : {p : ℕ} → ListAt text a_part p [] p
  some : {p q : ℕ} (xs : List (Separated X)) → SomeAt text a_part p xs q → ListAt text a_part p xs q

-- each with a comma behind it
pub data EachAt {X : Type 0} (text : Bytes) (a_part : ℕ → X → ℕ → Type 0) : ℕ → List (Separated X) → ℕ → Type 0 where
  none : {p : ℕ} → EachAt text a_part p [] p
  more : {p a q : ℕ} (x : X) (comma : Token) (xs : List (Separated X)) → a_part p x a → MarkAt text Operator (codes ",") a comma
      → EachAt text a_part comma.end xs q → EachAt text a_part p (separated x (Some comma) ∷ xs) q

-- some with a comma between each two and none behind the last, which ends in what the last ends in
pub data EndedListAt {X : Type 0} (text : Bytes) (a_part : ℕ → X → Stop → Type 0) : ℕ → List (Separated X) → Stop → Type 0 where
  last : {p : ℕ} {s : Stop} (x : X) → a_part p x s → EndedListAt text a_part p (separated x None ∷ []) s
  more : {p : ℕ} {s z : Stop} (x : X) (comma : Token) (xs : List (Separated X)) → a_part p x s → MarkAt text Operator (codes ",") s.at comma
      → EndedListAt text a_part comma.end xs z → EndedListAt text a_part p (separated x (Some comma) ∷ xs) z

-- the elements of an array or an array pattern: a hole is a comma with nothing before it
pub data ElementsAt {X : Type 0} (text : Bytes) (a_part : ℕ → X → ℕ → Type 0) : ℕ → List (Separated (Option X)) → ℕ → Type 0 where
  none : {p : ℕ} → ElementsAt text a_part p [] p
  hole : {p q : ℕ} (comma : Token) (xs : List (Separated (Option X))) → MarkAt text Operator (codes ",") p comma
      → ElementsAt text a_part comma.end xs q → ElementsAt text a_part p (separated None (Some comma) ∷ xs) q
  last : {p q : ℕ} (x : X) → a_part p x q → ElementsAt text a_part p (separated (Some x) None ∷ []) q
  more : {p a q : ℕ} (x : X) (comma : Token) (xs : List (Separated (Option X))) → a_part p x a → MarkAt text Operator (codes ",") a comma
      → ElementsAt text a_part comma.end xs q → ElementsAt text a_part p (separated (Some x) (Some comma) ∷ xs) q

-- the same where each element and each hole has a comma behind it
pub data EachElementAt {X : Type 0} (text : Bytes) (a_part : ℕ → X → ℕ → Type 0) : ℕ → List (Separated (Option X)) → ℕ → Type 0 where
  none : {p : ℕ} → EachElementAt text a_part p [] p
  hole : {p q : ℕ} (comma : Token) (xs : List (Separated (Option X))) → MarkAt text Operator (codes ",") p comma
      → EachElementAt text a_part comma.end xs q → EachElementAt text a_part p (separated None (Some comma) ∷ xs) q
  more : {p a q : ℕ} (x : X) (comma : Token) (xs : List (Separated (Option X))) → a_part p x a → MarkAt text Operator (codes ",") a comma
      → EachElementAt text a_part comma.end xs q → EachElementAt text a_part p (separated (Some x) (Some comma) ∷ xs) q
