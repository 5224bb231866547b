-- Semicolons that are read, and expressions that are closed, are so by the grammar.
use Rattle.std.proofs.Common.{◌≡◌, ℕ, true, [], ◌∷◌, Option, Some, None, refl, subst}
use Rattle.std.specs.Prelude.{codes}
use Rattle.es_tree.specs.declared.tokens.Token.{Token}
use Rattle.es_tree.specs.declared.tokens.Goal.TheVariants.{Operator}
use Rattle.es_grammar.specs.declared.places.Stop.{Stop}
use Rattle.es_grammar.specs.Reading.{Bytes, MarkAt, spelled}
use Rattle.es_grammar.specs.Semicolons.{FreeSemiAt, IsClosed, SemiAt, closes}
use Rattle.es_reader.specs.Basics.{is_mark, token}
use Rattle.es_reader.specs.Semis.{ends, free_semi, holds, is_closed, read_free_semi, read_semi}
use Rattle.es_reader.proofs.Steps.{bind_some, chosen, when, else, given, held, marked, no_mark, nothing_there, read_there, some_is}

pub semi_sound : (text : Bytes) (s : Stop) (y : Option Token × ℕ) → read_semi text s ≡ Some y → SemiAt text s y.0 y.1
unfolding read_semi
semi_sound text s y e =
    let t = bind_some (token text Operator s.at) _ _ e in
    elim (chosen (is_mark text (codes ";") t.0) (Some (Some t.0, t.0.end)) _ _ t.2) [
      | when h f ↦ given (SemiAt text s) _ _ y f (SemiAt.written t.0 (marked t.1 h))
      | else h f ↦ elim (chosen (ends text (codes "}" ∷ []) s.ending t.0) (Some (None, s.at)) None _ f) [
        | when i k ↦ given (SemiAt text s) _ _ y k (SemiAt.left_out t.0 (read_there _ _ _ _ t.1) (no_mark t.1 h t.0) i)
        | else i k ↦ absurd cc
      ]
    ]

free_by : (text : Bytes) (p : ℕ) (o : Option Token) → token text Operator p ≡ o → (y : Option Token × ℕ) → free_semi text p o ≡ y → FreeSemiAt text p y.0 y.1
free_by text p None e y f = subst (λ (z : Option Token × ℕ). FreeSemiAt text p z.0 z.1) f (FreeSemiAt.left_out (λ u m. nothing_there text Operator p e u m.is.read))
free_by text p (Some t) e y f = elim (chosen (is_mark text (codes ";") t) (Some t, t.end) (None, p) y f) [
  | when h k ↦ subst (λ (z : Option Token × ℕ). FreeSemiAt text p z.0 z.1) k (FreeSemiAt.written t (marked e h))
  | else h k ↦ subst (λ (z : Option Token × ℕ). FreeSemiAt text p z.0 z.1) k (FreeSemiAt.left_out (no_mark e h))
]

pub free_semi_sound : (text : Bytes) (p : ℕ) (y : Option Token × ℕ) → read_free_semi text p ≡ Some y → FreeSemiAt text p y.0 y.1
unfolding read_free_semi
free_semi_sound text p y e = free_by text p _ refl y (some_is _ _ e)

pub closed_sound : (text : Bytes) (s : Stop) → is_closed text s ≡ true → IsClosed text s
unfolding is_closed
closed_sound text s e = let t = held _ _ e in record { next = t.0; read = read_there _ _ _ _ t.1; closed = t.2 }

-- `;` closes an expression
pub closed_by_semi : (text : Bytes) (s : Stop) → holds (is_mark text (codes ";")) (token text Operator s.at) ≡ true → IsClosed text s
closed_by_semi text s e =
    let t = held _ _ e in
    let m : MarkAt text Operator (codes ";") s.at t.0 = marked t.1 t.2 in
    let shut : closes (codes ")" ∷ codes "]" ∷ codes "}" ∷ codes ":" ∷ codes ";" ∷ []) t.0.kind (spelled text t.0) ≡ true =
    rw (m.is.kind_is, m.spelled_as) refl in
    record { next = t.0; read = read_there _ _ _ _ t.1; closed = rw shut refl }
