-- The turns of lists are traced as they are read.
use Rattle.std.proofs.Common.{◌≡◌, ℕ, Bool, true, false, List, [], ◌∷◌, ◌++◌, Option, Some, None, codes, length, ◌+◌, is_some, refl, ap, sym, ◌∙◌, if◌then◌else◌}
use Rattle.es_tree.specs.declared.tokens.Token.{Token}
use Rattle.es_tree.specs.declared.tokens.Goal.TheVariants.{Operand, Operator}
use Rattle.es_tree.specs.declared.parts.Separated.{Separated}
use Rattle.es_grammar.specs.declared.places.Stop.{Stop}
use Rattle.es_grammar.specs.Reading.{Bytes}
use Rattle.es_outline.specs.Outline.{Lays, Marks, listed, opt, one, separated_marks}
use Rattle.es_reader.specs.Basics.{◌>>=◌, Reader, token, is_mark}
use Rattle.es_reader.specs.Basics as reads
use Rattle.es_reader.specs.declared.pieces.TurnOf.{TurnOf}
use Rattle.es_reader.specs.declared.pieces.TurnOf.TheVariants as read_v
use Rattle.es_reader.specs.Lists as lists
use Rattle.es_reader.specs.EndedLists as ended_lists
use Rattle.es_trace.specs.Basics.{Traced, Tracer, Ended, laid}
use Rattle.es_trace.specs.Lists.{chain_turn, next_part, list_turn, list_part, comma_behind, elements_turn, element_or_hole, listed_to, comma_or_end, ended_turn, stop_at}
use Rattle.es_trace.specs.declared.pieces.Listed.{Listed}
use Rattle.es_trace.specs.declared.pieces.Turn.{Turn}
use Rattle.es_trace.specs.declared.pieces.Turn.TheVariants as turn_v
use Rattle.es_trace.specs.Following.{Follows}
use Rattle.es_trace.proofs.Laying.{laid_bind, seen_bind, laid_if, laid_turn}

abbrev pub at_place : {X : Type 0} → List X → ℕ → ℕ
at_place found p = p

module _ {X : Type 0} (text : Bytes) (f : X → Lays) (marks : Marks) (ends : Token → Bool) where
  pub chain_laid : (part : Tracer) (read : Reader X) → Follows f part read → (found : List X) (p : ℕ)
      → chain_turn text ends part (listed f found marks) p ≡ laid_turn f at_place found marks (lists.chain_turn text ends read p)
  unfolding chain_turn next_part lists.chain_turn lists.next_part
  chain_laid part read follows found p = seen_bind (laid_turn f at_place found marks) refl (token text Operand p) _ _ (λ t.
      laid_if (laid_turn f at_place found marks) (ends t) refl
      (laid_bind f (listed f found marks) (laid_turn f at_place found marks) refl _ (read p) _ _ (follows _ p) (λ x. refl)))

-- where a list with commas stands
abbrev pub listed_at : {X : Type 0} → List (Separated X) → ℕ → Listed
listed_at found p = listed_to p (lists.ends_with_comma found)

comma_pushed : {X : Type 0} (found : List (Separated X)) (x : Separated X) → lists.ends_with_comma (found ++ x ∷ []) ≡ is_some x.comma
comma_pushed [] x = refl
comma_pushed (y ∷ []) x = refl
comma_pushed (y ∷ z ∷ zs) x = comma_pushed (z ∷ zs) x

module _ {X : Type 0} (text : Bytes) (f : X → Lays) (marks : Marks) (found : List (Separated X)) where
  abbrev as_turn : Option (TurnOf ℕ (Separated X)) → Traced (Turn Listed)
  as_turn = laid_turn (separated_marks f) listed_at found marks

  comma_laid : (x : X) (p : ℕ) → comma_behind text (f x (listed (separated_marks f) found marks)) p ≡ as_turn (lists.comma_behind text x p)
  unfolding comma_behind lists.comma_behind
  comma_laid x p = seen_bind as_turn refl (token text Operator p) _ _ (λ t. laid_if as_turn (is_mark text (codes ",") t)
      (ap (λ b. Some (one t (f x (listed (separated_marks f) found marks)), turn_v.More (listed_to t.end b))) (sym (comma_pushed found _)))
      (ap (λ b. Some (f x (listed (separated_marks f) found marks), turn_v.Ended (listed_to p b))) (sym (comma_pushed found _))))

  part_laid : (part : Tracer) (read : Reader X) → Follows f part read → (p : ℕ)
      → list_part text part (listed (separated_marks f) found marks) p ≡ as_turn (lists.list_part text read p)
  unfolding list_part lists.list_part
  part_laid part read follows p = laid_bind f (listed (separated_marks f) found marks) as_turn refl _ (read p) _ _ (follows _ p) (λ x. comma_laid x.0 x.1)

  pub list_laid : (ends : Token → Bool) (part : Tracer) (read : Reader X) → Follows f part read → (p : ℕ)
      → list_turn text ends part (listed (separated_marks f) found marks) (listed_at found p) ≡ as_turn (lists.list_turn text ends read p)
  unfolding list_turn lists.list_turn
  list_laid ends part read follows p = seen_bind as_turn refl (token text Operand p) _ _ (λ t.
      laid_if as_turn (ends t) refl (part_laid part read follows p))

module _ {X : Type 0} (text : Bytes) (f : X → Lays) (marks : Marks) (found : List (Separated (Option X))) where
  abbrev as_element : Option (TurnOf ℕ (Separated (Option X))) → Traced (Turn Listed)
  as_element = laid_turn (separated_marks (opt f)) listed_at found marks

  element_laid : (part : Tracer) (read : Reader X) → Follows f part read → (p : ℕ)
      → list_part text part (listed (separated_marks (opt f)) found marks) p ≡ as_element (lists.element_part text read p)
  unfolding list_part lists.element_part
  element_laid part read follows p = laid_bind f (listed (separated_marks (opt f)) found marks) as_element refl _ (read p) _ _ (follows _ p)
      (λ x. comma_laid text (opt f) marks found (Some x.0) x.1)

  hole_laid : (part : Tracer) (read : Reader X) → Follows f part read → (t : Token) (p : ℕ)
      → element_or_hole text part (listed (separated_marks (opt f)) found marks) t p ≡ as_element (lists.element_or_hole text read t p)
  unfolding element_or_hole lists.element_or_hole
  hole_laid part read follows t p = laid_if as_element (is_mark text (codes ",") t)
      (ap (λ b. Some (one t (listed (separated_marks (opt f)) found marks), turn_v.More (listed_to t.end b))) (sym (comma_pushed found _)))
      (element_laid part read follows p)

  pub elements_laid : (ends : Token → Bool) (part : Tracer) (read : Reader X) → Follows f part read → (p : ℕ)
      → elements_turn text ends part (listed (separated_marks (opt f)) found marks) (listed_at found p) ≡ as_element (lists.elements_turn text ends read p)
  unfolding elements_turn lists.elements_turn
  elements_laid ends part read follows p = seen_bind as_element refl (token text Operator p) _ _ (λ t.
      laid_if as_element (ends t) refl (hole_laid part read follows t p))

abbrev pub at_stop : {X : Type 0} → List X → Stop → Stop
at_stop found s = s

module _ {X : Type 0} (text : Bytes) (f : X → Lays) (marks : Marks) (found : List (Separated X)) where
  abbrev as_ended : Option (TurnOf Stop (Separated X)) → Traced (Turn Stop)
  as_ended = laid_turn (separated_marks f) at_stop found marks

  pub end_laid : (x : X) (s : Stop) → comma_or_end text (f x (listed (separated_marks f) found marks)) s ≡ as_ended (ended_lists.comma_or_end text x s)
  unfolding comma_or_end ended_lists.comma_or_end
  end_laid x s = seen_bind as_ended refl (token text Operator s.at) _ _ (λ t. laid_if as_ended (is_mark text (codes ",") t) refl refl)

  pub ended_laid : (part : Ended) (read : reads.Ended X) → Follows f part read → (s : Stop)
      → ended_turn text part (listed (separated_marks f) found marks) s ≡ as_ended (ended_lists.ended_turn text read s)
  unfolding ended_turn ended_lists.ended_turn
  ended_laid part read follows s = laid_bind f (listed (separated_marks f) found marks) as_ended refl _ (read s.at) _ _ (follows _ s.at) (λ x. end_laid x.0 x.1)
