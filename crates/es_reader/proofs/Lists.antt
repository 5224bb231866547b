-- The lists that are read are of the grammar, if the parts are.
use Rattle.std.proofs.Common.{◌≡◌, ℕ, zero, suc, ◌+◌, Bool, true, List, [], ◌∷◌, ◌++◌, length, Option, Some, None, refl, sym, subst, ◌∙◌, append_assoc}
use Rattle.std.specs.Prelude.{codes}
use Rattle.std.proofs.lemmas.List.{append-nil}
use Rattle.es_tree.specs.declared.tokens.Token.{Token}
use Rattle.es_tree.specs.declared.tokens.Goal.TheVariants.{Operand, Operator}
use Rattle.es_tree.specs.declared.parts.Separated.{Separated}
use Rattle.es_tree.specs.declared.parts.Rest.{Rest}
use Rattle.es_grammar.specs.declared.places.Stop.{Stop}
use Rattle.es_grammar.specs.Reading.{Bytes, MarkAt}
use Rattle.es_grammar.specs.Semicolons.{stop, other}
use Rattle.es_grammar.specs.Lists.{Chain, ElementsAt, EachAt, EachElementAt, EndedListAt, ListAt, SomeAt, separated}
use Rattle.es_grammar.specs.Functions.{RestAt}
use Rattle.es_reader.specs.Basics.{Reader, Ended, is_mark, token}
use Rattle.es_reader.specs.declared.pieces.TurnOf.{TurnOf}
use Rattle.es_reader.specs.declared.pieces.TurnOf.TheVariants.{Ended as ended}
use Rattle.es_reader.specs.declared.pieces.TurnOf.TheVariants.{Last as last}
use Rattle.es_reader.specs.declared.pieces.TurnOf.TheVariants.{More as more}
use Rattle.es_reader.specs.Loops.{Turn, all_turns, go_on, repeat}
use Rattle.es_reader.specs.Lists.{chain_turn, comma_behind, element_or_hole, element_part, elements_turn, ends_with_comma, list_part, list_turn, next_part, read_list_to, rest_behind}
use Rattle.es_reader.specs.EndedLists.{comma_or_end, ended_turn, read_ended_list}
use Rattle.es_reader.specs.Soundness.{Sound, SoundEnded}
use Rattle.es_reader.proofs.Steps.{bind_some, chosen, when, else, given, just, mark_there, marked, some_is}

-- what a loop found besides
abbrev pub Grown : {S X : Type 0} → (S → List X → S → Type 0) → S → List X → List X × S → Type 0
Grown {S} {X} rule p found y = (ys : List X) × (y.0 ≡ found ++ ys) × rule p ys y.1

-- how a turn goes into a list
abbrev pub Joins : {S X : Type 0} → (S → List X → S → Type 0) → S → TurnOf S X → Type 0
Joins rule p (ended q) = rule p [] q
Joins rule p (last x q) = rule p (x ∷ []) q
Joins {S} {X} rule p (more x q) = (ys : List X) (z : S) → rule q ys z → rule p (x ∷ ys) z

grown_by : {S X : Type 0} (rule : S → List X → S → Type 0) (p : S) (t : TurnOf S X) → Joins rule p t → (found : List X)
    (next : List X → S → Option (List X × S)) (y : List X × S)
    → ((more : List X) (q : S) → next more q ≡ Some y → Grown rule q more y) → go_on found next t ≡ Some y → Grown rule p found y
grown_by rule p (ended q) h found next y rest e = subst (λ (z : List _ × _). Grown rule p found z) (some_is _ _ e) ([], sym (append-nil found), h)
grown_by rule p (last x q) h found next y rest e = subst (λ (z : List _ × _). Grown rule p found z) (some_is _ _ e) (x ∷ [], refl, h)
grown_by rule p (more x q) h found next y rest e =
    let g = rest _ _ e in (x ∷ g.0, g.1 ∙ append_assoc found (x ∷ []) g.0, h g.0 _ g.2)

pub repeat_sound : {S X : Type 0} (rule : S → List X → S → Type 0) (turn : S → Option (TurnOf S X))
    → ((p : S) (t : TurnOf S X) → turn p ≡ Some t → Joins rule p t) → (n : ℕ) (found : List X) (p : S) (y : List X × S)
    → repeat turn n found p ≡ Some y → Grown rule p found y
unfolding repeat
repeat_sound rule turn sound zero found p y e = absurd cc
repeat_sound rule turn sound (suc n) found p y e =
    let t = bind_some _ _ _ e in
    grown_by rule p t.0 (sound p t.0 t.1) found (repeat turn n) y (λ more q. repeat_sound rule turn sound n more q y) t.2

from_none : {S X : Type 0} (rule : S → List X → S → Type 0) (p : S) (y : List X × S) → Grown rule p [] y → rule p y.0 y.1
from_none rule p y g = subst (λ ys. rule p ys y.1) (sym g.1) g.2

pub turns_sound : {S X : Type 0} (text : Bytes) (rule : S → List X → S → Type 0) (turn : S → Option (TurnOf S X))
    → ((p : S) (t : TurnOf S X) → turn p ≡ Some t → Joins rule p t) → (p : S) (y : List X × S)
    → all_turns text turn p ≡ Some y → rule p y.0 y.1
turns_sound text rule turn sound p y e = from_none rule p y (repeat_sound rule turn sound (length text + 1) [] p y e)

-- the turns behind a first one
pub turns_behind_sound : {S X : Type 0} (text : Bytes) (rule : S → List X → S → Type 0) (turn : S → Option (TurnOf S X))
    → ((p : S) (t : TurnOf S X) → turn p ≡ Some t → Joins rule p t) → (p : S) (t : TurnOf S X) → Joins rule p t → (y : List X × S)
    → go_on [] (repeat turn (length text + 1)) t ≡ Some y → rule p y.0 y.1
turns_behind_sound text rule turn sound p t h y e =
    from_none rule p y (grown_by rule p t h [] (repeat turn (length text + 1)) y (λ more q. repeat_sound rule turn sound (length text + 1) more q y) e)

-- what was answered of a turn
turned : {S X : Type 0} (rule : S → List X → S → Type 0) (p : S) (a t : TurnOf S X) → just a ≡ just t → Joins rule p a → Joins rule p t
turned rule p a t e h = subst (Joins rule p) (some_is _ _ e) h

chain_turn_sound : {X : Type 0} (text : Bytes) (ends : Token → Bool) (part : Reader X) (a_part : ℕ → X → ℕ → Type 0) → Sound a_part part
    → (p : ℕ) (t : Turn X) → chain_turn text ends part p ≡ Some t → Joins (Chain a_part) p t
unfolding chain_turn next_part
chain_turn_sound text ends part a_part sound p t e =
    let u = bind_some (token text Operand p) _ _ e in
    elim (chosen (ends u.0) (Some (ended p)) (next_part part p) _ u.2) [
      | when h f ↦ turned (Chain a_part) p _ t f Chain.none
      | else h f ↦ let x = bind_some (part p) _ _ f in
          turned (Chain a_part) p _ t x.2 (λ ys z g. Chain.more _ ys (sound _ _ x.1) g)
    ]

-- parts one behind the other
pub chain_sound : {X : Type 0} (text : Bytes) (ends : Token → Bool) (part : Reader X) (a_part : ℕ → X → ℕ → Type 0) → Sound a_part part
    → (p : ℕ) (y : List X × ℕ) → all_turns text (chain_turn text ends part) p ≡ Some y → Chain a_part p y.0 y.1
chain_sound text ends part a_part sound p y e = turns_sound text (Chain a_part) _ (chain_turn_sound text ends part a_part sound) p y e

more_listed : {X : Type 0} (text : Bytes) (a_part : ℕ → X → ℕ → Type 0) (p a : ℕ) (x : X) (comma : Token) → a_part p x a → MarkAt text Operator (codes ",") a comma
    → (ys : List (Separated X)) (z : ℕ) → ListAt text a_part comma.end ys z → ListAt text a_part p (separated x (Some comma) ∷ ys) z
more_listed text a_part p a x comma h m _ _ ListAt.none = ListAt.some _ (SomeAt.ended x comma h m)
more_listed text a_part p a x comma h m _ _ (ListAt.some ys g) = ListAt.some _ (SomeAt.more x comma ys h m g)

comma_sound : {X : Type 0} (text : Bytes) (a_part : ℕ → X → ℕ → Type 0) (p : ℕ) (x : X) (q : ℕ) → a_part p x q → (t : Turn (Separated X))
    → comma_behind text x q ≡ Some t → Joins (ListAt text a_part) p t
unfolding comma_behind
comma_sound text a_part p x q is t e =
    let u = bind_some (token text Operator q) _ _ e in
    elim (chosen (is_mark text (codes ",") u.0) (Some (more (separated x (Some u.0)) u.0.end)) (Some (last (separated x None) q)) _ u.2) [
      | when h f ↦ turned (ListAt text a_part) p _ t f (more_listed text a_part p q x u.0 is (marked u.1 h))
      | else h f ↦ turned (ListAt text a_part) p _ t f (ListAt.some _ (SomeAt.last x is))
    ]

list_turn_sound : {X : Type 0} (text : Bytes) (ends : Token → Bool) (part : Reader X) (a_part : ℕ → X → ℕ → Type 0) → Sound a_part part
    → (p : ℕ) (t : Turn (Separated X)) → list_turn text ends part p ≡ Some t → Joins (ListAt text a_part) p t
unfolding list_turn list_part
list_turn_sound text ends part a_part sound p t e =
    let u = bind_some (token text Operand p) _ _ e in
    elim (chosen (ends u.0) (Some (ended p)) (list_part text part p) _ u.2) [
      | when h f ↦ turned (ListAt text a_part) p _ t f ListAt.none
      | else h f ↦ let x = bind_some (part p) _ _ f in comma_sound text a_part p _ _ (sound _ _ x.1) t x.2
    ]

-- parts with commas
pub list_sound : {X : Type 0} (text : Bytes) (ends : Token → Bool) (part : Reader X) (a_part : ℕ → X → ℕ → Type 0) → Sound a_part part
    → (p : ℕ) (y : List (Separated X) × ℕ) → all_turns text (list_turn text ends part) p ≡ Some y → ListAt text a_part p y.0 y.1
list_sound text ends part a_part sound p y e = turns_sound text (ListAt text a_part) _ (list_turn_sound text ends part a_part sound) p y e

-- the same up to a closing mark
pub list_to_sound : {X : Type 0} (text : Bytes) (closing : List ℕ) (part : Reader X) (a_part : ℕ → X → ℕ → Type 0) → Sound a_part part
    → (p : ℕ) (y : List (Separated X) × Token) → read_list_to text closing part p ≡ Some y
    → (q : ℕ) × ListAt text a_part p y.0 q × MarkAt text Operator closing q y.1
unfolding read_list_to
list_to_sound text closing part a_part sound p y e =
    let xs = bind_some (all_turns text (list_turn text (is_mark text closing) part) p) _ _ e in
    let right = bind_some _ _ _ xs.2 in
    subst (λ (z : List _ × Token). (q : ℕ) × ListAt text a_part p z.0 q × MarkAt text Operator closing q z.1) (some_is _ _ right.2)
    (xs.0.1, list_sound text _ part a_part sound p _ xs.1, mark_there right.1)

comma_element_sound : {X : Type 0} (text : Bytes) (a_part : ℕ → X → ℕ → Type 0) (p : ℕ) (x : X) (q : ℕ) → a_part p x q → (t : Turn (Separated (Option X)))
    → comma_behind text (Some x) q ≡ Some t → Joins (ElementsAt text a_part) p t
unfolding comma_behind
comma_element_sound text a_part p x q is t e =
    let u = bind_some (token text Operator q) _ _ e in
    elim (chosen (is_mark text (codes ",") u.0) (Some (more (separated (just x) (Some u.0)) u.0.end)) (Some (last (separated (just x) None) q)) _ u.2) [
      | when h f ↦ turned (ElementsAt text a_part) p _ t f (λ ys z g. ElementsAt.more x u.0 ys is (marked u.1 h) g)
      | else h f ↦ turned (ElementsAt text a_part) p _ t f (ElementsAt.last x is)
    ]

elements_turn_sound : {X : Type 0} (text : Bytes) (ends : Token → Bool) (part : Reader X) (a_part : ℕ → X → ℕ → Type 0) → Sound a_part part
    → (p : ℕ) (t : Turn (Separated (Option X))) → elements_turn text ends part p ≡ Some t → Joins (ElementsAt text a_part) p t
unfolding elements_turn element_or_hole element_part
elements_turn_sound text ends part a_part sound p t e =
    let u = bind_some (token text Operator p) _ _ e in
    elim (chosen (ends u.0) (Some (ended p)) (element_or_hole text part u.0 p) _ u.2) [
      | when h f ↦ turned (ElementsAt text a_part) p _ t f ElementsAt.none
      | else h f ↦ elim (chosen (is_mark text (codes ",") u.0) (Some (more (separated None (Some u.0)) u.0.end)) (element_part text part p) _ f) [
        | when i g ↦ turned (ElementsAt text a_part) p _ t g (λ ys z k. ElementsAt.hole u.0 ys (marked u.1 i) k)
        | else i g ↦ let x = bind_some (part p) _ _ g in comma_element_sound text a_part p _ _ (sound _ _ x.1) t x.2
      ]
    ]

-- elements and holes
pub elements_sound : {X : Type 0} (text : Bytes) (ends : Token → Bool) (part : Reader X) (a_part : ℕ → X → ℕ → Type 0) → Sound a_part part
    → (p : ℕ) (y : List (Separated (Option X)) × ℕ) → all_turns text (elements_turn text ends part) p ≡ Some y → ElementsAt text a_part p y.0 y.1
elements_sound text ends part a_part sound p y e = turns_sound text (ElementsAt text a_part) _ (elements_turn_sound text ends part a_part sound) p y e

-- a list behind which a part may follow has a comma behind each
some_each : {X : Type 0} (text : Bytes) (a_part : ℕ → X → ℕ → Type 0) (p : ℕ) (xs : List (Separated X)) (q : ℕ) → SomeAt text a_part p xs q
    → ends_with_comma xs ≡ true → EachAt text a_part p xs q
some_each text a_part p _ q (SomeAt.last x h) e = absurd cc
some_each text a_part p _ _ (SomeAt.ended x comma h m) e = EachAt.more x comma [] h m EachAt.none
some_each text a_part p _ q (SomeAt.more x comma _ h m (SomeAt.last y k)) e = EachAt.more x comma _ h m (some_each text a_part _ _ _ (SomeAt.last y k) e)
some_each text a_part p _ q (SomeAt.more x comma _ h m (SomeAt.ended y d k n)) e = EachAt.more x comma _ h m (some_each text a_part _ _ _ (SomeAt.ended y d k n) e)
some_each text a_part p _ q (SomeAt.more x comma _ h m (SomeAt.more y d ys k n g)) e = EachAt.more x comma _ h m (some_each text a_part _ _ _ (SomeAt.more y d ys k n g) e)

pub each_of_list : {X : Type 0} (text : Bytes) (a_part : ℕ → X → ℕ → Type 0) (p : ℕ) (xs : List (Separated X)) (q : ℕ) → ListAt text a_part p xs q
    → ends_with_comma xs ≡ true → EachAt text a_part p xs q
each_of_list text a_part p _ _ ListAt.none e = EachAt.none
each_of_list text a_part p _ q (ListAt.some xs h) e = some_each text a_part p xs q h e

behind_comma : {Y : Type 0} (x : Separated Y) (ys : List (Separated Y)) (comma : Token) → x.comma ≡ Some comma → ends_with_comma (x ∷ ys) ≡ true
    → ends_with_comma ys ≡ true
behind_comma x [] comma c e = refl
behind_comma x (y ∷ ys) comma c e = e

pub each_of_elements : {X : Type 0} (text : Bytes) (a_part : ℕ → X → ℕ → Type 0) (p : ℕ) (xs : List (Separated (Option X))) (q : ℕ)
    → ElementsAt text a_part p xs q → ends_with_comma xs ≡ true → EachElementAt text a_part p xs q
each_of_elements text a_part p _ _ ElementsAt.none e = EachElementAt.none
each_of_elements text a_part p _ q (ElementsAt.hole comma xs m g) e =
    EachElementAt.hole comma xs m (each_of_elements text a_part _ xs q g (behind_comma (separated None (Some comma)) xs comma refl e))
each_of_elements text a_part p _ q (ElementsAt.last x h) e = absurd cc
each_of_elements text a_part p _ q (ElementsAt.more x comma xs h m g) e =
    EachElementAt.more x comma xs h m (each_of_elements text a_part _ xs q g (behind_comma (separated (Some x) (Some comma)) xs comma refl e))

-- what stands behind `...`
pub rest_sound : {X : Type 0} (text : Bytes) (part : Reader X) (a_part : ℕ → X → ℕ → Type 0) → Sound a_part part → (p : ℕ) (dots : Token)
    → MarkAt text Operand (codes "...") p dots → (y : Rest X × ℕ) → rest_behind part dots ≡ Some y → RestAt text a_part p y.0 y.1
unfolding rest_behind
rest_sound text part a_part sound p dots m y e =
    let x = bind_some (part dots.end) _ _ e in given (RestAt text a_part p) _ _ y x.2 (RestAt.rest dots x.0.0 m (sound _ _ x.1))

-- a list with no comma behind the last, from a stop on
abbrev pub EndedFrom : {X : Type 0} → Bytes → (ℕ → X → Stop → Type 0) → Stop → List (Separated X) → Stop → Type 0
EndedFrom text a_part s xs z = EndedListAt text a_part s.at xs z

pub comma_or_end_sound : {X : Type 0} (text : Bytes) (a_part : ℕ → X → Stop → Type 0) (s : Stop) (x : X) (a : Stop) → a_part s.at x a
    → (t : TurnOf Stop (Separated X)) → comma_or_end text x a ≡ Some t → Joins (EndedFrom text a_part) s t
unfolding comma_or_end
comma_or_end_sound text a_part s x a is t e =
    let u = bind_some (token text Operator a.at) _ _ e in
    elim (chosen (is_mark text (codes ",") u.0) (Some (more (separated x (Some u.0)) (stop u.0.end other))) (Some (last (separated x None) a)) _ u.2) [
      | when h f ↦ turned (EndedFrom text a_part) s _ t f (λ ys z g. EndedListAt.more x u.0 ys is (marked u.1 h) g)
      | else h f ↦ turned (EndedFrom text a_part) s _ t f (EndedListAt.last x is)
    ]

pub ended_turn_sound : {X : Type 0} (text : Bytes) (part : Ended X) (a_part : ℕ → X → Stop → Type 0) → SoundEnded a_part part
    → (s : Stop) (t : TurnOf Stop (Separated X)) → ended_turn text part s ≡ Some t → Joins (EndedFrom text a_part) s t
unfolding ended_turn
ended_turn_sound text part a_part sound s t e =
    let x = bind_some (part s.at) _ _ e in comma_or_end_sound text a_part s _ _ (sound _ _ x.1) t x.2

pub ended_list_sound : {X : Type 0} (text : Bytes) (part : Ended X) (a_part : ℕ → X → Stop → Type 0) → SoundEnded a_part part
    → (p : ℕ) (y : List (Separated X) × Stop) → read_ended_list text part p ≡ Some y → EndedListAt text a_part p y.0 y.1
ended_list_sound text part a_part sound p y e = turns_sound text (EndedFrom text a_part) _ (ended_turn_sound text part a_part sound) (stop p other) y e
