-- How what is traced follows what is read, step by step.
use Rattle.std.proofs.Common.{◌≡◌, ℕ, zero, suc, Bool, true, false, List, [], ◌∷◌, ◌++◌, Option, Some, None, if◌then◌else◌, refl, ap, sym, ◌∙◌, append_assoc}
use Rattle.es_tree.specs.declared.tokens.Token.{Token}
use Rattle.es_outline.specs.Outline.{Lays, Marks, listed, nothing, ◌⨾◌}
use Rattle.es_reader.specs.Basics.{◌>>=◌, or_else}
use Rattle.es_reader.specs.Operators.{through}
use Rattle.es_reader.specs.declared.pieces.TurnOf.{TurnOf}
use Rattle.es_reader.specs.declared.pieces.TurnOf.TheVariants as read_v
use Rattle.es_reader.specs.Loops as reads
use Rattle.es_trace.specs.Basics.{Traced, laid}
use Rattle.es_trace.specs.Loops.{Turning, go_on, repeat}
use Rattle.es_trace.specs.declared.pieces.Turn.{Turn}
use Rattle.es_trace.specs.declared.pieces.Turn.TheVariants as turn_v

-- φ says what is traced of what was read, where something was

-- what was read first, and then what follows it
pub laid_bind : {X S A B : Type 0} (f : X → Lays) (before : Marks) (φ : Option A → Option B) → φ None ≡ None → (traced : Traced S)
    (read : Option (X × S)) (trace : Marks × S → Option B) (next : X × S → Option A) → traced ≡ laid f before read
    → ((x : X × S) → trace (f x.0 before, x.1) ≡ φ (next x)) → (traced >>= trace) ≡ φ (read >>= next)
laid_bind f before φ none traced None trace next is each = ap (λ t. t >>= trace) is ∙ sym none
laid_bind f before φ none traced (Some x) trace next is each = ap (λ t. t >>= trace) is ∙ each x

-- the same where it matters that it was read
pub known_bind : {X S A B : Type 0} (f : X → Lays) (before : Marks) (φ : Option A → Option B) → φ None ≡ None → (traced : Traced S)
    (read : Option (X × S)) (trace : Marks × S → Option B) (next : X × S → Option A) → traced ≡ laid f before read
    → ((x : X × S) → read ≡ Some x → trace (f x.0 before, x.1) ≡ φ (next x)) → (traced >>= trace) ≡ φ (read >>= next)
known_bind f before φ none traced None trace next is each = ap (λ t. t >>= trace) is ∙ sym none
known_bind f before φ none traced (Some x) trace next is each = ap (λ t. t >>= trace) is ∙ each x refl

-- what is no part of the tree, a token most of the time, and then what follows it
pub seen_bind : {C A B : Type 0} (φ : Option A → Option B) → φ None ≡ None → (seen : Option C) (trace : C → Option B) (next : C → Option A)
    → ((c : C) → trace c ≡ φ (next c)) → (seen >>= trace) ≡ φ (seen >>= next)
seen_bind φ none None trace next each = sym none
seen_bind φ none (Some c) trace next each = each c

-- the same where it matters what stands there
pub there_bind : {C A B : Type 0} (φ : Option A → Option B) → φ None ≡ None → (seen : Option C) (trace : C → Option B) (next : C → Option A)
    → ((c : C) → seen ≡ Some c → trace c ≡ φ (next c)) → (seen >>= trace) ≡ φ (seen >>= next)
there_bind φ none None trace next each = sym none
there_bind φ none (Some c) trace next each = each c refl

-- the same two within what is done behind them
pub laid_then : {X S A B C : Type 0} (g : C → Option B) (f : X → Lays) (before : Marks) (φ : Option A → Option B) → φ None ≡ None → (traced : Traced S)
    (read : Option (X × S)) (trace : Marks × S → Option C) (next : X × S → Option A) → traced ≡ laid f before read
    → ((x : X × S) → (trace (f x.0 before, x.1) >>= g) ≡ φ (next x)) → ((traced >>= trace) >>= g) ≡ φ (read >>= next)
laid_then g f before φ none traced None trace next is each = ap (λ t. (t >>= trace) >>= g) is ∙ sym none
laid_then g f before φ none traced (Some x) trace next is each = ap (λ t. (t >>= trace) >>= g) is ∙ each x

pub seen_then : {D A B C : Type 0} (g : C → Option B) (φ : Option A → Option B) → φ None ≡ None → (seen : Option D) (trace : D → Option C)
    (next : D → Option A) → ((d : D) → (trace d >>= g) ≡ φ (next d)) → ((seen >>= trace) >>= g) ≡ φ (seen >>= next)
seen_then g φ none None trace next each = sym none
seen_then g φ none (Some d) trace next each = each d

-- steps one behind the other may be put together either way
pub assoc : {A B C : Type 0} (o : Option A) (f : A → Option B) (g : B → Option C) → ((o >>= f) >>= g) ≡ (o >>= λ a. f a >>= g)
assoc None f g = refl
assoc (Some a) f g = refl

-- one way or the other
pub laid_if : {A B : Type 0} (φ : Option A → Option B) (b : Bool) {traced other : Option B} {read second : Option A} → traced ≡ φ read
    → other ≡ φ second → (if b then traced else other) ≡ φ (if b then read else second)
laid_if φ true is other = is
laid_if φ false is other = other

-- the same within what is done with it in both cases
pub inside_if : {C A B : Type 0} (h : C → Option B) (φ : Option A → Option B) (b : Bool) {traced other : C} {read second : Option A} → h traced ≡ φ read
    → h other ≡ φ second → h (if b then traced else other) ≡ φ (if b then read else second)
inside_if h φ true is other = is
inside_if h φ false is other = other

-- the first of two that is there
pub laid_or : {X S : Type 0} (f : X → Lays) (marks : Marks) (traced other : Traced S) (read second : Option (X × S))
    → traced ≡ laid f marks read → other ≡ laid f marks second → or_else traced other ≡ laid f marks (or_else read second)
laid_or f marks traced other None second is same = ap (λ t. or_else t other) is ∙ same
laid_or f marks traced other (Some x) second is same = ap (λ t. or_else t other) is

-- what was read decides how it goes on
pub laid_through : {X S A B : Type 0} (f : X → Lays) (before : Marks) (φ : Option A → Option B) (traced : Traced S) (read : Option (X × S))
    (trace : Marks × S → Option B) (next : X × S → Option A) (other : Option B) (second : Option A) → traced ≡ laid f before read
    → ((x : X × S) → trace (f x.0 before, x.1) ≡ φ (next x)) → other ≡ φ second
    → through traced trace other ≡ φ (through read next second)
laid_through f before φ traced None trace next other second is each same = ap (λ t. through t trace other) is ∙ same
laid_through f before φ traced (Some x) trace next other second is each same = ap (λ t. through t trace other) is ∙ each x

-- a part that another one is made of alone
pub laid_as : {X Y S : Type 0} (f : X → Lays) (g : Y → Lays) (before marks : Marks) (traced : Traced S) (read : Option (X × S)) (make : X → Y)
    → traced ≡ laid f before read → ((x : X) → f x before ≡ g (make x) marks)
    → traced ≡ laid g marks (read >>= λ x. Some (make x.0, x.1))
laid_as f g before marks traced None make is each = is
laid_as f g before marks traced (Some x) make is each = is ∙ ap (λ m. Some (m, x.1)) (each x.0)

-- these marks, and where they end
abbrev pub marked : {S : Type 0} → Lays → Marks → S → Traced S
marked f marks s = Some (f marks, s)

-- what the marks are by a law
pub law_at : {S : Type 0} {f g : Lays} → f ≡ g → (marks : Marks) (s : S) → marked g marks s ≡ marked f marks s
law_at is marks s = ap (λ h. marked h marks s) (sym is)

pub mark_at : {f g : Lays} → f ≡ g → (marks : Marks) → g marks ≡ f marks
mark_at is marks = ap (λ h. h marks) (sym is)

-- what is marked of a list with one more part
pub listed_push : {X : Type 0} (f : X → Lays) (xs : List X) (x : X) (marks : Marks) → listed f (xs ++ x ∷ []) marks ≡ f x (listed f xs marks)
listed_push f [] x marks = refl
listed_push f (y ∷ ys) x marks = listed_push f ys x (f y marks)

pub listed_append : {X : Type 0} (f : X → Lays) (xs ys : List X) (marks : Marks) → listed f (xs ++ ys) marks ≡ listed f ys (listed f xs marks)
listed_append f [] ys marks = refl
listed_append f (x ∷ xs) ys marks = listed_append f xs ys (f x marks)

-- what a turn came to, behind the parts that were found before it; `state` is what is known of these and of a place
abbrev pub laid_turn : {X S T : Type 0} → (X → Lays) → (List X → S → T) → List X → Marks → Option (TurnOf S X) → Traced (Turn T)
laid_turn f state found marks None = None
laid_turn f state found marks (Some (read_v.Ended s)) = Some (listed f found marks, turn_v.Ended (state found s))
laid_turn f state found marks (Some (read_v.Last x s)) = Some (f x (listed f found marks), turn_v.Ended (state (found ++ x ∷ []) s))
laid_turn f state found marks (Some (read_v.More x s)) = Some (f x (listed f found marks), turn_v.More (state (found ++ x ∷ []) s))

-- all parts that were found, and what is known at their end
abbrev pub laid_all : {X S T : Type 0} → (X → Lays) → (List X → S → T) → Marks → Option (List X × S) → Traced T
laid_all f state marks None = None
laid_all f state marks (Some x) = Some (listed f x.0 marks, state x.0 x.1)

-- all parts that were found, and then what follows them
pub all_bind : {X S T A B : Type 0} (f : X → Lays) (state : List X → S → T) (before : Marks) (φ : Option A → Option B) → φ None ≡ None
    → (traced : Traced T) (read : Option (List X × S)) (trace : Marks × T → Option B) (next : List X × S → Option A)
    → traced ≡ laid_all f state before read → ((x : List X × S) → trace (listed f x.0 before, state x.0 x.1) ≡ φ (next x))
    → (traced >>= trace) ≡ φ (read >>= next)
all_bind f state before φ none traced None trace next is each = ap (λ t. t >>= trace) is ∙ sym none
all_bind f state before φ none traced (Some x) trace next is each = ap (λ t. t >>= trace) is ∙ each x

module _ {X S T : Type 0} (f : X → Lays) (state : List X → S → T) (turn : S → Option (TurnOf S X)) (trace : Turning T) (marks : Marks)
    (each : (found : List X) (s : S) → trace (listed f found marks) (state found s) ≡ laid_turn f state found marks (turn s)) where
  pub one_more : (n : ℕ) (found : List X) (s : S) → ((found : List X) (s : S) → repeat trace n (listed f found marks) (state found s)
      ≡ laid_all f state marks (reads.repeat turn n found s)) → (came : Option (TurnOf S X))
      → (laid_turn f state found marks came >>= λ x. go_on (repeat trace n) x.0 x.1)
      ≡ laid_all f state marks (came >>= reads.go_on found (reads.repeat turn n))
  one_more n found s held None = refl
  one_more n found s held (Some (read_v.Ended q)) = refl
  one_more n found s held (Some (read_v.Last x q)) = ap (λ m. Some (m, state (found ++ x ∷ []) q)) (sym (listed_push f found x marks))
  one_more n found s held (Some (read_v.More x q)) =
      ap (λ m. repeat trace n m (state (found ++ x ∷ []) q)) (sym (listed_push f found x marks)) ∙ held (found ++ x ∷ []) q

  -- the turns are traced as they are read
  pub laid_repeat : (n : ℕ) (found : List X) (s : S) → repeat trace n (listed f found marks) (state found s)
      ≡ laid_all f state marks (reads.repeat turn n found s)
  unfolding repeat reads.repeat
  laid_repeat zero found s = refl
  laid_repeat (suc n) found s = ap (λ t. t >>= λ x. go_on (repeat trace n) x.0 x.1) (each found s)
      ∙ one_more n found s (laid_repeat n) (turn s)

-- what was read, with what is known of it besides
abbrev pub laid_known : {X S T : Type 0} → (X → Lays) → (X → S → T) → Marks → Option (X × S) → Traced T
laid_known f state marks None = None
laid_known f state marks (Some x) = Some (f x.0 marks, state x.0 x.1)

-- the same, and then what follows it
pub state_bind : {X S T A B : Type 0} (f : X → Lays) (state : X → S → T) (before : Marks) (φ : Option A → Option B) → φ None ≡ None
    → (traced : Traced T) (read : Option (X × S)) (trace : Marks × T → Option B) (next : X × S → Option A)
    → traced ≡ laid_known f state before read → ((x : X × S) → trace (f x.0 before, state x.0 x.1) ≡ φ (next x))
    → (traced >>= trace) ≡ φ (read >>= next)
state_bind f state before φ none traced None trace next is each = ap (λ t. t >>= trace) is ∙ sym none
state_bind f state before φ none traced (Some x) trace next is each = ap (λ t. t >>= trace) is ∙ each x

-- the same within what is done behind it
pub state_then : {X S T A B C : Type 0} (g : C → Option B) (f : X → Lays) (state : X → S → T) (before : Marks) (φ : Option A → Option B) → φ None ≡ None
    → (traced : Traced T) (read : Option (X × S)) (trace : Marks × T → Option C) (next : X × S → Option A)
    → traced ≡ laid_known f state before read → ((x : X × S) → (trace (f x.0 before, state x.0 x.1) >>= g) ≡ φ (next x))
    → ((traced >>= trace) >>= g) ≡ φ (read >>= next)
state_then g f state before φ none traced None trace next is each = ap (λ t. (t >>= trace) >>= g) is ∙ sym none
state_then g f state before φ none traced (Some x) trace next is each = ap (λ t. (t >>= trace) >>= g) is ∙ each x
