-- What is made of what is traced follows what is made of what is read, whatever that is on either side.
use Rattle.std.proofs.Common.{◌≡◌, Bool, true, false, List, [], ◌+◌, length, Option, Some, None, if◌then◌else◌, refl, ap, sym, ◌∙◌}
use Rattle.es_grammar.specs.Reading.{Bytes}
use Rattle.es_outline.specs.Outline.{Lays, Marks, listed}
use Rattle.es_reader.specs.Basics.{◌>>=◌}
use Rattle.es_reader.specs.declared.pieces.TurnOf.{TurnOf}
use Rattle.es_reader.specs.Loops as reads
use Rattle.es_trace.specs.Basics.{Traced, laid}
use Rattle.es_trace.specs.Loops.{Turning, all_turns}
use Rattle.es_trace.proofs.Laying.{laid_all, laid_repeat, laid_turn}

-- ψ says what is made of what was traced, φ what is traced of what was made of what was read

-- what was read first
pub both_laid : {X S A B : Type 0} (f : X → Lays) (before : Marks) (ψ : Traced S → Option B) (φ : Option A → Option B) → ψ None ≡ φ None
    → (traced : Traced S) (read : Option (X × S)) (next : X × S → Option A) → traced ≡ laid f before read
    → ((x : X × S) → ψ (Some (f x.0 before, x.1)) ≡ φ (next x)) → ψ traced ≡ φ (read >>= next)
both_laid f before ψ φ none traced None next is each = ap ψ is ∙ none
both_laid f before ψ φ none traced (Some x) next is each = ap ψ is ∙ each x

-- what is no part of the tree
pub both_seen : {A B C D : Type 0} (ψ : Option D → Option B) (φ : Option A → Option B) → ψ None ≡ φ None → (seen : Option C) (trace : C → Option D)
    (next : C → Option A) → ((c : C) → ψ (trace c) ≡ φ (next c)) → ψ (seen >>= trace) ≡ φ (seen >>= next)
both_seen ψ φ none None trace next each = none
both_seen ψ φ none (Some c) trace next each = each c

-- one way or the other
pub both_if : {A B D : Type 0} (ψ : Option D → Option B) (φ : Option A → Option B) (b : Bool) {traced other : Option D} {read second : Option A}
    → ψ traced ≡ φ read → ψ other ≡ φ second → ψ (if b then traced else other) ≡ φ (if b then read else second)
both_if ψ φ true is other = is
both_if ψ φ false is other = other

-- a token, where it matters that it stands there
pub known_bind : {A B C : Type 0} (φ : Option A → Option B) → φ None ≡ None → (seen : Option C) (trace : C → Option B) (next : C → Option A)
    → ((c : C) → seen ≡ Some c → trace c ≡ φ (next c)) → (seen >>= trace) ≡ φ (seen >>= next)
known_bind φ none None trace next each = sym none
known_bind φ none (Some c) trace next each = each c refl

-- what comes to the same either way
pub either_way : {A : Type 0} (b : Bool) {x y z : A} → (b ≡ true → x ≡ z) → (b ≡ false → y ≡ z) → (if b then x else y) ≡ z
either_way true is other = is refl
either_way false is other = other refl

-- all parts of a list, and then what follows them
pub all_bind : {X S T A B : Type 0} (f : X → Lays) (state : List X → S → T) (before : Marks) (φ : Option A → Option B) → φ None ≡ None
    → (traced : Traced T) (read : Option (List X × S)) (trace : Marks × T → Option B) (next : List X × S → Option A)
    → traced ≡ laid_all f state before read
    → ((x : List X × S) → trace (listed f x.0 before, state x.0 x.1) ≡ φ (next x)) → (traced >>= trace) ≡ φ (read >>= next)
all_bind f state before φ none traced None trace next is each = ap (λ t. t >>= trace) is ∙ sym none
all_bind f state before φ none traced (Some x) trace next is each = ap (λ t. t >>= trace) is ∙ each x

-- all parts of a list, of which another part is made alone
pub all_made : {X S T A : Type 0} (f : X → Lays) (state : List X → S → T) (before : Marks) (φ : Option A → Traced T) → φ None ≡ None
    → (traced : Traced T) (read : Option (List X × S)) (next : List X × S → Option A) → traced ≡ laid_all f state before read
    → ((x : List X × S) → Some (listed f x.0 before, state x.0 x.1) ≡ φ (next x)) → traced ≡ φ (read >>= next)
all_made f state before φ none traced None next is each = is ∙ sym none
all_made f state before φ none traced (Some x) next is each = is ∙ each x

-- all turns are traced as they are read
pub laid_turns : {X S T : Type 0} (text : Bytes) (f : X → Lays) (state : List X → S → T) (turn : S → Option (TurnOf S X)) (trace : Turning T)
    (marks : Marks) → ((found : List X) (s : S) → trace (listed f found marks) (state found s) ≡ laid_turn f state found marks (turn s))
    → (s : S) → all_turns text trace marks (state [] s) ≡ laid_all f state marks (reads.all_turns text turn s)
laid_turns text f state turn trace marks each s = laid_repeat f state turn trace marks each (length text + 1) [] s
