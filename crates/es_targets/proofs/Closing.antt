-- One turn of the parentheses around a target, and of those that close them.
use Rattle.std.proofs.Common.{◌≡◌, ℕ, suc, ◌+◌, ◌-◌, ◌<◌, ◌≤◌, Some, None, Err, codes, refl, subst, ◌∙◌, arith}
use Rattle.es_tree.specs.declared.tokens.Token.{Token}
use Rattle.es_tree.specs.declared.tokens.Goal.TheVariants.{Operand, Operator}
use Rattle.es_grammar.specs.declared.places.Context.{Context}
use Rattle.es_grammar.specs.Reading.{Bytes}
use Rattle.es_outline.specs.declared.mark.Role.TheVariants as is
use Rattle.es_outline.specs.Outline.{Marks, one, told}
use Rattle.es_reader.specs.declared.ParseFault.{ParseFault}
use Rattle.es_reader.specs.declared.ParseFault.TheVariants.{Syntax, NoMemory}
use Rattle.es_reader.specs.Basics.{◌>>=◌, Reads, mark}
use Rattle.es_trace.specs.Basics.{Traced, Traces}
use Rattle.es_trace.specs.Loops.{repeat}
use Rattle.es_trace.specs.Tracers.{Tracers}
use Rattle.es_trace.specs.Targets.{Opened, closing, deeper, opened, paren_turn, trace_bare}
use Rattle.es_nest.proofs.Repeating.{ends, fails, goes_on, no_turns}

-- what closes the parentheses, where they are all opened
abbrev pub closed : Bytes → Traced Opened → Traced ℕ
closed text traced = traced >>= λ x. closing text x.1.count x.0 x.1.at

module _ (text : Bytes) (r : Tracers) (c : Context) (n i : ℕ) (h : i < n) (marks : Marks) (p : ℕ) where
  pub ends_here : (after : Marks) (q : ℕ) → trace_bare text r c marks p ≡ Some (after, q)
      → closed text (repeat (paren_turn text r c) (n - i) marks (opened p (i + 1))) ≡ closing text (i + 1) after q
  unfolding paren_turn
  ends_here after q there =
      let all = ends (paren_turn text r c) n i marks (opened p (i + 1)) h after (opened q (i + 1)) (rw there refl) in rw all refl

  pub goes_deeper : (t : Token) → trace_bare text r c marks p ≡ None → mark text Operand (codes "(") p ≡ Some t
      → repeat (paren_turn text r c) (n - i) marks (opened p (i + 1))
      ≡ repeat (paren_turn text r c) (n - (i + 1)) (told is.Opens t marks) (opened t.end ((i + 1) + 1))
  unfolding paren_turn deeper
  goes_deeper t none there =
      let e : suc (i + 1) ≡ (i + 1) + 1 = omega arith in
      let all = goes_on (paren_turn text r c) n i marks (opened p (i + 1)) h (told is.Opens t marks) (opened t.end (suc (i + 1))) (rw (none, there) refl) in
      subst (λ k. repeat (paren_turn text r c) (n - i) marks (opened p (i + 1)) ≡ repeat (paren_turn text r c) (n - (i + 1)) (told is.Opens t marks) (opened t.end k)) e all

  pub fails_here : (total : Traced ℕ) (after : Marks) (fault : ParseFault)
      → total ≡ closed text (repeat (paren_turn text r c) (n - i) marks (opened p (i + 1)))
      → trace_bare text r c marks p ≡ None → Reads (mark text Operand (codes "(") p) (Err fault) → Traces total after (Err fault)
  unfolding paren_turn deeper
  fails_here total after Syntax same none there =
      let all = fails (paren_turn text r c) n i marks (opened p (i + 1)) h (rw (none, there) refl) in same ∙ rw all refl
  fails_here total after NoMemory same none there = tt

pub no_more : (text : Bytes) (r : Tracers) (c : Context) (n i : ℕ) (marks : Marks) (p : ℕ) → n ≤ i
    → closed text (repeat (paren_turn text r c) (n - i) marks (opened p (i + 1))) ≡ None
no_more text r c n i marks p h = rw (no_turns (paren_turn text r c) n i marks (opened p (i + 1)) h) refl

-- so many are left to be closed
pub closes_one : (text : Bytes) (n i : ℕ) (marks : Marks) (p : ℕ) (t : Token) → i < n → mark text Operator (codes ")") p ≡ Some t
    → closing text (n - i) marks p ≡ closing text (n - (i + 1)) (told is.Closes t marks) t.end
unfolding closing
closes_one text n i marks p t h there = let e : n - i ≡ suc (n - (i + 1)) = omega arith in rw (e, there) refl

pub closes_all : (text : Bytes) (n i : ℕ) (marks : Marks) (p : ℕ) → n ≤ i → closing text (n - i) marks p ≡ Some (marks, p)
unfolding closing
closes_all text n i marks p h = let e : n - i ≡ 0 = omega arith in rw e refl

pub closes_none : (text : Bytes) (n i : ℕ) (marks : Marks) (p : ℕ) (total : Traced ℕ) (after : Marks) (fault : ParseFault)
    → total ≡ closing text (n - i) marks p → i < n → Reads (mark text Operator (codes ")") p) (Err fault) → Traces total after (Err fault)
unfolding closing
closes_none text n i marks p total after Syntax same h there = let e : n - i ≡ suc (n - (i + 1)) = omega arith in same ∙ rw (e, there) refl
closes_none text n i marks p total after NoMemory same h there = tt
