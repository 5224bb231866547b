-- Tracers that follow readers: they end where these do, and add the outline of what these read.
use Rattle.std.specs.Prelude.{◌≡◌, ◌&&◌, ℕ, Bool, true, false, List, [], ◌∷◌, Option, Some, None, is_some}
use Rattle.es_grammar.specs.declared.places.Context.{Context}
use Rattle.es_outline.specs.Outline.{Lays, Marks, ◌⨾◌, assign_marks, base_marks, bind_marks, item_marks, lhs_marks, listed, operand_marks, stmt_marks, suffix_marks, target_marks}
use Rattle.es_reader.specs.Expressions.{Parts, Suffix}
use Rattle.es_reader.specs.Readers.{Readers}
use Rattle.es_reader.specs.Targets.{end_with_member}
use Rattle.es_trace.specs.Basics.{Traced, laid}
use Rattle.es_trace.specs.Tracers.{Tracers}
use Rattle.es_trace.specs.declared.pieces.Chain.{Chain}

abbrev pub Follows : {X S : Type 0} → (X → Lays) → (Marks → ℕ → Traced S) → (ℕ → Option (X × S)) → Type 0
Follows lays trace read = (marks : Marks) (p : ℕ) → trace marks p ≡ laid lays marks (read p)

-- each tracer of what nests follows the reader of its rule
pub record AreFollowing (t : Tracers) (r : Readers) : Type 0 where
  pub item : (c : Context) → Follows item_marks (t.item c) (r.item c)
  pub stmt : (c : Context) → Follows stmt_marks (t.stmt c) (r.stmt c)
  pub assign : (c : Context) → Follows assign_marks (t.assign c) (r.assign c)
  pub prefixed : (c : Context) → Follows operand_marks (t.prefixed c) (r.prefixed c)
  pub bind_pattern : (c : Context) → Follows bind_marks (t.bind_pattern c) (r.bind_pattern c)
  pub target_pattern : (c : Context) → Follows target_marks (t.target_pattern c) (r.target_pattern c)
  pub new : (c : Context) → Follows base_marks (t.new c) (r.new c)
  pub extended : (c : Context) → Follows lhs_marks (t.extended c) (r.extended c)

-- The parts of an LHS, of which a tracer tells no more than whether they are a Name alone and whether they end with a member

abbrev pub parts_marks : Parts → Lays
parts_marks x = base_marks x.base ⨾ listed suffix_marks x.suffixes

abbrev pub has_no_suffix : List Suffix → Bool
has_no_suffix [] = true
has_no_suffix (x ∷ xs) = false

abbrev pub chain_of : Parts → ℕ → Chain
chain_of x p = record { at = p; is_name = is_some x.name && has_no_suffix x.suffixes; is_member = end_with_member x.suffixes }

abbrev pub laid_parts : Marks → Option (Parts × ℕ) → Traced Chain
laid_parts marks None = None
laid_parts marks (Some x) = Some (parts_marks x.0 marks, chain_of x.0 x.1)
