-- Expressions, up to what has a suffix, are traced as they are read.
use Rattle.std.proofs.Common.{◌≡◌, ℕ, Bool, true, false, ◌&&◌, List, Option, Some, None, codes, is_some, refl, ap, sym, ◌∙◌, if◌then◌else◌}
use Rattle.es_tree.specs.declared.tokens.Token.{Token}
use Rattle.es_tree.specs.declared.tokens.TokenKind.{TokenKind}
use Rattle.es_tree.specs.declared.tokens.TokenKind.TheVariants as kind
use Rattle.es_tree.specs.declared.tokens.Goal.TheVariants.{Operand as AtOperand, Operator as AtOperator, Template as AtTemplate}
use Rattle.es_tree.specs.declared.parts.KeyOf.{KeyOf}
use Rattle.es_tree.specs.declared.parts.KeyOf.TheVariants as key
use Rattle.es_tree.specs.declared.parts.Piece.{Piece}
use Rattle.es_tree.specs.declared.parts.Separated.{Separated}
use Rattle.es_tree.specs.declared.cycle.Assign.{Assign}
use Rattle.es_tree.specs.declared.cycle.Base.{Base}
use Rattle.es_tree.specs.declared.cycle.Base.TheVariants as base_v
use Rattle.es_tree.specs.declared.cycle.LHS.{LHS}
use Rattle.es_tree.specs.declared.cycle.Member.TheVariants as member_v
use Rattle.es_tree.specs.declared.cycle.Primary.TheVariants as primary_v
use Rattle.es_grammar.specs.declared.places.Context.{Context}
use Rattle.es_grammar.specs.declared.places.Stop.{Stop}
use Rattle.es_grammar.specs.Contexts.{bracketed}
use Rattle.es_grammar.specs.Expressions as grammar
use Rattle.es_grammar.specs.Expressions.{Expr, literal_words, opens}
use Rattle.es_grammar.specs.Reading.{Bytes}
use Rattle.es_grammar.specs.Semicolons.{other, stop}
use Rattle.es_outline.specs.declared.mark.Mark.TheVariants as mark_v
use Rattle.es_outline.specs.declared.mark.Part.TheVariants as part
use Rattle.es_outline.specs.declared.mark.Role.{Role}
use Rattle.es_outline.specs.declared.mark.Role.TheVariants as is
use Rattle.es_outline.specs.Outline.{Marks, args_marks, argument_marks, assign_marks, base_marks, begin, class_marks, expr_marks, func_marks, key_marks, lhs_marks, listed, member_marks, method_marks, one, opt, piece_marks, primary_marks, put, second_argument_marks, separated_marks, suffix_marks, template_marks, told}
use Rattle.es_outline.proofs.Laws.{base-Import, base-ImportMeta, base-New, base-NewTarget, base-Primary, base-Super, member-Method, member-Pair, member-Shorthand, member-Spread, primary-Array, primary-Class, primary-Func, primary-Literal, primary-Name, primary-Object, primary-Paren, primary-Regex, primary-Template, primary-This}
use Rattle.es_outline.proofs.Rolled.{lhs_rolled}
use Rattle.es_reader.specs.Basics.{◌>>=◌, Reader, is_id_name, is_mark, is_name, is_one_word, is_word, mark, token, word}
use Rattle.es_reader.specs.declared.pieces.TurnOf.TheVariants as turn_of
use Rattle.es_reader.specs.Expressions as reads
use Rattle.es_reader.specs.Expressions.{Parts, Second, Suffix, begins_call, begins_function, begins_member, begins_suffix, begins_with_name, is_piece, is_template_kind, name_base, parts}
use Rattle.es_reader.specs.Functions as read_functions
use Rattle.es_reader.specs.Functions.{begins_method}
use Rattle.es_reader.specs.EndedLists as read_ended
use Rattle.es_reader.specs.Lists as read_lists
use Rattle.es_reader.specs.Loops as read_loops
use Rattle.es_reader.specs.Readers.{Readers}
use Rattle.es_reader.specs.Semis.{is_closed}
use Rattle.es_trace.specs.Basics.{Traced, Tracer, laid}
use Rattle.es_trace.specs.declared.pieces.Chain.{Chain}
use Rattle.es_trace.specs.declared.pieces.Turn.TheVariants as turn_v
use Rattle.es_trace.specs.declared.pieces_expressions.Suffixes.{Suffixes}
use Rattle.es_trace.specs.declared.pieces_expressions.SuffixKind.TheVariants as suffix
use Rattle.es_trace.specs.Expressions.{args_behind, args_suffix, arguments_turn, array_turn, base_from, call_suffix, callee_behind, callee_from, chain, class_primary, dot_by, expr_to, func_primary, import_base, import_call, import_comma, import_first, import_meta, import_parts, import_second, keyed_by, keyed_member, mark_primary, member_suffix, members_turn, meta_base, named_by, named_member, new_base, new_behind, new_target, next_member, next_suffix, no_suffixes, object_turn, optional_behind, optional_by, optional_suffix, other_callee, other_parts, parts_behind, parts_from, piece_behind, pieces_turn, primary_by, suffix_from, suffixed, suffixes_turn, super_callee, super_parts, template_from, template_suffix, trace_args, trace_argument, trace_array, trace_callee, trace_closed_expr, trace_comma, trace_dot, trace_expr, trace_index, trace_lhs, trace_mark, trace_member, trace_new, trace_object, trace_parts, trace_value, value_behind, word_primary}
use Rattle.es_trace.specs.Following.{AreFollowing, Follows, laid_parts}
use Rattle.es_trace.specs.Functions.{method_behind, trace_class, trace_func, trace_key, trace_method}
use Rattle.es_trace.specs.Lists.{ended_turn}
use Rattle.es_trace.specs.Loops.{all_turns}
use Rattle.es_trace.specs.Tracers.{Tracers}
use Rattle.es_trace.proofs.Functions.{key_laid}
use Rattle.es_trace.proofs.Laying.{laid_all, laid_as, laid_bind, laid_if, laid_turn, law_at, mark_at, seen_bind}
use Rattle.es_trace.proofs.Lists.{at_place, at_stop, elements_laid, ended_laid, list_laid, listed_at}
use Rattle.es_trace.proofs.Sides.{all_bind, all_made, both_if, both_laid, both_seen, either_way, known_bind, laid_turns}
use Rattle.es_trace.proofs.SuffixesKnown.{as_optional, laid_suffix, next_laid, suffixes_of}

-- what is proved of functions, methods and classes
pub record FollowFunctions (text : Bytes) (t : Tracers) (r : Readers) : Type 0 where
  pub method : (c : Context) (trace : Tracer) (read : Reader (KeyOf Assign)) → Follows key_marks trace read
      → Follows method_marks (trace_method text t c trace) (read_functions.read_method text r c read)
  -- a method that begins with its key
  pub method_behind : (c : Context) (marks : Marks) (k : KeyOf Assign) (p : ℕ) → method_behind text t c false false (key_marks k marks) p
      ≡ laid method_marks marks (read_functions.method_behind text r c None None k p)
  pub func : (c : Context) (must : Bool) → Follows func_marks (trace_func text t c must) (read_functions.read_func text r c must)
  pub class : (c : Context) (must : Bool) → Follows class_marks (trace_class text t c must) (read_functions.read_class text r c must)

expr_as : (marks : Marks) (traced : Traced Stop) (read : Option (List (Separated Assign) × Stop))
    → traced ≡ laid_all (separated_marks assign_marks) at_stop marks read
    → traced ≡ laid expr_marks marks (read >>= λ xs. Some (record { list = xs.0 }, xs.1))
expr_as marks traced None is = is
expr_as marks traced (Some x) is = is

module _ (text : Bytes) {t : Tracers} {r : Readers} (follows : AreFollowing t r) where
  pub expr_laid : (c : Context) → Follows expr_marks (trace_expr text t c) (reads.read_expr text r c)
  unfolding trace_expr reads.read_expr
  expr_laid c marks p = expr_as marks _ (read_ended.read_ended_list text (r.assign c) p)
      (laid_turns text (separated_marks assign_marks) at_stop (read_ended.ended_turn text (r.assign c)) (ended_turn text (t.assign c)) marks
      (λ found s. ended_laid text assign_marks marks found (t.assign c) (r.assign c) (follows.assign c) s) (stop p other))

  pub closed_expr_laid : (c : Context) → Follows expr_marks (trace_closed_expr text t c) (reads.read_closed_expr text r c)
  unfolding trace_closed_expr reads.read_closed_expr
  closed_expr_laid c marks p = laid_bind expr_marks marks (laid expr_marks marks) refl _ (reads.read_expr text r c p) _ _ (expr_laid c marks p)
      (λ x. laid_if (laid expr_marks marks) (is_closed text x.1) refl refl)

  -- an Expr in brackets, whatever is made of it
  pub expr_to_laid : {A B : Type 0} (c : Context) (role : Role) (closing : List ℕ) (marks : Marks) (p : ℕ) (ψ : Traced ℕ → Option B) (φ : Option A → Option B)
      → ψ None ≡ φ None → (next : Expr → Token → Option A)
      → ((x : Expr) (right : Token) → ψ (Some (told role right (expr_marks x marks), right.end)) ≡ φ (next x right))
      → ψ (expr_to text t c role closing marks p) ≡ φ (reads.read_closed_expr text r (bracketed c) p >>= λ x.
      mark text AtOperator closing x.1 >>= λ right. next x.0 right)
  unfolding expr_to
  expr_to_laid c role closing marks p ψ φ none next each = both_laid expr_marks marks (λ m. ψ (m >>= λ x. mark text AtOperator closing x.1 >>= λ right. Some (told role right x.0, right.end))) φ none _
      (reads.read_closed_expr text r (bracketed c) p) _ (closed_expr_laid (bracketed c) marks p)
      (λ x. both_seen ψ φ none (mark text AtOperator closing x.1) _ _ (λ right. each x.0 right))

  -- Templates

  piece_laid : (marks : Marks) (found : List (Piece Expr)) (x : Expr) (u : Token) (opened : Bool)
      → Some (one u (expr_marks x (listed (piece_marks expr_marks) found marks)), (if opened then turn_v.More u.end else turn_v.Ended u.end))
      ≡ laid_turn (piece_marks expr_marks) at_place found marks
      (Some (if opened then turn_of.More (reads.piece x u) u.end else turn_of.Last (reads.piece x u) u.end))
  piece_laid marks found x u true = refl
  piece_laid marks found x u false = refl

  pieces_laid : (c : Context) (marks : Marks) (found : List (Piece Expr)) (p : ℕ)
      → pieces_turn text t c (listed (piece_marks expr_marks) found marks) p
      ≡ laid_turn (piece_marks expr_marks) at_place found marks (reads.pieces_turn text r c p)
  unfolding pieces_turn piece_behind reads.pieces_turn reads.piece_behind
  pieces_laid c marks found p = laid_bind expr_marks (listed (piece_marks expr_marks) found marks)
      (laid_turn (piece_marks expr_marks) at_place found marks) refl _ (reads.read_closed_expr text r (bracketed c) p) _ _
      (closed_expr_laid (bracketed c) _ p)
      (λ x. seen_bind (laid_turn (piece_marks expr_marks) at_place found marks) refl (token text AtTemplate x.1) _ _
      (λ u. laid_if (laid_turn (piece_marks expr_marks) at_place found marks) (is_piece text u)
      (piece_laid marks found x.0 u (opens text u)) refl))

  template_pieces_laid : (c : Context) (marks : Marks) (u : Token)
      → all_turns text (pieces_turn text t c) (one u marks) u.end ≡ laid (template_marks expr_marks) marks (reads.pieces_behind text r c u)
  unfolding reads.pieces_behind
  template_pieces_laid c marks u = all_made (piece_marks expr_marks) at_place (one u marks) (laid (template_marks expr_marks) marks) refl _
      (read_loops.all_turns text (reads.pieces_turn text r c) u.end) _
      (laid_turns text (piece_marks expr_marks) at_place (reads.pieces_turn text r c) (pieces_turn text t c) (one u marks)
      (pieces_laid c (one u marks)) u.end) (λ x. refl)

  pub template_laid : (c : Context) (marks : Marks) (u : Token)
      → template_from text t c marks u ≡ laid (template_marks expr_marks) marks (reads.template_from text r c u)
  unfolding template_from reads.template_from
  template_laid c marks u = laid_if (laid (template_marks expr_marks) marks) (opens text u) (template_pieces_laid c marks u) refl

  -- an Assign within brackets, whatever is made of it
  value_laid : {A B : Type 0} (c : Context) (marks : Marks) (p : ℕ) (ψ : Traced ℕ → Option B) (φ : Option A → Option B) → ψ None ≡ φ None
      → (next : Assign × Stop → Option A) → ((x : Assign × Stop) → ψ (Some (assign_marks x.0 marks, x.1.at)) ≡ φ (next x))
      → ψ (trace_value t c marks p) ≡ φ (r.assign (bracketed c) p >>= next)
  unfolding trace_value
  value_laid c marks p ψ φ none next each = both_laid assign_marks marks (λ m. ψ (m >>= λ x. Some (x.0, x.1.at))) φ none _
      (r.assign (bracketed c) p) next (follows.assign (bracketed c) marks p) each

  behind_laid : {A B : Type 0} (c : Context) (marks : Marks) (u : Token) (ψ : Traced ℕ → Option B) (φ : Option A → Option B) → ψ None ≡ φ None
      → (next : Assign × Stop → Option A) → ((x : Assign × Stop) → ψ (Some (assign_marks x.0 (one u marks), x.1.at)) ≡ φ (next x))
      → ψ (value_behind t c marks u) ≡ φ (r.assign (bracketed c) u.end >>= next)
  unfolding value_behind
  behind_laid c marks u ψ φ none next each = value_laid c (one u marks) u.end ψ φ none next each

  pub argument_laid : (c : Context) → Follows (argument_marks assign_marks) (trace_argument text t c) (reads.read_argument text r c)
  unfolding trace_argument reads.read_argument reads.spread_argument reads.plain_argument
  argument_laid c marks p = seen_bind (laid (argument_marks assign_marks) marks) refl (token text AtOperand p) _ _ (λ u.
      laid_if (laid (argument_marks assign_marks) marks) (is_mark text (codes "...") u)
      (behind_laid c marks u (λ m. m) (laid (argument_marks assign_marks) marks) refl _ (λ x. refl))
      (value_laid c marks p (λ m. m) (laid (argument_marks assign_marks) marks) refl _ (λ x. refl)))

  pub args_behind_laid : (c : Context) (marks : Marks) (left : Token)
      → args_behind text t c marks left ≡ laid args_marks marks (reads.args_behind text r c left)
  unfolding args_behind reads.args_behind trace_mark
  args_behind_laid c marks left = all_bind (separated_marks (argument_marks assign_marks)) listed_at (one left marks) (laid args_marks marks) refl _
      (read_loops.all_turns text (read_lists.list_turn text (is_mark text (codes ")")) (reads.read_argument text r c)) left.end) _ _
      (laid_turns text (separated_marks (argument_marks assign_marks)) listed_at _ (arguments_turn text t c) (one left marks)
      (λ found p. list_laid text (argument_marks assign_marks) (one left marks) found (is_mark text (codes ")")) _ _ (argument_laid c) p) left.end)
      (λ x. seen_bind (laid args_marks marks) refl (mark text AtOperator (codes ")") x.1) _ _ (λ right. refl))

  pub args_laid : (c : Context) → Follows args_marks (trace_args text t c) (reads.read_args text r c)
  unfolding trace_args reads.read_args
  args_laid c marks p = seen_bind (laid args_marks marks) refl (mark text AtOperator (codes "(") p) _ _ (args_behind_laid c marks)

  -- Suffixes

  dot_by_laid : (marks : Marks) (u v : Token) (k : TokenKind) → dot_by marks u v k ≡ laid_suffix marks (reads.dot_by u v k)
  dot_by_laid marks u v kind.IdName = refl
  dot_by_laid marks u v kind.Private = refl
  dot_by_laid marks u v kind.String = refl
  dot_by_laid marks u v kind.Number = refl
  dot_by_laid marks u v kind.Punctuator = refl
  dot_by_laid marks u v kind.Template = refl
  dot_by_laid marks u v kind.Regex = refl
  dot_by_laid marks u v kind.End = refl

  dot_laid : (marks : Marks) (u : Token) → trace_dot text marks u ≡ laid_suffix marks (reads.read_dot text u)
  unfolding trace_dot reads.read_dot
  dot_laid marks u = seen_bind (laid_suffix marks) refl (token text AtOperand u.end) _ _ (λ v. dot_by_laid marks u v v.kind)

  index_laid : (c : Context) (marks : Marks) (left : Token) → trace_index text t c marks left ≡ laid_suffix marks (reads.read_index text r c left)
  unfolding trace_index reads.read_index
  index_laid c marks left = expr_to_laid c is.Plain (codes "]") (told is.Suffixes left marks) left.end (λ m. m >>= λ x. Some (x.0, suffixed suffix.Index x.1))
      (laid_suffix marks) refl _ (λ x right. refl)

  template_suffix_laid : (c : Context) (marks : Marks) (u : Token)
      → template_suffix text t c marks u ≡ laid_suffix marks (reads.template_suffix text r c u)
  unfolding template_suffix reads.template_suffix
  template_suffix_laid c marks u = laid_bind (template_marks expr_marks) (put mark_v.Tag marks) (laid_suffix marks) refl _
      (reads.template_from text r c u) _ _ (template_laid c (put mark_v.Tag marks) u) (λ x. refl)

  args_suffix_laid : (c : Context) (marks : Marks) (left : Token)
      → args_suffix text t c marks left ≡ laid_suffix marks (reads.args_suffix text r c left)
  unfolding args_suffix reads.args_suffix
  args_suffix_laid c marks left = laid_bind args_marks (put mark_v.Call marks) (laid_suffix marks) refl _ (reads.args_behind text r c left) _ _
      (args_behind_laid c (put mark_v.Call marks) left) (λ x. refl)

  optional_by_laid : (c : Context) (marks : Marks) (u v : Token) (k : TokenKind)
      → as_optional (optional_by text t c (told is.Suffixes u marks) u v k) ≡ laid_suffix marks (reads.optional_by text r c u v k)
  unfolding reads.optional_index reads.optional_args
  optional_by_laid c marks u v kind.IdName = refl
  optional_by_laid c marks u v kind.Private = refl
  optional_by_laid c marks u v kind.Punctuator = both_if as_optional (laid_suffix marks) (is_mark text (codes "[") v)
      (expr_to_laid c is.Plain (codes "]") (one v (told is.Suffixes u marks)) v.end as_optional (laid_suffix marks) refl _ (λ x right. refl))
      (both_laid args_marks (told is.Suffixes u marks) as_optional (laid_suffix marks) refl _ (reads.read_args text r c u.end) _
      (args_laid c (told is.Suffixes u marks) u.end) (λ x. refl))
  optional_by_laid c marks u v kind.String = refl
  optional_by_laid c marks u v kind.Number = refl
  optional_by_laid c marks u v kind.Template = refl
  optional_by_laid c marks u v kind.Regex = refl
  optional_by_laid c marks u v kind.End = refl

  optional_laid : (c : Context) (marks : Marks) (u : Token) → optional_suffix text t c marks u ≡ laid_suffix marks (reads.read_optional text r c u)
  unfolding optional_suffix optional_behind reads.read_optional
  optional_laid c marks u = both_seen as_optional (laid_suffix marks) refl (token text AtOperand u.end) _ _
      (λ v. optional_by_laid c marks u v v.kind)

  member_suffix_laid : (c : Context) (marks : Marks) (u : Token)
      → member_suffix text t c marks u ≡ laid_suffix marks (reads.member_suffix text r c u)
  unfolding member_suffix reads.member_suffix
  member_suffix_laid c marks u = laid_if (laid_suffix marks) (is_mark text (codes ".") u) (dot_laid marks u)
      (laid_if (laid_suffix marks) (is_mark text (codes "[") u) (index_laid c marks u)
      (laid_if (laid_suffix marks) (is_template_kind u.kind) (template_suffix_laid c marks u) refl))

  call_suffix_laid : (c : Context) (marks : Marks) (u : Token) → call_suffix text t c marks u ≡ laid_suffix marks (reads.call_suffix text r c u)
  unfolding call_suffix reads.call_suffix
  call_suffix_laid c marks u = laid_if (laid_suffix marks) (is_mark text (codes "(") u) (args_suffix_laid c marks u)
      (laid_if (laid_suffix marks) (is_mark text (codes "?.") u) (optional_laid c marks u) refl)

  suffix_laid : (c : Context) (marks : Marks) (u : Token) → suffix_from text t c marks u ≡ laid_suffix marks (reads.suffix_from text r c u)
  unfolding suffix_from reads.suffix_from
  suffix_laid c marks u = laid_if (laid_suffix marks) (begins_call text u) (call_suffix_laid c marks u) (member_suffix_laid c marks u)

  suffixes_laid : (c : Context) (marks : Marks) (found : List Suffix) (p : ℕ)
      → suffixes_turn text t c (listed suffix_marks found marks) (suffixes_of found p)
      ≡ laid_turn suffix_marks suffixes_of found marks (reads.suffixes_turn text r c p)
  unfolding suffixes_turn next_suffix reads.suffixes_turn reads.next_suffix
  suffixes_laid c marks found p = seen_bind (laid_turn suffix_marks suffixes_of found marks) refl (token text AtOperator p) _ _ (λ u.
      laid_if (laid_turn suffix_marks suffixes_of found marks) (begins_suffix text u)
      (next_laid marks found p _ (reads.suffix_from text r c u) (suffix_laid c _ u)) refl)

  members_laid : (c : Context) (marks : Marks) (found : List Suffix) (p : ℕ)
      → members_turn text t c (listed suffix_marks found marks) (suffixes_of found p)
      ≡ laid_turn suffix_marks suffixes_of found marks (reads.members_turn text r c p)
  unfolding members_turn next_member reads.members_turn reads.next_member
  members_laid c marks found p = seen_bind (laid_turn suffix_marks suffixes_of found marks) refl (token text AtOperator p) _ _ (λ u.
      laid_if (laid_turn suffix_marks suffixes_of found marks) (begins_member text u)
      (next_laid marks found p _ (reads.member_suffix text r c u) (member_suffix_laid c _ u)) refl)

-- `import` with a request
abbrev argument_of : Token → Token → Assign → Marks → Marks
argument_of import left x marks = assign_marks x (one left (told is.ImportCall import marks))

name_kind : (k : TokenKind) (b : Bool) → (is_id_name k && b) ≡ true → k ≡ kind.IdName
name_kind kind.IdName b is = refl
name_kind _ b is = absurd cc

is_name_kind : (text : Bytes) (c : Context) (u : Token) → is_name text c u ≡ true → u.kind ≡ kind.IdName
unfolding is_name
is_name_kind text c u is = name_kind u.kind _ is

-- a Name is a key
key_of_name : (text : Bytes) (r : Readers) (c : Context) (p : ℕ) (u : Token) → token text AtOperand p ≡ Some u → is_name text c u ≡ true
    → read_functions.read_key text r c p ≡ Some (key.IdName u, u.end)
unfolding read_functions.read_key
key_of_name text r c p u seen is = ap (λ s. s >>= λ u. read_functions.read_key_by text r c u u.kind) seen
    ∙ ap (read_functions.read_key_by text r c u) (is_name_kind text c u is)

module _ (text : Bytes) {t : Tracers} {r : Readers} (follows : AreFollowing t r) (functions : FollowFunctions text t r) where
  -- Members of objects

  pair_laid : (c : Context) (marks : Marks) (k : KeyOf Assign) (colon : Token)
      → value_behind t c (key_marks k marks) colon ≡ laid member_marks marks (reads.pair_behind r c k colon)
  unfolding reads.pair_behind
  pair_laid c marks k colon = behind_laid text follows c (key_marks k marks) colon (λ m. m) (laid member_marks marks) refl _
      (λ x. law_at (member-Pair k colon x.0) marks x.1.at)

  keyed_method_laid : (c : Context) (marks : Marks) (k : KeyOf Assign) (p : ℕ)
      → method_behind text t c false false (key_marks k marks) p ≡ laid member_marks marks (reads.keyed_method text r c k p)
  unfolding reads.keyed_method
  keyed_method_laid c marks k p = laid_as method_marks member_marks marks marks _ (read_functions.method_behind text r c None None k p)
      (λ x. member_v.Method x) (functions.method_behind c marks k p) (λ x. mark_at (member-Method x) marks)

  spread_laid : (c : Context) (marks : Marks) (dots : Token) → value_behind t c marks dots ≡ laid member_marks marks (reads.spread_member r c dots)
  unfolding reads.spread_member
  spread_laid c marks dots = behind_laid text follows c marks dots (λ m. m) (laid member_marks marks) refl _
      (λ x. law_at (member-Spread dots x.0) marks x.1.at)

  method_member_laid : (c : Context) (marks : Marks) (p : ℕ)
      → trace_method text t c (trace_key text t c) marks p ≡ laid member_marks marks (reads.method_member text r c p)
  unfolding reads.method_member
  method_member_laid c marks p = laid_as method_marks member_marks marks marks _
      (read_functions.read_method text r c (read_functions.read_key text r c) p) (λ x. member_v.Method x)
      (functions.method c (trace_key text t c) (read_functions.read_key text r c) (key_laid text follows c) marks p)
      (λ x. mark_at (member-Method x) marks)

  -- by the token behind a Name, which is a shorthand if it is no key
  named_by_laid : (c : Context) (marks : Marks) (u v : Token) → is_name text c u ≡ true
      → named_by text t c marks u v ≡ laid member_marks marks (reads.member_by text r c u (key.IdName u) u.end v)
  unfolding named_by reads.member_by
  named_by_laid c marks u v is_a_name = laid_if (laid member_marks marks) (is_mark text (codes ":") v) (pair_laid c marks (key.IdName u) v)
      (laid_if (laid member_marks marks) (is_mark text (codes "(") v) (keyed_method_laid c marks (key.IdName u) u.end)
      (law_at (member-Shorthand u) marks u.end
      ∙ sym (ap (λ b. laid member_marks marks (if b then Some (member_v.Shorthand u, u.end) else None)) is_a_name)))

  named_member_laid : (c : Context) (marks : Marks) (p : ℕ) (u : Token) → token text AtOperand p ≡ Some u → is_name text c u ≡ true
      → named_member text t c marks u ≡ laid member_marks marks (reads.keyed_member text r c u p)
  unfolding named_member reads.keyed_member
  named_member_laid c marks p u seen is_a_name =
      seen_bind (laid member_marks marks) refl (token text AtOperator u.end) _ _ (λ v. named_by_laid c marks u v is_a_name)
      ∙ sym (ap (λ k. laid member_marks marks (k >>= λ k. token text AtOperator k.1 >>= reads.member_by text r c u k.0 k.1))
      (key_of_name text r c p u seen is_a_name))

  keyed_by_laid : (c : Context) (marks : Marks) (u : Token) (k : KeyOf Assign) (p : ℕ) (v : Token) → is_name text c u ≡ false
      → keyed_by text t c (key_marks k marks) p v ≡ laid member_marks marks (reads.member_by text r c u k p v)
  unfolding keyed_by reads.member_by
  keyed_by_laid c marks u k p v is_no_name = laid_if (laid member_marks marks) (is_mark text (codes ":") v) (pair_laid c marks k v)
      (laid_if (laid member_marks marks) (is_mark text (codes "(") v) (keyed_method_laid c marks k p)
      (sym (ap (λ b. laid member_marks marks (if b then Some (member_v.Shorthand u, u.end) else None)) is_no_name)))

  keyed_member_laid : (c : Context) (marks : Marks) (p : ℕ) (u : Token) → is_name text c u ≡ false
      → keyed_member text t c marks p ≡ laid member_marks marks (reads.keyed_member text r c u p)
  unfolding keyed_member reads.keyed_member
  keyed_member_laid c marks p u is_no_name = laid_bind key_marks marks (laid member_marks marks) refl _ (read_functions.read_key text r c p) _ _
      (key_laid text follows c marks p)
      (λ k. seen_bind (laid member_marks marks) refl (token text AtOperator k.1) _ _ (λ v. keyed_by_laid c marks u k.0 k.1 v is_no_name))

  pub member_laid : (c : Context) → Follows member_marks (trace_member text t c) (reads.read_member text r c)
  unfolding trace_member reads.read_member
  member_laid c marks p = known_bind (laid member_marks marks) refl (token text AtOperand p) _ _ (λ u seen.
      laid_if (laid member_marks marks) (is_mark text (codes "...") u) (spread_laid c marks u)
      (laid_if (laid member_marks marks) (begins_method text u) (method_member_laid c marks p)
      (either_way (is_name text c u) (named_member_laid c marks p u seen) (keyed_member_laid c marks p u))))

  -- Primary, but for a Name

  array_laid : (c : Context) (marks : Marks) (left : Token)
      → trace_array text t c marks left ≡ laid primary_marks marks (reads.read_array text r c left)
  unfolding trace_array reads.read_array trace_mark
  array_laid c marks left = all_bind (separated_marks (opt (argument_marks assign_marks))) listed_at (one left marks)
      (laid primary_marks marks) refl _
      (read_loops.all_turns text (read_lists.elements_turn text (is_mark text (codes "]")) (reads.read_argument text r c)) left.end) _ _
      (laid_turns text (separated_marks (opt (argument_marks assign_marks))) listed_at _ (array_turn text t c) (one left marks)
      (λ found p. elements_laid text (argument_marks assign_marks) (one left marks) found (is_mark text (codes "]")) _ _
      (argument_laid text follows c) p) left.end)
      (λ x. seen_bind (laid primary_marks marks) refl (mark text AtOperator (codes "]") x.1) _ _
      (λ right. law_at (primary-Array left x.0 right) marks right.end))

  object_laid : (c : Context) (marks : Marks) (left : Token)
      → trace_object text t c marks left ≡ laid primary_marks marks (reads.read_object text r c left)
  unfolding trace_object reads.read_object trace_mark
  object_laid c marks left = all_bind (separated_marks member_marks) listed_at (one left marks) (laid primary_marks marks) refl _
      (read_loops.all_turns text (read_lists.list_turn text (is_mark text (codes "}")) (reads.read_member text r c)) left.end) _ _
      (laid_turns text (separated_marks member_marks) listed_at _ (object_turn text t c) (one left marks)
      (λ found p. list_laid text member_marks (one left marks) found (is_mark text (codes "}")) _ _ (member_laid c) p) left.end)
      (λ x. seen_bind (laid primary_marks marks) refl (mark text AtOperator (codes "}") x.1) _ _
      (λ right. law_at (primary-Object left x.0 right) marks right.end))

  paren_laid : (c : Context) (marks : Marks) (left : Token)
      → expr_to text t c is.Closes (codes ")") (told is.Opens left marks) left.end ≡ laid primary_marks marks (reads.read_paren text r c left)
  unfolding reads.read_paren
  paren_laid c marks left = expr_to_laid text follows c is.Closes (codes ")") (told is.Opens left marks) left.end (λ m. m) (laid primary_marks marks) refl _
      (λ x right. law_at (primary-Paren left x right) marks right.end)

  func_primary_laid : (c : Context) → Follows primary_marks (func_primary text t c) (reads.func_primary text r c)
  unfolding func_primary reads.func_primary
  func_primary_laid c marks p = laid_bind func_marks (begin part.FunctionExpression marks) (laid primary_marks marks) refl _
      (read_functions.read_func text r c false p) _ _ (functions.func c false (begin part.FunctionExpression marks) p)
      (λ x. law_at (primary-Func x.0) marks x.1)

  class_primary_laid : (c : Context) → Follows primary_marks (class_primary text t c) (reads.class_primary text r c)
  unfolding class_primary reads.class_primary
  class_primary_laid c marks p = laid_bind class_marks (begin part.ClassExpression marks) (laid primary_marks marks) refl _
      (read_functions.read_class text r c false p) _ _ (functions.class c false (begin part.ClassExpression marks) p)
      (λ x. law_at (primary-Class x.0) marks x.1)

  template_primary_laid : (c : Context) (marks : Marks) (u : Token)
      → template_from text t c marks u ≡ laid primary_marks marks (reads.template_primary text r c u)
  unfolding reads.template_primary
  template_primary_laid c marks u = laid_as (template_marks expr_marks) primary_marks marks marks _ (reads.template_from text r c u)
      (λ x. primary_v.Template x) (template_laid text follows c marks u) (λ x. mark_at (primary-Template x) marks)

  word_primary_laid : (c : Context) (marks : Marks) (p : ℕ) (u : Token)
      → word_primary text t c marks p u ≡ laid primary_marks marks (reads.word_primary text r c p u)
  unfolding word_primary reads.word_primary
  word_primary_laid c marks p u = laid_if (laid primary_marks marks) (begins_function text u) (func_primary_laid c marks p)
      (laid_if (laid primary_marks marks) (is_word text (codes "this") u) (law_at (primary-This u) marks u.end)
      (laid_if (laid primary_marks marks) (is_one_word text literal_words u) (law_at (primary-Literal u) marks u.end)
      (laid_if (laid primary_marks marks) (is_word text (codes "class") u) (class_primary_laid c marks p) refl)))

  mark_primary_laid : (c : Context) (marks : Marks) (u : Token)
      → mark_primary text t c marks u ≡ laid primary_marks marks (reads.mark_primary text r c u)
  unfolding mark_primary reads.mark_primary
  mark_primary_laid c marks u = laid_if (laid primary_marks marks) (is_mark text (codes "(") u) (paren_laid c marks u)
      (laid_if (laid primary_marks marks) (is_mark text (codes "[") u) (array_laid c marks u)
      (laid_if (laid primary_marks marks) (is_mark text (codes "{") u) (object_laid c marks u) refl))

  primary_by_laid : (c : Context) (marks : Marks) (p : ℕ) (u : Token) (k : TokenKind)
      → primary_by text t c marks p u k ≡ laid primary_marks marks (reads.primary_by text r c p u k)
  primary_by_laid c marks p u kind.IdName = word_primary_laid c marks p u
  primary_by_laid c marks p u kind.Number = law_at (primary-Literal u) marks u.end
  primary_by_laid c marks p u kind.String = law_at (primary-Literal u) marks u.end
  primary_by_laid c marks p u kind.Template = template_primary_laid c marks u
  primary_by_laid c marks p u kind.Regex = law_at (primary-Regex u) marks u.end
  primary_by_laid c marks p u kind.Punctuator = mark_primary_laid c marks u
  primary_by_laid c marks p u kind.Private = refl
  primary_by_laid c marks p u kind.End = refl

  primary_base_laid : (c : Context) (marks : Marks) (p : ℕ) (u : Token)
      → primary_by text t c marks p u u.kind ≡ laid base_marks marks (reads.primary_base text r c p u)
  unfolding reads.primary_base
  primary_base_laid c marks p u = laid_as primary_marks base_marks marks marks _ (reads.primary_by text r c p u u.kind) (λ x. base_v.Primary x)
      (primary_by_laid c marks p u u.kind) (λ x. mark_at (base-Primary x) marks)

  -- What an LHS begins with

  new_target_laid : (marks : Marks) (new dot : Token) → new_target text marks new dot ≡ laid base_marks marks (reads.new_target text new dot)
  unfolding new_target reads.new_target
  new_target_laid marks new dot = seen_bind (laid base_marks marks) refl (word text AtOperand (codes "target") dot.end) _ _
      (λ u. law_at (base-NewTarget new dot u) marks u.end)

  new_base_laid : (c : Context) (marks : Marks) (p : ℕ) (new : Token)
      → new_base text t c marks p new ≡ laid base_marks marks (reads.new_base text r c p new)
  unfolding new_base reads.new_base
  new_base_laid c marks p new = seen_bind (laid base_marks marks) refl (token text AtOperand new.end) _ _ (λ u.
      laid_if (laid base_marks marks) (is_mark text (codes ".") u) (new_target_laid marks new u) (follows.new c marks p))

  import_meta_laid : (marks : Marks) (import dot : Token)
      → import_meta text marks import dot ≡ laid base_marks marks (reads.import_meta text import dot)
  unfolding import_meta reads.import_meta
  import_meta_laid marks import dot = seen_bind (laid base_marks marks) refl (word text AtOperand (codes "meta") dot.end) _ _
      (λ u. law_at (base-ImportMeta import dot u) marks u.end)

  meta_base_laid : (marks : Marks) (import : Token) → meta_base text marks import ≡ laid base_marks marks (reads.meta_base text import)
  unfolding meta_base reads.meta_base
  meta_base_laid marks import = seen_bind (laid base_marks marks) refl (mark text AtOperand (codes ".") import.end) _ _
      (import_meta_laid marks import)

  base_laid : (c : Context) (marks : Marks) (p : ℕ) (u : Token)
      → base_from text t c marks p u ≡ laid base_marks marks (reads.base_from text r c p u)
  unfolding base_from reads.base_from
  base_laid c marks p u = laid_if (laid base_marks marks) (is_word text (codes "new") u) (new_base_laid c marks p u)
      (laid_if (laid base_marks marks) (is_word text (codes "import") u) (meta_base_laid marks u) (primary_base_laid c marks p u))

  comma_laid : Follows (opt one) (trace_comma text) (reads.read_comma text)
  unfolding trace_comma reads.read_comma
  comma_laid marks p = seen_bind (laid (opt one) marks) refl (token text AtOperator p) _ _ (λ u.
      laid_if (laid (opt one) marks) (is_mark text (codes ",") u) refl refl)

  import_closed_laid : (marks : Marks) (import left : Token) (x : Assign) (second : Second) (comma : Option Token) (p : ℕ)
      → trace_mark text (codes ")") (opt one comma (opt (second_argument_marks assign_marks) second (argument_of import left x marks))) p
      ≡ laid base_marks marks (reads.import_closed text import left x second comma p)
  unfolding trace_mark reads.import_closed
  import_closed_laid marks import left x second comma p = seen_bind (laid base_marks marks) refl (mark text AtOperator (codes ")") p) _ _
      (λ right. law_at (base-Import import left x second comma right) marks right.end)

  import_second_laid : (c : Context) (marks : Marks) (import left : Token) (x : Assign) (comma : Token)
      → import_second text t c (argument_of import left x marks) comma ≡ laid base_marks marks (reads.import_second text r c import left x comma)
  unfolding import_second reads.import_second
  import_second_laid c marks import left x comma = behind_laid text follows c (argument_of import left x marks) comma
      (λ m. m >>= λ y. trace_comma text y.0 y.1 >>= λ z. trace_mark text (codes ")") z.0 z.1) (laid base_marks marks) refl _
      (λ y. laid_bind (opt one) (assign_marks y.0 (one comma (argument_of import left x marks))) (laid base_marks marks) refl _
      (reads.read_comma text y.1.at) _ _ (comma_laid _ y.1.at)
      (λ z. import_closed_laid marks import left x (Some (reads.second_argument comma y.0)) z.0 z.1))

  import_comma_laid : (c : Context) (marks : Marks) (import left : Token) (x : Assign) (comma : Token)
      → import_comma text t c (argument_of import left x marks) comma ≡ laid base_marks marks (reads.import_comma text r c import left x comma)
  unfolding import_comma reads.import_comma
  import_comma_laid c marks import left x comma = seen_bind (laid base_marks marks) refl (token text AtOperand comma.end) _ _ (λ u.
      laid_if (laid base_marks marks) (is_mark text (codes ")") u) (import_closed_laid marks import left x None (Some comma) comma.end)
      (import_second_laid c marks import left x comma))

  import_first_laid : (c : Context) (marks : Marks) (import left : Token) (x : Assign) (p : ℕ)
      → import_first text t c (argument_of import left x marks) p ≡ laid base_marks marks (reads.import_first text r c import left x p)
  unfolding import_first reads.import_first
  import_first_laid c marks import left x p = seen_bind (laid base_marks marks) refl (token text AtOperator p) _ _ (λ u.
      laid_if (laid base_marks marks) (is_mark text (codes ",") u) (import_comma_laid c marks import left x u)
      (import_closed_laid marks import left x None None p))

  import_call_laid : (c : Context) (marks : Marks) (import left : Token)
      → import_call text t c (told is.ImportCall import marks) left ≡ laid base_marks marks (reads.import_call text r c import left)
  unfolding import_call reads.import_call
  import_call_laid c marks import left = behind_laid text follows c (told is.ImportCall import marks) left
      (λ m. m >>= λ x. import_first text t c x.0 x.1) (laid base_marks marks) refl _
      (λ x. import_first_laid c marks import left x.0 x.1.at)

  import_laid : (c : Context) (marks : Marks) (import : Token)
      → import_base text t c marks import ≡ laid base_marks marks (reads.import_base text r c import)
  unfolding import_base reads.import_base
  import_laid c marks import = seen_bind (laid base_marks marks) refl (token text AtOperand import.end) _ _ (λ u.
      laid_if (laid base_marks marks) (is_mark text (codes "(") u) (import_call_laid c marks import u) (meta_base_laid marks import))

  -- The parts of an LHS

  -- all suffixes, and then what follows them
  suffixes_bind : {A B : Type 0} (c : Context) (before : Marks) (p : ℕ) (φ : Option A → Option B) → φ None ≡ None
      → (trace : Marks × Suffixes → Option B) (next : List Suffix × ℕ → Option A)
      → ((x : List Suffix × ℕ) → trace (listed suffix_marks x.0 before, suffixes_of x.0 x.1) ≡ φ (next x))
      → (all_turns text (suffixes_turn text t c) before (no_suffixes p) >>= trace)
      ≡ φ (read_loops.all_turns text (reads.suffixes_turn text r c) p >>= next)
  suffixes_bind c before p φ none trace next each = all_bind suffix_marks suffixes_of before φ none _
      (read_loops.all_turns text (reads.suffixes_turn text r c) p) trace next
      (laid_turns text suffix_marks suffixes_of (reads.suffixes_turn text r c) (suffixes_turn text t c) before
      (suffixes_laid text follows c before) p) each

  members_bind : {A B : Type 0} (c : Context) (before : Marks) (p : ℕ) (φ : Option A → Option B) → φ None ≡ None
      → (trace : Marks × Suffixes → Option B) (next : List Suffix × ℕ → Option A)
      → ((x : List Suffix × ℕ) → trace (listed suffix_marks x.0 before, suffixes_of x.0 x.1) ≡ φ (next x))
      → (all_turns text (members_turn text t c) before (no_suffixes p) >>= trace)
      ≡ φ (read_loops.all_turns text (reads.members_turn text r c) p >>= next)
  members_bind c before p φ none trace next each = all_bind suffix_marks suffixes_of before φ none _
      (read_loops.all_turns text (reads.members_turn text r c) p) trace next
      (laid_turns text suffix_marks suffixes_of (reads.members_turn text r c) (members_turn text t c) before
      (members_laid text follows c before) p) each

  parts_behind_laid : (c : Context) (marks : Marks) (x : Base) (name : Option Token) (p : ℕ)
      → parts_behind text t c (is_some name) (base_marks x marks) p ≡ laid_parts marks (reads.parts_behind text r c x name p)
  unfolding parts_behind reads.parts_behind
  parts_behind_laid c marks x name p = suffixes_bind c (base_marks x marks) p (laid_parts marks) refl _ _ (λ xs.
      laid_if (laid_parts marks) (grammar.has_plain_templates xs.0) refl refl)

  -- a Name as a base
  name_is : (u : Token) (marks : Marks) → told is.Reference u marks ≡ base_marks (name_base u) marks
  name_is u marks = mark_at (primary-Name u) marks ∙ mark_at (base-Primary (primary_v.Name u)) marks

  name_parts_laid : (c : Context) (marks : Marks) (u : Token)
      → parts_behind text t c true (told is.Reference u marks) u.end ≡ laid_parts marks (reads.parts_behind text r c (name_base u) (Some u) u.end)
  name_parts_laid c marks u = ap (λ m. parts_behind text t c true m u.end) (name_is u marks)
      ∙ parts_behind_laid c marks (name_base u) (Some u) u.end

  super_parts_laid : (c : Context) (marks : Marks) (u : Token) → super_parts text t c marks u ≡ laid_parts marks (reads.super_parts text r c u)
  unfolding super_parts reads.super_parts
  super_parts_laid c marks u = suffixes_bind c (one u marks) u.end (laid_parts marks) refl _ _ (λ xs.
      laid_if (laid_parts marks) (reads.follow_super xs.0 && grammar.has_plain_templates xs.0)
      (ap (λ m. Some (listed suffix_marks xs.0 m, chain false (suffixes_of xs.0 xs.1))) (mark_at (base-Super u) marks)) refl)

  import_parts_laid : (c : Context) (marks : Marks) (u : Token) → import_parts text t c marks u ≡ laid_parts marks (reads.import_parts text r c u)
  unfolding import_parts reads.import_parts
  import_parts_laid c marks u = laid_bind base_marks marks (laid_parts marks) refl _ (reads.import_base text r c u) _ _ (import_laid c marks u)
      (λ x. parts_behind_laid c marks x.0 None x.1)

  other_parts_laid : (c : Context) (marks : Marks) (p : ℕ) (u : Token)
      → other_parts text t c marks p u ≡ laid_parts marks (reads.other_parts text r c p u)
  unfolding other_parts reads.other_parts
  other_parts_laid c marks p u = laid_bind base_marks marks (laid_parts marks) refl _ (reads.base_from text r c p u) _ _ (base_laid c marks p u)
      (λ x. parts_behind_laid c marks x.0 None x.1)

  parts_from_laid : (c : Context) (marks : Marks) (p : ℕ) (u : Token)
      → parts_from text t c marks p u ≡ laid_parts marks (reads.parts_from text r c p u)
  unfolding parts_from reads.parts_from
  parts_from_laid c marks p u = laid_if (laid_parts marks) (begins_with_name text c u) (name_parts_laid c marks u)
      (laid_if (laid_parts marks) (is_word text (codes "super") u) (super_parts_laid c marks u)
      (laid_if (laid_parts marks) (is_word text (codes "import") u) (import_parts_laid c marks u) (other_parts_laid c marks p u)))

  pub parts_laid : (c : Context) (marks : Marks) (p : ℕ) → trace_parts text t c marks p ≡ laid_parts marks (reads.read_parts text r c p)
  unfolding trace_parts reads.read_parts
  parts_laid c marks p = seen_bind (laid_parts marks) refl (token text AtOperand p) _ _ (parts_from_laid c marks p)

  -- an LHS of such parts
  lhs_of_parts : (marks : Marks) (traced : Traced Chain) (read : Option (Parts × ℕ)) → traced ≡ laid_parts marks read
      → (traced >>= λ x. Some (x.0, x.1.at)) ≡ laid lhs_marks marks (read >>= λ x. Some (reads.lhs_of x.0, x.1))
  lhs_of_parts marks traced None is = ap (λ m. m >>= λ x. Some (x.0, x.1.at)) is
  lhs_of_parts marks traced (Some x) is = ap (λ m. m >>= λ y. Some (y.0, y.1.at)) is
      ∙ law_at (lhs_rolled (record { base = x.0.base; suffixes = x.0.suffixes })) marks x.1

  pub lhs_laid : (c : Context) → Follows lhs_marks (trace_lhs text t c) (reads.read_lhs text r c)
  unfolding trace_lhs reads.read_lhs
  lhs_laid c marks p = lhs_of_parts marks _ (reads.read_parts text r c p) (parts_laid c marks p)

  -- `new`

  callee_behind_laid : (c : Context) (marks : Marks) (x : Base) (p : ℕ)
      → callee_behind text t c (base_marks x marks) p ≡ laid lhs_marks marks (reads.callee_behind text r c x p)
  unfolding callee_behind reads.callee_behind
  callee_behind_laid c marks x p = members_bind c (base_marks x marks) p (laid lhs_marks marks) refl _ _ (λ xs.
      law_at (lhs_rolled (record { base = x; suffixes = xs.0 })) marks xs.1)

  name_callee_laid : (c : Context) (marks : Marks) (u : Token)
      → callee_behind text t c (told is.Reference u marks) u.end ≡ laid lhs_marks marks (reads.callee_behind text r c (name_base u) u.end)
  name_callee_laid c marks u = ap (λ m. callee_behind text t c m u.end) (name_is u marks) ∙ callee_behind_laid c marks (name_base u) u.end

  super_callee_laid : (c : Context) (marks : Marks) (u : Token)
      → super_callee text t c marks u ≡ laid lhs_marks marks (reads.super_callee text r c u)
  unfolding super_callee reads.super_callee
  super_callee_laid c marks u = members_bind c (one u marks) u.end (laid lhs_marks marks) refl _ _ (λ xs.
      laid_if (laid lhs_marks marks) (reads.follow_super xs.0)
      (ap (λ m. Some (listed suffix_marks xs.0 m, xs.1)) (mark_at (base-Super u) marks)
      ∙ law_at (lhs_rolled (record { base = base_v.Super u; suffixes = xs.0 })) marks xs.1) refl)

  other_callee_laid : (c : Context) (marks : Marks) (p : ℕ) (u : Token)
      → other_callee text t c marks p u ≡ laid lhs_marks marks (reads.other_callee text r c p u)
  unfolding other_callee reads.other_callee
  other_callee_laid c marks p u = laid_bind base_marks marks (laid lhs_marks marks) refl _ (reads.base_from text r c p u) _ _ (base_laid c marks p u)
      (λ x. callee_behind_laid c marks x.0 x.1)

  callee_from_laid : (c : Context) (marks : Marks) (p : ℕ) (u : Token)
      → callee_from text t c marks p u ≡ laid lhs_marks marks (reads.callee_from text r c p u)
  unfolding callee_from reads.callee_from
  callee_from_laid c marks p u = laid_if (laid lhs_marks marks) (begins_with_name text c u) (name_callee_laid c marks u)
      (laid_if (laid lhs_marks marks) (is_word text (codes "super") u) (super_callee_laid c marks u) (other_callee_laid c marks p u))

  pub callee_laid : (c : Context) → Follows lhs_marks (trace_callee text t c) (reads.read_callee text r c)
  unfolding trace_callee reads.read_callee
  callee_laid c marks p = seen_bind (laid lhs_marks marks) refl (token text AtOperand p) _ _ (callee_from_laid c marks p)

  new_with_args_laid : (c : Context) (marks : Marks) (new : Token) (x : LHS) (left : Token)
      → args_behind text t c (lhs_marks x (told is.New new marks)) left ≡ laid base_marks marks (reads.new_with_args text r c new x left)
  unfolding reads.new_with_args
  new_with_args_laid c marks new x left = laid_as args_marks base_marks (lhs_marks x (told is.New new marks)) marks _
      (reads.args_behind text r c left) (λ y. base_v.New new x (Some y)) (args_behind_laid text follows c _ left)
      (λ y. mark_at (base-New new x (Some y)) marks)

  new_behind_laid : (c : Context) (marks : Marks) (new : Token) (x : LHS) (p : ℕ)
      → new_behind text t c (lhs_marks x (told is.New new marks)) p ≡ laid base_marks marks (reads.new_behind text r c new x p)
  unfolding new_behind reads.new_behind
  new_behind_laid c marks new x p = seen_bind (laid base_marks marks) refl (token text AtOperator p) _ _ (λ u.
      laid_if (laid base_marks marks) (is_mark text (codes "(") u) (new_with_args_laid c marks new x u) (law_at (base-New new x None) marks p))

  pub new_laid : (c : Context) → Follows base_marks (trace_new text t c) (reads.read_new text r c)
  unfolding trace_new reads.read_new
  new_laid c marks p = seen_bind (laid base_marks marks) refl (word text AtOperand (codes "new") p) _ _ (λ new.
      laid_bind lhs_marks (told is.New new marks) (laid base_marks marks) refl _ (reads.read_callee text r c new.end) _ _
      (callee_laid c (told is.New new marks) new.end) (λ x. new_behind_laid c marks new x.0 x.1))
