-- Imports are traced as they are read.
use Rattle.std.proofs.Common.{◌≡◌, ℕ, Bool, true, false, ◌||◌, List, [], ◌∷◌, ◌++◌, Option, Some, None, codes, length, ◌+◌, refl, ap, sym, ◌∙◌, if◌then◌else◌}
use Rattle.es_tree.specs.declared.tokens.Token.{Token}
use Rattle.es_tree.specs.declared.tokens.Goal.{Goal}
use Rattle.es_tree.specs.declared.tokens.Goal.TheVariants.{Operand, Operator}
use Rattle.es_tree.specs.declared.parts.Separated.{Separated}
use Rattle.es_tree.specs.declared.program.Attribute.{Attribute}
use Rattle.es_tree.specs.declared.program.Clause.{Clause}
use Rattle.es_tree.specs.declared.program.Clause.TheVariants as clause_v
use Rattle.es_tree.specs.declared.program.Import.{Import}
use Rattle.es_tree.specs.declared.program.Import.TheVariants as import_v
use Rattle.es_tree.specs.declared.program.ImportName.{ImportName}
use Rattle.es_tree.specs.declared.program.Named.{Named}
use Rattle.es_tree.specs.declared.program.Space.{Space}
use Rattle.es_tree.specs.declared.program.With.{With}
use Rattle.es_grammar.specs.declared.places.Context.{Context}
use Rattle.es_grammar.specs.declared.places.Stop.{Stop}
use Rattle.es_grammar.specs.declared.places.Ending.TheVariants.{Other as other}
use Rattle.es_grammar.specs.Reading.{Bytes}
use Rattle.es_outline.specs.declared.mark.Mark.TheVariants as mark_v
use Rattle.es_outline.specs.declared.mark.Role.TheVariants as is
use Rattle.es_outline.specs.declared.mark.Part.{Part}
use Rattle.es_outline.specs.declared.mark.Part.TheVariants as part
use Rattle.es_outline.specs.Outline.{◌⨾◌, Lays, Marks, begin, end, listed, one, opt, put, semicolon, told, within, attribute_marks, clause_marks, import_marks, import_name_marks, named_marks, separated_marks, space_marks, with_marks}
use Rattle.es_reader.specs.declared.pieces.Source.{Source}
use Rattle.es_reader.specs.declared.pieces.Tail.{Tail}
use Rattle.es_reader.specs.Basics.{◌>>=◌, Reader, token, is_mark, is_name, is_word, mark, name, word}
use Rattle.es_reader.specs.Lists as read_lists
use Rattle.es_reader.specs.Loops as loops
use Rattle.es_reader.specs.Modules as reads
use Rattle.es_reader.specs.Semis.{read_semi}
use Rattle.es_grammar.specs.Semicolons.{stop}
use Rattle.es_trace.specs.Basics.{Traced, Tracer, laid}
use Rattle.es_trace.specs.Following.{Follows}
use Rattle.es_trace.specs.Lists.{first_at, list_turn}
use Rattle.es_trace.specs.Loops.{all_turns}
use Rattle.es_trace.specs.declared.pieces.Listed.{Listed}
use Rattle.es_trace.specs.Modules.{space_behind, renamed_import, import_name_by, trace_import_name, named_behind, second_clause_by, second_clause, name_clause, clause_by, attribute_behind, trace_attribute, with_behind, trace_optional_with, trace_tail, source_behind, trace_source, import_from, import_by, trace_import}
use Rattle.es_trace.proofs.Lists.{list_laid, listed_at}
use Rattle.es_trace.proofs.Laying.{all_bind, laid_all, laid_repeat, laid_as, laid_bind, laid_if, inside_if, seen_bind}

-- what was found, and the mark that closes it
abbrev pub found_to : {X : Type 0} → List (Separated X) → Token → Option (List (Separated X) × Token)
found_to xs right = Some (xs, right)

abbrev made_of : {X Y S : Type 0} → (Token → S) → (List (Separated X) → Token → Y) → List (Separated X) × Token → Option (Y × S)
made_of ends make xs = Some (make xs.0 xs.1, ends xs.1)

abbrev closed_by : {S : Type 0} → (Token → S) → Marks → Token → Traced S
closed_by ends before right = Some (one right before, ends right)

-- a list with commas up to a closing mark, of which something is made
module _ {X Y S : Type 0} (ends : Token → S) (text : Bytes) (closing : List ℕ) (f : X → Lays) (part : Tracer) (read : Reader X) (follows : Follows f part read)
    (g : Y → Lays) (before marks : Marks) (make : List (Separated X) → Token → Y)
    (is : (xs : List (Separated X)) (right : Token) → one right (listed (separated_marks f) xs before) ≡ g (make xs right) marks) where
  closing_laid : (o : Option Token) (xs : List (Separated X))
      → (o >>= closed_by ends (listed (separated_marks f) xs before)) ≡ laid g marks ((o >>= found_to xs) >>= made_of ends make)
  closing_laid None xs = refl
  closing_laid (Some right) xs = ap (λ m. Some (m, ends right)) (is xs right)

  found_laid : (came : Option (List (Separated X) × ℕ)) (traced : Traced Listed) → traced ≡ laid_all (separated_marks f) listed_at before came
      → (traced >>= λ xs. mark text Operator closing xs.1.at >>= closed_by ends xs.0)
      ≡ laid g marks ((came >>= λ xs. mark text Operator closing xs.1 >>= found_to xs.0) >>= made_of ends make)
  found_laid None traced e = ap (λ o. o >>= λ xs. mark text Operator closing xs.1.at >>= closed_by ends xs.0) e
  found_laid (Some xs) traced e = ap (λ o. o >>= λ xs. mark text Operator closing xs.1.at >>= closed_by ends xs.0) e
      ∙ closing_laid (mark text Operator closing xs.1) xs.0

  pub list_to_laid : (p : ℕ) → (all_turns text (list_turn text (is_mark text closing) part) before (first_at p)
      >>= λ xs. mark text Operator closing xs.1.at >>= closed_by ends xs.0)
      ≡ laid g marks (read_lists.read_list_to text closing read p >>= made_of ends make)
  unfolding read_lists.read_list_to
  list_to_laid p = found_laid (loops.all_turns text (read_lists.list_turn text (is_mark text closing) read) p) _
      (laid_repeat (separated_marks f) listed_at _ _ before (λ found q. list_laid text f before found (is_mark text closing) part read follows q)
      (length text + 1) [] p)

module _ (text : Bytes) where
  space_laid : (c : Context) (marks : Marks) (star : Token) → space_behind text c marks star ≡ laid space_marks marks (reads.space_behind text c star)
  unfolding space_behind reads.space_behind
  space_laid c marks star = seen_bind (laid space_marks marks) refl (word text Operand (codes "as") star.end) _ _ (λ u.
      seen_bind (laid space_marks marks) refl (name text Operand c u.end) _ _ (λ n. refl))

  renamed_import_laid : (c : Context) (marks : Marks) (t u : Token)
      → renamed_import text c marks t u ≡ laid import_name_marks marks (reads.renamed_import text c t u)
  unfolding renamed_import reads.renamed_import
  renamed_import_laid c marks t u = seen_bind (laid import_name_marks marks) refl (name text Operand c u.end) _ _ (λ n. refl)

  import_name_by_laid : (c : Context) (marks : Marks) (t u : Token)
      → import_name_by text c marks t u ≡ laid import_name_marks marks (reads.import_name_by text c t u)
  unfolding import_name_by reads.import_name_by
  import_name_by_laid c marks t u = laid_if (laid import_name_marks marks) (is_word text (codes "as") u) (renamed_import_laid c marks t u)
      (laid_if (laid import_name_marks marks) (is_name text c t) refl refl)

  import_name_laid : (c : Context) → Follows import_name_marks (trace_import_name text c) (reads.read_import_name text c)
  unfolding trace_import_name reads.read_import_name
  import_name_laid c marks p = seen_bind (laid import_name_marks marks) refl (reads.id_name text p) _ _ (λ t.
      seen_bind (laid import_name_marks marks) refl (token text Operand t.end) _ _ (λ u. import_name_by_laid c marks t u))

  named_laid : (c : Context) (marks : Marks) (left : Token) → named_behind text c marks left ≡ laid named_marks marks (reads.named_behind text c left)
  unfolding named_behind reads.named_behind
  named_laid c marks left = list_to_laid (λ right. right.end) text (codes "}") import_name_marks (trace_import_name text c) (reads.read_import_name text c)
      (import_name_laid c) named_marks (one left marks) marks (λ xs right. record { left = left; list = xs; right = right }) (λ xs right. refl) left.end

  second_clause_by_laid : (c : Context) (marks : Marks) (t comma u : Token)
      → second_clause_by text c (one comma (told is.ImportedDefault t marks)) u ≡ laid clause_marks marks (reads.second_clause_by text c t comma u)
  unfolding second_clause_by reads.second_clause_by reads.name_space reads.name_named
  second_clause_by_laid c marks t comma u = laid_if (laid clause_marks marks) (is_mark text (codes "*") u)
      (laid_as space_marks clause_marks (one comma (told is.ImportedDefault t marks)) marks _ (reads.space_behind text c u)
      (λ x. clause_v.NameSpace t comma x) (space_laid c _ u) (λ x. refl))
      (laid_if (laid clause_marks marks) (is_mark text (codes "{") u)
      (laid_as named_marks clause_marks (one comma (told is.ImportedDefault t marks)) marks _ (reads.named_behind text c u)
      (λ x. clause_v.NameNamed t comma x) (named_laid c _ u) (λ x. refl)) refl)

  second_clause_laid : (c : Context) (marks : Marks) (t comma : Token)
      → second_clause text c (told is.ImportedDefault t marks) comma ≡ laid clause_marks marks (reads.second_clause text c t comma)
  unfolding second_clause reads.second_clause
  second_clause_laid c marks t comma = seen_bind (laid clause_marks marks) refl (token text Operand comma.end) _ _
      (λ u. second_clause_by_laid c marks t comma u)

  name_clause_laid : (c : Context) (marks : Marks) (t : Token)
      → name_clause text c (told is.ImportedDefault t marks) t.end ≡ laid clause_marks marks (reads.name_clause text c t)
  unfolding name_clause reads.name_clause
  name_clause_laid c marks t = seen_bind (laid clause_marks marks) refl (token text Operator t.end) _ _ (λ u.
      laid_if (laid clause_marks marks) (is_mark text (codes ",") u) (second_clause_laid c marks t u) refl)

  clause_by_laid : (c : Context) (marks : Marks) (t : Token) → clause_by text c marks t ≡ laid clause_marks marks (reads.clause_by text c t)
  unfolding clause_by reads.clause_by reads.space_clause reads.named_clause
  clause_by_laid c marks t = laid_if (laid clause_marks marks) (is_mark text (codes "*") t)
      (laid_as space_marks clause_marks marks marks _ (reads.space_behind text c t) (λ x. clause_v.Space x) (space_laid c marks t) (λ x. refl))
      (laid_if (laid clause_marks marks) (is_mark text (codes "{") t)
      (laid_as named_marks clause_marks marks marks _ (reads.named_behind text c t) (λ x. clause_v.Named x) (named_laid c marks t) (λ x. refl))
      (laid_if (laid clause_marks marks) (is_name text c t) (name_clause_laid c marks t) refl))

  attribute_behind_laid : (marks : Marks) (t : Token) → attribute_behind text marks t ≡ laid attribute_marks marks (reads.attribute_behind text t)
  unfolding attribute_behind reads.attribute_behind
  attribute_behind_laid marks t = seen_bind (laid attribute_marks marks) refl (mark text Operator (codes ":") t.end) _ _ (λ colon.
      seen_bind (laid attribute_marks marks) refl (reads.string text colon.end) _ _ (λ value. refl))

  attribute_laid : Follows attribute_marks (trace_attribute text) (reads.read_attribute text)
  unfolding trace_attribute reads.read_attribute
  attribute_laid marks p = seen_bind (laid attribute_marks marks) refl (token text Operand p) _ _ (λ t.
      laid_if (laid attribute_marks marks) (reads.is_id t || reads.is_string t) (attribute_behind_laid marks t) refl)

  with_laid : (marks : Marks) (t : Token) → with_behind text marks t ≡ laid (opt with_marks) marks (reads.with_behind text t)
  unfolding with_behind reads.with_behind
  with_laid marks t = seen_bind (laid (opt with_marks) marks) refl (mark text Operand (codes "{") t.end) _ _ (λ left.
      list_to_laid (λ right. stop right.end other) text (codes "}") attribute_marks (trace_attribute text) (reads.read_attribute text) attribute_laid
      (opt with_marks) (one left (told is.Attributes t marks)) marks
      (λ xs right. Some (record { word = t; left = left; list = xs; right = right })) (λ xs right. refl) left.end)

  optional_with_laid : Follows (opt with_marks) (trace_optional_with text) (reads.read_optional_with text)
  unfolding trace_optional_with reads.read_optional_with
  optional_with_laid marks p = seen_bind (laid (opt with_marks) marks) refl (token text Operator p) _ _ (λ t.
      laid_if (laid (opt with_marks) marks) (is_word text (codes "with") t) (with_laid marks t) refl)

  -- the marks of what stands behind the text of a request
  abbrev pub tail_marks : Tail → Lays
  tail_marks x = opt with_marks x.attributes ⨾ semicolon x.semi

  pub tail_laid : Follows tail_marks (trace_tail text) (reads.read_tail text)
  unfolding trace_tail reads.read_tail
  tail_laid marks p = laid_bind (opt with_marks) marks (laid tail_marks marks) refl _ (reads.read_optional_with text p) _ _ (optional_with_laid marks p)
      (λ x. seen_bind (laid tail_marks marks) refl (read_semi text x.1) _ _ (λ s. refl))

  -- the same from `from` on
  abbrev pub source_marks : Source → Lays
  source_marks x = one x.from_word ⨾ told is.Request x.request ⨾ tail_marks x.tail

  pub source_behind_laid : (marks : Marks) (t : Token) → source_behind text marks t ≡ laid source_marks marks (reads.source_behind text t)
  unfolding source_behind reads.source_behind
  source_behind_laid marks t = seen_bind (laid source_marks marks) refl (reads.string text t.end) _ _ (λ u.
      laid_as tail_marks source_marks (told is.Request u (one t marks)) marks _ (reads.read_tail text u.end)
      (λ x. record { from_word = t; request = u; tail = x }) (tail_laid _ u.end) (λ x. refl))

  pub source_laid : (goal : Goal) → Follows source_marks (trace_source text goal) (reads.read_source text goal)
  unfolding trace_source reads.read_source
  source_laid goal marks p = seen_bind (laid source_marks marks) refl (word text goal (codes "from") p) _ _ (λ t. source_behind_laid marks t)

-- with where the part ends
abbrev pub ended_by : Part → Marks × ℕ → Traced ℕ
ended_by which x = Some (end which x.0, x.1)

-- something is made of what was read, and the part ends
pub ended_as : {X Y : Type 0} (which : Part) (f : X → Lays) (g : Y → Lays) (before marks : Marks) (traced : Traced ℕ) (read : Option (X × ℕ)) (make : X → Y)
    → traced ≡ laid f before read → ((x : X) → end which (f x before) ≡ g (make x) marks)
    → (traced >>= ended_by which) ≡ laid g marks (read >>= λ x. Some (make x.0, x.1))
ended_as which f g before marks traced read make is each = laid_bind f before (laid g marks) refl traced read (ended_by which) _ is
    (λ x. ap (λ m. Some (m, x.1)) (each x.0))

module _ (text : Bytes) where
  import_from_laid : (c : Context) (marks : Marks) (t u : Token) → (import_from text c (one t (begin part.ImportDeclaration marks)) u
      >>= ended_by part.ImportDeclaration) ≡ laid import_marks marks (reads.import_from text c t u)
  unfolding import_from reads.import_from
  import_from_laid c marks t u = from_laid (reads.clause_by text c u) _ (clause_by_laid text c (one t (begin part.ImportDeclaration marks)) u)
    where
      from_laid : (came : Option (Clause × ℕ)) (traced : Traced ℕ) → traced ≡ laid clause_marks (one t (begin part.ImportDeclaration marks)) came
          → ((traced >>= λ x. trace_source text Operator x.0 x.1) >>= ended_by part.ImportDeclaration)
          ≡ laid import_marks marks (came >>= λ x. reads.read_source text Operator x.1 >>= λ s.
          Some (import_v.From t x.0 s.0.from_word s.0.request s.0.tail.attributes s.0.tail.semi, s.1))
      from_laid None traced e = ap (λ o. (o >>= λ x. trace_source text Operator x.0 x.1) >>= ended_by part.ImportDeclaration) e
      from_laid (Some x) traced e = ap (λ o. (o >>= λ y. trace_source text Operator y.0 y.1) >>= ended_by part.ImportDeclaration) e
          ∙ ended_as part.ImportDeclaration (source_marks text) import_marks (clause_marks x.0 (one t (begin part.ImportDeclaration marks))) marks _
          (reads.read_source text Operator x.1)
          (λ s. import_v.From t x.0 s.from_word s.request s.tail.attributes s.tail.semi) (source_laid text Operator _ x.1) (λ s. refl)

  bare_import_laid : (marks : Marks) (t u : Token) → (trace_tail text (told is.Request u (one t (begin part.ImportDeclaration marks))) u.end
      >>= ended_by part.ImportDeclaration) ≡ laid import_marks marks (reads.bare_import text t u)
  unfolding reads.bare_import
  bare_import_laid marks t u = ended_as part.ImportDeclaration (tail_marks text) import_marks _ marks _ (reads.read_tail text u.end)
      (λ x. import_v.Bare t u x.attributes x.semi) (tail_laid text _ u.end) (λ x. refl)

  import_by_laid : (c : Context) (marks : Marks) (t u : Token) → (import_by text c (one t (begin part.ImportDeclaration marks)) u
      >>= ended_by part.ImportDeclaration) ≡ laid import_marks marks (reads.import_by text c t u)
  unfolding import_by reads.import_by
  import_by_laid c marks t u = inside_if (λ o. o >>= ended_by part.ImportDeclaration) (laid import_marks marks) (reads.is_string u)
      (bare_import_laid marks t u) (import_from_laid c marks t u)

  pub import_laid : (c : Context) → Follows import_marks (trace_import text c) (reads.read_import text c)
  unfolding trace_import reads.read_import
  import_laid c marks p = seen_bind (laid import_marks marks) refl (word text Operand (codes "import") p) _ _ (λ t.
      seen_bind (laid import_marks marks) refl (token text Operand t.end) _ _ (λ u. import_by_laid c marks t u))
