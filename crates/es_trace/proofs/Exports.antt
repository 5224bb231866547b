-- Exports, and the items of a program, are traced as they are read.
use Rattle.std.proofs.Common.{◌≡◌, ℕ, Bool, true, false, ◌&&◌, List, [], ◌∷◌, ◌++◌, Option, Some, None, codes, length, ◌+◌, refl, ap, sym, ◌∙◌, if◌then◌else◌}
use Rattle.std.specs.List.{list_all}
use Rattle.es_tree.specs.declared.tokens.Token.{Token}
use Rattle.es_tree.specs.declared.tokens.ProgramGoal.{ProgramGoal}
use Rattle.es_tree.specs.declared.tokens.ProgramGoal.TheVariants.{Script, Module}
use Rattle.es_tree.specs.declared.tokens.Goal.TheVariants.{Operand, Operator}
use Rattle.es_tree.specs.declared.parts.Separated.{Separated}
use Rattle.es_tree.specs.declared.parts.LexOf.{LexOf}
use Rattle.es_tree.specs.declared.parts.VarOf.{VarOf}
use Rattle.es_tree.specs.declared.cycle.Assign.{Assign}
use Rattle.es_tree.specs.declared.cycle.Decl.{Decl}
use Rattle.es_tree.specs.declared.cycle.Item.TheVariants as item_v
use Rattle.es_tree.specs.declared.program.Export.{Export}
use Rattle.es_tree.specs.declared.program.Export.TheVariants as export_v
use Rattle.es_tree.specs.declared.program.ExportName.{ExportName}
use Rattle.es_tree.specs.declared.program.Names.{Names}
use Rattle.es_tree.specs.declared.program.ProgramItem.{ProgramItem}
use Rattle.es_tree.specs.declared.program.ProgramItem.TheVariants as program_item_v
use Rattle.es_tree.specs.declared.program.Renamed.{Renamed}
use Rattle.es_grammar.specs.declared.places.Context.{Context}
use Rattle.es_grammar.specs.declared.places.Stop.{Stop}
use Rattle.es_grammar.specs.declared.places.Ending.TheVariants.{ExportedNames as exported_names}
use Rattle.es_grammar.specs.Parses.{at_top}
use Rattle.es_grammar.specs.Reading.{Bytes}
use Rattle.es_grammar.specs.Semicolons.{stop}
use Rattle.es_outline.specs.declared.mark.Role.TheVariants as is
use Rattle.es_outline.specs.declared.mark.Part.{Part}
use Rattle.es_outline.specs.declared.mark.Part.TheVariants as part
use Rattle.es_outline.specs.Outline.{◌⨾◌, Lays, Marks, begin, end, listed, one, opt, semicolon, told, within, assign_marks, class_marks, decl_marks, export_marks, export_name_marks, func_marks, import_marks, item_marks, lex_marks, names_marks, program_item_marks, renamed_marks, separated_marks, var_marks}
use Rattle.es_reader.specs.Basics.{◌>>=◌, Reader, token, is_mark, is_name, is_word, mark, word}
use Rattle.es_reader.specs.Functions as functions
use Rattle.es_reader.specs.Lists as read_lists
use Rattle.es_reader.specs.Loops as loops
use Rattle.es_reader.specs.Modules as reads
use Rattle.es_reader.specs.Readers.{Readers}
use Rattle.es_reader.specs.Semis.{read_semi}
use Rattle.es_reader.specs.Statements as statements
use Rattle.es_reader.specs.declared.pieces.TurnOf.{TurnOf}
use Rattle.es_trace.specs.Basics.{Traced, Tracer, laid}
use Rattle.es_trace.specs.Following.{AreFollowing, Follows}
use Rattle.es_trace.specs.Functions.{trace_class, trace_closed_item, trace_func}
use Rattle.es_trace.specs.Statements.{declaration_item, lex_behind, var_behind}
use Rattle.es_trace.specs.Tracers.{Tracers}
use Rattle.es_trace.specs.declared.pieces.Turn.{Turn}
use Rattle.es_trace.specs.declared.pieces.Turn.TheVariants as turn_v
use Rattle.es_trace.specs.declared.pieces_modules.NamesListed.{NamesListed}
use Rattle.es_trace.specs.Modules.{renamed_behind, trace_renamed, names_to, name_behind, name_part, names_turn, names_behind, export_local, names_by, export_names, export_space, export_star_by, export_star, default_assign, default_by, export_default, export_declaration, export_part, export_by, trace_export, trace_module_item, trace_program_item, trace_items, trace_default, source_behind, trace_source}
use Rattle.es_trace.proofs.Classes.{class_laid}
use Rattle.es_trace.proofs.Functions.{closed_item_laid}
use Rattle.es_trace.proofs.Methods.{func_laid}
use Rattle.es_trace.proofs.Modules.{ended_as, ended_by, found_to, import_laid, source_behind_laid, source_laid, source_marks}
use Rattle.es_trace.proofs.Lists.{at_place, chain_laid}
use Rattle.es_trace.proofs.Laying.{all_bind, inside_if, laid_all, laid_as, laid_bind, laid_if, laid_known, laid_repeat, laid_turn, seen_bind, state_bind}

all_push : {X : Type 0} (test : X → Bool) (xs : List X) (x : X) → list_all test (xs ++ x ∷ []) ≡ list_all test xs && test x
all_push test [] x = with_true (test x)
  where
    with_true : (b : Bool) → b && true ≡ b
    with_true true = refl
    with_true false = refl
all_push test (y ∷ ys) x = behind (test y) _ _ _ (all_push test ys x)
  where
    behind : (b c d e : Bool) → c ≡ d && e → b && c ≡ (b && d) && e
    behind true c d e is = is
    behind false c d e is = refl

module _ (text : Bytes) (c : Context) where
  renamed_behind_laid : (marks : Marks) (t : Token) → renamed_behind text marks t ≡ laid (opt renamed_marks) marks (reads.renamed_behind text t)
  unfolding renamed_behind reads.renamed_behind
  renamed_behind_laid marks t = seen_bind (laid (opt renamed_marks) marks) refl (reads.id_name text t.end) _ _ (λ n. refl)

  renamed_laid : Follows (opt renamed_marks) (trace_renamed text) (reads.read_renamed text)
  unfolding trace_renamed reads.read_renamed
  renamed_laid marks p = seen_bind (laid (opt renamed_marks) marks) refl (token text Operator p) _ _ (λ t.
      laid_if (laid (opt renamed_marks) marks) (is_word text (codes "as") t) (renamed_behind_laid marks t) refl)

  -- where a list of names stands, and whether all are Names
  abbrev names_at : List (Separated ExportName) → ℕ → NamesListed
  names_at found p = names_to (reads.are_local text c found) p

  module _ (marks : Marks) (found : List (Separated ExportName)) where
    abbrev before : Marks
    before = listed (separated_marks export_name_marks) found marks

    abbrev as_turn : Option (TurnOf ℕ (Separated ExportName)) → Traced (Turn NamesListed)
    as_turn = laid_turn (separated_marks export_name_marks) names_at found marks

    local_pushed : (x : Separated ExportName) → reads.are_local text c found && is_name text c x.item.name ≡ reads.are_local text c (found ++ x ∷ [])
    local_pushed x = sym (all_push (λ y. is_name text c y.item.name) found x)

    name_behind_laid : (x : ExportName) (p : ℕ)
        → name_behind text (reads.are_local text c found && is_name text c x.name) (export_name_marks x before) p ≡ as_turn (read_lists.comma_behind text x p)
    unfolding name_behind read_lists.comma_behind
    name_behind_laid x p = seen_bind as_turn refl (token text Operator p) _ _ (λ t. laid_if as_turn (is_mark text (codes ",") t)
        (ap (λ b. Some (one t (export_name_marks x before), turn_v.More (names_to b t.end))) (local_pushed _))
        (ap (λ b. Some (export_name_marks x before, turn_v.Ended (names_to b p))) (local_pushed _)))

    name_part_laid : (p : ℕ) → name_part text c before (names_at found p) ≡ as_turn (read_lists.list_part text (reads.read_export_name text) p)
    unfolding name_part read_lists.list_part reads.read_export_name
    name_part_laid p = by_name (reads.id_name text p)
      where
        name_of : Token → Option Renamed × ℕ → Option (ExportName × ℕ)
        name_of t x = Some (record { name = t; renamed = x.0 }, x.1)

        by_rest : (t : Token) (came : Option (Option Renamed × ℕ)) (traced : Traced ℕ) → traced ≡ laid (opt renamed_marks) (told is.Exported t before) came
            → (traced >>= λ x. name_behind text (reads.are_local text c found && is_name text c t) x.0 x.1)
            ≡ as_turn ((came >>= name_of t) >>= λ x. read_lists.comma_behind text x.0 x.1)
        by_rest t None traced e = ap (λ o. o >>= λ x. name_behind text (reads.are_local text c found && is_name text c t) x.0 x.1) e
        by_rest t (Some x) traced e = ap (λ o. o >>= λ y. name_behind text (reads.are_local text c found && is_name text c t) y.0 y.1) e
            ∙ name_behind_laid (record { name = t; renamed = x.0 }) x.1

        by_name : (o : Option Token) → (o >>= λ t. trace_renamed text (told is.Exported t before) t.end >>= λ x.
            name_behind text (reads.are_local text c found && is_name text c t) x.0 x.1)
            ≡ as_turn ((o >>= λ t. reads.read_renamed text t.end >>= name_of t)
            >>= λ x. read_lists.comma_behind text x.0 x.1)
        by_name None = refl
        by_name (Some t) = by_rest t (reads.read_renamed text t.end) _ (renamed_laid _ t.end)

    names_turn_laid : (p : ℕ) → names_turn text c before (names_at found p)
        ≡ as_turn (read_lists.list_turn text (is_mark text (codes "}")) (reads.read_export_name text) p)
    unfolding names_turn read_lists.list_turn
    names_turn_laid p = seen_bind as_turn refl (token text Operand p) _ _ (λ t. laid_if as_turn (is_mark text (codes "}") t) refl (name_part_laid p))

  -- whether all names of an export are Names
  abbrev local_at : Names → ℕ → NamesListed
  local_at x p = names_to (reads.are_local text c x.list) p

  names_behind_laid : (marks : Marks) (left : Token)
      → names_behind text c marks left ≡ laid_known names_marks local_at marks (reads.names_behind text left)
  unfolding names_behind reads.names_behind read_lists.read_list_to
  names_behind_laid marks left = by_list (loops.all_turns text (read_lists.list_turn text (is_mark text (codes "}")) (reads.read_export_name text)) left.end) _
      (laid_repeat (separated_marks export_name_marks) names_at _ _ (one left marks) (λ found p. names_turn_laid (one left marks) found p)
      (length text + 1) [] left.end)
    where
      names_of : List (Separated ExportName) × Token → Option (Names × ℕ)
      names_of xs = Some (record { left = left; list = xs.0; right = xs.1 }, xs.1.end)

      by_mark : (o : Option Token) (xs : List (Separated ExportName)) → (o >>= λ right.
          Some (one right (listed (separated_marks export_name_marks) xs (one left marks)), names_to (reads.are_local text c xs) right.end))
          ≡ laid_known names_marks local_at marks ((o >>= found_to xs) >>= names_of)
      by_mark None xs = refl
      by_mark (Some right) xs = refl

      by_list : (came : Option (List (Separated ExportName) × ℕ)) (traced : Traced NamesListed)
          → traced ≡ laid_all (separated_marks export_name_marks) names_at (one left marks) came
          → (traced >>= λ xs. mark text Operator (codes "}") xs.1.at >>= λ right. Some (one right xs.0, names_to xs.1.local right.end))
          ≡ laid_known names_marks local_at marks ((came >>= λ xs. mark text Operator (codes "}") xs.1 >>= found_to xs.0) >>= names_of)
      by_list None traced e = ap (λ o. o >>= λ xs. mark text Operator (codes "}") xs.1.at >>= λ right. Some (one right xs.0, names_to xs.1.local right.end)) e
      by_list (Some xs) traced e = ap (λ o. o >>= λ ys. mark text Operator (codes "}") ys.1.at >>= λ right. Some (one right ys.0, names_to ys.1.local right.end)) e
          ∙ by_mark (mark text Operator (codes "}") xs.1) xs.0

  -- the list of names with what stands behind it
  abbrev opened : Marks → Token → Marks
  opened marks t = one t (begin part.ExportList marks)

  export_local_laid : (marks : Marks) (t : Token) (x : Names) (p : ℕ)
      → (export_local text (names_marks x (opened marks t)) p >>= ended_by part.ExportList) ≡ laid export_marks marks (reads.export_local text t x p)
  unfolding export_local reads.export_local
  export_local_laid marks t x p = by_semi (read_semi text (stop p exported_names))
    where
      by_semi : (o : Option (Option Token × ℕ)) → ((o >>= λ s. Some (semicolon s.0 (names_marks x (opened marks t)), s.1)) >>= ended_by part.ExportList)
          ≡ laid export_marks marks (o >>= λ s. Some (export_v.Names t x s.0, s.1))
      by_semi None = refl
      by_semi (Some s) = refl

  export_from_laid : (marks : Marks) (t : Token) (x : Names) (u : Token)
      → (source_behind text (names_marks x (opened marks t)) u >>= ended_by part.ExportList) ≡ laid export_marks marks (reads.export_from text t x u)
  unfolding reads.export_from
  export_from_laid marks t x u = ended_as part.ExportList (source_marks text) export_marks _ marks _ (reads.source_behind text u)
      (λ s. export_v.From t x s.from_word s.request s.tail.attributes s.tail.semi) (source_behind_laid text _ u) (λ s. refl)

  names_by_laid : (marks : Marks) (t : Token) (x : Names) (p : ℕ) (u : Token)
      → (names_by text (local_at x p) (names_marks x (opened marks t)) u >>= ended_by part.ExportList)
      ≡ laid export_marks marks (reads.names_by text c t x p u)
  unfolding names_by reads.names_by
  names_by_laid marks t x p u = inside_if (λ o. o >>= ended_by part.ExportList) (laid export_marks marks) (is_word text (codes "from") u)
      (export_from_laid marks t x u)
      (inside_if (λ o. o >>= ended_by part.ExportList) (laid export_marks marks) (reads.are_local text c x.list) (export_local_laid marks t x p) refl)

  export_names_laid : (marks : Marks) (t left : Token)
      → (export_names text c (opened marks t) left >>= ended_by part.ExportList) ≡ laid export_marks marks (reads.export_names text c t left)
  unfolding export_names reads.export_names
  export_names_laid marks t left = by_names (reads.names_behind text left) _ (names_behind_laid (opened marks t) left)
    where
      by_token : (o : Option Token) (x : Names) (p : ℕ) → ((o >>= names_by text (local_at x p) (names_marks x (opened marks t))) >>= ended_by part.ExportList)
          ≡ laid export_marks marks (o >>= reads.names_by text c t x p)
      by_token None x p = refl
      by_token (Some u) x p = names_by_laid marks t x p u

      by_names : (came : Option (Names × ℕ)) (traced : Traced NamesListed) → traced ≡ laid_known names_marks local_at (opened marks t) came
          → ((traced >>= λ x. token text Operator x.1.at >>= names_by text x.1 x.0) >>= ended_by part.ExportList)
          ≡ laid export_marks marks (came >>= λ x. token text Operator x.1 >>= reads.names_by text c t x.0 x.1)
      by_names None traced e = ap (λ o. (o >>= λ x. token text Operator x.1.at >>= names_by text x.1 x.0) >>= ended_by part.ExportList) e
      by_names (Some x) traced e = ap (λ o. (o >>= λ y. token text Operator y.1.at >>= names_by text y.1 y.0) >>= ended_by part.ExportList) e
          ∙ by_token (token text Operator x.1) x.0 x.1

-- declarations are traced as they are read
pub record FollowDeclarations (text : Bytes) (t : Tracers) (r : Readers) : Type 0 where
  pub var : (c : Context) (marks : Marks) (u : Token) → var_behind text t c marks u ≡ laid var_marks marks (statements.var_behind text r c u)
  pub lex : (c : Context) (is_const : Bool) (marks : Marks) (u : Token)
      → lex_behind text t c is_const marks u ≡ laid lex_marks marks (statements.lex_behind text r c is_const u)
  pub item : (c : Context) (must : Bool) (marks : Marks) (p : ℕ) (u : Token)
      → declaration_item text t c must marks p u ≡ laid item_marks marks (statements.declaration_item text r c must p u)

module _ (text : Bytes) {t : Tracers} {r : Readers} (follows : AreFollowing t r) (declarations : FollowDeclarations text t r) where
  -- what stands before what an export of this part exports
  abbrev exporting : Part → Marks → Token → Marks
  exporting which marks u = one u (begin which marks)

  -- the rest of an export, where its part ends
  abbrev Exports : Part → Marks → Traced ℕ → Option (Export × ℕ) → Type 0
  Exports which marks traced read = (traced >>= ended_by which) ≡ laid export_marks marks read

  export_all_laid : (marks : Marks) (u star v : Token) → Exports part.ExportStar marks (source_behind text (one star (exporting part.ExportStar marks u)) v)
      (reads.export_all text u star v)
  unfolding reads.export_all
  export_all_laid marks u star v = ended_as part.ExportStar (source_marks text) export_marks _ marks _ (reads.source_behind text v)
      (λ s. export_v.All u star s.from_word s.request s.tail.attributes s.tail.semi) (source_behind_laid text _ v) (λ s. refl)

  export_space_laid : (marks : Marks) (u star v : Token) → Exports part.ExportStar marks (export_space text (one star (exporting part.ExportStar marks u)) v)
      (reads.export_space text u star v)
  unfolding export_space reads.export_space
  export_space_laid marks u star v = by_name (reads.id_name text v.end)
    where
      by_name : (o : Option Token) → ((o >>= λ n. trace_source text Operator (told is.Outer n (one v (one star (exporting part.ExportStar marks u)))) n.end)
          >>= ended_by part.ExportStar) ≡ laid export_marks marks (o >>= λ n. reads.read_source text Operator n.end >>= λ s.
          Some (export_v.Space u star v n s.0.from_word s.0.request s.0.tail.attributes s.0.tail.semi, s.1))
      by_name None = refl
      by_name (Some n) = ended_as part.ExportStar (source_marks text) export_marks _ marks _ (reads.read_source text Operator n.end)
          (λ s. export_v.Space u star v n s.from_word s.request s.tail.attributes s.tail.semi) (source_laid text Operator _ n.end) (λ s. refl)

  export_star_laid : (marks : Marks) (u star : Token)
      → Exports part.ExportStar marks (export_star text (exporting part.ExportStar marks u) star) (reads.export_star text u star)
  unfolding export_star export_star_by reads.export_star reads.export_star_by
  export_star_laid marks u star = by_token (token text Operand star.end)
    where
      by_token : (o : Option Token) → Exports part.ExportStar marks (o >>= export_star_by text (one star (exporting part.ExportStar marks u)))
          (o >>= reads.export_star_by text u star)
      by_token None = refl
      by_token (Some v) = inside_if (λ o. o >>= ended_by part.ExportStar) (laid export_marks marks) (is_word text (codes "from") v)
          (export_all_laid marks u star v) (inside_if (λ o. o >>= ended_by part.ExportStar) (laid export_marks marks) (is_word text (codes "as") v)
          (export_space_laid marks u star v) refl)

  -- what stands before what `export default` exports
  abbrev defaulting : Marks → Token → Token → Marks
  defaulting marks u v = one v (exporting part.ExportDefault marks u)

  default_assign_laid : (c : Context) (marks : Marks) (u v : Token)
      → Exports part.ExportDefault marks (default_assign text t c (defaulting marks u v) v.end) (reads.default_assign text r c u v)
  unfolding default_assign reads.default_assign
  default_assign_laid c marks u v = by_value (r.assign c v.end) _ (follows.assign c (begin part.ExportedValue (defaulting marks u v)) v.end)
    where
      by_semi : (x : Assign) (o : Option (Option Token × ℕ)) → Exports part.ExportDefault marks
          (o >>= λ s. Some (semicolon s.0 (within part.ExportedValue (assign_marks x) (defaulting marks u v)), s.1))
          (o >>= λ s. Some (export_v.Default u v x s.0, s.1))
      by_semi x None = refl
      by_semi x (Some s) = refl

      by_value : (came : Option (Assign × Stop)) (traced : Traced Stop) → traced ≡ laid assign_marks (begin part.ExportedValue (defaulting marks u v)) came
          → Exports part.ExportDefault marks (traced >>= λ x. read_semi text x.1 >>= λ s. Some (semicolon s.0 (end part.ExportedValue x.0), s.1))
          (came >>= λ x. read_semi text x.1 >>= λ s. Some (export_v.Default u v x.0 s.0, s.1))
      by_value None traced e = ap (λ o. (o >>= λ x. read_semi text x.1 >>= λ s. Some (semicolon s.0 (end part.ExportedValue x.0), s.1))
          >>= ended_by part.ExportDefault) e
      by_value (Some x) traced e = ap (λ o. (o >>= λ y. read_semi text y.1 >>= λ s. Some (semicolon s.0 (end part.ExportedValue y.0), s.1))
          >>= ended_by part.ExportDefault) e ∙ by_semi x.0 (read_semi text x.1)

  default_by_laid : (c : Context) (marks : Marks) (u v w : Token)
      → Exports part.ExportDefault marks (default_by text t c (defaulting marks u v) v.end w) (reads.default_by text r c u v w)
  unfolding default_by reads.default_by reads.default_class reads.default_func
  default_by_laid c marks u v w = inside_if (λ o. o >>= ended_by part.ExportDefault) (laid export_marks marks) (is_word text (codes "class") w)
      (ended_as part.ExportDefault class_marks export_marks _ marks _ (functions.read_class text r c false v.end) (λ x. export_v.DefaultClass u v x)
      (class_laid text follows c false _ v.end) (λ x. refl))
      (inside_if (λ o. o >>= ended_by part.ExportDefault) (laid export_marks marks) (statements.begins_declaration text w)
      (ended_as part.ExportDefault func_marks export_marks _ marks _ (functions.read_func text r c false v.end) (λ x. export_v.DefaultFunc u v x)
      (func_laid text follows c false _ v.end) (λ x. refl))
      (default_assign_laid c marks u v))

  export_default_laid : (c : Context) (marks : Marks) (u v : Token)
      → Exports part.ExportDefault marks (export_default text t c (exporting part.ExportDefault marks u) v) (reads.export_default text r c u v)
  unfolding export_default reads.export_default
  export_default_laid c marks u v = by_token (token text Operand v.end)
    where
      by_token : (o : Option Token) → Exports part.ExportDefault marks (o >>= default_by text t c (defaulting marks u v) v.end)
          (o >>= reads.default_by text r c u v)
      by_token None = refl
      by_token (Some w) = default_by_laid c marks u v w

  export_declaration_laid : (c : Context) (marks : Marks) (u v : Token) → Exports part.ExportedDeclaration marks
      (export_declaration text t c (exporting part.ExportedDeclaration marks u) u.end v) (reads.export_declaration text r c u v)
  unfolding export_declaration reads.export_declaration reads.export_var reads.export_lex reads.export_class reads.export_func
  export_declaration_laid c marks u v = inside_if (λ o. o >>= ended_by part.ExportedDeclaration) (laid export_marks marks) (is_word text (codes "var") v)
      (ended_as part.ExportedDeclaration var_marks export_marks _ marks _ (statements.var_behind text r c v) (λ x. export_v.Var u x)
      (declarations.var c _ v) (λ x. refl))
      (inside_if (λ o. o >>= ended_by part.ExportedDeclaration) (laid export_marks marks) (is_word text (codes "let") v) (lex_laid false)
      (inside_if (λ o. o >>= ended_by part.ExportedDeclaration) (laid export_marks marks) (is_word text (codes "const") v) (lex_laid true)
      (inside_if (λ o. o >>= ended_by part.ExportedDeclaration) (laid export_marks marks) (is_word text (codes "class") v)
      (ended_as part.ExportedDeclaration class_marks export_marks _ marks _ (functions.read_class text r c true u.end) (λ x. export_v.Class u x)
      (class_laid text follows c true _ u.end) (λ x. refl))
      (ended_as part.ExportedDeclaration func_marks export_marks _ marks _ (functions.read_func text r c true u.end) (λ x. export_v.Func u x)
      (func_laid text follows c true _ u.end) (λ x. refl)))))
    where
      lex_laid : (is_const : Bool) → Exports part.ExportedDeclaration marks (lex_behind text t c is_const (exporting part.ExportedDeclaration marks u) v)
          (statements.lex_behind text r c is_const v >>= λ x. Some (export_v.Lex u x.0, x.1))
      lex_laid is_const = ended_as part.ExportedDeclaration lex_marks export_marks _ marks _ (statements.lex_behind text r c is_const v)
          (λ x. export_v.Lex u x) (declarations.lex c is_const _ v) (λ x. refl)

  -- which part it is decides what follows
  export_by_laid : (c : Context) (marks : Marks) (u v : Token) → Exports (export_part text v) marks
      (export_by text t c (exporting (export_part text v) marks u) u.end v) (reads.export_by text r c u v)
  unfolding export_part export_by reads.export_by
  export_by_laid c marks u v = by_words (is_mark text (codes "*") v) (is_mark text (codes "{") v) (is_word text (codes "default") v)
    where
      part_by : Bool → Bool → Bool → Part
      part_by star brace default = if star then part.ExportStar else (if brace then part.ExportList
          else (if default then part.ExportDefault else part.ExportedDeclaration))

      traced_by : Bool → Bool → Bool → Marks → Traced ℕ
      traced_by star brace default before = if star then export_star text before v else (if brace then export_names text c before v
          else (if default then export_default text t c before v else export_declaration text t c before u.end v))

      read_by : Bool → Bool → Bool → Option (Export × ℕ)
      read_by star brace default = if star then reads.export_star text u v else (if brace then reads.export_names text c u v
          else (if default then reads.export_default text r c u v else reads.export_declaration text r c u v))

      by_words : (star brace default : Bool) → Exports (part_by star brace default) marks
          (traced_by star brace default (exporting (part_by star brace default) marks u)) (read_by star brace default)
      by_words true brace default = export_star_laid marks u v
      by_words false true default = export_names_laid text c marks u v
      by_words false false true = export_default_laid c marks u v
      by_words false false false = export_declaration_laid c marks u v

  pub export_laid : (c : Context) → Follows export_marks (trace_export text t c) (reads.read_export text r c)
  unfolding trace_export reads.read_export
  export_laid c marks p = seen_bind (laid export_marks marks) refl (word text Operand (codes "export") p) _ _ (λ u.
      seen_bind (laid export_marks marks) refl (token text Operand u.end) _ _ (λ v. export_by_laid c marks u v))

  plain_item_laid : (c : Context) → Follows program_item_marks (trace_closed_item text t c) (reads.plain_item text r c)
  unfolding reads.plain_item
  plain_item_laid c marks p = laid_as item_marks program_item_marks marks marks _ (functions.read_closed_item text r c p)
      (λ x. program_item_v.Item x) (closed_item_laid text follows c marks p) (λ x. refl)

  module_item_laid : (c : Context) → Follows program_item_marks (trace_module_item text t c) (reads.read_module_item text r c)
  unfolding trace_module_item reads.read_module_item reads.import_item reads.export_item
  module_item_laid c marks p = seen_bind (laid program_item_marks marks) refl (token text Operand p) _ _ (λ u.
      laid_if (laid program_item_marks marks) (reads.begins_import text u)
      (laid_as import_marks program_item_marks marks marks _ (reads.read_import text c p) (λ x. program_item_v.Import x) (import_laid text c marks p) (λ x. refl))
      (laid_if (laid program_item_marks marks) (is_word text (codes "export") u)
      (laid_as export_marks program_item_marks marks marks _ (reads.read_export text r c p) (λ x. program_item_v.Export x) (export_laid c marks p) (λ x. refl))
      (plain_item_laid c marks p)))

  pub program_item_laid : (goal : ProgramGoal) → Follows program_item_marks (trace_program_item text t goal) (reads.read_program_item text r goal)
  program_item_laid Script = plain_item_laid (at_top Script)
  program_item_laid Module = module_item_laid (at_top Module)

  -- all items of a program
  pub items_laid : (goal : ProgramGoal) (marks : Marks) (p : ℕ)
      → trace_items text t goal marks p ≡ laid (listed program_item_marks) marks (reads.read_items text r goal p)
  unfolding trace_items reads.read_items
  items_laid goal marks p = laid_repeat program_item_marks at_place _ _ marks (λ found q. chain_laid text program_item_marks marks reads.is_end
      (trace_program_item text t goal) (reads.read_program_item text r goal) (program_item_laid goal) found q) (length text + 1) [] p
      ∙ same (loops.all_turns text (read_lists.chain_turn text reads.is_end (reads.read_program_item text r goal)) p)
    where
      same : (came : Option (List ProgramItem × ℕ)) → laid_all program_item_marks at_place marks came ≡ laid (listed program_item_marks) marks came
      same None = refl
      same (Some xs) = refl

  pub default_laid : (c : Context) → Follows item_marks (trace_default text t c) (reads.read_default text r c)
  unfolding trace_default reads.read_default
  default_laid c marks p = seen_bind (laid item_marks marks) refl (token text Operand p) _ _ (λ u. declarations.item c false marks p u)
