-- A text has one outline at most for its name, and none where it has no tree.
use Rattle.std.proofs.Common.{◌≡◌, ◌⊎◌, inl, inr, refl, sym, ap, ap₂, subst, ◌∙◌}
use Rattle.es_tree.specs.declared.tokens.ProgramGoal.{ProgramGoal}
use Rattle.es_tree.specs.declared.tokens.ProgramGoal.TheVariants.{Script, Module}
use Rattle.es_tree.specs.declared.program.Program.{Program}
use Rattle.es_grammar.specs.Reading.{Bytes}
use Rattle.es_outline.specs.Outline.{Marks, outline}
use Rattle.es_reader.proofs.Steps.{some_is}
use Rattle.es_trace.specs.Trees.{IsTreeOf, IsOutlineOf, HasNoTree}
use Rattle.pk_types.specs.declared.facts.NameKind.{NameKind}
use Rattle.pk_types.specs.declared.facts.NameKind.TheVariants as name
use Rattle.es_facts.specs.Answer.{IsOutlined, IsSyntax, source_of}

one_tree : (text : Bytes) (goal : ProgramGoal) (program other : Program) → IsTreeOf text goal program → IsTreeOf text goal other → program ≡ other
one_tree text goal program other is same = some_is _ _ (sym is ∙ same)

one_marks : (text : Bytes) (goal : ProgramGoal) (marks further : Marks) → IsOutlineOf text goal marks → IsOutlineOf text goal further → marks ≡ further
one_marks text goal marks further is same = is.2 ∙ ap outline (one_tree text goal is.0 same.0 is.1 same.1) ∙ sym same.2

not_both : (text : Bytes) (goal : ProgramGoal) (marks : Marks) → IsOutlineOf text goal marks → HasNoTree text goal → ⊥
not_both text goal marks is none = let tree = is.1 in absurd cc

module _ (text : Bytes) where
  -- what it means by the name that marks are the outline of the text
  abbrev Described : NameKind → ProgramGoal → Marks → Type 0
  Described name.Module goal marks = (goal ≡ Module) × IsOutlineOf text Module marks
  Described name.Common goal marks = (goal ≡ Script) × IsOutlineOf text Script marks
  Described name.Either goal marks = ((goal ≡ Script) × IsOutlineOf text Script marks) ⊎ ((goal ≡ Module) × HasNoTree text Script × IsOutlineOf text Module marks)
  Described name.Json goal marks = ⊥

  described : (named : NameKind) (goal : ProgramGoal) (marks : Marks) → IsOutlined text named goal marks → Described named goal marks
  described named goal marks (IsOutlined.es _ is) = (refl, is)
  described named goal marks (IsOutlined.common _ is) = (refl, is)
  described named goal marks (IsOutlined.script _ is) = inl (refl, is)
  described named goal marks (IsOutlined.otherwise _ none is) = inr (refl, none, is)

  abbrev Treeless : NameKind → Type 0
  Treeless name.Module = HasNoTree text Module
  Treeless name.Common = HasNoTree text Script
  Treeless name.Either = HasNoTree text Script × HasNoTree text Module
  Treeless name.Json = ⊥

  treeless : (named : NameKind) → IsSyntax text named → Treeless named
  treeless named (IsSyntax.es none) = none
  treeless named (IsSyntax.common none) = none
  treeless named (IsSyntax.both script none) = (script, none)

  same_source : (goal other : ProgramGoal) (one : ProgramGoal) (marks further : Marks) → goal ≡ one → other ≡ one → IsOutlineOf text one marks → IsOutlineOf text one further
      → source_of text goal marks ≡ source_of text other further
  same_source goal other one marks further is same outlined again = ap₂ (source_of text) (is ∙ sym same) (one_marks text one marks further outlined again)

  by_name : (named : NameKind) (goal other : ProgramGoal) (marks further : Marks) → Described named goal marks → Described named other further
      → source_of text goal marks ≡ source_of text other further
  by_name name.Module goal other marks further is same = same_source goal other Module marks further is.0 same.0 is.1 same.1
  by_name name.Common goal other marks further is same = same_source goal other Script marks further is.0 same.0 is.1 same.1
  by_name name.Either goal other marks further (inl is) (inl same) = same_source goal other Script marks further is.0 same.0 is.1 same.1
  by_name name.Either goal other marks further (inr is) (inr same) = same_source goal other Module marks further is.0 same.0 is.2 same.2
  by_name name.Either goal other marks further (inl is) (inr same) = absurd (not_both text Script marks is.1 same.1)
  by_name name.Either goal other marks further (inr is) (inl same) = absurd (not_both text Script further same.1 is.1)
  by_name name.Json goal other marks further is same = absurd is

  pub one_source : (named : NameKind) (goal other : ProgramGoal) (marks further : Marks) → IsOutlined text named goal marks → IsOutlined text named other further
      → source_of text goal marks ≡ source_of text other further
  one_source named goal other marks further is same = by_name named goal other marks further (described named goal marks is) (described named other further same)

  none_by_name : (named : NameKind) (goal : ProgramGoal) (marks : Marks) → Described named goal marks → Treeless named → ⊥
  none_by_name name.Module goal marks is none = not_both text Module marks is.1 none
  none_by_name name.Common goal marks is none = not_both text Script marks is.1 none
  none_by_name name.Either goal marks (inl is) none = not_both text Script marks is.1 none.0
  none_by_name name.Either goal marks (inr is) none = not_both text Module marks is.2 none.1
  none_by_name name.Json goal marks is none = none

  pub outlined_reads : (named : NameKind) (goal : ProgramGoal) (marks : Marks) → IsOutlined text named goal marks → ¬ IsSyntax text named
  outlined_reads named goal marks is none = none_by_name named goal marks (described named goal marks is) (treeless named none)

  -- JSON is no program
  pub json_no_outline : (goal : ProgramGoal) (marks : Marks) → ¬ IsOutlined text name.Json goal marks
  json_no_outline goal marks is = described name.Json goal marks is

  pub json_reads : ¬ IsSyntax text name.Json
  json_reads none = treeless name.Json none

  pub outlined_program : (named : NameKind) (goal : ProgramGoal) (marks : Marks) → IsOutlined text named goal marks → named ≡ name.Json → ⊥
  outlined_program named goal marks is json = json_no_outline goal marks (subst (λ one. IsOutlined text one goal marks) json is)
