-- What names are imported as, as the code finds it at places.
use Rattle.std.proofs.Common.{◌≡◌, ◌+◌, ℕ, Bool, true, false, cond, List, Option, Some, None, is_some, slice_get, option_map, refl, sym, ap, subst, ◌∙◌, true≢false}
use Rattle.std.proofs.lemmas.Bool.{cond-true}
use Rattle.std.proofs.lemmas.Option.{none-some, same_Some}
use Rattle.es_outline.specs.declared.mark.Mark.TheVariants as mark
use Rattle.es_outline.specs.declared.mark.Role.{Role}
use Rattle.es_outline.specs.declared.mark.Role.TheVariants as is
use Rattle.es_scope.specs.Source.{Source, IsMark, HasRole, name_at}
use Rattle.es_scope.specs.Declaring.{Imports}
use Rattle.es_exports.specs.declared.said.Said.{Said}
use Rattle.es_exports.specs.declared.said.Said.TheVariants as said
use Rattle.es_exports.specs.Seeing.{role_at, back, is_outer, is_shorthand}
use Rattle.es_exports.specs.Saying.{name_of}
use Rattle.es_exports.specs.Origins.{is_outer_of, is_short_of, space_of, imports_by, imports_at}
use Rattle.es_exports.proofs.Marks.{chosen, role_here, role_there, outer_here, outer_there, shorthand_is, back_is, back_was}

-- it is imported as what is said there, or as a namespace
abbrev pub IsImported : Source → ℕ → Option Said → Type 0
IsImported source place what = (at : ℕ) × Imports source place (option_map (name_of source) what) at

module _ (source : Source) (place : ℕ) where
  short_by : (found : Option ℕ) → back 1 place ≡ found → is_short_of source found ≡ true → (before : ℕ) × (before + 1 ≡ place) × IsMark source before mark.Shorthand
  short_by None b e = absurd (true≢false (sym e))
  short_by (Some before) b e = (before, sym (back_was 1 place before b), shorthand_is (slice_get source.marks before) e)

  outer_by : (what : Option Said) (found : Option ℕ) → back 2 place ≡ found → is_outer_of source found ≡ Some what → HasRole source place is.Imported
      → IsImported source place what
  outer_by what None b e t = absurd (none-some what e)
  outer_by what (Some outer) b e t =
      let taken = chosen (is_outer (role_at source outer)) (Some (Some (said.At outer))) what e in
      subst (IsImported source place) (same_Some (Some (said.At outer)) what taken.1)
      (outer, Imports.renamed outer (sym (back_was 2 place outer b)) t (outer_there source outer taken.0))

  imported_by : (what : Option Said) (short : Bool) → is_short_of source (back 1 place) ≡ short
      → cond short (Some (Some (said.At place))) (is_outer_of source (back 2 place)) ≡ Some what → HasRole source place is.Imported → IsImported source place what
  imported_by what true s e t =
      let there = short_by (back 1 place) refl s in
      subst (IsImported source place) (same_Some (Some (said.At place)) what e) (place, Imports.same there.0 there.1 t there.2)
  imported_by what false s e t = outer_by what (back 2 place) refl e t

  space_by : (what : Option Said) (found : Option ℕ) → back 2 place ≡ found → space_of found ≡ Some what → HasRole source place is.ImportedSpace
      → IsImported source place what
  space_by what None b e t = absurd (none-some what e)
  space_by what (Some star) b e t =
      subst (IsImported source place) (same_Some None what e) (star, Imports.space star (sym (back_was 2 place star b)) t)

  role_by : (what : Option Said) (role : Option Role) → role_at source place ≡ role → imports_by source place role ≡ Some what → IsImported source place what
  role_by what (Some is.Imported) r e = imported_by what (is_short_of source (back 1 place)) refl e (role_there source place is.Imported r)
  role_by what (Some is.ImportedDefault) r e =
      subst (IsImported source place) (same_Some (Some said.Default) what e) (place, Imports.by_default (role_there source place is.ImportedDefault r))
  role_by what (Some is.ImportedSpace) r e = space_by what (back 2 place) refl e (role_there source place is.ImportedSpace r)
  role_by what _ r e = absurd (none-some what e)

  pub imports_there : (what : Option Said) → imports_at source place ≡ Some what → IsImported source place what
  imports_there what e = role_by what (role_at source place) refl e

  -- something is found where it is imported
  pub record IsFoundAs (name : Option (List ℕ)) : Type 0 where
    pub what : Option Said
    pub found : imports_at source place ≡ Some what
    pub like : is_some what ≡ is_some name

  renamed_by : (outer : ℕ) (name : List ℕ) (short : Bool) → is_short_of source (back 1 place) ≡ short → HasRole source place is.Imported → outer + 2 ≡ place
      → HasRole source outer is.Outer → IsFoundAs (Some name)
  renamed_by outer name true s t e o = record {
    what = Some (said.At place);
    found = ap (imports_by source place) (role_here source place is.Imported t)
        ∙ ap (λ (b : Bool). cond b (Some (Some (said.At place))) (is_outer_of source (back 2 place))) s;
    like = refl;
  }
  renamed_by outer name false s t e o = record {
    what = Some (said.At outer);
    found = ap (imports_by source place) (role_here source place is.Imported t)
        ∙ ap (λ (b : Bool). cond b (Some (Some (said.At place))) (is_outer_of source (back 2 place))) s
        ∙ ap (is_outer_of source) (back_is 2 place outer (sym e))
        ∙ cond-true (is_outer (role_at source outer)) (Some (Some (said.At outer))) None (outer_here source outer o);
    like = refl;
  }

  pub imports_here : (name : Option (List ℕ)) (at : ℕ) → Imports source place name at → IsFoundAs name
  imports_here _ _ (Imports.same before e t m) = record {
    what = Some (said.At place);
    found = ap (imports_by source place) (role_here source place is.Imported t)
        ∙ cond-true (is_short_of source (back 1 place)) (Some (Some (said.At place))) (is_outer_of source (back 2 place))
        (ap (is_short_of source) (back_is 1 place before (sym e)) ∙ ap is_shorthand m);
    like = refl;
  }
  imports_here _ _ (Imports.renamed outer e t o) = renamed_by outer (name_at source outer) (is_short_of source (back 1 place)) refl t e o
  imports_here _ _ (Imports.by_default t) = record {
    what = Some said.Default;
    found = ap (imports_by source place) (role_here source place is.ImportedDefault t);
    like = refl;
  }
  imports_here _ _ (Imports.space star e t) = record {
    what = None;
    found = ap (imports_by source place) (role_here source place is.ImportedSpace t) ∙ ap space_of (back_is 2 place star (sym e));
    like = refl;
  }
