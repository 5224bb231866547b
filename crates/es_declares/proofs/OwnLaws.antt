-- What the top declares at a place is what is looked up.
use Rattle.std.proofs.Common.{◌≡◌, ℕ, ◌<◌, ◌↔◌, Bool, true, false, cond, List, Option, Some, None, length, slice_get, slice_index, refl, sym, ap, subst, ◌∙◌, arith}
use Rattle.std.proofs.lemmas.Bool.{false≢true, eq-eqb}
use Rattle.std.proofs.lemmas.Map.Views.{exact_unsigned_eq}
use Rattle.std.proofs.lemmas.Option.{none-some, same_Some, slice_get_within}
use Rattle.pk_types.specs.declared.facts.Binding.{Binding}
use Rattle.pk_types.specs.declared.facts.BindKind.{BindKind}
use Rattle.pk_types.specs.declared.facts.BindKind.TheVariants as bind
use Rattle.es_scope.specs.declared.kinds.DeclarationKind.{DeclarationKind}
use Rattle.es_scope.specs.declared.kinds.DeclarationKind.TheVariants as kind
use Rattle.es_scope.specs.Source.{Source, name_at}
use Rattle.es_scope.specs.Occurrences.{IsDeclared, IsOccurrence}
use Rattle.es_scope.specs.Scopes.{BelongsTo, Declares}
use Rattle.es_scope.specs.Named.{names_it}
use Rattle.es_scope.specs.Firsts.{IsFirst}
use Rattle.es_scope.specs.Telling.{Told, AreScopes}
use Rattle.es_scope.specs.Declaring.{DeclaresOwn, IsBindKind, IsBinding, BindsUnnamed, default_binding}
use Rattle.es_scope.proofs.FirstPlaces.{numbered_name}
use Rattle.es_scope.proofs.FoundTable.{occurrence_named, named_mark}
use Rattle.es_declares.specs.Found.{IsItemAt}
use Rattle.es_declares.specs.Binds.{is_place, first_of, is_first, bind_kind, bind_kind_of, own_if}
use Rattle.es_declares.proofs.UnnamedLaws.{item_found}

kind_there : (manner : DeclarationKind) (how : BindKind) → bind_kind manner ≡ Some how → IsBindKind manner how
kind_there kind.Var how e = subst (IsBindKind kind.Var) (same_Some bind.Var how e) IsBindKind.var
kind_there kind.Let how e = subst (IsBindKind kind.Let) (same_Some bind.Let how e) IsBindKind.«let»
kind_there kind.Const how e = subst (IsBindKind kind.Const) (same_Some bind.Const how e) IsBindKind.const
kind_there kind.Class how e = subst (IsBindKind kind.Class) (same_Some bind.Class how e) IsBindKind.class
kind_there kind.Function how e = subst (IsBindKind kind.Function) (same_Some bind.Function how e) IsBindKind.function
kind_there _ how e = absurd (none-some how e)

kind_here : (manner : DeclarationKind) (how : BindKind) → IsBindKind manner how → bind_kind manner ≡ Some how
kind_here _ _ IsBindKind.var = refl
kind_here _ _ IsBindKind.«let» = refl
kind_here _ _ IsBindKind.const = refl
kind_here _ _ IsBindKind.class = refl
kind_here _ _ IsBindKind.function = refl

first_place : (place : ℕ) (found : Option ℕ) → is_place place found ≡ true → found ≡ Some place
first_place place None e = absurd (false≢true e)
first_place place (Some first) e = ap Some (exact_unsigned_eq first place e)

place_first : (place : ℕ) (found : Option ℕ) → found ≡ Some place → is_place place found ≡ true
place_first place found e = ap (is_place place) e ∙ eq-eqb place place refl

module _ (source : Source) (told_of : Told) (are : AreScopes source told_of) (place : ℕ) where
  -- the first declaration of the name at the place
  first_is : names_it (slice_get source.marks place) ≡ true → IsFirst source (length source.marks) 0 (name_at source place) (first_of told_of (slice_get told_of.numbers place))
  first_is named =
      let number = slice_index told_of.numbers place in
      let name = numbered_name source told_of.texts told_of.numbers place are.numbered named in
      let at : slice_get told_of.numbers place ≡ Some (slice_index told_of.numbers place) = are.numbered.each place named ∙ name in
      subst (λ (found : Option ℕ). IsFirst source (length source.marks) 0 (name_at source place) (first_of told_of found)) (sym at)
      (are.firsts 0 (slice_index told_of.numbers place) (name_at source place) name)

  belongs : (at : ℕ) → Declares source 0 (name_at source place) at → at ≡ place → BelongsTo source place 0
  belongs _ (Declares.named at b same) e = subst (λ p. BelongsTo source p 0) e b
  belongs _ (Declares.by_function opening m begins same) e = absurd (omega arith)

  own_by : (found : Option ℕ) (manner : DeclarationKind) (how : BindKind) → IsFirst source (length source.marks) 0 (name_at source place) found → found ≡ Some place
      → IsDeclared source place manner → IsBindKind manner how → DeclaresOwn source place how
  own_by _ manner how (IsFirst.none never) f d k = absurd (none-some place f)
  own_by _ manner how (IsFirst.some at inside declares first) f d k =
      let same = same_Some at place f in
      record {
        manner = manner;
        declared = d;
        kind_is = k;
        belongs = belongs at declares same;
        first = λ other h. let below = first other h in omega arith;
      }

  own_there : (told_first : Bool) (found : Option DeclarationKind) (how : BindKind) → is_first told_of place ≡ told_first
      → ((manner : DeclarationKind) → found ≡ Some manner → IsDeclared source place manner) → cond told_first (bind_kind_of found) None ≡ Some how → DeclaresOwn source place how
  own_there false found how f declared e = absurd (none-some how e)
  own_there true None how f declared e = absurd (none-some how e)
  own_there true (Some manner) how f declared e =
      let d = declared manner refl in
      own_by (first_of told_of (slice_get told_of.numbers place)) manner how (first_is (occurrence_named source place (IsOccurrence.declared manner d)))
      (first_place place (first_of told_of (slice_get told_of.numbers place)) f) d (kind_there manner how e)

  placed_first : (found : Option ℕ) (how : BindKind) → IsFirst source (length source.marks) 0 (name_at source place) found → place < length source.marks
      → DeclaresOwn source place how → found ≡ Some place
  placed_first _ how (IsFirst.none never) inside own = absurd (never place inside (Declares.named place own.belongs refl))
  placed_first _ how (IsFirst.some at within declares first) inside own =
      let low = first place (Declares.named place own.belongs refl) in let high = own.first at declares in ap Some (omega arith)

  own_here : (found : Option DeclarationKind) (how : BindKind) → ((manner : DeclarationKind) → IsDeclared source place manner → found ≡ Some manner)
      → DeclaresOwn source place how → cond (is_first told_of place) (bind_kind_of found) None ≡ Some how
  own_here found how declared own =
      let named = occurrence_named source place (IsOccurrence.declared own.manner own.declared) in
      let stands = named_mark (slice_get source.marks place) named in
      let first = placed_first (first_of told_of (slice_get told_of.numbers place)) how (first_is named) (slice_get_within source.marks place stands.0 stands.1) own in
      ap (λ b. cond b (bind_kind_of found) None) (place_first place (first_of told_of (slice_get told_of.numbers place)) first)
      ∙ ap bind_kind_of (declared own.manner own.declared) ∙ kind_here own.manner how own.kind_is

  pub own_is : (first : Bool) (found : Option DeclarationKind) (told_kind : Option BindKind) → first ≡ is_first told_of place
      → ((manner : DeclarationKind) → (found ≡ Some manner) ↔ IsDeclared source place manner) → told_kind ≡ own_if first found
      → IsItemAt (DeclaresOwn source) place told_kind
  own_is first found told_kind first_is declared is =
      let same : told_kind ≡ own_if (is_first told_of place) found = is ∙ ap (λ b. own_if b found) first_is in
      item_found (DeclaresOwn source) place told_kind
      (λ how e. own_there (is_first told_of place) found how refl (λ manner f. (declared manner).0 f) (sym same ∙ e))
      (λ how own. (how, same ∙ own_here found how (λ manner d. (declared manner).1 d) own))

-- the binding at a place
pub bound_named : (source : Source) (place : ℕ) (name : List ℕ) (how : BindKind) → IsItemAt (DeclaresOwn source) place (Some how) → name ≡ name_at source place
    → IsItemAt (IsBinding source) place (Some (record { name = name; kind = how }))
bound_named source place name how (IsItemAt.some _ own) e =
    subst (λ n. IsItemAt (IsBinding source) place (Some (record { name = n; kind = how }))) (sym e) (IsItemAt.some _ (IsBinding.named how own))

pub bound_unnamed : (source : Source) (place : ℕ) (name : List ℕ) (how : BindKind) → IsItemAt (BindsUnnamed source) place (Some how) → name ≡ default_binding
    → IsItemAt (IsBinding source) place (Some (record { name = name; kind = how }))
bound_unnamed source place name how (IsItemAt.some _ binds) e =
    subst (λ n. IsItemAt (IsBinding source) place (Some (record { name = n; kind = how }))) (sym e) (IsItemAt.some _ (IsBinding.unnamed how binds))

no_binding : (source : Source) (place : ℕ) → ((how : BindKind) → ¬ DeclaresOwn source place how) → ((how : BindKind) → ¬ BindsUnnamed source place how) → (binding : Binding)
    → ¬ IsBinding source place binding
no_binding source place own unnamed _ (IsBinding.named how h) = own how h
no_binding source place own unnamed _ (IsBinding.unnamed how h) = unnamed how h

pub bound_not : (source : Source) (place : ℕ) → IsItemAt (DeclaresOwn source) place None → IsItemAt (BindsUnnamed source) place None → IsItemAt (IsBinding source) place None
bound_not source place (IsItemAt.none own) (IsItemAt.none unnamed) = IsItemAt.none (λ binding h. no_binding source place own unnamed binding h)
