-- The names that inner scopes of a text declare, as scopes tell of them.
use Rattle.std.proofs.Common.{◌≡◌, ◌≢◌, ◌↔◌, ◌⊎◌, inl, inr, ⊎_elim, ℕ, ◌+◌, ◌-◌, ◌<◌, Bool, true, false, ◌||◌, not, cond, nat_lt, nat_eq, List, Option, Some, None, IsSome, length, slice_get, refl, sym, ap, subst, ◌∙◌, arith, true≢false}
use Rattle.std.specs.Prelude.{IfSome}
use Rattle.std.specs.List.{Contains}
use Rattle.std.proofs.lemmas.Bool.{eq-eqb, eqb-true, eqb-false, ltb-false, le-ltb, ne_eqb, false_from_ne_true, or_parts, or_from, not_from_false}
use Rattle.std.proofs.lemmas.Option.{none-some, same_Some, slice_get_within}
use Rattle.pk_text.specs.Places.{place_of}
use Rattle.es_outline.specs.declared.mark.Mark.{Mark}
use Rattle.es_outline.specs.declared.mark.Mark.TheVariants as mark
use Rattle.es_outline.specs.declared.mark.Role.TheVariants as is
use Rattle.es_outline.specs.declared.mark.Part.TheVariants as part
use Rattle.es_scope.specs.declared.kinds.DeclarationKind.TheVariants as kind
use Rattle.es_scope.specs.declared.found.Declared.{Declared}
use Rattle.es_scope.specs.FactsOf.{IsInner, IsTopClass}
use Rattle.es_scope.specs.Firsts.{Key, IsFirst, told as told_first}
use Rattle.es_scope.specs.Found.{IsFound}
use Rattle.es_scope.specs.Frames.{frame_at, declared_at}
use Rattle.es_scope.specs.Occurrences.{IsDeclared, IsOccurrence}
use Rattle.es_scope.specs.Scopes.{NearestScope, BelongsTo, Declares, is_scope, arguments}
use Rattle.es_scope.specs.Source.{Source, HasRole}
use Rattle.es_scope.specs.Telling.{Told, AreScopes, declared_by}
use Rattle.es_scope.proofs.Agreeing.{nearest_scope, declared_as}
use Rattle.es_scope.proofs.FoundTable.{occurrence_named, named_mark}
use Rattle.es_scope.proofs.ScopesTold.{declared_is, entry_told, told_entry}
use Rattle.es_refusals.specs.Names.{is_top_name, is_top_class, inner_number, inner_number_at, gives_arguments, HasArguments, IsNumbered, GivesInner, IsArgumentsIf, AreGiven}
use Rattle.es_refusals.proofs.Gathered.{more_given}
use Rattle.es_refusals.proofs.FreeNames.{has_number}
use Rattle.export_names.specs.Collected.{HasMore}

-- a declaration is an occurrence
belonging : (source : Source) (place scope : ℕ) → BelongsTo source place scope → IsOccurrence source place
belonging source place _ (BelongsTo.var scope d n) = IsOccurrence.declared kind.Var d
belonging source place _ (BelongsTo.other how scope d unlike n) = IsOccurrence.declared how d
belonging source place _ (BelongsTo.own_class t) = IsOccurrence.declared kind.Class (IsDeclared.class t)

-- a class of the top stands in no other scope
class_near : (source : Source) (place scope : ℕ) → HasRole source place is.ClassName → BelongsTo source place scope → scope ≡ 0
    → NearestScope is_scope source.marks place 0
class_near source place _ t (BelongsTo.var scope d n) e =
    let var : declared_at source place ≡ Some kind.Var = (declared_as source place kind.Var).0 d in
    let class : declared_at source place ≡ Some kind.Class = (declared_as source place kind.Class).0 (IsDeclared.class t) in
    let same : kind.Class ≡ kind.Var = same_Some kind.Class kind.Var (sym class ∙ var) in
    cc
class_near source place _ t (BelongsTo.other how scope d unlike n) e = subst (NearestScope is_scope source.marks place) e n
class_near source place _ t (BelongsTo.own_class u) e = absurd (omega (arith, e))

module _ (source : Source) (told : Told) (are : AreScopes source told) where
  class_found : (place : ℕ) (answer : Option Declared) → HasRole source place is.ClassName → BelongsTo source place 0 → IsFound source place answer
      → (declared : Declared) × (answer ≡ Some declared) × (declared.scope ≡ 0)
  class_found place _ t b (IsFound.refers declared r) =
      let near = class_near source place 0 t b refl in
      let low = near.nearest declared.scope r.within in
      (declared, refl, omega arith)
  class_found place _ t b (IsFound.free f) =
      let near = class_near source place 0 t b refl in
      absurd (f.undeclared 0 place near.stands (Declares.named place b refl))

  class_at_top : (place : ℕ) (declared : Declared) (answer : Option Declared) → HasRole source place is.ClassName → IsFound source place answer
      → answer ≡ Some declared → declared.scope ≡ 0 → BelongsTo source place 0
  class_at_top place declared _ t (IsFound.free f) e top = absurd (none-some declared e)
  class_at_top place declared _ t (IsFound.refers other r) e top =
      let scope = (frame_at source place).scope in
      let near = (nearest_scope source place scope).1 refl in
      let belongs : BelongsTo source place scope = BelongsTo.other kind.Class scope (IsDeclared.class t) (λ v. cc) near in
      let low = r.innermost scope place near.stands (Declares.named place belongs refl) in
      let same : other.scope ≡ declared.scope = ap (λ (d : Declared). d.scope) (same_Some other declared e) in
      let none : scope ≡ 0 = omega arith in
      subst (BelongsTo source place) none belongs

  top_name_is : (place : ℕ) (found : Option Mark) (answer : Option Declared) → slice_get source.marks place ≡ found → declared_by told place ≡ answer
      → is_top_name found answer ≡ true → HasRole source place is.ClassName × BelongsTo source place 0
  top_name_is place (Some (mark.Token is.ClassName token)) (Some declared) m d e =
      let t : HasRole source place is.ClassName = (token, m) in
      let found = declared_is source told are place (IsOccurrence.declared kind.Class (IsDeclared.class t)) in
      (t, class_at_top place declared (declared_by told place) t found d (eqb-true declared.scope 0 e))
  top_name_is place _ _ m d e = absurd (true≢false (sym e))

  top_name_so : (place : ℕ) → HasRole source place is.ClassName → BelongsTo source place 0 → is_top_name (slice_get source.marks place) (declared_by told place) ≡ true
  top_name_so place t b =
      let found = declared_is source told are place (IsOccurrence.declared kind.Class (IsDeclared.class t)) in
      let one = class_found place (declared_by told place) t b found in
      ap (λ (m : Option Mark). is_top_name m (declared_by told place)) t.1 ∙ ap (λ (d : Option Declared). is_top_name (Some (mark.Token is.ClassName t.0)) d) one.1
      ∙ eq-eqb one.0.scope 0 one.2

  top_class_is : (scope : ℕ) (low : Bool) → nat_lt scope 2 ≡ low
      → cond low false (is_top_name (slice_get source.marks (scope - 2)) (declared_by told (scope - 2))) ≡ true → IsTopClass source scope
  top_class_is scope true l e = absurd (true≢false (sym e))
  top_class_is scope false l e =
      let high = ltb-false scope 2 l in
      let one = top_name_is (scope - 2) (slice_get source.marks (scope - 2)) (declared_by told (scope - 2)) refl refl e in
      (scope - 2, one.0, one.1, omega arith)

  top_class_so : (scope : ℕ) → IsTopClass source scope → is_top_class source told scope ≡ true
  top_class_so scope top =
      let place = top.0 in
      let at : place + 2 ≡ scope = top.3 in
      let back : place ≡ scope - 2 = omega (arith, at) in
      let high : nat_lt scope 2 ≡ false = le-ltb scope 2 (omega (arith, at)) in
      let named : is_top_name (slice_get source.marks (scope - 2)) (declared_by told (scope - 2)) ≡ true =
      subst (λ p. is_top_name (slice_get source.marks p) (declared_by told p) ≡ true) back (top_name_so place top.1 top.2) in
      ap (λ low. cond low false (is_top_name (slice_get source.marks (scope - 2)) (declared_by told (scope - 2)))) high ∙ named

  no_top_class : (scope : ℕ) → is_top_class source told scope ≡ false → ¬ IsTopClass source scope
  no_top_class scope e top = true≢false (sym (top_class_so scope top) ∙ e)

  other_class : (scope : ℕ) → ¬ IsTopClass source scope → is_top_class source told scope ≡ false
  other_class scope other = false_from_ne_true (is_top_class source told scope) (λ e. other (top_class_is scope (nat_lt scope 2) refl e))

  -- the number of a first declaration that is told
  record IsInnerNumber (entry : Key × ℕ) (given : ℕ) : Type 0 where
    inner : entry.0.0 ≢ 0
    other : is_top_class source told entry.0.0 ≡ false
    number : entry.0.1 ≡ given

  inner_by : (entry : Key × ℕ) (given : ℕ) (skipped : Bool) → (nat_eq entry.0.0 0 || is_top_class source told entry.0.0) ≡ skipped
      → cond skipped None (Some entry.0.1) ≡ Some given → IsInnerNumber entry given
  inner_by entry given true s e = absurd (none-some given e)
  inner_by entry given false s e =
      let parts = or_parts (nat_eq entry.0.0 0) (is_top_class source told entry.0.0) s in
      record { inner = eqb-false entry.0.0 0 parts.0; other = parts.1; number = same_Some entry.0.1 given e }

  inner_is : (found : Option (Key × ℕ)) (given : ℕ) → inner_number_at source told found ≡ Some given → (entry : Key × ℕ) × (found ≡ Some entry) × IsInnerNumber entry given
  inner_is None given e = absurd (none-some given e)
  inner_is (Some entry) given e =
      (entry, refl, inner_by entry given (nat_eq entry.0.0 0 || is_top_class source told entry.0.0) refl e)

  inner_so : (entry : Key × ℕ) → entry.0.0 ≢ 0 → is_top_class source told entry.0.0 ≡ false → inner_number source told entry ≡ Some entry.0.1
  inner_so entry inner other =
      ap (λ skipped. cond skipped None (Some entry.0.1)) (or_from (nat_eq entry.0.0 0) (is_top_class source told entry.0.0) (ne_eqb entry.0.0 0 inner) other)

  -- it is the number of a name
  is_told : (index given : ℕ) (entry : Key × ℕ) → slice_get told.firsts index ≡ Some entry → entry.0.1 ≡ given → IsSome (told_first told.firsts entry.0.0 given)
  is_told index given entry at same = subst (λ n. IsSome (told_first told.firsts entry.0.0 n)) same (entry_told told.firsts index entry at)

  inner_below : (index : ℕ) (number : Option ℕ) → inner_number_at source told (slice_get told.firsts index) ≡ number → IfSome number (λ number. number < length told.texts)
  inner_below index None e = tt
  inner_below index (Some given) e =
      let one = inner_is (slice_get told.firsts index) given e in
      are.named one.0.0.0 given (is_told index given one.0 one.1 one.2.number)

  pub inner_number_below : (index : ℕ) (number : Option ℕ) → number ≡ inner_number_at source told (slice_get told.firsts index) → IfSome number (λ number. number < length told.texts)
  inner_number_below index number e = inner_below index number (sym e)

  first_declares : (scope : ℕ) (name : List ℕ) (answer : Option ℕ) → IsFirst source (length source.marks) scope name answer → IsSome answer
      → (place : ℕ) × Declares source scope name place
  first_declares scope name _ (IsFirst.none never) some = absurd (true≢false (sym some))
  first_declares scope name _ (IsFirst.some place below d first) some = (place, d)

  first_there : (scope place : ℕ) (name : List ℕ) (answer : Option ℕ) → IsFirst source (length source.marks) scope name answer → place < length source.marks
      → Declares source scope name place → (first : ℕ) × (answer ≡ Some first)
  first_there scope place name _ (IsFirst.none never) below d = absurd (never place below d)
  first_there scope place name _ (IsFirst.some first within declares lowest) below d = (first, refl)

  gives_inner : (index : ℕ) (name : List ℕ) → GivesInner source told index name → IsInner source name
  gives_inner index name given =
      let one = inner_is (slice_get told.firsts index) given.0 given.1 in
      let scope = one.0.0.0 in
      let declared = first_declares scope name (told_first told.firsts scope given.0) (are.firsts scope given.0 name given.2)
      (is_told index given.0 one.0 one.1 one.2.number) in
      record { scope = scope; place = declared.0; declares = declared.1; inner = one.2.inner; other = no_top_class scope one.2.other }

  arguments_inner : (place : ℕ) (name : List ℕ) (found : Option Mark) → slice_get source.marks place ≡ found → gives_arguments source told place found ≡ true
      → arguments ≡ name → IsInner source name
  arguments_inner place name (Some (mark.Begin part.Function)) m e said =
      record {
        scope = place + 1;
        place = place;
        declares = Declares.by_function place m refl (sym said);
        inner = λ none. omega (arith, none);
        other = no_top_class (place + 1) (false_from_ne_true (is_top_class source told (place + 1)) (λ top. true≢false (sym e ∙ ap not top)));
      }
  arguments_inner place name _ m e said = absurd (true≢false (sym e))

  -- a name that an inner scope declares is given
  abbrev IsGivenOr : List ℕ → Type 0
  IsGivenOr name = ((index : ℕ) × (index < length told.firsts) × GivesInner source told index name) ⊎ (HasArguments source told × (arguments ≡ name))

  declared_given : (scope place : ℕ) (name : List ℕ) → Declares source scope name place → scope ≢ 0 → ¬ IsTopClass source scope → IsGivenOr name
  declared_given scope _ name (Declares.named place b same) inner other =
      let named = occurrence_named source place (belonging source place scope b) in
      let one_mark = named_mark (slice_get source.marks place) named in
      let known = has_number source told are place named in
      let number : place_of told.texts name ≡ Some known.0 = sym (ap (place_of told.texts) same) ∙ known.2 in
      let first = first_there scope place name (told_first told.firsts scope known.0) (are.firsts scope known.0 name number)
      (slice_get_within source.marks place one_mark.0 one_mark.1) (Declares.named place b same) in
      let entry = told_entry told.firsts scope known.0 first.0 first.1 in
      inl (
        entry.0,
        slice_get_within told.firsts entry.0 ((scope, known.0), first.0) entry.1,
        (known.0, ap (inner_number_at source told) entry.1 ∙ inner_so ((scope, known.0), first.0) inner (other_class scope other), number),
      )
  declared_given scope _ name (Declares.by_function opening m same said) inner other =
      let none : is_top_class source told (opening + 1) ≡ false = other_class (opening + 1) (λ top. other (subst (IsTopClass source) same top)) in
      inr ((opening, ap (gives_arguments source told opening) m ∙ not_from_false (is_top_class source told (opening + 1)) none), sym said)

  pub all_inner : (count : ℕ) (names more : List (List ℕ)) (is_given : Bool) → count ≡ length told.firsts → AreGiven (GivesInner source told) count names
      → (is_given ≡ true) ↔ HasArguments source told → HasMore names (IsArgumentsIf is_given) more → (name : List ℕ) → Contains more name ↔ IsInner source name
  all_inner count names more is_given all given has more_is name = (
    λ c. ⊎_elim (λ old. let one = (given name).0 old in gives_inner one.0 name one.2)
        (λ new. let one = has.0 new.0 in arguments_inner one.0 name (slice_get source.marks one.0) refl one.1 new.1) ((more_is name).0 c),
    λ i. (more_is name).1 (⊎_elim (λ one. inl ((given name).1 (one.0, (let below = one.1 in omega arith), one.2)))
        (λ one. inr (has.1 one.0, one.1)) (declared_given i.scope i.place name i.declares i.inner i.other)),
  )

-- the names with that of one first declaration more
pub inner_more : (source : Source) (told : Told) (index : ℕ) (number : Option ℕ) (before after : List (List ℕ))
    → number ≡ inner_number_at source told (slice_get told.firsts index) → AreGiven (GivesInner source told) index before → HasMore before (IsNumbered told number) after
    → AreGiven (GivesInner source told) (index + 1) after
inner_more source told index number before after e so_far more = more_given (GivesInner source told) index before after so_far
    (subst (λ (n : Option ℕ). HasMore before (IsNumbered told n) after) e more)
