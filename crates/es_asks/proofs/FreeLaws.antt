-- What the tables tell of free names is what is defined of them.
use Rattle.std.proofs.Common.{◌≡◌, ◌↔◌, ℕ, ◌+◌, ◌<◌, ◌&&◌, Bool, true, cond, List, Option, Some, None, is_none, slice_get, length, get_or, refl, sym, ap, subst, ◌∙◌, true≢false}
use Rattle.std.specs.Prelude.{IfSome, unwrap_or}
use Rattle.std.specs.Str.{bytes_eq}
use Rattle.std.proofs.lemmas.Option.{get_or_from_slice_get}
use Rattle.std.proofs.lemmas.Slice.Eq.{bytes_eq-Decides}
use Rattle.std.proofs.lemmas.List.Quantifiers.{position-Some}
use Rattle.pk_types.specs.Numbers.{has}
use Rattle.pk_types.proofs.ListMembers.{both, first_so, second_so, has-true, absent, not_so, so_not}
use Rattle.pk_types.proofs.Members.{as_long}
use Rattle.es_outline.specs.declared.mark.Mark.{Mark}
use Rattle.es_outline.specs.declared.mark.Mark.TheVariants as mark
use Rattle.es_outline.specs.declared.mark.Role.TheVariants as is
use Rattle.es_outline.specs.declared.mark.Part.{Part}
use Rattle.es_outline.specs.declared.mark.Part.TheVariants as part
use Rattle.es_scope.specs.declared.kinds.DeclarationKind.{DeclarationKind}
use Rattle.es_scope.specs.declared.kinds.DeclarationKind.TheVariants as kind
use Rattle.es_scope.specs.declared.found.Declared.{Declared}
use Rattle.es_scope.specs.Source.{Source, name_at}
use Rattle.es_scope.specs.Occurrences.{IsDeclared, IsOccurrence}
use Rattle.es_scope.specs.Scopes.{StandsIn, BelongsTo, Declares, is_scope, is_var_scope}
use Rattle.es_scope.specs.Refers.{IsFree, IsFreeNamed, IsWithin}
use Rattle.es_scope.specs.Frames.{frame_at}
use Rattle.es_scope.specs.Named.{names_it}
use Rattle.es_scope.specs.Found.{IsFound}
use Rattle.es_scope.specs.Telling.{Told, AreScopes, declared_by}
use Rattle.es_scope.proofs.Agreeing.{nearest_scope, nearest_var}
use Rattle.es_scope.proofs.FoundTable.{occurrence_named, named_mark}
use Rattle.es_asks.specs.Forwarding.{AreForwarded}
use Rattle.es_scope.specs.Asking.{CallsRequire, require}
use Rattle.es_asks.specs.Texts.{text_at, argument_end}
use Rattle.es_asks.specs.Free.{refers, is_free, is_free_named, is_call, require_end}
use Rattle.es_asks.proofs.TextLaws.{guarded, argument_there, there_argument}

-- names by their numbers
pub number_within : (source : Source) (told : Told) (place number : ℕ) → slice_get told.numbers place ≡ Some number → AreScopes source told
    → names_it (slice_get source.marks place) ≡ true → number < length told.texts
number_within source told place number is are named =
    (position-Some (bytes_eq (name_at source place)) told.texts number (name_at source place) (sym (are.numbered.each place named) ∙ is)).0

pub named_so : (source : Source) (told : Told) (place number : ℕ) (text : List ℕ) → slice_get told.texts number ≡ Some text
    → slice_get told.numbers place ≡ Some number → AreScopes source told → names_it (slice_get source.marks place) ≡ true → text ≡ name_at source place
named_so source told place number text stands is are named =
    let at = position-Some (bytes_eq (name_at source place)) told.texts number (name_at source place) (sym (are.numbered.each place named) ∙ is) in
    let text_is = get_or_from_slice_get told.texts number text (name_at source place) stands in
    sym ((bytes_eq-Decides (name_at source place) (get_or told.texts number (name_at source place))).0 at.1 ∙ text_is)

-- what refers has a name
pub refers_named : (there : Option Mark) (is_forwarded : Bool) → refers there is_forwarded ≡ true → names_it there ≡ true
refers_named (Some (mark.Token is.Reference token)) is_forwarded e = refl
refers_named (Some (mark.Token is.Exported token)) is_forwarded e = refl
refers_named _ is_forwarded e = absurd (true≢false (sym e))

pub free_named : (source : Source) (told : Told) (forwarded : List ℕ) (place : ℕ) → is_free source told forwarded place ≡ true
    → names_it (slice_get source.marks place) ≡ true
free_named source told forwarded place e =
    refers_named (slice_get source.marks place) (has forwarded place)
    (first_so (refers (slice_get source.marks place) (has forwarded place)) (is_none (declared_by told place)) e)

-- what is declared is not free
scoped : (which : Part) → is_var_scope which ≡ true → is_scope which ≡ true
scoped part.FunctionBody e = refl
scoped part.StaticBlock e = refl
scoped _ e = absurd (true≢false (sym e))

var_is_scope : (source : Source) (place scope : ℕ) → StandsIn is_var_scope source.marks place scope → IsWithin source place scope
var_is_scope source place _ StandsIn.top = StandsIn.top
var_is_scope source place _ (StandsIn.enclosed which opening kind h) = StandsIn.enclosed which opening (scoped which kind) h

pub declared_bound : (source : Source) (place : ℕ) (how : DeclarationKind) → IsDeclared source place how → ¬ IsFree source place
declared_bound source place kind.Var d free =
    let nearest = (nearest_var source place (frame_at source place).var_scope).1 refl in
    free.undeclared (frame_at source place).var_scope place (var_is_scope source place _ nearest.stands)
    (Declares.named place (BelongsTo.var (frame_at source place).var_scope d nearest) refl)
declared_bound source place how d free =
    let nearest = (nearest_scope source place (frame_at source place).scope).1 refl in
    free.undeclared (frame_at source place).scope place nearest.stands
    (Declares.named place (BelongsTo.other how (frame_at source place).scope d (λ e. cc) nearest) refl)

-- what the table tells of an occurrence
told_some : (source : Source) (told : Told) (place : ℕ) (answer : Option Declared) → slice_get told.table place ≡ Some answer
    → IfSome (slice_get told.table place) (IsFound source place) → IsFound source place (declared_by told place)
told_some source told place answer e h =
    subst (IsFound source place) (sym (ap (λ (found : Option (Option Declared)). unwrap_or found None) e))
    (subst (λ (found : Option (Option Declared)). IfSome found (IsFound source place)) e h)

pub found_at : (source : Source) (told : Told) (place : ℕ) → AreScopes source told → IsOccurrence source place → IsFound source place (declared_by told place)
found_at source told place are occurs =
    let there = named_mark (slice_get source.marks place) (occurrence_named source place occurs) in
    let answer = as_long source.marks told.table place there.0 there.1 are.found.whole in
    told_some source told place answer.0 answer.1 (are.found.each place occurs)

free_by : (source : Source) (place : ℕ) (found : Option Declared) → IsFound source place found → is_none found ≡ true → IsFree source place
free_by source place _ (IsFound.refers declared r) e = absurd (true≢false (sym e))
free_by source place _ (IsFound.free free) e = free

none_by : (source : Source) (place : ℕ) (found : Option Declared) → IsFound source place found → IsFree source place → is_none found ≡ true
none_by source place _ (IsFound.refers declared r) free = absurd (free.undeclared declared.scope declared.place r.within r.declares)
none_by source place _ (IsFound.free other) free = refl

-- what refers is an occurrence
occurs_by : (source : Source) (forwarded : List ℕ) (place : ℕ) (there : Option Mark) → AreForwarded source forwarded → slice_get source.marks place ≡ there
    → refers there (has forwarded place) ≡ true → IsOccurrence source place
occurs_by source forwarded place (Some (mark.Token is.Reference token)) are at e = IsOccurrence.referred (token, at)
occurs_by source forwarded place (Some (mark.Token is.Exported token)) are at e =
    IsOccurrence.exported (token, at)
    (λ from. true≢false (sym (has-true forwarded place ((are place).1 ((token, at), from))) ∙ not_so (has forwarded place) e))
occurs_by source forwarded place _ are at e = absurd (true≢false (sym e))

by_occurs : (source : Source) (forwarded : List ℕ) (place : ℕ) → AreForwarded source forwarded → IsFree source place → IsOccurrence source place
    → refers (slice_get source.marks place) (has forwarded place) ≡ true
by_occurs source forwarded place are free (IsOccurrence.declared how d) = absurd (declared_bound source place how d free)
by_occurs source forwarded place are free (IsOccurrence.referred t) = ap (λ (there : Option Mark). refers there (has forwarded place)) t.1
by_occurs source forwarded place are free (IsOccurrence.exported t own) =
    ap (λ (there : Option Mark). refers there (has forwarded place)) t.1
    ∙ so_not (has forwarded place) (absent forwarded place (λ c. own ((are place).0 c).1))

call_by : (there : Option Mark) → is_call there ≡ true → there ≡ Some mark.Call
call_by (Some mark.Call) e = refl
call_by _ e = absurd (true≢false (sym e))

module _ (source : Source) (told : Told) (forwarded : List ℕ) (are : AreScopes source told) (forward : AreForwarded source forwarded) (place : ℕ) where
  -- free names
  pub free_is : (is_free source told forwarded place ≡ true) ↔ IsFree source place
  free_is = (
    λ e. let occurs = occurs_by source forwarded place (slice_get source.marks place) forward refl
        (first_so (refers (slice_get source.marks place) (has forwarded place)) (is_none (declared_by told place)) e) in
        free_by source place (declared_by told place) (found_at source told place are occurs)
        (second_so (refers (slice_get source.marks place) (has forwarded place)) (is_none (declared_by told place)) e),
    λ free. both (refers (slice_get source.marks place) (has forwarded place)) (is_none (declared_by told place))
        (by_occurs source forwarded place forward free free.occurs)
        (none_by source place (declared_by told place) (found_at source told place are free.occurs) free),
  )

  -- those of a name
  pub free_named_is : (name : List ℕ) → (is_free_named source told forwarded place name ≡ true) ↔ IsFreeNamed source place name
  free_named_is name = (
    λ e. (
      free_is.0 (first_so (is_free source told forwarded place) (bytes_eq (name_at source place) name) e),
      (bytes_eq-Decides (name_at source place) name).0 (second_so (is_free source told forwarded place) (bytes_eq (name_at source place) name) e),
    ),
    λ h. both (is_free source told forwarded place) (bytes_eq (name_at source place) name) (free_is.1 h.0)
        ((bytes_eq-Decides (name_at source place) name).1 h.1),
  )

  -- calls of `require`
  pub require_there : (right : ℕ) → require_end source told forwarded place ≡ Some right → CallsRequire source place (text_at source (place + 2 + 1)) right
  require_there right e =
      let found = guarded (is_call (slice_get source.marks (place + 1)) && is_free_named source told forwarded place require) (argument_end source (place + 2)) right e in
      record {
        free = (free_named_is require).0 (second_so (is_call (slice_get source.marks (place + 1))) (is_free_named source told forwarded place require) found.0);
        call = call_by (slice_get source.marks (place + 1)) (first_so (is_call (slice_get source.marks (place + 1))) (is_free_named source told forwarded place require) found.0);
        argument = argument_there source (place + 2) right found.1;
      }

  pub there_require : (value : List ℕ) (right : ℕ) → CallsRequire source place value right
      → (require_end source told forwarded place ≡ Some right) × (text_at source (place + 2 + 1) ≡ value)
  there_require value right h =
      let argument = there_argument source (place + 2) value right h.argument in
      let calls = both (is_call (slice_get source.marks (place + 1))) (is_free_named source told forwarded place require)
      (ap is_call h.call) ((free_named_is require).1 h.free) in
      (ap (λ b. cond b (argument_end source (place + 2)) None) calls ∙ argument.0, argument.1)
