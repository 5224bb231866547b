-- What is told of names that are bound, of calls and of defaults is what is defined of them.
use Rattle.std.proofs.Common.{◌≡◌, ◌≢◌, ⊎_elim, ℕ, ◌+◌, ◌-◌, ◌<◌, Bool, true, false, ◌&&◌, ◌||◌, cond, nat_lt, List, Option, Some, None, is_some, length, slice_get, unwrap_or, codes, refl, sym, ap, subst, ◌∙◌, arith, true≢false}
use Rattle.std.specs.Str.{bytes_eq}
use Rattle.std.proofs.lemmas.Bool.{lt-ltb, ltb-true}
use Rattle.std.proofs.lemmas.Option.{none-some, same_Some, slice_get_within}
use Rattle.std.proofs.lemmas.Slice.Eq.{bytes_eq-Decides}
use Rattle.pk_types.proofs.Members.{element_at}
use Rattle.es_outline.specs.declared.mark.Mark.TheVariants as mark
use Rattle.es_outline.specs.declared.mark.Part.{Part}
use Rattle.es_outline.specs.declared.mark.Part.TheVariants as part
use Rattle.pk_types.specs.declared.facts.BindKind.{BindKind}
use Rattle.pk_types.specs.declared.facts.BindKind.TheVariants as bind
use Rattle.es_scope.specs.Parts.{Encloses, IsDirectlyIn}
use Rattle.es_scope.specs.Source.{Source, IsMark, spelled_at}
use Rattle.es_scope.specs.Occurrences.{BoundBy}
use Rattle.es_scope.specs.Asking.{TextArgument}
use Rattle.es_scope.specs.Declaring.{IsDefault, BindsUnnamed}
use Rattle.es_scope.specs.SiteRules.{IsGiven, IsInPattern}
use Rattle.es_parts.specs.declared.enclosing.Surroundings.{Surroundings}
use Rattle.es_parts.specs.Around.{AreAround, IsInnermost, is_pattern}
use Rattle.es_sites.specs.Marks.{is_iterated, initializes, begins_default, begins_value}
use Rattle.es_sites.specs.Inside.{IsIn, IsUnnamedClass}
use Rattle.es_sites.specs.Tables.{Tables, AreTables, entry, pattern_of, pattern_around}
use Rattle.es_sites.specs.Done.{is_behind, is_given, is_default, right_of}
use Rattle.es_sites.proofs.InsideLaws.{both_true}
use Rattle.es_sites.proofs.Opened.{bound_around}
use Rattle.es_sites.proofs.AroundLaws.{initializing, iterated_mark, default_mark, value_mark, either, or_left, or_right, and_true}

-- ---- given in a pattern

pattern_innermost : (source : Source) (table : List Surroundings) (place : ℕ) → AreAround source.marks table → place < length source.marks
    → IsInnermost is_pattern source.marks place (pattern_around table place)
pattern_innermost source table place are inside =
    let there = element_at table place (omega (arith, inside, are.whole)) in
    subst (λ (found : Option Surroundings). IsInnermost is_pattern source.marks place (pattern_of found)) (sym there.1) (are.each place there.0 there.1).pattern

only_pattern : (which : Part) → is_pattern which ≡ true → which ≡ part.Pattern
only_pattern part.Pattern e = refl
only_pattern _ e = absurd (true≢false (sym e))

in_pattern : (source : Source) (place opening : ℕ) (found : Option ℕ) → IsInnermost is_pattern source.marks place found → is_behind opening found ≡ true
    → IsInPattern source place opening
in_pattern source place opening _ (IsInnermost.none nowhere) e = absurd (true≢false (sym e))
in_pattern source place opening _ (IsInnermost.some which pattern h) e = record {
  pattern = pattern;
  behind = ltb-true opening pattern e;
  encloses = subst (λ (w : Part). Encloses source.marks w pattern place) (only_pattern which h.kind) h.encloses;
}

pattern_behind : (source : Source) (place opening : ℕ) (found : Option ℕ) → IsInnermost is_pattern source.marks place found → IsInPattern source place opening
    → is_behind opening found ≡ true
pattern_behind source place opening _ (IsInnermost.none nowhere) h = absurd (nowhere part.Pattern h.pattern refl h.encloses)
pattern_behind source place opening _ (IsInnermost.some which pattern near) h =
    let further = near.nearest part.Pattern h.pattern refl h.encloses in let before = h.behind in lt-ltb opening pattern (omega (arith, further, before))

module _ (tables : Tables) (are : AreTables tables) (place opening : ℕ) (inside : place < length tables.source.marks)
    (bound : BoundBy tables.source place part.Declaration opening) where
  pub is_so_given : is_given tables place opening ≡ true → IsGiven tables.source place
  is_so_given e = ⊎_elim
      (λ first. IsGiven.initialized (initializing (slice_get tables.source.marks (place + 1)) first))
      (λ more. ⊎_elim
      (λ second. IsGiven.iterated (iterated_mark (slice_get tables.source.marks (place + 1)) second))
      (λ third. IsGiven.pattern opening bound
      (in_pattern tables.source place opening (pattern_around tables.around place) (pattern_innermost tables.source tables.around place are.around inside) third))
      (either (is_iterated (slice_get tables.source.marks (place + 1))) (is_behind opening (pattern_around tables.around place)) more))
      (either (initializes (slice_get tables.source.marks (place + 1)))
      (is_iterated (slice_get tables.source.marks (place + 1)) || is_behind opening (pattern_around tables.around place)) e)

  pub given_is : IsGiven tables.source place → is_given tables place opening ≡ true
  given_is (IsGiven.initialized t) = or_left (initializes (slice_get tables.source.marks (place + 1)))
      (is_iterated (slice_get tables.source.marks (place + 1)) || is_behind opening (pattern_around tables.around place)) (ap initializes t.1)
  given_is (IsGiven.iterated t) = or_right (initializes (slice_get tables.source.marks (place + 1)))
      (is_iterated (slice_get tables.source.marks (place + 1)) || is_behind opening (pattern_around tables.around place))
      (or_left (is_iterated (slice_get tables.source.marks (place + 1))) (is_behind opening (pattern_around tables.around place)) (ap is_iterated t))
  given_is (IsGiven.pattern other b h) =
      let same : other ≡ opening = same_Some other opening (sym (bound_around tables.source place other b) ∙ bound_around tables.source place opening bound) in
      or_right (initializes (slice_get tables.source.marks (place + 1)))
      (is_iterated (slice_get tables.source.marks (place + 1)) || is_behind opening (pattern_around tables.around place))
      (or_right (is_iterated (slice_get tables.source.marks (place + 1))) (is_behind opening (pattern_around tables.around place))
      (pattern_behind tables.source place opening (pattern_around tables.around place) (pattern_innermost tables.source tables.around place are.around inside)
      (subst (λ (o : ℕ). IsInPattern tables.source place o) same h)))

-- ---- the `)` of a text

pub right_is : (source : Source) (left right : ℕ) (value : List ℕ) → TextArgument source left value right → right ≡ right_of source left
right_is source left _ value (TextArgument.plain o t c) =
    sym (ap (λ b. cond b (left + 2) (left + 3)) ((bytes_eq-Decides (spelled_at source (left + 2)) (codes ")")).1 c))
right_is source left _ value (TextArgument.comma o t comma c) =
    sym (ap (λ (word : List ℕ). cond (bytes_eq word (codes ")")) (left + 2) (left + 3)) comma)

-- ---- defaults

is_there : (found : Option ℕ) → is_some found ≡ true → (item : ℕ) × (found ≡ Some item)
is_there (Some item) e = (item, refl)
is_there None e = absurd (true≢false (sym e))

-- what is bound by default without a name, but is no function
pub record IsDefaultBinding (source : Source) (place : ℕ) : Type 0 where
  pub how : BindKind
  pub binds : BindsUnnamed source place how
  pub kept : how ≢ bind.Function

entry_in : (tables : Tables) → AreTables tables → (opening item : ℕ) → (found : Option (Option ℕ)) → slice_get tables.inside.classes.items opening ≡ found
    → unwrap_or found None ≡ Some item → (at : ℕ) × IsUnnamedClass tables.source at at × ((which : Part) × IsDirectlyIn tables.source.marks at which opening)
entry_in tables are opening item None at e = absurd (none-some item e)
entry_in tables are opening item (Some None) at e = absurd (none-some item e)
entry_in tables are opening item (Some (Some other)) at e = by _ (are.inside.classes.each opening (Some other) at) refl
  where
    by : (found : Option ℕ) → IsIn tables.source.marks (IsUnnamedClass tables.source) opening found → found ≡ Some other
        → (at : ℕ) × IsUnnamedClass tables.source at at × ((which : Part) × IsDirectlyIn tables.source.marks at which opening)
    by _ (IsIn.none nowhere) f = absurd (none-some other f)
    by _ (IsIn.some place one which direct h) f = (place, record { same = refl; unnamed = h.unnamed; behind = h.behind }, (which, direct))

module _ (tables : Tables) (are : AreTables tables) (place : ℕ) where
  default_by : (value class : Bool) → begins_value (slice_get tables.source.marks (place + 1)) ≡ value
      → is_some (entry tables.inside.classes.items (place - 2)) ≡ class → (value || class) ≡ true → 1 < place
      → IsMark tables.source (place - 2) (mark.Begin part.ExportDefault) → IsDefaultBinding tables.source place
  default_by true class v k e low begins = record {
    how = bind.Const;
    binds = BindsUnnamed.value (place - 2) (record { begins = begins; place_is = omega arith })
        (let at : place - 2 + 3 ≡ place + 1 = omega arith in ap (slice_get tables.source.marks) at ∙ value_mark (slice_get tables.source.marks (place + 1)) v);
    kept = λ same. absurd (cc);
  }
  default_by false true v k e low begins =
      let item = is_there (entry tables.inside.classes.items (place - 2)) k in
      let found = entry_in tables are (place - 2) item.0 (slice_get tables.inside.classes.items (place - 2)) refl item.1 in
      let same : Some (mark.Begin found.2.0) ≡ Some (mark.Begin part.ExportDefault) = sym found.2.1.encloses.begins ∙ begins in
      let part_is : found.2.0 ≡ part.ExportDefault = cc in
      record {
        how = bind.Class;
        binds = BindsUnnamed.class (place - 2) found.0 (record { begins = begins; place_is = omega arith }) (record {
          stands = found.1.unnamed;
          within = subst (λ (w : Part). IsDirectlyIn tables.source.marks found.0 w (place - 2)) part_is found.2.1;
        }) found.1.behind;
        kept = λ same. absurd (cc);
      }
  default_by false false v k e low begins = absurd (true≢false (sym e))

  pub is_so_default : is_default tables place ≡ true → IsDefaultBinding tables.source place
  is_so_default e =
      let value = begins_value (slice_get tables.source.marks (place + 1)) in
      let class = is_some (entry tables.inside.classes.items (place - 2)) in
      let parts = both_true (nat_lt 1 place) (begins_default (slice_get tables.source.marks (place - 2)) && (value || class)) e in
      let more = both_true (begins_default (slice_get tables.source.marks (place - 2))) (value || class) parts.1 in
      default_by value class refl refl more.1 (ltb-true 1 place parts.0) (default_mark (slice_get tables.source.marks (place - 2)) more.0)

  default_is : (opening : ℕ) → IsDefault tables.source opening place → (begins_value (slice_get tables.source.marks (place + 1)) || is_some (entry tables.inside.classes.items opening)) ≡ true
      → is_default tables place ≡ true
  default_is opening d e =
      let at : opening ≡ place - 2 = omega (arith, d.place_is) in
      and_true (nat_lt 1 place) (begins_default (slice_get tables.source.marks (place - 2))
      && (begins_value (slice_get tables.source.marks (place + 1)) || is_some (entry tables.inside.classes.items (place - 2))))
      (lt-ltb 1 place (omega (arith, d.place_is)))
      (and_true (begins_default (slice_get tables.source.marks (place - 2)))
      (begins_value (slice_get tables.source.marks (place + 1)) || is_some (entry tables.inside.classes.items (place - 2)))
      (ap (λ k. begins_default (slice_get tables.source.marks k)) (sym at) ∙ ap begins_default d.begins)
      (ap (λ k. begins_value (slice_get tables.source.marks (place + 1)) || is_some (entry tables.inside.classes.items k)) (sym at) ∙ e))

  class_there : (opening at : ℕ) → IsDirectlyIn tables.source.marks at part.ExportDefault opening → IsUnnamedClass tables.source at at
      → (found : Option ℕ) → IsIn tables.source.marks (IsUnnamedClass tables.source) opening found → is_some found ≡ true
  class_there opening at direct h _ (IsIn.none nowhere) = absurd (nowhere at at part.ExportDefault direct h)
  class_there opening at direct h _ (IsIn.some other item which also k) = refl

  class_told : (opening at : ℕ) → IsMark tables.source opening (mark.Begin part.ExportDefault) → IsDirectlyIn tables.source.marks at part.ExportDefault opening
      → IsUnnamedClass tables.source at at → is_some (entry tables.inside.classes.items opening) ≡ true
  class_told opening at begins direct h =
      let inside = slice_get_within tables.source.marks opening (mark.Begin part.ExportDefault) begins in
      let there = element_at tables.inside.classes.items opening (omega (arith, inside, are.inside.classes.whole)) in
      ap (λ (found : Option (Option ℕ)). is_some (unwrap_or found None)) there.1
      ∙ class_there opening at direct h there.0 (are.inside.classes.each opening there.0 there.1)

  pub binding_default : (how : BindKind) → BindsUnnamed tables.source place how → how ≢ bind.Function → is_default tables place ≡ true
  binding_default _ (BindsUnnamed.value opening d v) kept =
      let at : opening + 3 ≡ place + 1 = omega (arith, d.place_is) in
      default_is opening d (or_left (begins_value (slice_get tables.source.marks (place + 1))) (is_some (entry tables.inside.classes.items opening))
      (ap (λ k. begins_value (slice_get tables.source.marks k)) (sym at) ∙ ap begins_value v))
  binding_default _ (BindsUnnamed.class opening at d u c) kept =
      default_is opening d (or_right (begins_value (slice_get tables.source.marks (place + 1))) (is_some (entry tables.inside.classes.items opening))
      (class_told opening at d.begins u.within (record { same = refl; unnamed = u.stands; behind = c })))
  binding_default _ (BindsUnnamed.function opening at d u f) kept = absurd (kept refl)
