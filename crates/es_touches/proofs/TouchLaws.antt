-- The touch that is told of a place stands there, and where one stands one is told.
use Rattle.std.proofs.Common.{◌≡◌, ⊎_elim, ℕ, ◌+◌, ◌-◌, ◌<◌, ◌&&◌, nat_lt, List, [], ◌∷◌, ◌++◌, Option, Some, None, is_none, length, slice_get, refl, sym, ap, subst, ◌∙◌, arith}
use Rattle.std.specs.Str.{bytes_eq}
use Rattle.std.proofs.lemmas.Bool.{lt-ltb, ltb-true}
use Rattle.std.proofs.lemmas.Option.{none-some, same_Some, slice_get_within}
use Rattle.std.proofs.lemmas.Slice.Eq.{bytes_eq-Decides}
use Rattle.pk_types.specs.declared.facts.Binding.{Binding}
use Rattle.es_tree.specs.declared.tokens.Token.{Token}
use Rattle.es_tree.specs.declared.tokens.ProgramGoal.{ProgramGoal}
use Rattle.es_tree.specs.declared.tokens.ProgramGoal.TheVariants.{Script, Module}
use Rattle.es_outline.specs.declared.mark.Mark.{Mark}
use Rattle.es_outline.specs.declared.mark.Mark.TheVariants as mark
use Rattle.es_outline.specs.declared.mark.Role.{Role}
use Rattle.es_outline.specs.declared.mark.Role.TheVariants as is
use Rattle.es_outline.specs.declared.mark.Part.{Part}
use Rattle.es_outline.specs.declared.mark.Part.TheVariants as part
use Rattle.es_scope.specs.Parts.{IsDirectlyIn}
use Rattle.es_scope.specs.Source.{Source, IsMark, HasRole, token_of, name_at}
use Rattle.es_scope.specs.Occurrences.{IsOccurrence}
use Rattle.es_scope.specs.Asking.{require}
use Rattle.es_scope.specs.Declaring.{default_binding}
use Rattle.es_scope.specs.Telling.{declared_by}
use Rattle.es_scope.proofs.ScopesTold.{declared_is}
use Rattle.es_parts.specs.Around.{IsInnermost, is_any}
use Rattle.es_refusals.specs.Around.{is_typeof}
use Rattle.es_refusals.proofs.FreeNames.{found_free, free_found}
use Rattle.es_refusals.proofs.LookingAround.{typeof_is}
use Rattle.es_sites.specs.Tables.{part_around}
use Rattle.es_sites.specs.Listing.{AreBefore}
use Rattle.es_sites.proofs.InsideLaws.{both_true, one_part, around_innermost}
use Rattle.es_sites.proofs.AroundLaws.{and_true, default_mark}
use Rattle.es_sites.proofs.Listing.{nothing_more, pushed}
use Rattle.module_body.specs.declared.touch.Touch.{Touch}
use Rattle.module_body.specs.declared.touch.NewText.{NewText}
use Rattle.module_body.specs.declared.touch.NewText.TheVariants as new_text
use Rattle.es_touches.specs.declared.anew.Anew.{Anew}
use Rattle.es_touches.specs.Touches.{IsNamed, ExportsFunction, IsRenamed, IsTypeofRequire, Covers, IsTouch}
use Rattle.es_touches.specs.Told.{IsNumber, Tables, AreTables, begins_default, begins_function, own_at, is_alone, alone, within_class, named, default_by, renamed_by, renamed, renamed_in, is_free_require, required_at, required, spanned, touch_of, touch_at}
use Rattle.es_touches.proofs.Basics.{cond_some, some_cond, or_one, or_first, or_second, none_is, function_mark}
use Rattle.es_touches.proofs.OwnLaws.{own_there, own_some, own_is, within_there, within_told}
use Rattle.es_touches.proofs.AloneLaws.{alone_there, alone_told, alone_occurs, alone_role}

-- ---- what is written goes from one token to another

abbrev at_one : ℕ → ℕ → Anew
at_one word number = record { first = word; last = word; text = new_text.Name number }

named_is : (word : ℕ) (found : Option ℕ) (anew : Anew) → named word found ≡ Some anew → (number : ℕ) × (found ≡ Some number) × (at_one word number ≡ anew)
named_is word (Some number) anew e = (number, refl, same_Some (at_one word number) anew e)
named_is word None anew e = absurd (none-some anew e)

token_there : (found : Option Mark) (token : Token) → token_of found ≡ Some token → (role : Role) × (found ≡ Some (mark.Token role token))
token_there (Some (mark.Token role other)) token e = (role, ap (λ (t : Token). Some (mark.Token role t)) (same_Some other token e))
token_there _ token e = absurd (none-some token e)

covers_by : (source : Source) (one : Anew) (touch : Touch) (first last : Option Token) → token_of (slice_get source.marks one.first) ≡ first
    → token_of (slice_get source.marks one.last) ≡ last → spanned one.text first last ≡ Some touch → Covers source one.first one.last one.text touch
covers_by source one touch (Some first) (Some last) f l e =
    let same = same_Some {A = Touch} (record { start = first.start; end = last.end; text = one.text }) touch e in
    let starts = token_there (slice_get source.marks one.first) first f in
    let ends = token_there (slice_get source.marks one.last) last l in
    record {
      writes = sym (ap (λ (t : Touch). t.text) same);
      starts = (starts.0, first, starts.1, sym (ap (λ (t : Touch). t.start) same));
      ends = (ends.0, last, ends.1, sym (ap (λ (t : Touch). t.end) same));
    }
covers_by source one touch None last f l e = absurd (none-some touch e)
covers_by source one touch (Some first) None f l e = absurd (none-some touch e)

covers : (source : Source) (anew : Option Anew) (touch : Touch) → touch_of source anew ≡ Some touch
    → (one : Anew) × (anew ≡ Some one) × Covers source one.first one.last one.text touch
covers source (Some one) touch e =
    (one, refl, covers_by source one touch (token_of (slice_get source.marks one.first)) (token_of (slice_get source.marks one.last)) refl refl e)
covers source None touch e = absurd (none-some touch e)

spanned_some : (text : NewText) (first last : Option Token) (one other : Token) → first ≡ Some one → last ≡ Some other → (touch : Touch) × (spanned text first last ≡ Some touch)
spanned_some text first last one other f l = (
  record { start = one.start; end = other.end; text = text },
  ap (λ (t : Option Token). spanned text t last) f ∙ ap (λ (t : Option Token). spanned text (Some one) t) l,
)

-- a touch is told of what is written from one token to another
touched : (source : Source) (anew : Option Anew) (one : Anew) (text : NewText) (touch : Touch) → anew ≡ Some one → Covers source one.first one.last text touch
    → (other : Touch) × (touch_of source anew ≡ Some other)
touched source anew one text touch e c =
    let some = spanned_some one.text (token_of (slice_get source.marks one.first)) (token_of (slice_get source.marks one.last)) c.starts.1 c.ends.1
    (ap token_of c.starts.2) (ap token_of c.ends.2) in
    (some.0, ap (touch_of source) e ∙ some.1)

-- ---- names

-- a name that is told to be written
record IsName (source : Source) (bindings : List Binding) (place : ℕ) (anew : Anew) : Type 0 where
  word : ℕ
  number : ℕ
  renamed : IsRenamed source bindings place word number
  is : at_one word number ≡ anew

module _ (tables : Tables) (are : AreTables tables) (place : ℕ) where
  within_mark : (one_mark : Mark) → slice_get tables.source.marks place ≡ Some one_mark → place < length tables.source.marks
  within_mark one_mark m = slice_get_within tables.source.marks place one_mark m

  alone_is : (token : Token) (role : Role) → IsMark tables.source place (mark.Token role token) → (number : ℕ) → alone tables place ≡ Some number
      → IsRenamed tables.source tables.bindings place place number
  alone_is token role m number e =
      let parts = cond_some (is_alone tables place) (own_at tables place) number e in
      let so = alone_there tables are place (within_mark (mark.Token role token) m) parts.0 in
      IsRenamed.alone number so
      (own_there tables.source tables.bindings place number (own_at tables place) (own_is tables are place (alone_occurs tables.source place so)) parts.1)

  role_is : (role : Role) (token : Token) → IsMark tables.source place (mark.Token role token) → (number : ℕ) → renamed_by tables place role ≡ Some number
      → IsRenamed tables.source tables.bindings place place number
  role_is is.Reference token m number e =
      let within = within_there tables are place (token, m) number e in IsRenamed.within within.class number within.within within.own
  role_is is.Bound token m number e = alone_is token is.Bound m number e
  role_is is.FunctionName token m number e = alone_is token is.FunctionName m number e
  role_is _ token m number e = absurd (none-some number e)

  default_number : (number : ℕ) (found : Option ℕ) → IsNumber tables.bindings default_binding found → found ≡ Some number → IsNamed tables.bindings number default_binding
  default_number number _ (IsNumber.none never) e = absurd (none-some number e)
  default_number number _ (IsNumber.some other h) e = subst (λ (n : ℕ). IsNamed tables.bindings n default_binding) (same_Some other number e) h

  number_default : (number : ℕ) (found : Option ℕ) → IsNumber tables.bindings default_binding found → IsNamed tables.bindings number default_binding
      → (other : ℕ) × (found ≡ Some other)
  number_default number _ (IsNumber.none never) h = absurd (never number h)
  number_default number _ (IsNumber.some other k) h = (other, refl)

  default_is : IsMark tables.source place mark.Unnamed → (around : Option ℕ) → IsInnermost is_any tables.source.marks place around → (anew : Anew)
      → default_by tables place around ≡ Some anew → IsName tables.source tables.bindings place anew
  default_is m _ (IsInnermost.none nowhere) anew e = absurd (none-some anew e)
  default_is m _ (IsInnermost.some which opening near) anew e =
      let begins = begins_default (slice_get tables.source.marks opening) in
      let function = begins_function (slice_get tables.source.marks (place + 1)) in
      let parts = cond_some (begins && function) (named (opening + 2) tables.default) anew e in
      let sides = both_true begins function parts.0 in
      let number = named_is (opening + 2) tables.default anew parts.1 in
      let at = default_mark (slice_get tables.source.marks opening) sides.0 in
      let same : Some (mark.Begin which) ≡ Some (mark.Begin part.ExportDefault) = sym near.encloses.begins ∙ at in
      let part_is : which ≡ part.ExportDefault = cc in
      record {
        word = opening + 2;
        number = number.0;
        renamed = IsRenamed.default opening number.0 (record {
          begins = at;
          unnamed = record { stands = m; within = subst (λ (w : Part). IsDirectlyIn tables.source.marks place w opening) part_is near };
          function = function_mark (slice_get tables.source.marks (place + 1)) sides.1;
        }) (default_number number.0 tables.default are.default number.1);
        is = number.2;
      }

  mark_is : (found : Option Mark) → slice_get tables.source.marks place ≡ found → (anew : Anew) → renamed tables place found ≡ Some anew
      → IsName tables.source tables.bindings place anew
  mark_is (Some (mark.Token role token)) m anew e =
      let number = named_is place (renamed_by tables place role) anew e in
      record { word = place; number = number.0; renamed = role_is role token m number.0 number.1; is = number.2 }
  mark_is (Some mark.Unnamed) m anew e =
      default_is m (part_around tables.around place)
      (around_innermost tables.source.marks tables.around place are.around (within_mark mark.Unnamed m)) anew e
  mark_is _ m anew e = absurd (none-some anew e)

  -- a name that is written is told
  named_some : (word number : ℕ) (found : Option ℕ) → found ≡ Some number → named word found ≡ Some (at_one word number)
  named_some word number found e = ap (named word) e

  default_at_is : (opening number : ℕ) → ExportsFunction tables.source opening place → (around : Option ℕ) → IsInnermost is_any tables.source.marks place around
      → tables.default ≡ Some number → default_by tables place around ≡ Some (at_one (opening + 2) number)
  default_at_is opening number h _ (IsInnermost.none nowhere) e = absurd (nowhere part.ExportDefault opening refl h.unnamed.within.encloses)
  default_at_is opening number h _ (IsInnermost.some which at near) e =
      let same : at ≡ opening = one_part tables.source.marks place at opening which part.ExportDefault near h.unnamed.within in
      ap (λ (o : ℕ). default_by tables place (Some o)) same
      ∙ some_cond (begins_default (slice_get tables.source.marks opening) && begins_function (slice_get tables.source.marks (place + 1)))
      (named (opening + 2) tables.default) (at_one (opening + 2) number)
      (and_true (begins_default (slice_get tables.source.marks opening)) (begins_function (slice_get tables.source.marks (place + 1)))
      (ap begins_default h.begins) (ap begins_function h.function))
      (named_some (opening + 2) number tables.default e)

  renamed_told : (word number : ℕ) → IsRenamed tables.source tables.bindings place word number
      → (other : ℕ) × (renamed tables place (slice_get tables.source.marks place) ≡ Some (at_one word other))
  renamed_told _ _ (IsRenamed.alone number so own) =
      let role = alone_role tables place so in
      let other = own_some tables.source tables.bindings place number (own_at tables place) (own_is tables are place (alone_occurs tables.source place so)) own in
      let told = some_cond (is_alone tables place) (own_at tables place) other.0
      (alone_told tables are place (within_mark (mark.Token role.0 role.1.0) role.1.1) so) other.1 in
      (other.0, ap (renamed tables place) role.1.1 ∙ named_some place other.0 (renamed_by tables place role.0) (role.2 ∙ told))
  renamed_told _ _ (IsRenamed.within class number within own) =
      let other = within_told tables are place within.reference class number within own in
      (other.0, ap (renamed tables place) within.reference.1 ∙ named_some place other.0 (within_class tables place) other.1)
  renamed_told _ _ (IsRenamed.default opening number h n) =
      let other = number_default number tables.default are.default n in (
        other.0,
        ap (renamed tables place) h.unnamed.stands
            ∙ default_at_is opening other.0 h (part_around tables.around place)
            (around_innermost tables.source.marks tables.around place are.around (within_mark mark.Unnamed h.unnamed.stands)) other.1,
      )

  -- ---- `typeof require`

  abbrev at_two : Anew
  at_two = record { first = place - 1; last = place; text = new_text.Function }

  record IsKind (anew : Anew) : Type 0 where
    so : IsTypeofRequire tables.source (place - 1) place
    is : at_two ≡ anew

  require_is : HasRole tables.source place is.Reference → (anew : Anew) → required_at tables place ≡ Some anew → IsKind anew
  require_is t anew e =
      let free = is_free_require tables place in
      let parts = cond_some (nat_lt 0 place && (is_typeof tables.source place && free)) (Some at_two) anew e in
      let sides = both_true (nat_lt 0 place) (is_typeof tables.source place && free) parts.0 in
      let more = both_true (is_typeof tables.source place) free sides.1 in
      let last = both_true (is_none (declared_by tables.told place)) (bytes_eq (name_at tables.source place) require) more.1 in
      let above = ltb-true 0 place sides.0 in
      record {
        so = record {
          next = omega (arith, above);
          reference = t;
          free = (
            found_free tables.source place (declared_by tables.told place) (declared_is tables.source tables.told are.scopes place (IsOccurrence.referred t))
                (none_is (declared_by tables.told place) last.0),
            (bytes_eq-Decides (name_at tables.source place) require).0 last.1,
          );
          kind = (typeof_is tables.source place).0 more.0;
        };
        is = same_Some at_two anew parts.1;
      }

  kind_is : (found : Option Mark) → slice_get tables.source.marks place ≡ found → (anew : Anew) → required tables place found ≡ Some anew → IsKind anew
  kind_is (Some (mark.Token is.Reference token)) m anew e = require_is (token, m) anew e
  kind_is _ m anew e = absurd (none-some anew e)

  kind_told : (before : ℕ) → IsTypeofRequire tables.source before place → required tables place (slice_get tables.source.marks place) ≡ Some at_two
  kind_told before h =
      let free = is_free_require tables place in
      let next = h.next in
      let none = free_found tables.source place (declared_by tables.told place)
      (declared_is tables.source tables.told are.scopes place (IsOccurrence.referred h.reference)) h.free.0 in
      ap (required tables place) h.reference.1
      ∙ some_cond (nat_lt 0 place && (is_typeof tables.source place && free)) (Some at_two) at_two
      (and_true (nat_lt 0 place) (is_typeof tables.source place && free) (lt-ltb 0 place (omega (arith, next)))
      (and_true (is_typeof tables.source place) free ((typeof_is tables.source place).1 h.kind)
      (and_true (is_none (declared_by tables.told place)) (bytes_eq (name_at tables.source place) require)
      (ap is_none none) ((bytes_eq-Decides (name_at tables.source place) require).1 h.free.1))))
      refl

  -- ---- the touch

  in_module : (goal : ProgramGoal) (found : Option Mark) (anew : Anew) → renamed_in goal tables place found ≡ Some anew
      → (goal ≡ Module) × (renamed tables place found ≡ Some anew)
  in_module Module found anew e = (refl, e)
  in_module Script found anew e = absurd (none-some anew e)

  abbrev here : Option Mark
  here = slice_get tables.source.marks place

  by_kind : (touch : Touch) → touch_of tables.source (required tables place here) ≡ Some touch → IsTouch tables.source tables.bindings place touch
  by_kind touch e =
      let c = covers tables.source (required tables place here) touch e in
      let k = kind_is here refl c.0 c.1 in
      IsTouch.typeof_require (place - 1) k.so (subst (λ (one : Anew). Covers tables.source one.first one.last one.text touch) (sym k.is) c.2)

  by_name : (touch : Touch) → touch_of tables.source (renamed_in tables.source.goal tables place here) ≡ Some touch
      → IsTouch tables.source tables.bindings place touch
  by_name touch e =
      let c = covers tables.source (renamed_in tables.source.goal tables place here) touch e in
      let m = in_module tables.source.goal here c.0 c.1 in
      let n = mark_is here refl c.0 m.1 in
      IsTouch.name n.word n.number m.0 n.renamed (subst (λ (one : Anew). Covers tables.source one.first one.last one.text touch) (sym n.is) c.2)

  pub touch_stands : (touch : Touch) → touch_at tables place ≡ Some touch → IsTouch tables.source tables.bindings place touch
  unfolding touch_at
  touch_stands touch e = ⊎_elim (λ first. by_kind touch first) (λ second. by_name touch second)
      (or_one (touch_of tables.source (required tables place here)) (touch_of tables.source (renamed_in tables.source.goal tables place here)) touch e)

  pub touch_told : (touch : Touch) → IsTouch tables.source tables.bindings place touch → (other : Touch) × (touch_at tables place ≡ Some other)
  unfolding touch_at
  touch_told touch (IsTouch.name word number g r c) =
      let told = renamed_told word number r in
      let some = touched tables.source (renamed_in tables.source.goal tables place here) (at_one word told.0) (new_text.Name number) touch
      (ap (λ (goal : ProgramGoal). renamed_in goal tables place here) g ∙ told.1) c in
      or_second (touch_of tables.source (required tables place here)) (touch_of tables.source (renamed_in tables.source.goal tables place here)) some.0 some.1
  touch_told touch (IsTouch.typeof_require before h c) =
      let next = h.next in
      let same : before ≡ place - 1 = omega (arith, next) in
      let some = touched tables.source (required tables place here) at_two new_text.Function touch (kind_told before h)
      (subst (λ (first : ℕ). Covers tables.source first place new_text.Function touch) same c) in
      or_first (touch_of tables.source (required tables place here)) (touch_of tables.source (renamed_in tables.source.goal tables place here)) some.0 some.1

  renamed_mark : (word number : ℕ) → IsRenamed tables.source tables.bindings place word number → (one_mark : Mark) × IsMark tables.source place one_mark
  renamed_mark _ _ (IsRenamed.alone number so own) = let role = alone_role tables place so in (mark.Token role.0 role.1.0, role.1.1)
  renamed_mark _ _ (IsRenamed.within class number within own) = (mark.Token is.Reference within.reference.0, within.reference.1)
  renamed_mark _ _ (IsRenamed.default opening number h n) = (mark.Unnamed, h.unnamed.stands)

  pub touch_within : (touch : Touch) → IsTouch tables.source tables.bindings place touch → place < length tables.source.marks
  touch_within touch (IsTouch.name word number g r c) = let m = renamed_mark word number r in within_mark m.0 m.1
  touch_within touch (IsTouch.typeof_require before h c) = within_mark (mark.Token is.Reference h.reference.0) h.reference.1

  pub touch_pushed : (items longer : List Touch) (touch : Touch) → AreBefore (IsTouch tables.source tables.bindings) place items → Some touch ≡ touch_at tables place
      → longer ≡ items ++ touch ∷ [] → AreBefore (IsTouch tables.source tables.bindings) (place + 1) longer
  touch_pushed items longer touch so_far e more =
      pushed (IsTouch tables.source tables.bindings) place items longer touch so_far (touch_stands touch (sym e)) more

  pub no_touch : (items : List Touch) → AreBefore (IsTouch tables.source tables.bindings) place items → None ≡ touch_at tables place
      → AreBefore (IsTouch tables.source tables.bindings) (place + 1) items
  no_touch items so_far e =
      nothing_more (IsTouch tables.source tables.bindings) place items so_far (λ touch h. let told = touch_told touch h in none-some told.0 (e ∙ told.1))
