-- What an `export default` binds without a name is what is looked up.
use Rattle.std.proofs.Common.{◌≡◌, ℕ, ◌+◌, ◌-◌, ◌≤◌, ◌⊎◌, inl, inr, nat_le, Bool, true, false, cond, List, Option, Some, None, slice_get, refl, sym, ap, subst, ◌∙◌, arith}
use Rattle.std.proofs.lemmas.Bool.{false≢true}
use Rattle.std.proofs.lemmas.Option.{none-some, same_Some}
use Rattle.es_outline.specs.declared.mark.Mark.{Mark}
use Rattle.es_outline.specs.declared.mark.Mark.TheVariants as mark
use Rattle.es_outline.specs.declared.mark.Part.TheVariants as part
use Rattle.pk_types.specs.declared.facts.BindKind.{BindKind}
use Rattle.pk_types.specs.declared.facts.BindKind.TheVariants as bind
use Rattle.es_scope.specs.Source.{Source, IsMark}
use Rattle.es_scope.specs.Parts.{IsDirectlyIn}
use Rattle.es_scope.specs.Declaring.{BindsUnnamed, IsDefault, IsUnnamed}
use Rattle.es_declares.specs.Found.{IsItemAt}
use Rattle.es_declares.specs.Inside.{AreInside, IsInside, IsNameless, kind_begun, told_in}
use Rattle.es_declares.specs.Unnamed.{begins_default, begins_value, kind_behind, default_binds, unnamed_at}
use Rattle.es_declares.proofs.RequestLaws.{told_inside}

-- an item is found where one stands
pub item_found : {A : Type 0} (IsAt : ℕ → A → Type 0) (place : ℕ) (found : Option A) → ((item : A) → found ≡ Some item → IsAt place item)
    → ((item : A) → IsAt place item → (other : A) × (found ≡ Some other)) → IsItemAt IsAt place found
item_found IsAt place None there some = IsItemAt.none (λ item h. let other = some item h in none-some other.0 other.1)
item_found IsAt place (Some item) there some = IsItemAt.some item (there item refl)

default_mark : (found : Option Mark) → begins_default found ≡ true → found ≡ Some (mark.Begin part.ExportDefault)
default_mark (Some (mark.Begin part.ExportDefault)) e = refl
default_mark _ e = absurd (false≢true e)

value_mark : (found : Option Mark) → begins_value found ≡ true → found ≡ Some (mark.Begin part.ExportedValue)
value_mark (Some (mark.Begin part.ExportedValue)) e = refl
value_mark _ e = absurd (false≢true e)

-- what begins a function or a class
data BeginsKind (found : Option Mark) : BindKind → Type 0 where
  class : found ≡ Some (mark.Begin part.Class) → BeginsKind found bind.Class
  function : found ≡ Some (mark.Begin part.Function) → BeginsKind found bind.Function

begun_as : (found : Option Mark) (kind : BindKind) → kind_begun found ≡ Some kind → BeginsKind found kind
begun_as (Some (mark.Begin part.Class)) kind e = subst (BeginsKind (Some (mark.Begin part.Class))) (same_Some bind.Class kind e) (BeginsKind.class refl)
begun_as (Some (mark.Begin part.Function)) kind e = subst (BeginsKind (Some (mark.Begin part.Function))) (same_Some bind.Function kind e) (BeginsKind.function refl)
begun_as _ kind e = absurd (none-some kind e)

module _ (source : Source) (nameless : List (Option ℕ)) (are : AreInside (IsNameless source) source.marks nameless) (place opening : ℕ) (place_is : place ≡ opening + 2) where
  binds_begun : (at : ℕ) (kind : BindKind) → IsDefault source opening place → IsUnnamed source opening at → BeginsKind (slice_get source.marks (at + 1)) kind → BindsUnnamed source place kind
  binds_begun at _ default unnamed (BeginsKind.class begins) = BindsUnnamed.class opening at default unnamed begins
  binds_begun at _ default unnamed (BeginsKind.function begins) = BindsUnnamed.function opening at default unnamed begins

  behind_there : (told : Option ℕ) (kind : BindKind) → IsMark source opening (mark.Begin part.ExportDefault) → IsInside (IsNameless source) source.marks opening told
      → kind_behind source told ≡ Some kind → BindsUnnamed source place kind
  behind_there _ kind begins (IsInside.none never) e = absurd (none-some kind e)
  behind_there _ kind begins (IsInside.some which at nameless_at direct) e =
      let same_mark : Some (mark.Begin which) ≡ Some (mark.Begin part.ExportDefault) = sym direct.encloses.begins ∙ begins in
      let same : which ≡ part.ExportDefault = cc in
      binds_begun at kind (record { begins = begins; place_is = place_is })
      (record { stands = nameless_at.stands; within = subst (λ w. IsDirectlyIn source.marks at w opening) same direct })
      (begun_as (slice_get source.marks (at + 1)) kind e)

  value_there : (value : Bool) (kind : BindKind) → begins_value (slice_get source.marks (opening + 3)) ≡ value → IsMark source opening (mark.Begin part.ExportDefault)
      → cond value (Some bind.Const) (kind_behind source (told_in nameless opening)) ≡ Some kind → BindsUnnamed source place kind
  value_there true kind v begins e =
      subst (BindsUnnamed source place) (same_Some bind.Const kind e)
      (BindsUnnamed.value opening (record { begins = begins; place_is = place_is }) (value_mark (slice_get source.marks (opening + 3)) v))
  value_there false kind v begins e =
      behind_there (told_in nameless opening) kind begins (told_inside (IsNameless source) source.marks nameless are opening part.ExportDefault begins) e

  default_there : (default : Bool) (kind : BindKind) → begins_default (slice_get source.marks opening) ≡ default
      → cond default (cond (begins_value (slice_get source.marks (opening + 3))) (Some bind.Const) (kind_behind source (told_in nameless opening))) None ≡ Some kind
      → BindsUnnamed source place kind
  default_there true kind d e = value_there (begins_value (slice_get source.marks (opening + 3))) kind refl (default_mark (slice_get source.marks opening) d) e
  default_there false kind d e = absurd (none-some kind e)

  -- and what is bound is found
  behind_here : (at : ℕ) (kind : BindKind) → IsUnnamed source opening at → kind_begun (slice_get source.marks (at + 1)) ≡ Some kind → (told : Option ℕ)
      → IsInside (IsNameless source) source.marks opening told → (other : BindKind) × (kind_behind source told ≡ Some other)
  behind_here at kind unnamed begins _ (IsInside.none never) =
      absurd (never part.ExportDefault at (record { stands = unnamed.stands; kind = kind; begins = begins }) unnamed.within)
  behind_here at kind unnamed begins _ (IsInside.some which other nameless_at direct) = (nameless_at.kind, nameless_at.begins)

  chosen : (value : Bool) (found : Option BindKind) → (value ≡ true) ⊎ ((kind : BindKind) × (found ≡ Some kind)) → (kind : BindKind) × (cond value (Some bind.Const) found ≡ Some kind)
  chosen true found h = (bind.Const, refl)
  chosen false found (inl e) = absurd (false≢true e)
  chosen false found (inr some) = some

  default_here : IsMark source opening (mark.Begin part.ExportDefault)
      → (begins_value (slice_get source.marks (opening + 3)) ≡ true) ⊎ ((kind : BindKind) × (kind_behind source (told_in nameless opening) ≡ Some kind))
      → (kind : BindKind) × (default_binds source nameless opening ≡ Some kind)
  default_here begins h =
      let some = chosen (begins_value (slice_get source.marks (opening + 3))) (kind_behind source (told_in nameless opening)) h in (
        some.0,
        ap (λ (found : Option Mark). cond (begins_default found) (cond (begins_value (slice_get source.marks (opening + 3))) (Some bind.Const)
            (kind_behind source (told_in nameless opening))) None) begins ∙ some.1,
      )

  begun_here : (at : ℕ) (kind : BindKind) → IsMark source opening (mark.Begin part.ExportDefault) → IsUnnamed source opening at
      → kind_begun (slice_get source.marks (at + 1)) ≡ Some kind → (other : BindKind) × (default_binds source nameless opening ≡ Some other)
  begun_here at kind begins unnamed begun =
      default_here begins (inr (behind_here at kind unnamed begun (told_in nameless opening)
      (told_inside (IsNameless source) source.marks nameless are opening part.ExportDefault begins)))

at_two : (place : ℕ) (b : Bool) → nat_le 2 place ≡ b → (b ≡ true) → 2 ≤ place
at_two place b e t = grind arith

module _ (source : Source) (nameless : List (Option ℕ)) (are : AreInside (IsNameless source) source.marks nameless) (place : ℕ) where
  there_by : (b : Bool) (kind : BindKind) → nat_le 2 place ≡ b → cond b (default_binds source nameless (place - 2)) None ≡ Some kind → BindsUnnamed source place kind
  there_by false kind b e = absurd (none-some kind e)
  there_by true kind b e =
      let far = at_two place true b refl in
      default_there source nameless are place (place - 2) (omega arith) (begins_default (slice_get source.marks (place - 2))) kind refl e

  here_at : (opening : ℕ) → place ≡ opening + 2 → (b : Bool) → nat_le 2 place ≡ b → (kind : BindKind) × (default_binds source nameless opening ≡ Some kind)
      → (kind : BindKind) × (cond b (default_binds source nameless (place - 2)) None ≡ Some kind)
  here_at opening place_is true b some =
      let same : place - 2 ≡ opening = omega arith in (some.0, ap (default_binds source nameless) same ∙ some.1)
  here_at opening place_is false b some = absurd (grind arith)

  here : (kind : BindKind) → BindsUnnamed source place kind → (other : BindKind) × (unnamed_at source nameless place ≡ Some other)
  here _ (BindsUnnamed.value opening d v) = here_at opening d.place_is (nat_le 2 place) refl (default_here source nameless are place opening d.place_is d.begins (inl (ap begins_value v)))
  here _ (BindsUnnamed.class opening at d u b) = here_at opening d.place_is (nat_le 2 place) refl (begun_here source nameless are place opening d.place_is at bind.Class d.begins u (ap kind_begun b))
  here _ (BindsUnnamed.function opening at d u b) =
      here_at opening d.place_is (nat_le 2 place) refl (begun_here source nameless are place opening d.place_is at bind.Function d.begins u (ap kind_begun b))

  pub unnamed_is : (told : Option BindKind) → told ≡ unnamed_at source nameless place → IsItemAt (BindsUnnamed source) place told
  unnamed_is told is = item_found (BindsUnnamed source) place told
      (λ kind e. there_by (nat_le 2 place) kind refl (sym is ∙ e))
      (λ kind h. let some = here kind h in (some.0, is ∙ some.1))
