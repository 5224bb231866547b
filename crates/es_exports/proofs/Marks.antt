-- What marks say at places, as the code asks it and as it is defined.
use Rattle.std.proofs.Common.{◌≡◌, ◌<◌, ◌≤◌, ◌+◌, ◌-◌, ◌⊎◌, inl, inr, ℕ, zero, suc, Bool, true, false, cond, List, [], ◌∷◌, Option, Some, None, is_some, length, slice_get, nat_lt, refl, sym, ap, ◌∙◌, arith, true≢false}
use Rattle.std.proofs.lemmas.Bool.{le-ltb, ltb-false, both_ways, false_from_ne_true}
use Rattle.std.proofs.lemmas.Option.{none-some, same_Some, slice_get_within}
use Rattle.es_outline.specs.declared.mark.Mark.{Mark}
use Rattle.es_outline.specs.declared.mark.Mark.TheVariants as mark
use Rattle.es_outline.specs.declared.mark.Role.{Role}
use Rattle.es_outline.specs.declared.mark.Role.TheVariants as is
use Rattle.es_outline.specs.declared.mark.Part.{Part}
use Rattle.es_outline.specs.declared.mark.Part.TheVariants as part
use Rattle.es_scope.specs.Source.{Source, IsMark, HasRole}
use Rattle.es_scope.specs.Declaring.{StartsAt}
use Rattle.es_exports.specs.Seeing.{role_of, part_of, start_of, role_at, begun_at, start_at, back, begun_of, begun_before, is_unnamed, is_shorthand, is_outer, is_exported, is_request, is_bound, is_star, is_list, is_default, is_value, is_exported_declaration, is_declaration, is_unit}

-- ---- tests

-- a choice that gives something
pub chosen : {A : Type 0} (b : Bool) (found : Option A) (item : A) → cond b found None ≡ Some item → (b ≡ true) × (found ≡ Some item)
chosen true found item e = (refl, e)
chosen false found item e = absurd (none-some item e)

pub is_there : {A : Type 0} (found : Option A) → is_some found ≡ true → (item : A) × (found ≡ Some item)
is_there None e = absurd (true≢false (sym e))
is_there (Some item) e = (item, refl)

pub some_there : {A : Type 0} (items : List A) (place : ℕ) → place < length items → (item : A) × (slice_get items place ≡ Some item)
some_there [] place h = absurd (omega arith)
some_there (item ∷ items) zero h = (item, refl)
some_there (item ∷ items) (suc place) h = some_there items place (omega arith)

-- ---- roles

pub role_here : (source : Source) (place : ℕ) (role : Role) → HasRole source place role → role_at source place ≡ Some role
role_here source place role t = ap role_of t.1

role_by : (source : Source) (place : ℕ) (role : Role) (there : Option Mark) → slice_get source.marks place ≡ there → role_of there ≡ Some role
    → HasRole source place role
role_by source place role (Some (mark.Token other token)) m e = (token, m ∙ ap (λ (r : Role). Some (mark.Token r token)) (same_Some other role e))
role_by source place role _ m e = absurd (none-some role e)

pub role_there : (source : Source) (place : ℕ) (role : Role) → role_at source place ≡ Some role → HasRole source place role
role_there source place role e = role_by source place role (slice_get source.marks place) refl e

pub role_within : (source : Source) (place : ℕ) (role : Role) → HasRole source place role → place < length source.marks
role_within source place role t = slice_get_within source.marks place _ t.1

outer_is : (found : Option Role) → is_outer found ≡ true → found ≡ Some is.Outer
outer_is (Some is.Outer) e = refl
outer_is _ e = absurd (true≢false (sym e))

exported_is : (found : Option Role) → is_exported found ≡ true → found ≡ Some is.Exported
exported_is (Some is.Exported) e = refl
exported_is _ e = absurd (true≢false (sym e))

request_is : (found : Option Role) → is_request found ≡ true → found ≡ Some is.Request
request_is (Some is.Request) e = refl
request_is _ e = absurd (true≢false (sym e))

bound_is : (found : Option Role) → is_bound found ≡ true → found ≡ Some is.Bound
bound_is (Some is.Bound) e = refl
bound_is _ e = absurd (true≢false (sym e))

module _ (source : Source) (place : ℕ) where
  pub outer_here : HasRole source place is.Outer → is_outer (role_at source place) ≡ true
  outer_here t = ap is_outer (role_here source place is.Outer t)

  pub outer_there : is_outer (role_at source place) ≡ true → HasRole source place is.Outer
  outer_there e = role_there source place is.Outer (outer_is (role_at source place) e)

  pub no_outer_here : ¬ HasRole source place is.Outer → is_outer (role_at source place) ≡ false
  no_outer_here none = false_from_ne_true (is_outer (role_at source place)) (λ e. none (outer_there e))

  pub no_outer_there : is_outer (role_at source place) ≡ false → ¬ HasRole source place is.Outer
  no_outer_there e t = both_ways (is_outer (role_at source place)) e (outer_here t)

  pub exported_here : HasRole source place is.Exported → is_exported (role_at source place) ≡ true
  exported_here t = ap is_exported (role_here source place is.Exported t)

  pub exported_there : is_exported (role_at source place) ≡ true → HasRole source place is.Exported
  exported_there e = role_there source place is.Exported (exported_is (role_at source place) e)

  pub request_here : HasRole source place is.Request → is_request (role_at source place) ≡ true
  request_here t = ap is_request (role_here source place is.Request t)

  pub request_there : is_request (role_at source place) ≡ true → HasRole source place is.Request
  request_there e = role_there source place is.Request (request_is (role_at source place) e)

  pub bound_here : HasRole source place is.Bound → is_bound (role_at source place) ≡ true
  bound_here t = ap is_bound (role_here source place is.Bound t)

  pub bound_there : is_bound (role_at source place) ≡ true → HasRole source place is.Bound
  bound_there e = role_there source place is.Bound (bound_is (role_at source place) e)

-- ---- where tokens start

start_by : (source : Source) (place start : ℕ) (there : Option Mark) → slice_get source.marks place ≡ there → start_of there ≡ Some start
    → StartsAt source place start
start_by source place start (Some (mark.Token role token)) m e = (role, token, m, sym (same_Some token.start start e))
start_by source place start _ m e = absurd (none-some start e)

pub start_there : (source : Source) (place start : ℕ) → start_at source place ≡ Some start → StartsAt source place start
start_there source place start e = start_by source place start (slice_get source.marks place) refl e

pub start_here : (source : Source) (place start : ℕ) → StartsAt source place start → start_at source place ≡ Some start
start_here source place start t = ap start_of t.2 ∙ ap (λ (n : ℕ). Some n) (sym t.3)

-- ---- parts that begin

part_by : (source : Source) (place : ℕ) (which : Part) (there : Option Mark) → slice_get source.marks place ≡ there → part_of there ≡ Some which
    → IsMark source place (mark.Begin which)
part_by source place which (Some (mark.Begin other)) m e = m ∙ ap (λ (w : Part). Some (mark.Begin w)) (same_Some other which e)
part_by source place which _ m e = absurd (none-some which e)

pub begun_there : (source : Source) (place : ℕ) (which : Part) → begun_at source place ≡ Some which → IsMark source place (mark.Begin which)
begun_there source place which e = part_by source place which (slice_get source.marks place) refl e

pub begun_here : (source : Source) (place : ℕ) (which : Part) → IsMark source place (mark.Begin which) → begun_at source place ≡ Some which
begun_here source place which m = ap part_of m

pub star_is : (found : Option Part) → is_star found ≡ true → found ≡ Some part.ExportStar
star_is (Some part.ExportStar) e = refl
star_is _ e = absurd (true≢false (sym e))

pub list_is : (found : Option Part) → is_list found ≡ true → found ≡ Some part.ExportList
list_is (Some part.ExportList) e = refl
list_is _ e = absurd (true≢false (sym e))

pub default_is : (found : Option Part) → is_default found ≡ true → found ≡ Some part.ExportDefault
default_is (Some part.ExportDefault) e = refl
default_is _ e = absurd (true≢false (sym e))

pub value_is : (found : Option Part) → is_value found ≡ true → found ≡ Some part.ExportedValue
value_is (Some part.ExportedValue) e = refl
value_is _ e = absurd (true≢false (sym e))

pub exported_declaration_is : (found : Option Part) → is_exported_declaration found ≡ true → found ≡ Some part.ExportedDeclaration
exported_declaration_is (Some part.ExportedDeclaration) e = refl
exported_declaration_is _ e = absurd (true≢false (sym e))

pub declaration_is : (found : Option Part) → is_declaration found ≡ true → found ≡ Some part.Declaration
declaration_is (Some part.Declaration) e = refl
declaration_is _ e = absurd (true≢false (sym e))

pub unit_is : (found : Option Part) → is_unit found ≡ true → (found ≡ Some part.Class) ⊎ (found ≡ Some part.Function)
unit_is (Some part.Class) e = inl refl
unit_is (Some part.Function) e = inr refl
unit_is _ e = absurd (true≢false (sym e))

pub unnamed_is : (found : Option Mark) → is_unnamed found ≡ true → found ≡ Some mark.Unnamed
unnamed_is (Some mark.Unnamed) e = refl
unnamed_is _ e = absurd (true≢false (sym e))

pub shorthand_is : (found : Option Mark) → is_shorthand found ≡ true → found ≡ Some mark.Shorthand
shorthand_is (Some mark.Shorthand) e = refl
shorthand_is _ e = absurd (true≢false (sym e))

-- ---- places before

pub back_is : (count place before : ℕ) → place ≡ before + count → back count place ≡ Some before
back_is count place before e =
    ap (λ (b : Bool). cond b None (Some (place - count))) (le-ltb place count (omega arith))
    ∙ ap (λ (n : ℕ). Some n) (let left : place - count ≡ before = omega arith in left)

back_by : (count place before : ℕ) (b : Bool) → nat_lt place count ≡ b → cond b None (Some (place - count)) ≡ Some before → place ≡ before + count
back_by count place before true t e = absurd (none-some before e)
back_by count place before false t e =
    let least : count ≤ place = ltb-false place count t in
    let same : place - count ≡ before = same_Some (place - count) before e in
    omega arith

pub back_was : (count place before : ℕ) → back count place ≡ Some before → place ≡ before + count
back_was count place before e = back_by count place before (nat_lt place count) refl e

-- a part begins two places before
pub before_here : (source : Source) (opening place : ℕ) (which : Part) → IsMark source opening (mark.Begin which) → place ≡ opening + 2
    → begun_before source place ≡ Some which
before_here source opening place which m e = ap (begun_of source) (back_is 2 place opening e) ∙ begun_here source opening which m

before_by : (source : Source) (place : ℕ) (which : Part) (found : Option ℕ) → back 2 place ≡ found → begun_of source found ≡ Some which
    → (opening : ℕ) × IsMark source opening (mark.Begin which) × (place ≡ opening + 2)
before_by source place which None b e = absurd (none-some which e)
before_by source place which (Some opening) b e = (opening, begun_there source opening which e, back_was 2 place opening b)

pub before_there : (source : Source) (place : ℕ) (which : Part) → begun_before source place ≡ Some which
    → (opening : ℕ) × IsMark source opening (mark.Begin which) × (place ≡ opening + 2)
before_there source place which e = before_by source place which (back 2 place) refl e
