-- What is told of touches by tables, and what these are of.
use Rattle.std.specs.Prelude.{◌≡◌, ◌<◌, ◌+◌, ◌-◌, ◌^◌, ℕ, Bool, true, false, ◌&&◌, ◌||◌, not, cond, nat_eq, nat_lt, List, Option, Some, None, is_none, length, slice_get, slice_set, option_and_then, IfSome}
use Rattle.std.specs.Str.{bytes_eq}
use Rattle.std.specs.Option.{option_or}
use Rattle.pk_text.specs.Places.{place_of}
use Rattle.es_tree.specs.declared.tokens.Token.{Token}
use Rattle.es_tree.specs.declared.tokens.ProgramGoal.{ProgramGoal}
use Rattle.es_tree.specs.declared.tokens.ProgramGoal.TheVariants.{Script, Module}
use Rattle.es_outline.specs.declared.mark.Mark.{Mark}
use Rattle.es_outline.specs.declared.mark.Mark.TheVariants as mark
use Rattle.es_outline.specs.declared.mark.Role.{Role}
use Rattle.es_outline.specs.declared.mark.Role.TheVariants as is
use Rattle.es_outline.specs.declared.mark.Part.TheVariants as part
use Rattle.pk_types.specs.declared.facts.Binding.{Binding}
use Rattle.es_scope.specs.declared.found.Declared.{Declared}
use Rattle.es_scope.specs.declared.kinds.DeclarationKind.{DeclarationKind}
use Rattle.es_scope.specs.declared.kinds.DeclarationKind.TheVariants as kind
use Rattle.es_scope.specs.Source.{Source, token_of, name_at}
use Rattle.es_scope.specs.Frames.{declared_at}
use Rattle.es_scope.specs.Asking.{require}
use Rattle.es_scope.specs.Declaring.{default_binding}
use Rattle.es_scope.specs.Telling.{Told, AreScopes, declared_by}
use Rattle.es_parts.specs.declared.enclosing.Surroundings.{Surroundings}
use Rattle.es_parts.specs.Around.{AreAround}
use Rattle.es_parts.specs.Binding.{AreBinders}
use Rattle.es_refusals.specs.Around as around
use Rattle.es_sites.specs.Marks as marks
use Rattle.es_sites.specs.Tables.{entry, part_around, pattern_around}
use Rattle.module_body.specs.declared.touch.Touch.{Touch}
use Rattle.module_body.specs.declared.touch.NewText.{NewText}
use Rattle.module_body.specs.declared.touch.NewText.TheVariants as new_text
use Rattle.es_touches.specs.declared.anew.Anew.{Anew}
use Rattle.es_touches.specs.Touches.{IsNamed}

-- ---- single marks

abbrev pub is_class_name : Option Mark → Bool
is_class_name (Some (mark.Token is.ClassName token)) = true
is_class_name _ = false

abbrev pub begins_default : Option Mark → Bool
begins_default = marks.begins_default

abbrev pub begins_function : Option Mark → Bool
begins_function (Some (mark.Begin part.Function)) = true
begins_function _ = false

abbrev pub initializes : Option Mark → Bool
initializes = marks.initializes

abbrev pub is_iterated : Option Mark → Bool
is_iterated = marks.is_iterated

abbrev pub is_prefix : Option Mark → Bool
is_prefix = around.is_prefix

abbrev pub goes_on : Option Mark → Bool
goes_on = around.goes_on

-- ---- which binding has which name

-- the number is that of a binding of the name, or there is none
pub data IsNumber (bindings : List Binding) (name : List ℕ) : Option ℕ → Type 0 where
  none : ((number : ℕ) → ¬ IsNamed bindings number name) → IsNumber bindings name None
  some : (number : ℕ) → IsNamed bindings number name → IsNumber bindings name (Some number)

-- by the numbers of names, the numbers of the bindings of these names
pub record AreNumbers (texts : List (List ℕ)) (bindings : List Binding) (table : List (Option ℕ)) : Type 0 where
  pub whole : length table ≡ length texts
  pub each : (at : ℕ) (name : List ℕ) (number : Option ℕ) → place_of texts name ≡ Some at → slice_get table at ≡ Some number → IsNumber bindings name number

abbrev pub IsWithin : Option ℕ → ℕ → Type 0
IsWithin at count = IfSome at (λ at. at < count)

abbrev pub noted : Option ℕ → ℕ → List (Option ℕ) → List (Option ℕ)
noted (Some at) number table = slice_set table at (Some number)
noted None number table = table

-- ---- tables

pub record Tables : Type 0 where
  pub source : Source
  pub bindings : List Binding
  pub told : Told
  pub around : List Surroundings
  pub binders : List (Option ℕ)
  pub numbers : List (Option ℕ)
  pub default : Option ℕ

-- they are as long as the text
pub record AreLong (tables : Tables) : Type 0 where
  pub around : length tables.around ≡ length tables.source.marks
  pub binders : length tables.binders ≡ length tables.source.marks

abbrev pub HasBinders : Tables → Type 0
HasBinders tables = AreBinders tables.source.marks tables.binders

-- they are those of the text and the bindings
pub record AreTables (tables : Tables) : Type 0 where
  pub short : length tables.source.marks + 2 < 2 ^ 32
  pub scopes : AreScopes tables.source tables.told
  pub around : AreAround tables.source.marks tables.around
  pub binders : AreBinders tables.source.marks tables.binders
  pub numbers : AreNumbers tables.told.texts tables.bindings tables.numbers
  pub default : IsNumber tables.bindings default_binding tables.default

-- ---- names

-- the binding that has the name at the place
abbrev pub number_of : Tables → ℕ → Option ℕ
number_of tables place = option_and_then (entry tables.numbers) (slice_get tables.told.numbers place)

abbrev pub own_by : Tables → ℕ → Option Declared → Option ℕ
own_by tables place (Some declared) = cond (nat_eq declared.scope 0) (number_of tables place) None
own_by tables place None = None

-- the binding of the top that the name at the place refers to
abbrev pub own_at : Tables → ℕ → Option ℕ
own_at tables place = own_by tables place (declared_by tables.told place)

abbrev pub is_behind : Option ℕ → Option ℕ → Bool
is_behind (Some opening) (Some pattern) = nat_lt opening pattern
is_behind _ _ = false

-- the name that is bound at the place is given a value there
abbrev pub is_given : Tables → ℕ → Bool
is_given tables place =
    initializes (slice_get tables.source.marks (place + 1))
    || (is_iterated (slice_get tables.source.marks (place + 1)) || is_behind (entry tables.binders place) (pattern_around tables.around place))

abbrev pub alone_by : Tables → ℕ → Option DeclarationKind → Bool
alone_by tables place (Some kind.Function) = true
alone_by tables place (Some kind.Var) = not (is_given tables place)
alone_by tables place _ = false

abbrev pub is_alone : Tables → ℕ → Bool
is_alone tables place = alone_by tables place (declared_at tables.source place)

abbrev pub alone : Tables → ℕ → Option ℕ
alone tables place = cond (is_alone tables place) (own_at tables place) None

abbrev pub within_by : Tables → Option Declared → Option ℕ
within_by tables (Some declared) =
    cond (nat_eq declared.scope (declared.place + 2) && is_class_name (slice_get tables.source.marks declared.place)) (own_at tables declared.place) None
within_by tables None = None

-- the binding of a class of the top within which the name at the place refers to it
abbrev pub within_class : Tables → ℕ → Option ℕ
within_class tables place = within_by tables (declared_by tables.told place)

-- ---- what is written

abbrev pub named : ℕ → Option ℕ → Option Anew
named place (Some number) = Some (record { first = place; last = place; text = new_text.Name number })
named place None = None

abbrev pub default_by : Tables → ℕ → Option ℕ → Option Anew
default_by tables place (Some opening) =
    cond (begins_default (slice_get tables.source.marks opening) && begins_function (slice_get tables.source.marks (place + 1)))
    (named (opening + 2) tables.default) None
default_by tables place None = None

abbrev pub default_at : Tables → ℕ → Option Anew
default_at tables place = default_by tables place (part_around tables.around place)

abbrev pub renamed_by : Tables → ℕ → Role → Option ℕ
renamed_by tables place is.Reference = within_class tables place
renamed_by tables place is.Bound = alone tables place
renamed_by tables place is.FunctionName = alone tables place
renamed_by tables place _ = None

abbrev pub renamed : Tables → ℕ → Option Mark → Option Anew
renamed tables place (Some (mark.Token role token)) = named place (renamed_by tables place role)
renamed tables place (Some mark.Unnamed) = default_at tables place
renamed tables place _ = None

abbrev pub renamed_in : ProgramGoal → Tables → ℕ → Option Mark → Option Anew
renamed_in Script tables place found = None
renamed_in Module tables place found = renamed tables place found

abbrev pub is_free_require : Tables → ℕ → Bool
is_free_require tables place = is_none (declared_by tables.told place) && bytes_eq (name_at tables.source place) require

abbrev pub required_at : Tables → ℕ → Option Anew
required_at tables place =
    cond (nat_lt 0 place && (around.is_typeof tables.source place && is_free_require tables place))
    (Some (record { first = place - 1; last = place; text = new_text.Function })) None

abbrev pub required : Tables → ℕ → Option Mark → Option Anew
required tables place (Some (mark.Token is.Reference token)) = required_at tables place
required tables place _ = None

abbrev pub spanned : NewText → Option Token → Option Token → Option Touch
spanned text (Some first) (Some last) = Some (record { start = first.start; end = last.end; text = text })
spanned text _ _ = None

abbrev pub touch_of : Source → Option Anew → Option Touch
touch_of source (Some anew) = spanned anew.text (token_of (slice_get source.marks anew.first)) (token_of (slice_get source.marks anew.last))
touch_of source None = None

-- the touch at the place
unfoldable pub touch_at : Tables → ℕ → Option Touch
touch_at tables place =
    option_or (touch_of tables.source (required tables place (slice_get tables.source.marks place)))
    (touch_of tables.source (renamed_in tables.source.goal tables place (slice_get tables.source.marks place)))
