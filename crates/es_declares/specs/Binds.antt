-- What the top declares at places, as it is looked up, and the bindings that are gathered.
use Rattle.std.specs.Prelude.{◌≡◌, ℕ, Bool, false, nat_eq, if◌then◌else◌, List, [], ◌∷◌, ◌++◌, Option, Some, None, length, slice_get, slice_set}
use Rattle.std.specs.Str.{bytes_eq}
use Rattle.pk_text.specs.Places.{place_of}
use Rattle.pk_types.specs.declared.facts.Binding.{Binding}
use Rattle.pk_types.specs.declared.facts.BindKind.{BindKind}
use Rattle.pk_types.specs.declared.facts.BindKind.TheVariants as bind
use Rattle.es_scope.specs.declared.kinds.DeclarationKind.{DeclarationKind}
use Rattle.es_scope.specs.declared.kinds.DeclarationKind.TheVariants as kind
use Rattle.es_scope.specs.Firsts.{told}
use Rattle.es_scope.specs.Telling.{Told}
use Rattle.es_scope.specs.Known.{Known}
use Rattle.es_scope.specs.Source.{Source}
use Rattle.es_scope.specs.Listed.{AreThose}
use Rattle.es_scope.specs.Declaring.{IsBinding, default_binding}
use Rattle.es_declares.specs.Numbering.{IsBindingNumber}

abbrev pub is_place : ℕ → Option ℕ → Bool
is_place place (Some first) = nat_eq first place
is_place place None = false

-- the first declaration at the top of the name of a number
abbrev pub first_of : Told → Option ℕ → Option ℕ
first_of told_of (Some number) = told told_of.firsts 0 number
first_of told_of None = None

-- the top declares the name at the place there first
abbrev pub is_first : Told → ℕ → Bool
is_first told_of place = is_place place (first_of told_of (slice_get told_of.numbers place))

abbrev pub bind_kind : DeclarationKind → Option BindKind
bind_kind kind.Var = Some bind.Var
bind_kind kind.Let = Some bind.Let
bind_kind kind.Const = Some bind.Const
bind_kind kind.Class = Some bind.Class
bind_kind kind.Function = Some bind.Function
bind_kind _ = None

abbrev pub bind_kind_of : Option DeclarationKind → Option BindKind
bind_kind_of (Some how) = bind_kind how
bind_kind_of None = None

abbrev pub own_if : Bool → Option DeclarationKind → Option BindKind
own_if is_first found = if is_first then bind_kind_of found else None

-- bindings, the numbers of these by those of names, and of the name of what has none
pub record Bound : Type 0 where
  pub items : List Binding
  pub numbers : List (Option ℕ)
  pub default : Option ℕ

abbrev pub put_at : Option ℕ → Option ℕ → List (Option ℕ) → List (Option ℕ)
put_at (Some at) number numbers = slice_set numbers at number
put_at None number numbers = numbers

-- once the number is noted for the name
abbrev pub with_number : List (List ℕ) → Bound → List ℕ → ℕ → Bound
with_number texts bound name number = record {
  items = bound.items;
  numbers = put_at (place_of texts name) (Some number) bound.numbers;
  default = if bytes_eq name default_binding then Some number else bound.default;
}

abbrev pub with_item : Bound → Binding → Bound
with_item bound binding = record { items = bound.items ++ binding ∷ []; numbers = bound.numbers; default = bound.default }

abbrev pub with_binding : List (List ℕ) → Bound → Option Binding → Bound
with_binding texts bound (Some binding) = with_item (with_number texts bound binding.name (length bound.items)) binding
with_binding texts bound None = bound

-- what is known of bindings alone
abbrev pub known_bindings : List Binding → Known
known_bindings bindings = record { requests = []; imports = []; bindings = bindings }

-- the bindings of a text, with their numbers
pub record AreBound (source : Source) (texts : List (List ℕ)) (bound : Bound) : Type 0 where
  pub those : AreThose (IsBinding source) bound.items
  pub whole : length bound.numbers ≡ length texts
  pub numbers : (at : ℕ) (name : List ℕ) (number : Option ℕ) → place_of texts name ≡ Some at → slice_get bound.numbers at ≡ Some number
      → IsBindingNumber (known_bindings bound.items) name number
  pub default : IsBindingNumber (known_bindings bound.items) default_binding bound.default
