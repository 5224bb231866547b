-- Requests that have numbers, as a table of the numbers by texts.
use Rattle.std.specs.Prelude.{◌≡◌, ℕ, Bool, true, false, if◌then◌else◌, List, [], ◌∷◌, ◌++◌, Option, Some, None, slice_get, unwrap_or}
use Rattle.std.specs.List.{Contains}
use Rattle.std.specs.Map.{lookup}
use Rattle.std.specs.Str.{bytes_eq}
use Rattle.pk_types.specs.declared.form.Form.{Form}
use Rattle.pk_types.specs.declared.form.Form.TheVariants as form
use Rattle.pk_types.specs.declared.facts.Request.{Request}
use Rattle.es_asks.specs.declared.requests.Manner.{Manner}
use Rattle.es_asks.specs.declared.requests.Manner.TheVariants as manner
use Rattle.es_asks.specs.declared.requests.Numbers.{Numbers}

abbrev pub form_of : Manner → Form
form_of manner.Require = form.Require
form_of _ = form.Import

abbrev pub is_json : Manner → Bool
is_json manner.Json = true
is_json _ = false

-- the request of a text that is made like this
abbrev pub request_of : List ℕ → Manner → Request
request_of text how = record { text = text; form = form_of how; json = is_json how }

abbrev pub no_number : Numbers
no_number = record { imported = None; json = None; required = None }

abbrev pub number_in : Manner → Numbers → Option ℕ
number_in manner.Import numbers = numbers.imported
number_in manner.Json numbers = numbers.json
number_in manner.Require numbers = numbers.required

abbrev pub with_number : Manner → ℕ → Numbers → Numbers
with_number manner.Import number numbers = record { imported = Some number; json = numbers.json; required = numbers.required }
with_number manner.Json number numbers = record { imported = numbers.imported; json = Some number; required = numbers.required }
with_number manner.Require number numbers = record { imported = numbers.imported; json = numbers.json; required = Some number }

abbrev pub Entries : Type 0
Entries = List (List ℕ × Numbers)

abbrev pub number_told : Manner → Option Numbers → Option ℕ
number_told how None = None
number_told how (Some numbers) = number_in how numbers

-- what is told of a text and a manner
abbrev pub told : Entries → List ℕ → Manner → Option ℕ
told entries text how = number_told how (lookup (bytes_eq text) entries)

-- the number is told of these
abbrev pub Tells : List ℕ → Manner → ℕ → Entries → Entries → Type 0
Tells text how number old new = (other : List ℕ) → lookup (bytes_eq other) new
    ≡ (if bytes_eq text other then Some (with_number how number (unwrap_or (lookup (bytes_eq text) old) no_number)) else lookup (bytes_eq other) old)

-- the number of the request among others; none if it is not one of them
pub data IsNumbered (requests : List Request) (request : Request) : Option ℕ → Type 0 where
  none : ¬ Contains requests request → IsNumbered requests request None
  some : (number : ℕ) → slice_get requests number ≡ Some request → IsNumbered requests request (Some number)

-- each request has its number in the table
abbrev pub AreKeyed : Entries → List Request → Type 0
AreKeyed entries requests = (text : List ℕ) (how : Manner) → IsNumbered requests (request_of text how) (told entries text how)

-- items once one is noted: they stay if they have it, and else it goes last
pub data Notes {A : Type 0} (old : List A) (item : A) : List A → Type 0 where
  known : Contains old item → Notes old item old
  fresh : ¬ Contains old item → Notes old item (old ++ item ∷ [])

-- the request is noted, and has this number
pub record Takes (old new : List Request) (request : Request) (number : ℕ) : Type 0 where
  pub notes : Notes old request new
  pub stands : slice_get new number ≡ Some request
