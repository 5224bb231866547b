-- What is not bundled at a place, as it is looked up: the first reason that is met, of those of the token there.
use Rattle.std.specs.Prelude.{◌≡◌, ℕ, ◌+◌, ◌-◌, ◌<◌, Bool, true, false, not, if◌then◌else◌, nat_eq, List, Option, Some, None, is_some, length, take, slice_get, codes}
use Rattle.std.specs.Str.{bytes_eq}
use Rattle.pk_types.specs.Numbers.{has}
use Rattle.es_tree.specs.declared.tokens.ProgramGoal.{ProgramGoal}
use Rattle.es_tree.specs.declared.tokens.ProgramGoal.TheVariants.{Script, Module}
use Rattle.es_outline.specs.declared.mark.Mark.{Mark}
use Rattle.es_outline.specs.declared.mark.Mark.TheVariants as mark
use Rattle.es_outline.specs.declared.mark.Role.{Role}
use Rattle.es_outline.specs.declared.mark.Role.TheVariants as is
use Rattle.es_scope.specs.declared.kinds.Refusal.{Refusal}
use Rattle.es_scope.specs.declared.kinds.Refusal.TheVariants as refusal
use Rattle.es_scope.specs.Source.{Source, name_at}
use Rattle.es_scope.specs.Frames.{declared_at}
use Rattle.es_scope.specs.Named.{is_naming}
use Rattle.es_scope.specs.Refused.{reserved_start}
use Rattle.es_scope.specs.Telling.{Told}
use Rattle.es_parts.specs.declared.enclosing.Surroundings.{Surroundings}
use Rattle.es_asks.specs.Free.{is_free, require_end}
use Rattle.es_asks.specs.Texts.{import_end, has_no_pair, asks_for_json}
use Rattle.es_refusals.specs.Around.{is_dot, is_typeof, goes_on_as_member, called_from}

-- the name begins like those that bundles use
abbrev pub is_reserved : List ℕ → Bool
is_reserved name = bytes_eq reserved_start (take (length reserved_start) name)

-- a name of this module stands at the place
abbrev pub occurs_by : Source → List ℕ → ℕ → Option Mark → Bool
occurs_by source forwarded place (Some (mark.Token is.Reference token)) = true
occurs_by source forwarded place (Some (mark.Token is.Exported token)) = not (has forwarded place)
occurs_by source forwarded place _ = is_some (declared_at source place)

abbrev pub occurs : Source → List ℕ → ℕ → Bool
occurs source forwarded place = occurs_by source forwarded place (slice_get source.marks place)

abbrev pub await_by : Option Surroundings → Option Refusal
await_by (Some around) = if around.in_function then None else Some refusal.TopLevelAwait
await_by None = None

abbrev pub import_refusal : Source → ℕ → Option Refusal
import_refusal source place = if is_some (import_end source place) then None else Some refusal.ComputedImport

abbrev pub label_refusal : Source → ℕ → Option Refusal
label_refusal source place = if is_reserved (name_at source place) then Some refusal.ReservedName else None

-- the attributes of the request before the place
abbrev pub attribute_refusal : Source → ℕ → Option Refusal
attribute_refusal source place =
    if nat_eq place 0 then None
    else (if has_no_pair source (place - 1) then None
    else (if asks_for_json source (place - 1) then None else Some refusal.ImportAttribute))

-- of a free `require`
abbrev pub require_by : Source → Told → List ℕ → ℕ → ProgramGoal → Option Refusal
require_by source told forwarded place Module = if is_typeof source place then None else Some refusal.RequireInModule
require_by source told forwarded place Script =
    if goes_on_as_member source (place + 1) then Some refusal.RequireMember
    else (if is_typeof source place then None
    else (if is_some (require_end source told forwarded place) then None else Some refusal.ComputedRequire))

abbrev pub eval_refusal : Source → ℕ → Option Refusal
eval_refusal source place = if called_from source.marks place place then Some refusal.Eval else None

abbrev pub is_hot : Source → ℕ → Bool
is_hot source place = if is_dot (slice_get source.marks (place + 1)) then bytes_eq (name_at source (place + 2)) (codes "hot") else false

abbrev pub module_refusal : Source → ℕ → Option Refusal
module_refusal source place = if is_hot source place then Some refusal.ModuleHot else None

-- of a free name
abbrev pub free_refusal : Source → Told → List ℕ → ℕ → List ℕ → Option Refusal
free_refusal source told forwarded place name =
    if bytes_eq name (codes "require") then require_by source told forwarded place source.goal
    else (if bytes_eq name (codes "eval") then eval_refusal source place
    else (if bytes_eq name (codes "module") then module_refusal source place else None))

abbrev pub is_reserved_here : Source → List ℕ → ℕ → Bool
is_reserved_here source forwarded place = if is_reserved (name_at source place) then occurs source forwarded place else false

-- of any name
abbrev pub name_refusal : Source → Told → List ℕ → ℕ → Option Refusal
name_refusal source told forwarded place =
    if is_reserved_here source forwarded place then Some refusal.ReservedName
    else (if is_free source told forwarded place then free_refusal source told forwarded place (name_at source place) else None)

-- of a token that is no such name
abbrev pub other_refusal : Source → List Surroundings → ℕ → Role → Option Refusal
other_refusal source table place is.Await = await_by (slice_get table place)
other_refusal source table place is.ImportCall = import_refusal source place
other_refusal source table place is.ImportMeta = Some refusal.ImportMeta
other_refusal source table place is.With = Some refusal.With
other_refusal source table place is.Label = label_refusal source place
other_refusal source table place is.Attributes = attribute_refusal source place
other_refusal source table place _ = None

abbrev pub token_refusal : Source → Told → List Surroundings → List ℕ → ℕ → Role → Option Refusal
token_refusal source told table forwarded place role =
    if is_naming role then name_refusal source told forwarded place else other_refusal source table place role

abbrev pub refusal_by : Source → Told → List Surroundings → List ℕ → ℕ → Option Mark → Option Refusal
refusal_by source told table forwarded place (Some (mark.Token role token)) = token_refusal source told table forwarded place role
refusal_by source told table forwarded place _ = None

abbrev pub refusal_at : Source → Told → List Surroundings → List ℕ → ℕ → Option Refusal
refusal_at source told table forwarded place = refusal_by source told table forwarded place (slice_get source.marks place)

-- nothing is refused at the places before
abbrev pub IsClear : Source → Told → List Surroundings → List ℕ → ℕ → Type 0
IsClear source told table forwarded limit = (place : ℕ) → place < limit → refusal_at source told table forwarded place ≡ None
