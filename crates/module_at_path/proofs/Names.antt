-- What a name says whichever manifest is the nearest.
use Rattle.std.proofs.Common.{◌≡◌, ◌≢◌, Bool, true, false, Option, Some, None, refl, if◌then◌else◌}
use Rattle.pk_types.specs.declared.facts.NameKind.{NameKind}
use Rattle.pk_types.specs.declared.facts.NameKind.TheVariants.{Module, Common, Either, Json}

-- by the manifest, and by which endings the name has
abbrev by_ends : Bool → Bool → Bool → Bool → Bool → Option NameKind
by_ends is_module js mjs cjs json =
    if js then Some (if is_module then Module else Either)
    else (if mjs then Some Module
    else (if cjs then Some Common
    else (if json then Some Json else None)))

pub no_kind : (is_module js mjs cjs json : Bool) → by_ends false js mjs cjs json ≡ None → by_ends is_module js mjs cjs json ≡ None
no_kind is_module true mjs cjs json none = absurd cc
no_kind is_module false mjs cjs json none = none

-- another manifest makes another kind, and neither or both are JSON
pub record IsLike (named : NameKind) (other : Option NameKind) : Type 0 where
  pub kind : NameKind
  pub is : other ≡ Some kind
  pub program : named ≢ Json → kind ≢ Json
  pub back : kind ≢ Json → named ≢ Json

pub alike : (is_module js mjs cjs json : Bool) (named : NameKind) → by_ends false js mjs cjs json ≡ Some named → IsLike named (by_ends is_module js mjs cjs json)
alike true true mjs cjs json named is = record { kind = Module; is = refl; program = λ _ same. absurd cc; back = λ _ same. absurd cc }
alike false true mjs cjs json named is = record { kind = Either; is = refl; program = λ _ same. absurd cc; back = λ _ same. absurd cc }
alike is_module false mjs cjs json named is = record { kind = named; is = is; program = λ program. program; back = λ program. program }
