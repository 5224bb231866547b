-- The module that a found thing belongs to.
use Rattle.std.specs.Prelude.{ℕ, Option, Some, None}
use Rattle.pk_types.specs.declared.found.Found.{Found}
use Rattle.pk_types.specs.declared.found.Found.TheVariants.{Binding, Namespace, Foreign, Nothing, Ambiguous}

abbrev pub owner_of : Found → Option ℕ
owner_of (Binding number binding) = Some number
owner_of (Namespace number) = Some number
owner_of (Foreign number name) = Some number
owner_of Nothing = None
owner_of Ambiguous = None
