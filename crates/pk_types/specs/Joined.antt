-- What several `export *` of a module lead to.
use Rattle.std.specs.Prelude.{Bool, true, false, ◌&&◌, if◌then◌else◌, nat_eq}
use Rattle.std.specs.Str.{bytes_eq}
use Rattle.pk_types.specs.declared.found.Found.{Found}
use Rattle.pk_types.specs.declared.found.Found.TheVariants.{Binding, Namespace, Foreign, Nothing, Ambiguous}

abbrev pub is_same : Found → Found → Bool
is_same (Binding owner binding) (Binding other bound) = nat_eq owner other && nat_eq binding bound
is_same (Namespace number) (Namespace other) = nat_eq number other
is_same (Foreign number name) (Foreign other named) = nat_eq number other && bytes_eq name named
is_same Nothing Nothing = true
is_same Ambiguous Ambiguous = true
is_same _ _ = false

-- what they lead to so far, and what one more leads to: that one finds nothing is no conflict, and neither are two that find the same
abbrev pub joined : Found → Found → Found
joined Nothing found = found
joined so_far Nothing = so_far
joined so_far found = if is_same so_far found then so_far else Ambiguous
