-- What kinds of requests there are, and what a bare one names.
use Rattle.std.specs.Prelude.{ℕ, Bool, ◌&&◌, ◌||◌, ◌==◌, ◌+◌, List, [], ◌∷◌, codes, nat_eq, length, take, drop, if◌then◌else◌}
use Rattle.std.specs.List.{starts_with, ends_with, before_first}
use Rattle.std.specs.Str.{bytes_eq}
use Rattle.pk_base.specs.Paths.{is_slash}
use Rattle.node_resolve.specs.declared.request.RequestKind.{RequestKind}
use Rattle.node_resolve.specs.declared.request.RequestKind.TheVariants.{Relative, Nowhere, Import, BadImport, Bare}

abbrev pub is_relative : List ℕ → Bool
is_relative request = bytes_eq request (codes ".") || bytes_eq request (codes "..") || starts_with nat_eq request (codes "./") || starts_with nat_eq request (codes "../")

-- a relative request that can't name a file
abbrev pub names_folder : List ℕ → Bool
names_folder request = bytes_eq request (codes ".") || bytes_eq request (codes "..") || ends_with nat_eq request (codes "/") || ends_with nat_eq request (codes "/.") || ends_with nat_eq request (codes "/..")

abbrev pub is_nowhere : List ℕ → Bool
is_nowhere request = bytes_eq request [] || starts_with nat_eq request (codes "/")

abbrev pub is_bad_import : List ℕ → Bool
is_bad_import request = bytes_eq request (codes "#") || starts_with nat_eq request (codes "#/")

abbrev pub kind_of : List ℕ → RequestKind
kind_of request =
    if is_relative request then Relative
    else (if is_nowhere request then Nowhere
    else (if is_bad_import request then BadImport
    else (if starts_with nat_eq request (codes "#") then Import else Bare)))

-- a text up to its first slash
abbrev pub first_part : List ℕ → List ℕ
first_part = before_first is_slash

-- how many bytes the first part has, and the first two
abbrev pub one_len : List ℕ → ℕ
one_len request = length (first_part request)

abbrev pub two_len : List ℕ → ℕ
two_len request = one_len request + 1 + one_len (drop (one_len request + 1) request)

abbrev pub is_scoped : List ℕ → Bool
is_scoped request = starts_with nat_eq request (codes "@")

-- a scope alone names no package
abbrev pub is_scope_alone : List ℕ → Bool
is_scope_alone request = is_scoped request && (one_len request == length request)

-- how many bytes the package's name has: the first part, and with a scope the first two
abbrev pub name_len : List ℕ → ℕ
name_len request = if is_scoped request then two_len request else one_len request

-- the package's name
abbrev pub name_of : List ℕ → List ℕ
name_of request = take (name_len request) request

-- the key for `exports`: `.` and the rest of the request
abbrev pub key_of : List ℕ → List ℕ
key_of request = 46 ∷ drop (name_len request) request
