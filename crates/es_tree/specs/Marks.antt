-- Punctuators (ECMA-262, clause 12.8), the longest first.
use Rattle.std.specs.Prelude.{ℕ, Bool, ◌||◌, ◌&&◌, not, ◌==◌, if◌then◌else◌, List}
use Rattle.es_tree.specs.Characters.{is_digit}
use Rattle.es_tree.specs.Utf8.{byte}

-- `{` `}` `(` `)` `[` `]` `.` `;` `,` `<` `>` `+` `-` `*` `/` `%` `&` `|` `^` `!` `~` `?` `:` `=`
unfoldable pub is_single : ℕ → Bool
is_single a =
    a == 0x7B || a == 0x7D || a == 0x28 || a == 0x29 || a == 0x5B || a == 0x5D || a == 0x2E || a == 0x3B || a == 0x2C || a == 0x3C || a == 0x3E || a == 0x2B
    || a == 0x2D || a == 0x2A || a == 0x2F || a == 0x25 || a == 0x26 || a == 0x7C || a == 0x5E || a == 0x21 || a == 0x7E || a == 0x3F || a == 0x3A || a == 0x3D

-- `+` `-` `<` `>` `=` `*` `&` `|` `?` are doubled
unfoldable pub is_doubled : ℕ → Bool
is_doubled a = a == 0x2B || a == 0x2D || a == 0x3C || a == 0x3E || a == 0x3D || a == 0x2A || a == 0x26 || a == 0x7C || a == 0x3F

-- behind `<` `>` `=` `!` `+` `-` `*` `/` `%` `&` `|` `^` stands `=`
unfoldable pub takes_equals : ℕ → Bool
takes_equals a =
    a == 0x3C || a == 0x3E || a == 0x3D || a == 0x21 || a == 0x2B || a == 0x2D || a == 0x2A || a == 0x2F || a == 0x25 || a == 0x26 || a == 0x7C || a == 0x5E

-- with `=>`, and with `?.`, which stands before no digit
unfoldable pub is_pair : ℕ → ℕ → ℕ → Bool
is_pair a b c = a == b && is_doubled a || b == 0x3D && takes_equals a || a == 0x3D && b == 0x3E || a == 0x3F && b == 0x2E && not (is_digit 10 c)

-- `**=` `<<=` `>>=` `&&=` `||=` `??=`
unfoldable pub doubled_takes_equals : ℕ → Bool
doubled_takes_equals a = a == 0x2A || a == 0x3C || a == 0x3E || a == 0x26 || a == 0x7C || a == 0x3F

-- with `===`, `!==`, `>>>` and `...`
unfoldable pub is_triple : ℕ → ℕ → ℕ → Bool
is_triple a b c =
    c == 0x3D && (a == b && doubled_takes_equals a || b == 0x3D && (a == 0x3D || a == 0x21)) || a == b && b == c && (a == 0x3E || a == 0x2E)

-- `>>>=`
abbrev pub is_quadruple : ℕ → ℕ → ℕ → ℕ → Bool
is_quadruple a b c d = a == 0x3E && b == 0x3E && c == 0x3E && d == 0x3D

unfoldable pub mark_length : List ℕ → ℕ
mark_length text =
    let a = byte text 0 in let b = byte text 1 in let c = byte text 2 in
    if is_quadruple a b c (byte text 3) then 4
    else (if is_triple a b c then 3
    else (if is_pair a b c then 2
    else (if is_single a then 1 else 0)))
