-- Places that are noted of parts.
use Rattle.std.specs.Prelude.{◌≡◌, ℕ, if◌then◌else◌, nat_eq, List, Option, Some, None}
use Rattle.std.specs.Map.{lookup}

-- parts, told by the places where they begin, each with a place
abbrev pub Entries : Type 0
Entries = List (ℕ × ℕ)

abbrev pub at : Entries → ℕ → Option ℕ
at entries part = lookup (nat_eq part) entries

abbrev pub noted_at : Option ℕ → ℕ → ℕ → Option ℕ → Option ℕ
noted_at (Some noted) place part was = if nat_eq noted part then Some place else was
noted_at None place part was = was

-- the place is noted of the part, if there is one
abbrev pub Notes : Option ℕ → ℕ → Entries → Entries → Type 0
Notes noted place old new = (part : ℕ) → at new part ≡ noted_at noted place part (at old part)
