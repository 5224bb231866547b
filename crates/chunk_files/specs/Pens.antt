-- What has been written: the text, where it is kept, and its size.
use Rattle.std.specs.Prelude.{ℕ, ◌+◌, ◌-◌, ◌^◌, min, Bool, if◌then◌else◌, List, [], ◌++◌, length}

pub record Penned : Type 0 where
  pub keeps : Bool
  pub text : List ℕ
  pub size : ℕ

-- the last value of a size
abbrev pub last_size : ℕ
last_size = 2 ^ 64 - 1

-- a length as a size: itself, or the last value where it is larger
abbrev pub size_of : ℕ → ℕ
size_of count = min count last_size

-- nothing yet
abbrev pub blank : Bool → Penned
blank keeps = record { keeps = keeps; text = []; size = 0 }

-- the same with this text behind it: the size grows by what there is room for
unfoldable pub penned : Penned → List ℕ → Penned
penned pen text = record {
  keeps = pen.keeps;
  text = if pen.keeps then pen.text ++ text else pen.text;
  size = pen.size + min (length text) (last_size - pen.size);
}
