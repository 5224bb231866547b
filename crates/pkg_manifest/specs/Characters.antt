-- White space and strings of a JSON text, by RFC 8259. A place is what is left of the text there, and a rule ties the place where something begins to the place behind it.
use Rattle.std.specs.Prelude.{◌≡◌, ◌≢◌, ◌≤◌, ℕ, List, [], ◌∷◌, ◌++◌, true, false, Some}
use Rattle.std.specs.Char.{encode_utf8}
use Rattle.json.specs.Word.{is_space}
use Rattle.json.specs.Text.{code_unit, short_escape, is_high_surrogate, is_low_surrogate, surrogate_pair}

-- the byte c stands there
abbrev pub ByteAt : ℕ → List ℕ → List ℕ → Type 0
ByteAt c p q = p ≡ c ∷ q

-- these bytes stand there
abbrev pub WordAt : List ℕ → List ℕ → List ℕ → Type 0
WordAt bytes p q = p ≡ bytes ++ q

-- any number of spaces, tabs, line feeds and carriage returns
pub data BlankAt : List ℕ → List ℕ → Type 0 where
  no_blank : {p : List ℕ} → BlankAt p p
  blank : {p a q : List ℕ} (c : ℕ) → is_space c ≡ true → ByteAt c p a → BlankAt a q → BlankAt p q

-- `\u` and four hexadecimal digits, which spell the code unit u
pub data UnitAt : List ℕ → ℕ → List ℕ → Type 0 where
  unit : {p q : List ℕ} {u : ℕ} (a b c d : ℕ) → p ≡ 92 ∷ 117 ∷ a ∷ b ∷ c ∷ d ∷ q → code_unit a b c d ≡ Some u → UnitAt p u q

-- The rest of a string with its closing quote, and the value of that rest in UTF-8. No byte below a space stands in a string as it is, and a surrogate stands only in a pair.
pub data CharsAt : List ℕ → List ℕ → List ℕ → Type 0 where
  quote : {p q : List ℕ} → ByteAt 34 p q → CharsAt p [] q
  plain : {p a s q : List ℕ} (c : ℕ) → ByteAt c p a → 32 ≤ c → c ≢ 34 → c ≢ 92 → CharsAt a s q → CharsAt p (c ∷ s) q
  short : {p a s q : List ℕ} (e c : ℕ) → p ≡ 92 ∷ e ∷ a → short_escape e ≡ Some c → CharsAt a s q → CharsAt p (c ∷ s) q
  single : {p a s q : List ℕ} (u : ℕ) → UnitAt p u a → is_high_surrogate u ≡ false → is_low_surrogate u ≡ false → CharsAt a s q → CharsAt p (encode_utf8 u ++ s) q
  pair : {p a b s q : List ℕ} (u v : ℕ) → UnitAt p u a → is_high_surrogate u ≡ true → UnitAt a v b → is_low_surrogate v ≡ true → CharsAt b s q → CharsAt p (encode_utf8 (surrogate_pair u v) ++ s) q
