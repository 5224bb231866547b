-- Numbers of a JSON text, by RFC 8259.
use Rattle.std.specs.Prelude.{◌≡◌, ◌≢◌, ◌⊎◌, ℕ, List, true}
use Rattle.std.specs.Char.{is_ascii_digit}
use Rattle.pkg_manifest.specs.Characters.{ByteAt}

-- one or more digits
pub data DigitsAt : List ℕ → List ℕ → Type 0 where
  last_digit : {p q : List ℕ} (d : ℕ) → ByteAt d p q → is_ascii_digit d ≡ true → DigitsAt p q
  digit : {p a q : List ℕ} (d : ℕ) → ByteAt d p a → is_ascii_digit d ≡ true → DigitsAt a q → DigitsAt p q

pub data MinusAt : List ℕ → List ℕ → Type 0 where
  no_minus : {p : List ℕ} → MinusAt p p
  minus : {p q : List ℕ} → ByteAt 45 p q → MinusAt p q

-- a 0, or digits of which the first is no 0
pub data WholeAt : List ℕ → List ℕ → Type 0 where
  zero : {p q : List ℕ} → ByteAt 48 p q → WholeAt p q
  digits : {p a q : List ℕ} (d : ℕ) → ByteAt d p a → d ≢ 48 → DigitsAt p q → WholeAt p q

pub data FractionAt : List ℕ → List ℕ → Type 0 where
  no_fraction : {p : List ℕ} → FractionAt p p
  fraction : {p a q : List ℕ} → ByteAt 46 p a → DigitsAt a q → FractionAt p q

pub data SignAt : List ℕ → List ℕ → Type 0 where
  no_sign : {p : List ℕ} → SignAt p p
  sign : {p q : List ℕ} (c : ℕ) → ByteAt c p q → (c ≡ 45) ⊎ (c ≡ 43) → SignAt p q

-- `e` or `E`, a sign that may be left out, and digits
pub data ExponentAt : List ℕ → List ℕ → Type 0 where
  no_exponent : {p : List ℕ} → ExponentAt p p
  exponent : {p a b q : List ℕ} (c : ℕ) → ByteAt c p a → (c ≡ 101) ⊎ (c ≡ 69) → SignAt a b → DigitsAt b q → ExponentAt p q

pub data NumberAt : List ℕ → List ℕ → Type 0 where
  number : {p a b c q : List ℕ} → MinusAt p a → WholeAt a b → FractionAt b c → ExponentAt c q → NumberAt p q
