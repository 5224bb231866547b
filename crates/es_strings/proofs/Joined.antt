-- The value of code points, one after the other.
use Rattle.std.proofs.Common.{◌≡◌, ◌+◌, ◌-◌, ◌*◌, ◌++◌, ℕ, Bool, true, false, List, [], ◌∷◌, refl, sym, ap, ◌∙◌, append_assoc, append-nil}
use Rattle.es_tree.specs.Names.{all_encoded, encoded, is_high_surrogate, is_low_surrogate, joined}
use Rattle.es_strings.specs.Decoding.{value_of}

alone : (c : ℕ) (rest : List ℕ) → is_high_surrogate c ≡ false → joined (c ∷ rest) ≡ c ∷ joined rest
unfolding joined
alone c [] low = refl
alone c (d ∷ rest) low = rw low refl

pub value_alone : (c : ℕ) (rest : List ℕ) → is_high_surrogate c ≡ false → value_of (c ∷ rest) ≡ encoded c ++ value_of rest
unfolding all_encoded
value_alone c rest low = rw (alone c rest low) refl

pub begins : (before after : List ℕ) (c : ℕ) → is_high_surrogate c ≡ false → after ≡ before ++ encoded c → (rest : List ℕ)
    → before ++ value_of (c ∷ rest) ≡ after ++ value_of rest
begins before after c low put rest = rw put (ap (λ xs. before ++ xs) (value_alone c rest low) ∙ sym (append_assoc before (encoded c) (value_of rest)))

pub waits_on : (before : List ℕ) (c : ℕ) (rest : List ℕ) → before ++ value_of (c ∷ rest) ≡ before ++ value_of (c ∷ rest)
waits_on before c rest = refl

pub paired : (before after : List ℕ) (h c code : ℕ) → is_high_surrogate h ≡ true → is_low_surrogate c ≡ true
    → code ≡ 0x10000 + (h - 0xD800) * 1024 + (c - 0xDC00) → after ≡ before ++ encoded code → (rest : List ℕ)
    → before ++ value_of (h ∷ c ∷ rest) ≡ after ++ value_of rest
unfolding joined all_encoded
paired before after h c code high low is put rest = rw (put, high, low, is) (sym (append_assoc before _ (value_of rest)))

pub parted : (before middle : List ℕ) (h c : ℕ) → is_low_surrogate c ≡ false → middle ≡ before ++ encoded h → (rest : List ℕ)
    → before ++ value_of (h ∷ c ∷ rest) ≡ middle ++ value_of (c ∷ rest)
unfolding joined all_encoded
parted before middle h c low put rest = by_high (is_high_surrogate h) refl
  where
    by_high : (b : Bool) → is_high_surrogate h ≡ b → before ++ value_of (h ∷ c ∷ rest) ≡ middle ++ value_of (c ∷ rest)
    by_high true e = rw (put, e, low) (sym (append_assoc before (encoded h) (value_of (c ∷ rest))))
    by_high false e = rw (put, e) (sym (append_assoc before (encoded h) (value_of (c ∷ rest))))

pub last_alone : (before after : List ℕ) (c : ℕ) → after ≡ before ++ encoded c → after ≡ before ++ value_of (c ∷ [])
unfolding joined all_encoded
last_alone before after c put = put ∙ ap (λ xs. before ++ xs) (sym (append-nil (encoded c)))

pub none_waits : (before : List ℕ) → before ≡ before ++ value_of []
unfolding joined all_encoded
none_waits before = sym (append-nil before)
