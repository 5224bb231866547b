-- Names that hold bytes.
use Rattle.std.proofs.Common.{◌≡◌, ℕ, Bool, true, false, cond, List, Option, refl, sym, ap, append-nil}
use mathlib.Core.Path.{fun_ext}
use Rattle.std.specs.Str.{bytes_eq}
use Rattle.std.specs.HashMap.{HashMap, Updates}
use Rattle.std.proofs.lemmas.Slice.Eq.{bytes_eq-Decides}
use Rattle.pk_base.specs.FileTree.{FileTree}
use Rattle.pk_base.specs.Memory.{named}
use Rattle.pk_base.specs.Outside.{set_at, ChangesOnly, AddsPrefix}

pick : (b : Bool) (x y : Option (List ℕ)) → (b ≡ true → y ≡ x) → y ≡ cond b x y
pick true x y h = h refl
pick false x y h = refl

-- to put what is there changes nothing
pub set_same : (name : List ℕ) (f : FileTree) → f ≡ set_at name (f name) f
set_same name f = fun_ext (λ other. pick (bytes_eq name other) (f name) (f other) (λ e. sym (ap f ((bytes_eq-Decides name other).0 e))))

pub keeps : (f : FileTree) (name : List ℕ) → ChangesOnly f f name
keeps f name = record { value = f name; is = set_same name f }

-- what a map says of a change at one key, as functions
pub updated : {S : Type 0} (old new : HashMap (List ℕ) (List ℕ) S) (name : List ℕ) (value : Option (List ℕ)) → Updates bytes_eq old new name value → named new.entries ≡ set_at name value (named old.entries)
updated old new name value h = fun_ext (λ other. h.0 other)

-- no byte was added
pub adds_none : (xs bytes : List ℕ) → AddsPrefix xs xs bytes
adds_none xs bytes = record { count = 0; is = sym (append-nil xs) }
