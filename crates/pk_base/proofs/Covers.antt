-- Folders above a path.
use Rattle.std.proofs.Common.{◌≡◌, ℕ, ◌<◌, ◌≤◌, Bool, true, false, ◌&&◌, ◌||◌, ◌==◌, List, [], ◌∷◌, ◌++◌, length, get_or, nat_eq, refl, sym, ap, ◌∙◌, arith}
use Rattle.std.specs.List.{starts_with}
use Rattle.std.specs.Str.{bytes_eq}
use Rattle.pk_base.specs.Outside.{is_under}
use Rattle.std.proofs.lemmas.Grind.{common_steps}

swap_and : (a b c : Bool) → (a && (b && c)) ≡ (b && (a && c))
swap_and true b c = refl
swap_and false true c = refl
swap_and false false c = refl

and_false : (a : Bool) → (a && false) ≡ false
and_false true = refl
and_false false = refl

-- a path that is no longer than a folder does not stand beneath it
pub short : (path folder : List ℕ) → length path ≤ length folder → starts_with nat_eq path (folder ++ 47 ∷ []) ≡ false
short [] [] h = refl
short [] (x ∷ xs) h = refl
short (c ∷ cs) [] h = absurd (omega arith)
short (c ∷ cs) (x ∷ xs) h = ap (λ b. nat_eq x c && b) (short cs xs (omega arith)) ∙ and_false (nat_eq x c)

-- a longer path stands beneath a folder where it begins with it and goes on with a slash
pub beneath : (path folder : List ℕ) → length folder < length path → starts_with nat_eq path (folder ++ 47 ∷ []) ≡ (nat_eq (get_or path (length folder) 0) 47 && starts_with nat_eq path folder)
beneath [] folder h = absurd (omega arith)
beneath (c ∷ cs) [] h = grind (arith, common_steps)
beneath (c ∷ cs) (x ∷ xs) h = ap (λ b. nat_eq x c && b) (beneath cs xs (omega arith)) ∙ swap_and (nat_eq x c) (nat_eq (get_or cs (length xs) 0) 47) (starts_with nat_eq cs xs)

not_root : (folder : List ℕ) → (length folder == 0) ≡ false → bytes_eq folder [] ≡ false
not_root [] h = h
not_root (x ∷ xs) h = refl

-- neither the root nor the path: what is left of the test
pub by_start : (folder path : List ℕ) (b : Bool) → (length folder == 0) ≡ false → bytes_eq folder path ≡ false → starts_with nat_eq path (folder ++ 47 ∷ []) ≡ b → b ≡ is_under folder path
by_start folder path b root same start = sym (ap (λ t. t || bytes_eq folder path || starts_with nat_eq path (folder ++ 47 ∷ [])) (not_root folder root) ∙ ap (λ t. t || starts_with nat_eq path (folder ++ 47 ∷ [])) same ∙ start)
