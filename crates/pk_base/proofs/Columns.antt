-- Columns of what stands at each known path.
use Rattle.std.proofs.Common.{◌≡◌, ℕ, ◌+◌, ◌<◌, ◌≤◌, ◌≢◌, Bool, true, false, cond, List, [], ◌∷◌, ◌++◌, length, get_or, set, take, Option, Some, None, IsSome, zero, suc, refl, sym, ap, ◌∙◌, rules, append_assoc, map, if◌then◌else◌}
use mathlib.Core.Path.{fun_ext}
use Rattle.std.specs.Option.{option_or}
use Rattle.std.specs.Str.{bytes_eq}
use Rattle.std.specs.Map.{lookup}
use Rattle.std.proofs.lemmas.List.Elements.{All-more, All-same, All-weaker}
use Rattle.std.proofs.lemmas.List.{get_or-set_same, get_or-set_other, map-append, take_all}
use Rattle.std.proofs.lemmas.List.Quantifiers.{position-Some}
use Rattle.std.proofs.lemmas.Slice.Eq.{bytes_eq-Decides}
use Rattle.pk_base.specs.Memory.{AreKnown, content_at, held_in}
use Rattle.pk_text.specs.Places.{place_of}
use Rattle.pk_base.specs.FileTree.{FileTree}
use Rattle.pk_base.specs.Outside.{covers, turned}

no_both : (b : Bool) → b ≡ true → b ≡ false → ⊥
no_both b t f = cc

pub is_some_of : (o : Option ℕ) (n : ℕ) → o ≡ Some n → IsSome o
is_some_of o n e = search rules

-- to push nothing onto a column of nothing
pub none_pushed : (column : List (Option (List ℕ))) → ((n : ℕ) → get_or column n None ≡ None) → (n : ℕ) → get_or (column ++ None ∷ []) n None ≡ None
none_pushed [] h zero = refl
none_pushed [] h (suc n) = refl
none_pushed (x ∷ xs) h zero = h zero
none_pushed (x ∷ xs) h (suc n) = none_pushed xs (λ k. h (suc k)) n

pub content_none : (column : List (Option (List ℕ))) → ((n : ℕ) → get_or column n None ≡ None) → (place : Option ℕ) → content_at column place ≡ None
content_none column h None = refl
content_none column h (Some n) = h n

-- where an entry is taken off the end, what is found is among the others, or it is that entry
or_last : (b : Bool) (v : List ℕ) (c : Option (List ℕ)) → option_or (cond b (Some v) None) c ≡ cond b (Some v) c
or_last true v c = refl
or_last false v c = refl

or_first : (b : Bool) (v : List ℕ) (x y c d : Option (List ℕ)) → option_or x c ≡ option_or y d → option_or (cond b (Some v) x) c ≡ option_or (cond b (Some v) y) d
or_first true v x y c d h = refl
or_first false v x y c d h = h

pub lookup_last : (test : List ℕ → Bool) (es : List (List ℕ × List ℕ)) (path bytes : List ℕ) (c : Option (List ℕ)) → option_or (lookup test (es ++ (path, bytes) ∷ [])) c ≡ option_or (lookup test es) (cond (test path) (Some bytes) c)
lookup_last test [] path bytes c = or_last (test path) bytes c
lookup_last test (e ∷ es) path bytes c = or_first (test e.0) e.1 (lookup test (es ++ (path, bytes) ∷ [])) (lookup test es) c (cond (test path) (Some bytes) c) (lookup_last test es path bytes c)

-- two paths at one place are one
pub same_place : (paths : List (List ℕ)) (a b : List ℕ) (n : ℕ) → place_of paths a ≡ Some n → place_of paths b ≡ Some n → a ≡ b
same_place paths a b n at-a at-b =
    let e : a ≡ get_or paths n [] = (bytes_eq-Decides a (get_or paths n [])).0 (position-Some (bytes_eq a) paths n [] at-a).1 in
    e ∙ sym ((bytes_eq-Decides b (get_or paths n [])).0 (position-Some (bytes_eq b) paths n [] at-b).1)

set_elsewhere : (paths : List (List ℕ)) (column : List (Option (List ℕ))) (path bytes q : List ℕ) (n : ℕ) → place_of paths path ≡ Some n → bytes_eq q path ≡ false → (o : Option ℕ) → place_of paths q ≡ o → content_at (set column n (Some bytes)) o ≡ content_at column o
set_elsewhere paths column path bytes q n at apart None e = refl
set_elsewhere paths column path bytes q n at apart (Some m) e =
    let other : m ≢ n = λ same. no_both (bytes_eq q path) ((bytes_eq-Decides q path).1 (same_place paths q path n (e ∙ ap Some same) at)) apart in
    get_or-set_other column n m (Some bytes) None other

set_by : (paths : List (List ℕ)) (column : List (Option (List ℕ))) (path bytes q : List ℕ) (n : ℕ) → place_of paths path ≡ Some n → n < length column → (b : Bool) → bytes_eq q path ≡ b → held_in paths (set column n (Some bytes)) q ≡ cond b (Some bytes) (held_in paths column q)
set_by paths column path bytes q n at within true e =
    ap (content_at (set column n (Some bytes))) (ap (place_of paths) ((bytes_eq-Decides q path).0 e) ∙ at) ∙ get_or-set_same column n (Some bytes) None within
set_by paths column path bytes q n at within false e = set_elsewhere paths column path bytes q n at e (place_of paths q) refl

-- bytes put at the place of a path are found at that path, and all else as before
pub held_set : (paths : List (List ℕ)) (column : List (Option (List ℕ))) (path bytes q : List ℕ) (n : ℕ) → place_of paths path ≡ Some n → n < length column → held_in paths (set column n (Some bytes)) q ≡ cond (bytes_eq q path) (Some bytes) (held_in paths column q)
held_set paths column path bytes q n at within = set_by paths column path bytes q n at within (bytes_eq q path) refl

cond_same : (b : Bool) (x : Option (List ℕ)) → x ≡ cond b x x
cond_same true x = refl
cond_same false x = refl

taken_at : (paths listed : List (List ℕ)) (next present new : List (Option (List ℕ))) → ((k : ℕ) → k < length paths → get_or new k None ≡ cond (covers listed (get_or paths k [])) (get_or next k None) (get_or present k None)) → (q : List ℕ) (o : Option ℕ) → place_of paths q ≡ o → content_at new o ≡ cond (covers listed q) (content_at next o) (content_at present o)
taken_at paths listed next present new h q None e = cond_same (covers listed q) None
taken_at paths listed next present new h q (Some n) e =
    let at = position-Some (bytes_eq q) paths n [] e in
    h n at.0 ∙ ap (λ p. cond (covers listed p) (get_or next n None) (get_or present n None)) (sym ((bytes_eq-Decides q (get_or paths n [])).0 at.1))

-- a column in which each covered place is that of the next, as functions
pub taken_over : (paths listed : List (List ℕ)) (next present new : List (Option (List ℕ))) → ((k : ℕ) → k < length paths → get_or new k None ≡ cond (covers listed (get_or paths k [])) (get_or next k None) (get_or present k None)) → held_in paths new ≡ (λ path. cond (covers listed path) (held_in paths next path) (held_in paths present path))
taken_over paths listed next present new h = fun_ext (λ q. taken_at paths listed next present new h q (place_of paths q) refl)

some_again : (a b : Option ℕ) → ((n : ℕ) → a ≡ Some n → b ≡ Some n) → IsSome a → IsSome b
some_again None b h s = absurd (search rules)
some_again (Some n) b h s = is_some_of b n (h n refl)

-- a path that keeps its place is still known
pub still_known : (old new : List (List ℕ)) → ((q : List ℕ) (n : ℕ) → place_of old q ≡ Some n → place_of new q ≡ Some n) → (q : List ℕ) → IsSome (place_of old q) → IsSome (place_of new q)
still_known old new kept q known = some_again (place_of old q) (place_of new q) (kept q) known

-- one more path is known
pub known_more : (old new : List (List ℕ)) (files : List (List ℕ × List ℕ)) (i : ℕ) (d : List ℕ × List ℕ) → ((q : List ℕ) → IsSome (place_of old q) → IsSome (place_of new q)) → i < length files → AreKnown old (take i files) → IsSome (place_of new (get_or files i d).0) → AreKnown new (take (i + 1) files)
known_more old new files i d kept within known more = All-more (λ file. IsSome (place_of new file.0)) files i d within (All-weaker (λ file. IsSome (place_of old file.0)) (λ file. IsSome (place_of new file.0)) (λ file. kept file.0) (take i files) known) more

-- all are known once the last is
pub known_all : (paths : List (List ℕ)) (files : List (List ℕ × List ℕ)) (i : ℕ) → length files ≤ i → AreKnown paths (take i files) → AreKnown paths files
known_all paths files i h known = All-same (λ file. IsSome (place_of paths file.0)) files (take i files) (sym (take_all i files h)) known

or_none : (o : Option (List ℕ)) → option_or o None ≡ o
or_none None = refl
or_none (Some v) = refl

-- a column of nothing leaves all to the files
pub held_first : (found c : Option (List ℕ)) → c ≡ None → option_or found c ≡ found
held_first found c e = ap (option_or found) e ∙ or_none found

pub held_step : (test : List ℕ → Bool) (files rest : List (List ℕ × List ℕ)) (path bytes : List ℕ) (old new found : Option (List ℕ)) → files ≡ rest ++ (path, bytes) ∷ [] → new ≡ cond (test path) (Some bytes) old → option_or (lookup test files) old ≡ found → option_or (lookup test rest) new ≡ found
held_step test files rest path bytes old new found e is h =
    ap (option_or (lookup test rest)) is ∙ sym (lookup_last test rest path bytes old) ∙ sym (ap (λ fs. option_or (lookup test fs) old) e) ∙ h

pub held_last : (test : List ℕ → Bool) (files : List (List ℕ × List ℕ)) (c found : Option (List ℕ)) → files ≡ [] → option_or (lookup test files) c ≡ found → c ≡ found
held_last test files c found e h = sym (ap (λ fs. option_or (lookup test fs) c) e) ∙ h

-- the first of those to come was taken
pub turn_taken : {V : Type 0} (f : V → FileTree) (listed slice : List (List ℕ)) (coming rest : List V) (next : V) (old new : FileTree) → coming ≡ next ∷ rest → slice ≡ listed → new ≡ (λ path. if covers slice path then f next path else old path) → new ≡ turned listed (map f coming) old
turn_taken f listed slice coming rest next old new e s h = h ∙ ap (λ l. λ path. if covers l path then f next path else old path) s ∙ ap (λ c. turned listed (map f c) old) (sym e)

-- one more of what was listed from the end
pub one_more : {V W : Type 0} (f : V → FileTree) (g : W → FileTree) (xs rest : List V) (x : V) (ys : List W) (y : W) (all : List FileTree) → xs ≡ rest ++ x ∷ [] → g y ≡ f x → map f xs ++ map g ys ≡ all → map f rest ++ map g (y ∷ ys) ≡ all
one_more f g xs rest x ys y all e same h =
    ap (λ z. map f rest ++ z ∷ map g ys) same ∙ sym (append_assoc (map f rest) (f x ∷ []) (map g ys)) ∙ sym (ap (λ l. l ++ map g ys) (map-append f rest (x ∷ []))) ∙ sym (ap (λ l. map f l ++ map g ys) e) ∙ h
