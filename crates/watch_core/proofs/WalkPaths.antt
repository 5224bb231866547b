-- Paths that stay known and keep their numbers, and paths at which something stands.
use Rattle.std.proofs.Common.{◌≡◌, ℕ, ◌+◌, ◌||◌, not, Bool, true, false, cond, List, [], ◌∷◌, ◌++◌, Option, None, Some, refl, sym, ap, subst, ◌∙◌, IsTrue, slice_get}
use Rattle.std.specs.List.{All, list_any, position_or_len}
use Rattle.std.specs.Option.{option_map}
use Rattle.std.specs.Str.{bytes_eq}
use Rattle.std.specs.Cmp.Lexicographic.{bytes_decides}
use Rattle.std.proofs.lemmas.Bool.{true≢false, or_left, or_right}
use Rattle.std.proofs.lemmas.List.Elements.{All-cons, All-nil, All-head, All-tail, All-weaker, All-push}
use Rattle.std.proofs.lemmas.List.Folds.{list_any-append}
use Rattle.std.proofs.lemmas.Option.{none-some, same_Some, option_and_then_some, get_or_from_slice_get, slice_get_within}
use Rattle.module_graph.proofs.Sights.{extends}
use Rattle.module_graph.specs.Known.{with_path, with_paths, number_in, numbers_in}
use Rattle.pk_base.specs.FileTree.{FileTree}
use Rattle.watch_core.specs.Followed.{IsKnown, AreKnown}
use Rattle.watch_core.specs.Targets.{file_at, file_from, files_from, target_from}
use Rattle.watch_core.specs.Trees.{seen, is_there}

place_kept : (p : List ℕ → Bool) (xs ys : List (List ℕ)) → list_any p xs ≡ true → position_or_len p (xs ++ ys) ≡ position_or_len p xs
place_kept p [] ys h = absurd (true≢false (sym h))
place_kept p (x ∷ xs) ys h = by (place_kept p xs ys) (p x) refl
  where
    by : (list_any p xs ≡ true → position_or_len p (xs ++ ys) ≡ position_or_len p xs) → (b : Bool) → p x ≡ b → cond (not (p x)) (1 + position_or_len p (xs ++ ys)) 0 ≡ cond (not (p x)) (1 + position_or_len p xs) 0
    by rest true e = ap (λ b. cond (not b) (1 + position_or_len p (xs ++ ys)) 0) e ∙ sym (ap (λ b. cond (not b) (1 + position_or_len p xs) 0) e)
    by rest false e = ap (λ n. cond (not (p x)) (1 + n) 0) (rest (sym (ap (λ b. b || list_any p xs) e) ∙ h))

stays_known : (known more : List (List ℕ)) (path : List ℕ) → IsKnown known path → IsKnown (known ++ more) path
stays_known known more path h = list_any-append (bytes_eq path) known more ∙ or_left (list_any (bytes_eq path) known) (list_any (bytes_eq path) more) h

pub stay_known : (known more paths : List (List ℕ)) → AreKnown known paths → AreKnown (known ++ more) paths
stay_known known more paths h = All-weaker (IsKnown known) (IsKnown (known ++ more)) (λ path. stays_known known more path) paths h

pub numbers_kept : (known more paths : List (List ℕ)) → AreKnown known paths → numbers_in (known ++ more) paths ≡ numbers_in known paths
numbers_kept known more [] h = refl
numbers_kept known more (path ∷ paths) h =
    ap (λ n. n ∷ numbers_in (known ++ more) paths) (place_kept (bytes_eq path) known more (All-head (IsKnown known) path paths h))
    ∙ ap (λ l. number_in known path ∷ l) (numbers_kept known more paths (All-tail (IsKnown known) path paths h))

knows : (known : List (List ℕ)) (path : List ℕ) → IsKnown (with_path known path) path
knows known path = by (list_any (bytes_eq path) known) refl
  where
    by : (b : Bool) → list_any (bytes_eq path) known ≡ b → IsKnown (cond b known (known ++ path ∷ [])) path
    by true e = e
    by false e = list_any-append (bytes_eq path) known (path ∷ []) ∙ or_right (list_any (bytes_eq path) known) (list_any (bytes_eq path) (path ∷ [])) (or_left (bytes_eq path path) false ((bytes_decides path path).1 refl))

pub all_known : (known paths : List (List ℕ)) → AreKnown (with_paths known paths) paths
all_known known [] = All-nil (IsKnown known)
all_known known (path ∷ paths) =
    let e = extends paths (with_path known path) in
    All-cons (IsKnown (with_paths (with_path known path) paths)) path paths
    (subst (λ l. IsKnown l path) (sym e.is) (stays_known (with_path known path) e.more path (knows known path)))
    (all_known (with_path known path) paths)

-- ---- paths at which something stands

abbrev pub IsThere : FileTree → List ℕ → Type 0
IsThere t path = IsTrue (is_there (seen t path))

file_there : (t : FileTree) (folder request file : List ℕ) → file_from t folder request ≡ Some file → IsThere t file
file_there t folder request file e = option_and_then_some (file_at t) (target_from folder request) file e (λ path p h. by path (is_there (seen t path)) refl h)
  where
    by : (path : List ℕ) (b : Bool) → is_there (seen t path) ≡ b → cond b (Some path) None ≡ Some file → IsThere t file
    by path true h f = subst (IsThere t) (same_Some path file f) h
    by path false h f = absurd (none-some file f)

pub files_there : (t : FileTree) (folder : List ℕ) (requests targets : List (List ℕ)) → files_from t folder requests ≡ Some targets → All (IsThere t) targets
files_there t folder [] targets e = subst (All (IsThere t)) (same_Some [] targets e) (All-nil (IsThere t))
files_there t folder (request ∷ requests) targets e =
    option_and_then_some (λ file. option_map (λ files. file ∷ files) (files_from t folder requests)) (file_from t folder request) targets e
    (λ file f h. by file (file_there t folder request file f) (files_from t folder requests) (λ files. files_there t folder requests files) h)
  where
    by : (file : List ℕ) → IsThere t file → (found : Option (List (List ℕ))) → ((files : List (List ℕ)) → found ≡ Some files → All (IsThere t) files)
        → option_map (λ files. file ∷ files) found ≡ Some targets → All (IsThere t) targets
    by file there None rest h = absurd (none-some targets h)
    by file there (Some files) rest h =
        subst (All (IsThere t)) (same_Some (file ∷ files) targets h) (All-cons (IsThere t) file files there (rest files refl))

pub all_with : (P : List ℕ → Type 0) (known paths : List (List ℕ)) → All P known → All P paths → All P (with_paths known paths)
all_with P known [] h e = h
all_with P known (path ∷ paths) h e = all_with P (with_path known path) paths (by (list_any (bytes_eq path) known)) (All-tail P path paths e)
  where
    by : (b : Bool) → All P (cond b known (known ++ path ∷ []))
    by true = h
    by false = All-push P known path h (All-head P path paths e)

pub there_at : (t : FileTree) (known : List (List ℕ)) (n : ℕ) (path : List ℕ) → slice_get known n ≡ Some path → All (IsThere t) known → IsThere t path
there_at t known n path h all = subst (IsThere t) (get_or_from_slice_get known n path path h) (all n path (slice_get_within known n path h))
