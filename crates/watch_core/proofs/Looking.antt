-- A look at paths one after another, and at the files that requests lead to.
use Rattle.std.proofs.Common.{◌≡◌, ℕ, true, false, List, [], ◌∷◌, ◌++◌, Option, None, Some, length, drop, get_or, ◌<◌, ◌+◌, refl, sym, ap, ◌∙◌, append_assoc, append-nil, if◌then◌else◌, is_some}
use Rattle.std.specs.Option.{option_map, option_and_then, option_to_list}
use Rattle.std.proofs.lemmas.List.{drop_more}
use Rattle.module_graph.specs.Known.{with_path, with_paths}
use Rattle.pk_base.specs.FileTree.{FileTree}
use Rattle.watch_core.specs.Trees.{seen, is_there, first_there, looked_at}
use Rattle.watch_core.specs.Targets.{target_from, file_from, files_from, looked_at_from}

-- what is left begins with the item at the place
pub next : {A : Type 0} (items : List A) (i : ℕ) (item : A) → item ≡ get_or items i item → i < length items → drop i items ≡ item ∷ drop (i + 1) items
next items i item e h = drop_more items i item h ∙ ap (λ x. x ∷ drop (i + 1) items) (sym e)

-- something stands at the first of the paths that are left
pub stops_first : (t : FileTree) (left : List (List ℕ)) (path : List ℕ) (rest : List (List ℕ)) → left ≡ path ∷ rest → is_there (seen t path) ≡ true → first_there t left ≡ Some path
stops_first t left path rest e h = ap (first_there t) e ∙ ap (λ b. if b then Some path else first_there t rest) h

pub goes_first : (t : FileTree) (left : List (List ℕ)) (path : List ℕ) (rest : List (List ℕ)) → left ≡ path ∷ rest → is_there (seen t path) ≡ false → first_there t left ≡ first_there t rest
goes_first t left path rest e h = ap (first_there t) e ∙ ap (λ b. if b then Some path else first_there t rest) h

pub stops_looking : (t : FileTree) (keys left : List (List ℕ)) (path : List ℕ) (rest : List (List ℕ)) → left ≡ path ∷ rest → is_there (seen t path) ≡ true → with_paths keys (looked_at t left) ≡ with_path keys path
stops_looking t keys left path rest e h = ap (λ l. with_paths keys (looked_at t l)) e ∙ ap (λ b. with_paths (with_path keys path) (if b then [] else looked_at t rest)) h

pub goes_looking : (t : FileTree) (keys left : List (List ℕ)) (path : List ℕ) (rest : List (List ℕ)) → left ≡ path ∷ rest → is_there (seen t path) ≡ false → with_paths keys (looked_at t left) ≡ with_paths (with_path keys path) (looked_at t rest)
goes_looking t keys left path rest e h = ap (λ l. with_paths keys (looked_at t l)) e ∙ ap (λ b. with_paths (with_path keys path) (if b then [] else looked_at t rest)) h

pub with_more : (keys xs ys : List (List ℕ)) → with_paths keys (xs ++ ys) ≡ with_paths (with_paths keys xs) ys
with_more keys [] ys = refl
with_more keys (x ∷ xs) ys = with_more (with_path keys x) xs ys

-- the first of the requests that are left leads to no file
pub stops_following : (t : FileTree) (folder : List ℕ) (done left : List (List ℕ)) (request : List ℕ) (rest : List (List ℕ)) → left ≡ request ∷ rest → file_from t folder request ≡ None
    → option_map (λ more. done ++ more) (files_from t folder left) ≡ None
stops_following t folder done left request rest e h = ap (λ l. option_map (λ more. done ++ more) (files_from t folder l)) e
    ∙ ap (λ found. option_map (λ more. done ++ more) (option_and_then (λ file. option_map (λ files. file ∷ files) (files_from t folder rest)) found)) h

pub stops_asking : (t : FileTree) (folder : List ℕ) (keys left : List (List ℕ)) (request : List ℕ) (rest : List (List ℕ)) → left ≡ request ∷ rest → file_from t folder request ≡ None
    → with_paths keys (looked_at_from t folder left) ≡ with_paths keys (option_to_list (target_from folder request))
stops_asking t folder keys left request rest e h = ap (λ l. with_paths keys (looked_at_from t folder l)) e
    ∙ ap (λ found. with_paths keys (option_to_list (target_from folder request) ++ (if is_some found then looked_at_from t folder rest else []))) h
    ∙ ap (with_paths keys) (append-nil (option_to_list (target_from folder request)))

-- it leads to one
pub goes_following : (t : FileTree) (folder : List ℕ) (done new left : List (List ℕ)) (request : List ℕ) (rest : List (List ℕ)) (file : List ℕ) → left ≡ request ∷ rest → file_from t folder request ≡ Some file → new ≡ done ++ file ∷ []
    → option_map (λ more. new ++ more) (files_from t folder rest) ≡ option_map (λ more. done ++ more) (files_from t folder left)
goes_following t folder done new left request rest file e h n = by (files_from t folder rest) ∙ sym (ap (λ l. option_map (λ more. done ++ more) (files_from t folder l)) e
    ∙ ap (λ found. option_map (λ more. done ++ more) (option_and_then (λ file. option_map (λ files. file ∷ files) (files_from t folder rest)) found)) h)
  where
    by : (found : Option (List (List ℕ))) → option_map (λ more. new ++ more) found ≡ option_map (λ more. done ++ more) (option_map (λ files. file ∷ files) found)
    by None = refl
    by (Some files) = ap (λ l. Some (l ++ files)) n ∙ ap Some (append_assoc done (file ∷ []) files)

pub goes_asking : (t : FileTree) (folder : List ℕ) (keys new left : List (List ℕ)) (request : List ℕ) (rest : List (List ℕ)) (file : List ℕ) → left ≡ request ∷ rest → file_from t folder request ≡ Some file → new ≡ with_paths keys (option_to_list (target_from folder request))
    → with_paths new (looked_at_from t folder rest) ≡ with_paths keys (looked_at_from t folder left)
goes_asking t folder keys new left request rest file e h n = ap (λ k. with_paths k (looked_at_from t folder rest)) n
    ∙ sym (with_more keys (option_to_list (target_from folder request)) (looked_at_from t folder rest))
    ∙ sym (ap (λ l. with_paths keys (looked_at_from t folder l)) e ∙ ap (λ found. with_paths keys (option_to_list (target_from folder request) ++ (if is_some found then looked_at_from t folder rest else []))) h)
