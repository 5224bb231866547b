-- What a look at a new path adds to what was seen.
use Rattle.std.proofs.Common.{◌≡◌, ℕ, Bool, true, false, List, [], ◌∷◌, ◌++◌, Option, None, Some, Result, Ok, Err, length, refl, sym, ap, subst, ◌∙◌, ◌||◌, true≢false, slice_get, get_or, position, ◌≤◌, OnOk, OnErr, IsTrue, arith, if◌then◌else◌}
use Rattle.std.specs.List.{list_any, position_or_len}
use Rattle.std.specs.Option.{option_map}
use Rattle.std.proofs.lemmas.Result.{err_from_is_err_and}
use Rattle.std.specs.Map.{keys_of}
use Rattle.std.specs.Result.{IsErrAnd}
use Rattle.std.specs.Str.{bytes_eq}
use Rattle.std.proofs.lemmas.List.Elements.{All-append, All-cons, All-nil}
use Rattle.std.proofs.lemmas.List.Folds.{list_any_none, list_any_at}
use Rattle.std.proofs.lemmas.List.Quantifiers.{position-Some}
use Rattle.std.proofs.lemmas.List.Sums.{fails_before_first}
use Rattle.std.proofs.lemmas.Grind.{common_steps}
use Rattle.std.proofs.lemmas.Option.{none-some, same_Some, slice_get-map, slice_get-get_or, slice_get_within, get_or_from_slice_get}
use Rattle.std.specs.Cmp.Lexicographic.{bytes_decides}
use Rattle.pk_types.specs.declared.limits.TheConstants.{MAX_FILE_LEN}
use Rattle.module_graph.specs.Known.{with_path}
use Rattle.pk_base.specs.declared.outside.ReadFail.{ReadFail}
use Rattle.pk_base.specs.declared.outside.ReadFail.TheVariants.{Failed, NoMemory}
use Rattle.indexmap.specs.IndexMap.{insert_entry}
use Rattle.pk_base.specs.FileTree.{FileTree}
use Rattle.pk_base.specs.Meanings.{FilesMeaning}
use Rattle.pk_base.specs.Causes.{is_failed}
use Rattle.pk_base.specs.Keeping.{AsksFor, Keeps, KeepsFiles, KeepsSeen}
use Rattle.pk_base.proofs.Keeping.{failure, fails_as, reads_new, sees_no_more, then_keeps, then_sees}
use Rattle.pk_base.specs.declared.outside.Read.{Read}
use Rattle.watch_core.specs.Trees.{seen, bytes_of}
use Rattle.watch_core.specs.Asking.{Entries, AreOf, AreShort, KeepsSights, Looks, Sees, StandsAt}

-- a new path goes last
pub adds_last : (entries : Entries) (path : List ℕ) (read : Read) → list_any (bytes_eq path) (keys_of entries) ≡ false → insert_entry bytes_eq entries path read ≡ entries ++ (path, read) ∷ []
adds_last [] path read h = refl
adds_last (entry ∷ entries) path read h = by (bytes_eq path entry.0) refl h (adds_last entries path read)
  where
    by : (b : Bool) → bytes_eq path entry.0 ≡ b → b || list_any (bytes_eq path) (keys_of entries) ≡ false → (list_any (bytes_eq path) (keys_of entries) ≡ false → insert_entry bytes_eq entries path read ≡ entries ++ (path, read) ∷ [])
        → (if b then (entry.0, read) ∷ entries else entry ∷ insert_entry bytes_eq entries path read) ≡ entry ∷ (entries ++ (path, read) ∷ [])
    by true e g rest = absurd (true≢false g)
    by false e g rest = ap (λ l. entry ∷ l) (rest g)

pub added : (entries new : Entries) (path key : List ℕ) (read : Read) → list_any (bytes_eq path) (keys_of entries) ≡ false → key ≡ path → new ≡ insert_entry bytes_eq entries key read → new ≡ entries ++ (path, read) ∷ []
added entries new path key read h e f = f ∙ ap (λ k. insert_entry bytes_eq entries k read) e ∙ adds_last entries path read h

stands_last : (entries : Entries) (path : List ℕ) (read : Read) → slice_get (entries ++ (path, read) ∷ []) (length entries) ≡ Some (path, read)
stands_last [] path read = refl
stands_last (entry ∷ entries) path read = stands_last entries path read

pub last_stands : (entries new : Entries) (path : List ℕ) (read : Read) (n : ℕ) → new ≡ entries ++ (path, read) ∷ [] → n ≡ length entries → StandsAt new n path
last_stands entries new path read n e f = record { read = read; is = ap (λ l. slice_get l n) e ∙ ap (λ k. slice_get (entries ++ (path, read) ∷ []) k) f ∙ stands_last entries path read }

pub keys_with : (entries : Entries) (path : List ℕ) (read : Read) → keys_of (entries ++ (path, read) ∷ []) ≡ keys_of entries ++ path ∷ []
keys_with [] path read = refl
keys_with (entry ∷ entries) path read = ap (λ l. entry.0 ∷ l) (keys_with entries path read)

short_with : (entries new : Entries) (path : List ℕ) (read : Read) → new ≡ entries ++ (path, read) ∷ [] → length (bytes_of read) ≤ MAX_FILE_LEN → AreShort entries → AreShort new
short_with entries new path read e f h = subst AreShort (sym e) (All-append (λ entry. length (bytes_of entry.1) ≤ MAX_FILE_LEN) entries ((path, read) ∷ []) h (All-cons (λ entry. length (bytes_of entry.1) ≤ MAX_FILE_LEN) (path, read) [] f (All-nil (λ entry. length (bytes_of entry.1) ≤ MAX_FILE_LEN))))

-- whether or not there was memory for it
pub short_after : {T E : Type 0} (entries new : Entries) (path key : List ℕ) (read : Read) (result : Result T E) → list_any (bytes_eq path) (keys_of entries) ≡ false → key ≡ path → OnOk result (new ≡ insert_entry bytes_eq entries key read)
    → OnErr result (new ≡ entries) → length (bytes_of read) ≤ MAX_FILE_LEN → AreShort entries → AreShort new
short_after entries new path key read (Ok x) h e ok err f all = short_with entries new path read (added entries new path key read h e ok) f all
short_after entries new path key read (Err x) h e ok err f all = subst AreShort (sym err) all

of_with : (t : FileTree) (entries new : Entries) (path : List ℕ) (read : Read) → new ≡ entries ++ (path, read) ∷ [] → read ≡ seen t path → AreOf t entries → AreOf t new
of_with t entries new path read e f h = subst (AreOf t) (sym e) (All-append (λ entry. entry.1 ≡ seen t entry.0) entries ((path, read) ∷ []) h (All-cons (λ entry. entry.1 ≡ seen t entry.0) (path, read) [] f (All-nil (λ entry. entry.1 ≡ seen t entry.0))))

pub sees_with : (old files : FilesMeaning) (t : FileTree) (entries new : Entries) (path : List ℕ) (read : Read) → files.told ≡ old.told → files.tree ≡ old.tree → new ≡ entries ++ (path, read) ∷ [] → (IsTrue old.told → read ≡ seen old.tree path)
    → Sees old entries t → Sees files new t
sees_with old files t entries new path read told tree e f h = record {
  told = subst IsTrue (sym told) h.told;
  tree = tree ∙ h.tree;
  all = of_with t entries new path read e (f h.told ∙ ap (λ u. seen u path) h.tree) h.all;
}

pub sees_on : (old files : FilesMeaning) (t : FileTree) (entries new : Entries) → files.told ≡ old.told → files.tree ≡ old.tree → new ≡ entries → Sees old entries t → Sees files new t
sees_on old files t entries new told tree e h = record { told = subst IsTrue (sym told) h.told; tree = tree ∙ h.tree; all = subst (AreOf t) (sym e) h.all }

-- what a look-up by path found
key_at : (entries : Entries) (path : List ℕ) (n : ℕ) (found : Option (List ℕ × Read)) → slice_get entries n ≡ found → slice_get (keys_of entries) n ≡ Some path → StandsAt entries n path
key_at entries path n None e h = absurd (none-some path (sym (ap (option_map (λ entry. entry.0)) e) ∙ sym (slice_get-map (λ entry. entry.0) entries n) ∙ h))
key_at entries path n (Some entry) e h =
    let same : entry.0 ≡ path = same_Some entry.0 path (sym (ap (option_map (λ entry. entry.0)) e) ∙ sym (slice_get-map (λ entry. entry.0) entries n) ∙ h) in
    record { read = entry.1; is = e ∙ ap (λ key. Some (key, entry.1)) same }

pub found_stands : (entries : Entries) (path : List ℕ) (n : ℕ) → position (bytes_eq path) (keys_of entries) ≡ Some n → StandsAt entries n path
found_stands entries path n h =
    let at = position-Some (bytes_eq path) (keys_of entries) n [] h in
    key_at entries path n (slice_get entries n) refl (slice_get-get_or (keys_of entries) n [] at.0 ∙ ap Some (sym ((bytes_decides path (get_or (keys_of entries) n [])).0 at.1)))

none_before : (keys : List (List ℕ)) (path : List ℕ) → position (bytes_eq path) keys ≡ None → length keys ≤ position_or_len (bytes_eq path) keys
none_before keys path h = grind (arith, common_steps)

pub none_known : (keys : List (List ℕ)) (path : List ℕ) → position (bytes_eq path) keys ≡ None → list_any (bytes_eq path) keys ≡ false
none_known keys path h = let past = none_before keys path h in list_any_none (bytes_eq path) keys (λ k d lt. fails_before_first (bytes_eq path) keys k d (omega arith))

pub some_known : (keys : List (List ℕ)) (path : List ℕ) (n : ℕ) → position (bytes_eq path) keys ≡ Some n → with_path keys path ≡ keys
some_known keys path n h =
    let at = position-Some (bytes_eq path) keys n [] h in
    ap (λ b. if b then keys else keys ++ path ∷ []) (list_any_at (bytes_eq path) keys n [] at.0 at.1)

pub new_known : (keys : List (List ℕ)) (path : List ℕ) → list_any (bytes_eq path) keys ≡ false → with_path keys path ≡ keys ++ path ∷ []
new_known keys path h = ap (λ b. if b then keys else keys ++ path ∷ []) h

pub keys_grow : {T : Type 0} (result : Result T ReadFail) (keys new : List (List ℕ)) (path : List ℕ) → position (bytes_eq path) keys ≡ None → OnOk result (new ≡ keys ++ path ∷ []) → OnOk result (new ≡ with_path keys path)
keys_grow (Ok x) keys new path h e = e ∙ sym (new_known keys path (none_known keys path h))
keys_grow (Err fail) keys new path h e = e

-- ---- what a look keeps

pub looks_nothing : (files : FilesMeaning) (sights : Entries) → KeepsSights files files sights sights
looks_nothing files sights = record { files = sees_no_more (keys_of sights) files; sees = λ t h. h }

pub then_sights : (before mid after : FilesMeaning) (sights sights_mid sights_after : Entries) → KeepsSights before mid sights sights_mid → KeepsSights mid after sights_mid sights_after → KeepsSights before after sights sights_after
then_sights before mid after sights sights_mid sights_after first next = record {
  files = then_sees before mid after (keys_of sights) (keys_of sights_mid) (keys_of sights_after) first.files next.files;
  sees = λ t h. next.sees t (first.sees t h);
}

-- a look behind another, whatever its answer is
pub then_looks : {T : Type 0} (answer : Result T ReadFail) (before mid after : FilesMeaning) (sights sights_mid sights_after : Entries) → KeepsSights before mid sights sights_mid → Looks answer mid after sights_mid sights_after → Looks answer before after sights sights_after
then_looks (Ok x) before mid after sights sights_mid sights_after first next = then_sights before mid after sights sights_mid sights_after first next
then_looks (Err Failed) before mid after sights sights_mid sights_after first next = then_keeps true before mid after (keys_of sights) (keys_of sights_mid) first.files next
then_looks (Err NoMemory) before mid after sights sights_mid sights_after first next = then_keeps false before mid after (keys_of sights) (keys_of sights_mid) first.files next

looks_failed : (T : Type 0) (fail : ReadFail) (before after : FilesMeaning) (sights sights_after : Entries) (seen : List (List ℕ)) → Keeps (failure T fail) before after (keys_of sights) seen → Looks (failure T fail) before after sights sights_after
looks_failed T Failed before after sights sights_after seen h = h
looks_failed T NoMemory before after sights sights_after seen h = h

keeps_failed : (T : Type 0) (fail : ReadFail) (before after : FilesMeaning) (sights sights_after : Entries) (seen : List (List ℕ)) → Looks (failure T fail) before after sights sights_after → Keeps (failure T fail) before after (keys_of sights) seen
keeps_failed T Failed before after sights sights_after seen h = h
keeps_failed T NoMemory before after sights sights_after seen h = h

-- a `?` hands on the failure of a read
pub read_failed : (T U : Type 0) (fail : ReadFail) (other : Result U ReadFail) (before after : FilesMeaning) (sights sights_after : Entries) (seen : List (List ℕ)) → IsErrAnd other (λ f. f ≡ fail) → Keeps (failure T fail) before after (keys_of sights) seen
    → Looks other before after sights sights_after
read_failed T U fail other before after sights sights_after seen e h =
    let error = err_from_is_err_and other e in
    subst (λ o. Looks o before after sights sights_after) (sym (error.1 ∙ ap (failure U) error.2))
    (looks_failed U fail before after sights sights_after [] (fails_as T U fail before after (keys_of sights) [] (keeps_failed T fail before after sights [] [] (looks_failed T fail before after sights [] seen h))))

-- that of a look behind another
pub look_failed : (T U : Type 0) (fail : ReadFail) (other : Result U ReadFail) (before mid after : FilesMeaning) (sights sights_mid sights_last sights_after : Entries) → KeepsSights before mid sights sights_mid → IsErrAnd other (λ f. f ≡ fail)
    → Looks (failure T fail) mid after sights_mid sights_last → Looks other before after sights sights_after
look_failed T U fail other before mid after sights sights_mid sights_last sights_after first e h =
    read_failed T U fail other before after sights sights_after [] e (keeps_failed T fail before after sights sights_last [] (then_looks (failure T fail) before mid after sights sights_mid sights_last first h))

-- and that of an allocation
pub lacks_memory : (U : Type 0) (other : Result U ReadFail) (before after : FilesMeaning) (sights sights_mid sights_after : Entries) → KeepsSights before after sights sights_mid → IsErrAnd other (λ f. f ≡ NoMemory) → Looks other before after sights sights_after
lacks_memory U other before after sights sights_mid sights_after first e = read_failed U U NoMemory other before after sights sights_after [] e first.files.files

-- the files alone
pub looks_files : {T : Type 0} (answer : Result T ReadFail) (before after : FilesMeaning) (sights sights_after : Entries) → Looks answer before after sights sights_after → KeepsFiles (is_failed answer) (keys_of sights) before after
looks_files (Ok x) before after sights sights_after h = h.files.files
looks_files (Err Failed) before after sights sights_after h = h
looks_files (Err NoMemory) before after sights sights_after h = h

-- a path that was not seen was read
pub read_kept : {T : Type 0} (answer : Result T ReadFail) (files files_after : FilesMeaning) (entries : Entries) (path key : List ℕ) → list_any (bytes_eq path) (keys_of entries) ≡ false → key ≡ path → AsksFor key answer files files_after
    → Keeps answer files files_after (keys_of entries) (keys_of entries ++ path ∷ [])
read_kept answer files files_after entries path key new e asked = reads_new answer path files files_after (keys_of entries) new (subst (λ k. AsksFor k answer files files_after) e asked)

pub added_kept : (files files_after : FilesMeaning) (entries new : Entries) (path : List ℕ) (read : Read) → KeepsSeen files files_after (keys_of entries) (keys_of entries ++ path ∷ []) → (IsTrue files.told → read ≡ seen files.tree path) → new ≡ entries ++ (path, read) ∷ []
    → KeepsSights files files_after entries new
added_kept files files_after entries new path read kept answer e = record {
  files = subst (KeepsSeen files files_after (keys_of entries)) (sym (ap keys_of e ∙ keys_with entries path read)) kept;
  sees = λ t h. sees_with files files_after t entries new path read kept.files.told kept.files.tree e answer h;
}

-- what stands at the number of a path is what the tree has there
pub stands_seen : (files : FilesMeaning) (entries : Entries) (t : FileTree) (n : ℕ) (path : List ℕ) (read : Read) → Sees files entries t → StandsAt entries n path → option_map (λ entry. entry.1) (slice_get entries n) ≡ Some read → seen t path ≡ read
stands_seen files entries t n path read h at e =
    let same : at.read ≡ read = same_Some at.read read (sym (ap (option_map (λ entry. entry.1)) at.is) ∙ e) in
    let item : get_or entries n (path, at.read) ≡ (path, at.read) = get_or_from_slice_get entries n (path, at.read) (path, at.read) at.is in
    sym (ap (λ entry. seen t entry.0) item) ∙ sym (h.all n (path, at.read) (slice_get_within entries n (path, at.read) at.is)) ∙ ap (λ entry. entry.1) item ∙ same
