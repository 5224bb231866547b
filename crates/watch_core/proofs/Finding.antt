-- What was seen at the first paths of a build makes its first fault, or goes on with its modules.
use Rattle.std.proofs.Common.{◌≡◌, ℕ, Bool, true, false, true≢false, List, [], ◌∷◌, ◌++◌, Result, Ok, Err, IsTrue, IfOk, refl, sym, ap, subst, ◌∙◌}
use Rattle.std.specs.Map.{keys_of}
use Rattle.std.proofs.lemmas.List.Elements.{All-nil}
use Rattle.pk_base.specs.FileTree.{FileTree}
use Rattle.pk_base.specs.Keeping.{KeepsSeen}
use Rattle.pk_base.specs.declared.outside.ReadFail.{ReadFail}
use Rattle.pk_base.specs.Meanings.{FilesMeaning}
use Rattle.pk_base.specs.declared.outside.Read.{Read}
use Rattle.pk_base.specs.declared.outside.Read.TheVariants.{Absent, Bytes, Longer}
use Rattle.module_graph.specs.Known.{with_path, with_paths}
use Rattle.watch_core.specs.Asking.{Entries, AreOf, Looks, Sees}
use Rattle.watch_core.specs.Trees.{seen, is_there, first_there, looked_at}
use Rattle.watch_core.specs.Walks.{Walks}
use Rattle.watch_core.specs.Builds.{pack_json, index_js, other_candidates, candidate_fault, HasEntry, HasFirstFault, IsFirstFault, Finds, FindsBehind}
use Rattle.watch_core.specs.Builds.HasFirstFault.{settings, entry, of_module}
use Rattle.watch_core.specs.declared.faults.BuildFault.{BuildFault}
use Rattle.watch_core.specs.declared.faults.BuildFault.TheVariants.{NotBuilt}
use Rattle.watch_core.specs.declared.walk.FoundModules.{FoundModules}

absent : (read : Read) → is_there read ≡ false → read ≡ Absent
absent Absent h = refl
absent (Bytes bytes) h = absurd (true≢false h)
absent Longer h = absurd (true≢false h)

-- settings stand there
pub by_settings : (t : FileTree) (path : List ℕ) (keys new : List (List ℕ)) (there : Bool) (fault : BuildFault) → path ≡ pack_json → keys ≡ [] → there ≡ is_there (seen t path) → there ≡ true → new ≡ with_path keys path → fault ≡ NotBuilt path → IsFirstFault t fault new
by_settings t path keys new there fault p e h on n f = record {
  looked = pack_json ∷ [];
  is = subst (λ g. HasFirstFault t g (pack_json ∷ [])) (sym (f ∙ ap NotBuilt p)) (settings (sym (ap (λ q. is_there (seen t q)) p) ∙ sym h ∙ on));
  asked = n ∙ ap (λ k. with_path k path) e ∙ ap (λ q. q ∷ []) p;
}

-- no settings stand there
pub no_settings : (t : FileTree) (path : List ℕ) (there : Bool) → path ≡ pack_json → there ≡ is_there (seen t path) → there ≡ false → seen t pack_json ≡ Absent
no_settings t path there p h off = absent (seen t pack_json) (sym (ap (λ q. is_there (seen t q)) p) ∙ sym h ∙ off)

no_entry : (t : FileTree) (path : List ℕ) (there : Bool) → path ≡ index_js → there ≡ is_there (seen t path) → there ≡ false → seen t index_js ≡ Absent
no_entry t path there p h off = absent (seen t index_js) (sym (ap (λ q. is_there (seen t q)) p) ∙ sym h ∙ off)

-- the paths that were seen before the modules
pub seen_before : (settings_path entry_path : List ℕ) (keys mid after : List (List ℕ)) → settings_path ≡ pack_json → entry_path ≡ index_js → keys ≡ [] → mid ≡ with_path keys settings_path → after ≡ with_path mid entry_path → after ≡ with_paths [] (pack_json ∷ index_js ∷ [])
seen_before settings_path entry_path keys mid after p q e m n =
    n ∙ ap (λ k. with_path k entry_path) (m ∙ ap (λ k. with_path k settings_path) e)
    ∙ ap (λ path. with_path (with_path [] path) entry_path) p ∙ ap (λ path. with_path (with_path [] pack_json) path) q

pub by_candidates : (t : FileTree) (entry_path : List ℕ) (candidates after new : List (List ℕ)) (there : Bool) (fault : BuildFault) → seen t pack_json ≡ Absent → entry_path ≡ index_js → there ≡ is_there (seen t entry_path) → there ≡ false
    → candidates ≡ other_candidates → after ≡ with_paths [] (pack_json ∷ index_js ∷ []) → new ≡ with_paths after (looked_at t candidates) → fault ≡ candidate_fault (first_there t candidates) → IsFirstFault t fault new
by_candidates t entry_path candidates after new there fault none q h off c a n f = record {
  looked = pack_json ∷ index_js ∷ looked_at t other_candidates;
  is = subst (λ g. HasFirstFault t g (pack_json ∷ index_js ∷ looked_at t other_candidates)) (sym (f ∙ ap (λ paths. candidate_fault (first_there t paths)) c)) (entry none (no_entry t entry_path there q h off));
  asked = n ∙ ap (λ k. with_paths k (looked_at t candidates)) a ∙ ap (λ paths. with_paths [] (pack_json ∷ index_js ∷ looked_at t paths)) c;
}

finds_modules : (t : FileTree) (after new : List (List ℕ)) (answer : Result FoundModules BuildFault) → HasEntry t → after ≡ with_paths [] (pack_json ∷ index_js ∷ []) → Walks t index_js after new answer → Finds t new answer
finds_modules t after new (Ok found) has a w = record { entry = has; looked = w.0; modules = w.1; asked = w.2 ∙ ap (λ k. with_paths k w.0) a }
finds_modules t after new (Err fault) has a w = record { looked = pack_json ∷ index_js ∷ w.0; is = of_module fault w.0 has w.1; asked = w.2 ∙ ap (λ k. with_paths k w.0) a }

pub by_walk : (t : FileTree) (entry_path : List ℕ) (after new : List (List ℕ)) (there : Bool) (answer : Result FoundModules BuildFault) → seen t pack_json ≡ Absent → entry_path ≡ index_js → there ≡ is_there (seen t entry_path) → there ≡ true
    → after ≡ with_paths [] (pack_json ∷ index_js ∷ []) → (IsTrue (is_there (seen t entry_path)) → Walks t entry_path after new answer) → Finds t new answer
by_walk t entry_path after new there answer none q h on a w =
    finds_modules t after new answer (record { settings = none; entry = subst (λ path. IsTrue (is_there (seen t path))) q (sym h ∙ on) }) a (subst (λ path. Walks t path after new answer) q (w (sym h ∙ on)))

-- before anything was seen
pub sees_nothing : (files : FilesMeaning) (entries : Entries) → IsTrue files.told → entries ≡ [] → Sees files entries files.tree
sees_nothing files entries told e = record { told = told; tree = refl; all = subst (AreOf files.tree) (sym e) (All-nil (λ entry. entry.1 ≡ seen files.tree entry.0)) }

-- behind the asks before
finds_behind : (old new : FilesMeaning) (entries : Entries) (answer : Result FoundModules BuildFault) → KeepsSeen old new [] (keys_of entries) → Finds old.tree (keys_of entries) answer → FindsBehind old.tree old.asks new.asks answer
finds_behind old new entries answer kept finds = record { asks = keys_of entries; is = finds; asked = kept.files.asks.is ∙ ap (λ l. old.asks ++ l) (sym kept.noted) }

-- what was found by what was seen, which was nothing
pub finds_all : (old new : FilesMeaning) (sights entries : Entries) (result : Result (Result FoundModules BuildFault) ReadFail) → sights ≡ [] → IfOk result (λ found. (t : FileTree) → Sees old sights t → Finds t (keys_of entries) found) → Looks result old new sights entries
    → IfOk result (λ found. IsTrue old.told → FindsBehind old.tree old.asks new.asks found)
finds_all old new sights entries (Ok answer) none value looks = λ told.
    finds_behind old new entries answer (subst (λ l. KeepsSeen old new (keys_of l) (keys_of entries)) none looks.files) (value old.tree (sees_nothing old sights told none))
finds_all old new sights entries (Err fail) none value looks = value
