-- What was seen for a module makes its first fault, or the module.
use Rattle.std.proofs.Common.{◌≡◌, ℕ, ◌+◌, ◌-◌, ◌<◌, ◌≤◌, Bool, true, false, true≢false, nat_lt, List, [], None, Some, Result, Ok, Err, IfOk, IsTrue, length, refl, sym, ap, subst, ◌∙◌, ◌⊎◌, inl, inr, arith, if◌then◌else◌}
use Rattle.std.proofs.lemmas.Grind.{common_steps}
use Rattle.pk_types.specs.declared.limits.TheConstants.{MAX_FILE_LEN, MAX_SOURCE_BYTES}
use Rattle.pk_base.specs.FileTree.{FileTree}
use Rattle.pk_base.specs.Paths.{folder_of}
use Rattle.pk_base.specs.declared.outside.Read.{Read}
use Rattle.pk_base.specs.declared.outside.Read.TheVariants.{Absent, Bytes, Longer}
use Rattle.bare_modules.specs.declared.read.ModuleText.{ModuleText}
use Rattle.bare_modules.specs.Meaning.{IsModuleText}
use Rattle.module_graph.specs.Known.{with_paths}
use Rattle.watch_core.specs.Trees.{seen, bytes_of, is_there, first_there, looked_at}
use Rattle.watch_core.specs.Manifests.{manifest_paths}
use Rattle.watch_core.specs.Targets.{files_from, looked_at_from}
use Rattle.watch_core.specs.Modules.{IsRead, module_asks, size_of}
use Rattle.watch_core.specs.Modules.HasFault.{source_bytes, too_large, manifest, text, request}
use Rattle.watch_core.specs.Visits.{IsVisited, RefusesModule}
use Rattle.watch_core.specs.declared.faults.BuildFault.{BuildFault}
use Rattle.watch_core.specs.declared.faults.BuildFault.TheVariants.{NotBuilt, TooLarge, TooMany}
use Rattle.watch_core.specs.declared.faults.What.TheVariants.{SourceBytes}
use Rattle.watch_core.specs.declared.module.Visited.{Visited}
use Rattle.watch_core.proofs.Looking.{with_more}

-- the paths at which manifests may stand, and those that were seen once they were looked at
pub record LooksUp (t : FileTree) (path : List ℕ) (paths old new : List (List ℕ)) : Type 0 where
  pub places : paths ≡ manifest_paths path
  pub looked : new ≡ with_paths old (looked_at t paths)

pub looks_up : (t : FileTree) (path : List ℕ) (paths old new : List (List ℕ)) → paths ≡ manifest_paths path → new ≡ with_paths old (looked_at t paths) → LooksUp t path paths old new
looks_up t path paths old new p e = record { places = p; looked = e }

looked_up : (t : FileTree) (path : List ℕ) (paths old new : List (List ℕ)) → LooksUp t path paths old new → new ≡ with_paths old (looked_at t (manifest_paths path))
looked_up t path paths old new h = h.looked ∙ ap (λ p. with_paths old (looked_at t p)) h.places

pub by_manifest : (t : FileTree) (before : ℕ) (path bytes found : List ℕ) (paths old new : List (List ℕ)) (fault : BuildFault) → seen t path ≡ Bytes bytes → before + length bytes ≤ MAX_SOURCE_BYTES → LooksUp t path paths old new
    → first_there t paths ≡ Some found → fault ≡ NotBuilt found → RefusesModule t before path old new fault
by_manifest t before path bytes found paths old new fault read few h e f =
    subst (RefusesModule t before path old new) (sym f) (record {
      asked = looked_at t (manifest_paths path);
      is = λ known. manifest bytes found few read (ap (first_there t) (sym h.places) ∙ e);
      looked = looked_up t path paths old new h;
    })

pub by_text : (t : FileTree) (before : ℕ) (path bytes : List ℕ) (paths old new : List (List ℕ)) (fault : BuildFault) → seen t path ≡ Bytes bytes → before + length bytes ≤ MAX_SOURCE_BYTES → LooksUp t path paths old new
    → first_there t paths ≡ None → ((said : ModuleText) → IsModuleText bytes said → ⊥) → fault ≡ NotBuilt path → RefusesModule t before path old new fault
by_text t before path bytes paths old new fault read few h e none f =
    subst (RefusesModule t before path old new) (sym f) (record {
      asked = looked_at t (manifest_paths path);
      is = λ known. text bytes few (record { read = read; scope = ap (first_there t) (sym h.places) ∙ e }) none;
      looked = looked_up t path paths old new h;
    })

-- its text was read
pub is_read : (t : FileTree) (path bytes : List ℕ) (paths old new : List (List ℕ)) (said : ModuleText) → seen t path ≡ Bytes bytes → LooksUp t path paths old new → first_there t paths ≡ None → IsModuleText bytes said → IsRead t path bytes said
is_read t path bytes paths old new said read h e says = record { source = record { read = read; scope = ap (first_there t) (sym h.places) ∙ e }; text = says }

-- and what its requests lead to was looked at
pub looked_for : (t : FileTree) (path folder : List ℕ) (paths old mid new requests : List (List ℕ)) → LooksUp t path paths old mid → folder ≡ folder_of path → new ≡ with_paths mid (looked_at_from t folder requests) → new ≡ with_paths old (module_asks t path requests)
looked_for t path folder paths old mid new requests h f n =
    n ∙ ap (λ k. with_paths k (looked_at_from t folder requests)) (looked_up t path paths old mid h)
    ∙ ap (λ place. with_paths (with_paths old (looked_at t (manifest_paths path))) (looked_at_from t place requests)) f
    ∙ sym (with_more old (looked_at t (manifest_paths path)) (looked_at_from t (folder_of path) requests))

pub by_request : (t : FileTree) (before : ℕ) (path folder bytes : List ℕ) (old new : List (List ℕ)) (said : ModuleText) (fault : BuildFault) → before + length bytes ≤ MAX_SOURCE_BYTES → IsRead t path bytes said → folder ≡ folder_of path
    → files_from t folder said.requests ≡ None → new ≡ with_paths old (module_asks t path said.requests) → fault ≡ NotBuilt path → RefusesModule t before path old new fault
by_request t before path folder bytes old new said fault few read p e n f =
    subst (RefusesModule t before path old new) (sym f) (record {
      asked = module_asks t path said.requests;
      is = λ known. request bytes said few read (ap (λ place. files_from t place said.requests) (sym p) ∙ e);
      looked = n;
    })

pub is_visited : (t : FileTree) (before : ℕ) (path folder bytes : List ℕ) (old new : List (List ℕ)) (visited : Visited) → before + length bytes ≤ MAX_SOURCE_BYTES → IsRead t path bytes visited.said → folder ≡ folder_of path
    → files_from t folder visited.said.requests ≡ Some visited.targets.items → new ≡ with_paths old (module_asks t path visited.said.requests) → visited.size ≡ length bytes → IsVisited t before path old new visited
is_visited t before path folder bytes old new visited few read p e n s = record {
  bytes = bytes;
  size = s;
  few = few;
  is = record { read = read; leads = ap (λ place. files_from t place visited.said.requests) (sym p) ∙ e };
  looked = n;
}

-- the file is too large, or too many source bytes come together
refused_by : (t : FileTree) (before : ℕ) (path : List ℕ) (old new : List (List ℕ)) (less : Bool) → before ≤ MAX_SOURCE_BYTES → nat_lt (MAX_SOURCE_BYTES - before) MAX_FILE_LEN ≡ less → seen t path ≡ Longer → new ≡ old
    → RefusesModule t before path old new (if less then TooMany SourceBytes else TooLarge path)
refused_by t before path old new true few e read n = record { asked = []; is = λ known. source_bytes (subst (λ r. MAX_SOURCE_BYTES < before + size_of r) (sym read) (grind (arith, common_steps))); looked = n }
refused_by t before path old new false few e read n = record { asked = []; is = λ known. too_large (grind (arith, common_steps)) read; looked = n }

by_size : (t : FileTree) (before : ℕ) (path : List ℕ) (old new : List (List ℕ)) (fault : BuildFault) → before ≤ MAX_SOURCE_BYTES → seen t path ≡ Longer → fault ≡ (if nat_lt (MAX_SOURCE_BYTES - before) MAX_FILE_LEN then TooMany SourceBytes else TooLarge path) → new ≡ old
    → RefusesModule t before path old new fault
by_size t before path old new fault few read f n = subst (RefusesModule t before path old new) (sym f) (refused_by t before path old new (nat_lt (MAX_SOURCE_BYTES - before) MAX_FILE_LEN) few refl read n)

pub by_bytes : (t : FileTree) (before : ℕ) (path bytes text : List ℕ) (old new : List (List ℕ)) → before ≤ MAX_SOURCE_BYTES → seen t path ≡ Bytes bytes → text ≡ bytes → MAX_SOURCE_BYTES - before < length text → new ≡ old → RefusesModule t before path old new (TooMany SourceBytes)
by_bytes t before path bytes word old new few read same many n =
    record { asked = []; is = λ known. source_bytes (subst (λ r. MAX_SOURCE_BYTES < before + size_of r) (sym read) (omega (arith, many, ap length same))); looked = n }

-- where something stands, it is not absent
not_absent : {P : Type 0} (t : FileTree) (path : List ℕ) → IsTrue (is_there (seen t path)) → seen t path ≡ Absent → P
not_absent t path there e = absurd (true≢false (sym there ∙ ap is_there e))

pub by_unread : (t : FileTree) (before : ℕ) (path : List ℕ) (old new : List (List ℕ)) (fault : BuildFault) (read : Read) → before ≤ MAX_SOURCE_BYTES → IsTrue (is_there (seen t path)) → seen t path ≡ read → (read ≡ Absent) ⊎ (read ≡ Longer)
    → fault ≡ (if nat_lt (MAX_SOURCE_BYTES - before) MAX_FILE_LEN then TooMany SourceBytes else TooLarge path) → new ≡ old → RefusesModule t before path old new fault
by_unread t before path old new fault read few there e (inl none) f n = not_absent t path there (e ∙ none)
by_unread t before path old new fault read few there e (inr long) f n = by_size t before path old new fault few (e ∙ long) f n

-- what follows from the answer of a call
pub if_ok : {T E : Type 0} (P Q : T → Type 0) (result : Result T E) → ((x : T) → P x → Q x) → IfOk result P → IfOk result Q
if_ok P Q (Ok x) f h = f x h
if_ok P Q (Err e) f h = h

pub short_text : (read : Read) (bytes : List ℕ) → read ≡ Bytes bytes → length (bytes_of read) ≤ MAX_FILE_LEN → length bytes ≤ MAX_FILE_LEN
short_text read bytes e h = subst (λ r. length (bytes_of r) ≤ MAX_FILE_LEN) e h
