-- The manifests that the folders outwards may hold, one folder after another.
use Rattle.std.proofs.Common.{◌≡◌, ◌≢◌, ℕ, suc, false, List, [], ◌∷◌, ◌++◌, length, length-take, ◌-◌, ◌<◌, refl, sym, ap, ◌∙◌, append_assoc, append-nil, None, arith, if◌then◌else◌}
use Rattle.std.proofs.lemmas.List.Splits.{length-slice_split}
use Rattle.std.specs.Option.{option_to_list}
use Rattle.pk_base.specs.Paths.{segments, folder_of, joined, without_last, is_slash}
use Rattle.watch_core.specs.Manifests.{manifests_above, manifest_in, manifest_name, holds_packages}

-- where the manifest's path would be none
pub none_in : (paths : List (List ℕ)) (folder : List ℕ) → joined folder manifest_name ≡ None → paths ≡ paths ++ manifest_in folder
none_in paths folder h = sym (ap (λ path. paths ++ option_to_list path) h ∙ append-nil paths)

some_segments : (folder : List ℕ) → folder ≢ [] → 0 < length (segments folder)
some_segments [] h = absurd (h refl)
some_segments (c ∷ cs) h = omega (arith, length-slice_split is_slash (c ∷ cs))

-- a folder that isn't the root, and the one above it
above_it : (folder : List ℕ) (count less : ℕ) → holds_packages folder ≡ false → count ≡ suc less → manifests_above count folder ≡ manifest_in folder ++ manifests_above less (folder_of folder)
above_it folder count less h e = ap (λ n. manifests_above n folder) e ∙ ap (λ b. if b then [] else (manifest_in folder ++ manifests_above less (folder_of folder))) h

pub goes_on : (folder above : List ℕ) (paths new all : List (List ℕ)) → holds_packages folder ≡ false → folder ≢ [] → above ≡ folder_of folder → segments above ≡ without_last (segments folder) → new ≡ paths ++ manifest_in folder
    → paths ++ manifests_above (length (segments folder)) folder ≡ all → new ++ manifests_above (length (segments above)) above ≡ all
goes_on folder above paths new all h some e s n done =
    let less : length (segments folder) ≡ suc (length (segments above)) = omega (arith, ap length s, length-take (length (segments folder) - 1) (segments folder), some_segments folder some) in
    ap (λ p. p ++ manifests_above (length (segments above)) above) n
    ∙ append_assoc paths (manifest_in folder) (manifests_above (length (segments above)) above)
    ∙ ap (λ f. paths ++ (manifest_in folder ++ manifests_above (length (segments above)) f)) e
    ∙ ap (λ m. paths ++ m) (sym (above_it folder (length (segments folder)) (length (segments above)) h less))
    ∙ done
