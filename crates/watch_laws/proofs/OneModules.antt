-- A path of a tree has one module alone, and one first fault.
use Rattle.std.proofs.Common.{◌≡◌, ℕ, ◌+◌, ◌<◌, ◌≤◌, List, None, Some, length, refl, sym, ap, subst, ◌∙◌, arith}
use Rattle.std.proofs.lemmas.Option.{same_Some, none-some}
use Rattle.pk_types.specs.declared.limits.TheConstants.{MAX_FILE_LEN, MAX_MODULES, MAX_SOURCE_BYTES}
use Rattle.bare_modules.proofs.Modules.{functional}
use Rattle.bare_modules.specs.Meaning.{IsModuleText}
use Rattle.bare_modules.specs.declared.read.ModuleText.{ModuleText}
use Rattle.module_graph.specs.Known.{with_paths}
use Rattle.pk_base.specs.FileTree.{FileTree}
use Rattle.pk_base.specs.Paths.{folder_of}
use Rattle.pk_base.specs.declared.outside.Read.TheVariants.{Bytes, Longer}
use Rattle.watch_core.specs.Manifests.{manifest_paths}
use Rattle.watch_core.specs.Modules.{IsSource, IsRead, IsModule, HasFault, source_bytes, too_large, manifest, text, request, modules, module_asks, size_of}
use Rattle.watch_core.specs.Targets.{files_from}
use Rattle.watch_core.specs.Trees.{seen, first_there}
use Rattle.watch_core.specs.declared.faults.BuildFault.{BuildFault}
use Rattle.watch_core.specs.declared.faults.BuildFault.TheVariants.{NotBuilt}

module _ (t : FileTree) (path : List ℕ) where
  one_bytes : (a b : List ℕ) → seen t path ≡ Bytes a → seen t path ≡ Bytes b → a ≡ b
  one_bytes a b e f = let both : Bytes a ≡ Bytes b = sym e ∙ f in cc

  one_text : (bytes other : List ℕ) (said more : ModuleText) → IsRead t path bytes said → IsRead t path other more → said ≡ more
  one_text bytes other said more a b =
      functional other said more (subst (λ l. IsModuleText l said) (one_bytes bytes other a.source.read b.source.read) a.text) b.text

  -- one module alone
  pub one_module : (bytes other : List ℕ) (said more : ModuleText) (targets others : List (List ℕ)) → IsModule t path bytes said targets → IsModule t path other more others → (bytes ≡ other) × (said ≡ more) × (targets ≡ others)
  one_module bytes other said more targets others a b =
      let same : said ≡ more = one_text bytes other said more a.read b.read in (
        one_bytes bytes other a.read.source.read b.read.source.read,
        same,
        same_Some targets others (sym a.leads ∙ ap (λ s. files_from t (folder_of path) s.requests) same ∙ b.leads),
      )

  -- ---- what excludes one another

  not_large : (bytes : List ℕ) → seen t path ≡ Longer → seen t path ≡ Bytes bytes → ⊥
  not_large bytes e f = let both : Longer ≡ Bytes bytes = sym e ∙ f in absurd (cc)

  one_scope : (found other : List ℕ) → first_there t (manifest_paths path) ≡ Some found → first_there t (manifest_paths path) ≡ Some other → found ≡ other
  one_scope found other e f = same_Some found other (sym e ∙ f)

  no_scope : (bytes found : List ℕ) → first_there t (manifest_paths path) ≡ Some found → IsSource t path bytes → ⊥
  no_scope bytes found e s = none-some found (sym s.scope ∙ e)

  no_text : (bytes other : List ℕ) (said : ModuleText) → IsSource t path bytes → ((said : ModuleText) → IsModuleText bytes said → ⊥) → IsRead t path other said → ⊥
  no_text bytes other said s never r = never said (subst (λ l. IsModuleText l said) (one_bytes other bytes r.source.read s.read) r.text)

  no_lead : (bytes other : List ℕ) (said more : ModuleText) (targets : List (List ℕ)) → IsRead t path bytes said → files_from t (folder_of path) said.requests ≡ None → IsModule t path other more targets → ⊥
  no_lead bytes other said more targets r never m =
      none-some targets (sym never ∙ ap (λ s. files_from t (folder_of path) s.requests) (one_text bytes other said more r m.read) ∙ m.leads)

  module _ (before : ℕ) where
    large_fits : MAX_SOURCE_BYTES < before + size_of (seen t path) → before + MAX_FILE_LEN ≤ MAX_SOURCE_BYTES → seen t path ≡ Longer → ⊥
    large_fits h l e = let over : MAX_SOURCE_BYTES < before + MAX_FILE_LEN = subst (λ r. MAX_SOURCE_BYTES < before + size_of r) e h in omega arith

    bytes_fit : (bytes : List ℕ) → MAX_SOURCE_BYTES < before + size_of (seen t path) → before + length bytes ≤ MAX_SOURCE_BYTES → seen t path ≡ Bytes bytes → ⊥
    bytes_fit bytes h l e = let over : MAX_SOURCE_BYTES < before + length bytes = subst (λ r. MAX_SOURCE_BYTES < before + size_of r) e h in omega arith

    module _ (known : List (List ℕ)) where
      -- one fault alone
      pub one_fault : (fault other : BuildFault) (asked more : List (List ℕ)) → HasFault t before known path fault asked → HasFault t before known path other more → (fault ≡ other) × (asked ≡ more)
      one_fault fault other asked more (source_bytes h_a) (source_bytes h_b) = (refl, refl)
      one_fault fault other asked more (source_bytes h_a) (too_large h_b e_b) = absurd (large_fits h_a h_b e_b)
      one_fault fault other asked more (source_bytes h_a) (manifest bytes_b found_b h_b e_b m_b) = absurd (bytes_fit bytes_b h_a h_b e_b)
      one_fault fault other asked more (source_bytes h_a) (text bytes_b h_b s_b n_b) = absurd (bytes_fit bytes_b h_a h_b s_b.read)
      one_fault fault other asked more (source_bytes h_a) (request bytes_b said_b h_b r_b n_b) = absurd (bytes_fit bytes_b h_a h_b r_b.source.read)
      one_fault fault other asked more (source_bytes h_a) (modules bytes_b said_b targets_b h_b m_b n_b) = absurd (bytes_fit bytes_b h_a h_b m_b.read.source.read)
      one_fault fault other asked more (too_large h_a e_a) (source_bytes h_b) = absurd (large_fits h_b h_a e_a)
      one_fault fault other asked more (too_large h_a e_a) (too_large h_b e_b) = (refl, refl)
      one_fault fault other asked more (too_large h_a e_a) (manifest bytes_b found_b h_b e_b m_b) = absurd (not_large bytes_b e_a e_b)
      one_fault fault other asked more (too_large h_a e_a) (text bytes_b h_b s_b n_b) = absurd (not_large bytes_b e_a s_b.read)
      one_fault fault other asked more (too_large h_a e_a) (request bytes_b said_b h_b r_b n_b) = absurd (not_large bytes_b e_a r_b.source.read)
      one_fault fault other asked more (too_large h_a e_a) (modules bytes_b said_b targets_b h_b m_b n_b) = absurd (not_large bytes_b e_a m_b.read.source.read)
      one_fault fault other asked more (manifest bytes_a found_a h_a e_a m_a) (source_bytes h_b) = absurd (bytes_fit bytes_a h_b h_a e_a)
      one_fault fault other asked more (manifest bytes_a found_a h_a e_a m_a) (too_large h_b e_b) = absurd (not_large bytes_a e_b e_a)
      one_fault fault other asked more (manifest bytes_a found_a h_a e_a m_a) (manifest bytes_b found_b h_b e_b m_b) = let found : found_a ≡ found_b = one_scope found_a found_b m_a m_b in (ap NotBuilt found, refl)
      one_fault fault other asked more (manifest bytes_a found_a h_a e_a m_a) (text bytes_b h_b s_b n_b) = absurd (no_scope bytes_b found_a m_a s_b)
      one_fault fault other asked more (manifest bytes_a found_a h_a e_a m_a) (request bytes_b said_b h_b r_b n_b) = absurd (no_scope bytes_b found_a m_a r_b.source)
      one_fault fault other asked more (manifest bytes_a found_a h_a e_a m_a) (modules bytes_b said_b targets_b h_b m_b n_b) = absurd (no_scope bytes_b found_a m_a m_b.read.source)
      one_fault fault other asked more (text bytes_a h_a s_a n_a) (source_bytes h_b) = absurd (bytes_fit bytes_a h_b h_a s_a.read)
      one_fault fault other asked more (text bytes_a h_a s_a n_a) (too_large h_b e_b) = absurd (not_large bytes_a e_b s_a.read)
      one_fault fault other asked more (text bytes_a h_a s_a n_a) (manifest bytes_b found_b h_b e_b m_b) = absurd (no_scope bytes_a found_b m_b s_a)
      one_fault fault other asked more (text bytes_a h_a s_a n_a) (text bytes_b h_b s_b n_b) = (refl, refl)
      one_fault fault other asked more (text bytes_a h_a s_a n_a) (request bytes_b said_b h_b r_b n_b) = absurd (no_text bytes_a bytes_b said_b s_a n_a r_b)
      one_fault fault other asked more (text bytes_a h_a s_a n_a) (modules bytes_b said_b targets_b h_b m_b n_b) = absurd (no_text bytes_a bytes_b said_b s_a n_a m_b.read)
      one_fault fault other asked more (request bytes_a said_a h_a r_a n_a) (source_bytes h_b) = absurd (bytes_fit bytes_a h_b h_a r_a.source.read)
      one_fault fault other asked more (request bytes_a said_a h_a r_a n_a) (too_large h_b e_b) = absurd (not_large bytes_a e_b r_a.source.read)
      one_fault fault other asked more (request bytes_a said_a h_a r_a n_a) (manifest bytes_b found_b h_b e_b m_b) = absurd (no_scope bytes_a found_b m_b r_a.source)
      one_fault fault other asked more (request bytes_a said_a h_a r_a n_a) (text bytes_b h_b s_b n_b) = absurd (no_text bytes_b bytes_a said_a s_b n_b r_a)
      one_fault fault other asked more (request bytes_a said_a h_a r_a n_a) (request bytes_b said_b h_b r_b n_b) = let said : said_a ≡ said_b = one_text bytes_a bytes_b said_a said_b r_a r_b in (refl, ap (λ s. module_asks t path s.requests) said)
      one_fault fault other asked more (request bytes_a said_a h_a r_a n_a) (modules bytes_b said_b targets_b h_b m_b n_b) = absurd (no_lead bytes_a bytes_b said_a said_b targets_b r_a n_a m_b)
      one_fault fault other asked more (modules bytes_a said_a targets_a h_a m_a n_a) (source_bytes h_b) = absurd (bytes_fit bytes_a h_b h_a m_a.read.source.read)
      one_fault fault other asked more (modules bytes_a said_a targets_a h_a m_a n_a) (too_large h_b e_b) = absurd (not_large bytes_a e_b m_a.read.source.read)
      one_fault fault other asked more (modules bytes_a said_a targets_a h_a m_a n_a) (manifest bytes_b found_b h_b e_b m_b) = absurd (no_scope bytes_a found_b m_b m_a.read.source)
      one_fault fault other asked more (modules bytes_a said_a targets_a h_a m_a n_a) (text bytes_b h_b s_b n_b) = absurd (no_text bytes_b bytes_a said_a s_b n_b m_a.read)
      one_fault fault other asked more (modules bytes_a said_a targets_a h_a m_a n_a) (request bytes_b said_b h_b r_b n_b) = absurd (no_lead bytes_b bytes_a said_b said_a targets_a r_b n_b m_a)
      one_fault fault other asked more (modules bytes_a said_a targets_a h_a m_a n_a) (modules bytes_b said_b targets_b h_b m_b n_b) = let said : said_a ≡ said_b = one_text bytes_a bytes_b said_a said_b m_a.read m_b.read in (refl, ap (λ s. module_asks t path s.requests) said)

      -- and none where it has a module that is within the limits
      pub no_fault : (bytes : List ℕ) (said : ModuleText) (targets : List (List ℕ)) → IsModule t path bytes said targets → before + length bytes ≤ MAX_SOURCE_BYTES → length (with_paths known targets) ≤ MAX_MODULES
          → (fault : BuildFault) (asked : List (List ℕ)) → HasFault t before known path fault asked → ⊥
      no_fault bytes said targets is fits few fault asked (source_bytes h_a) = bytes_fit bytes h_a fits is.read.source.read
      no_fault bytes said targets is fits few fault asked (too_large h_a e_a) = not_large bytes e_a is.read.source.read
      no_fault bytes said targets is fits few fault asked (manifest bytes_a found_a h_a e_a m_a) = no_scope bytes found_a m_a is.read.source
      no_fault bytes said targets is fits few fault asked (text bytes_a h_a s_a n_a) = no_text bytes_a bytes said s_a n_a is.read
      no_fault bytes said targets is fits few fault asked (request bytes_a said_a h_a r_a n_a) = no_lead bytes_a bytes said_a said targets r_a n_a is
      no_fault bytes said targets is fits few fault asked (modules bytes_a said_a targets_a h_a m_a n_a) =
          let same : targets_a ≡ targets = (one_module bytes_a bytes said_a said targets_a targets m_a is).2 in
          let over : MAX_MODULES < length (with_paths known targets) = subst (λ l. MAX_MODULES < length (with_paths known l)) same n_a in
          omega arith
