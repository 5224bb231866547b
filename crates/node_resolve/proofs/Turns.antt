-- Walks of the loops and the branches, one behind another.
use Rattle.std.proofs.Common.{◌≡◌, ℕ, ◌+◌, ◌<◌, true, false, List, ◌∷◌, length, drop, get_or, Option, None, Some, Result, Ok, Err, refl, sym, ap, subst, ◌∙◌, if◌then◌else◌}
use Rattle.std.proofs.lemmas.Bool.{false≢true}
use Rattle.std.proofs.lemmas.List.{drop_more}
use Rattle.std.specs.Result.{IsErrAnd}
use Rattle.pk_base.specs.declared.outside.ReadFail.{ReadFail}
use Rattle.node_resolve.specs.declared.sight.Package.{Package}
use Rattle.node_resolve.specs.Candidates.{Candidates, End, file, decided}
use Rattle.node_resolve.specs.Folders.{holds_packages}
use Rattle.node_resolve.specs.Looking.{Moment}
use Rattle.node_resolve.specs.Resolution.{files, manifest_in, nearest, or_else}
use Rattle.node_resolve.specs.Walks.{Goes, Stops, Went, behind, is_found}
use Rattle.node_resolve.proofs.Walking.{goes_then, goes_from, went_then, fails_then}

-- ---- behind a walk that ended at the same candidates

module _ (m0 m1 m2 : Moment) (n0 n1 n2 : List (List ℕ)) (a b c : Candidates) (first : Goes m0 m1 n0 n1 a b) (same : b ≡ c) where
  pub then_goes : (to : Candidates) → Goes m1 m2 n1 n2 c to → Goes m0 m2 n0 n2 a to
  then_goes to h = goes_then m0 m1 m2 n0 n1 n2 a b first to (goes_from m1 m2 n1 n2 c b to (sym same) h)

  pub then_went : {T : Type 0} (answer : Result T ReadFail) (to : T → Candidates) → Went answer m1 m2 n1 n2 c to → Went answer m0 m2 n0 n2 a to
  then_went answer to h = went_then m0 m1 m2 n0 n1 n2 a b first answer to (subst (λ x. Went answer m1 m2 n1 n2 x to) (sym same) h)

  pub then_fails : {U : Type 0} (other : Result U ReadFail) (fail : ReadFail) (to : U → Candidates) → IsErrAnd other (λ f. f ≡ fail) → Stops fail m1 m2 c → Went other m0 m2 n0 n2 a to
  then_fails other fail to is h = fails_then other fail m0 m1 m2 n0 n1 n2 a b to is first (subst (λ x. Stops fail m1 m2 x) (sym same) h)

-- ---- the turns of a loop

pub turn : (paths : List (List ℕ)) (i : ℕ) (path : List ℕ) → path ≡ get_or paths i path → i < length paths → drop i paths ≡ path ∷ drop (i + 1) paths
turn paths i path is less = drop_more paths i path less ∙ ap (λ p. p ∷ drop (i + 1) paths) (sym is)

-- the first of some paths
module _ (paths : List (List ℕ)) (next : Candidates) (i : ℕ) (path : List ℕ) (is : path ≡ get_or paths i path) (less : i < length paths) where
  pub at_path : files (drop i paths) next ≡ file path (decided (Ok path)) (files (drop (i + 1) paths) next)
  at_path = ap (λ l. files l next) (turn paths i path is less)

-- the nearest manifest
module _ (bad : List ℕ → End) (next : Option Package → Candidates) (folders : List (List ℕ)) (i : ℕ) (folder : List ℕ) (is : folder ≡ get_or folders i folder) (less : i < length folders) where
  at_folder : nearest bad next (drop i folders) ≡ (if holds_packages folder then next None else manifest_in bad (or_else next (nearest bad next (drop (i + 1) folders))) folder)
  at_folder = ap (nearest bad next) (turn folders i folder is less)

  pub at_packages : holds_packages folder ≡ true → nearest bad next (drop i folders) ≡ next None
  at_packages t = at_folder ∙ ap (λ b. if b then next None else manifest_in bad (or_else next (nearest bad next (drop (i + 1) folders))) folder) t

  pub at_manifest : holds_packages folder ≡ false → nearest bad next (drop i folders) ≡ manifest_in bad (or_else next (nearest bad next (drop (i + 1) folders))) folder
  at_manifest f = at_folder ∙ ap (λ b. if b then next None else manifest_in bad (or_else next (nearest bad next (drop (i + 1) folders))) folder) f

pub or_else_found : (bad : List ℕ → End) (next : Option Package → Candidates) (other : Candidates) (found : Result (Option Package) (List ℕ)) → is_found found ≡ true → behind bad (or_else next other) found ≡ behind bad next found
or_else_found bad next other (Ok None) e = absurd (false≢true e)
or_else_found bad next other (Ok (Some owner)) e = refl
or_else_found bad next other (Err path) e = refl

pub or_else_none : (bad : List ℕ → End) (next : Option Package → Candidates) (other : Candidates) (found : Result (Option Package) (List ℕ)) → is_found found ≡ false → behind bad (or_else next other) found ≡ other
or_else_none bad next other (Ok None) e = refl
or_else_none bad next other (Ok (Some owner)) e = absurd (false≢true (sym e))
or_else_none bad next other (Err path) e = absurd (false≢true (sym e))
