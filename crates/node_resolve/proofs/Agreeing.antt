-- A tree leads to one end, and so does each that agrees with it.
use Rattle.std.proofs.Common.{◌≡◌, ℕ, List, ◌∷◌, is_some, Option, refl, sym, ap, subst, ◌∙◌, arith, if◌then◌else◌}
use Rattle.std.specs.List.{All}
use Rattle.std.proofs.lemmas.List.Elements.{recursion_from_All, All-from_recursion}
use Rattle.pk_base.specs.FileTree.{FileTree}
use Rattle.pkg_manifest.specs.declared.value.Json.{Json, roll-Json, out-roll-Json}
use Rattle.pkg_manifest.specs.declared.value.Json.TheOpen.{Json-F}
use Rattle.pkg_manifest.specs.declared.value.Json.TheVariants as json
use Rattle.pkg_manifest.specs.declared.value.Member.{Member}
use Rattle.pkg_manifest.specs.Fields.{manifest_of}
use Rattle.pkg_manifest.specs.Grammar.{StandsFor}
use Rattle.pkg_manifest.proofs.Whole.{one_value}
use Rattle.pkg_exports.specs.Answers.{members_of}
use Rattle.pkg_exports.proofs.Whole.{same_answer}
use Rattle.node_resolve.specs.declared.sight.Sight.{Sight}
use Rattle.node_resolve.specs.declared.sight.Sight.TheVariants.{Says}
use Rattle.node_resolve.specs.Candidates.{Candidates, End, ends, Leads, there, by_file, by_manifest, by_target}
use Rattle.node_resolve.specs.Manifests.{IsSight, absent, long, bad, says}

-- ---- one sight

members_rolled : (ms : List (Member Json)) → members_of (roll-Json (Json-F.Object ms)) ≡ ms
members_rolled ms = rw out-roll-Json

object_members : (ms : List (Member Json)) → members_of (json.Object ms) ≡ ms
object_members ms = ap members_of (sym (json.rolls-Object ms)) ∙ members_rolled ms

same_members : (held : List ℕ) (ms ns : List (Member Json)) → StandsFor held (json.Object ms) → StandsFor held (json.Object ns) → ms ≡ ns
same_members held ms ns one other = sym (object_members ms) ∙ ap members_of (one_value held (json.Object ms) (json.Object ns) one other) ∙ object_members ns

pub one_sight : (held : Option (List ℕ)) (a b : Sight) → IsSight held a → IsSight held b → a ≡ b
one_sight held a b absent absent = refl
one_sight held a b (long h) (long k) = refl
one_sight held a b (long h) (bad k) = refl
one_sight held a b (long h) (says k ms s) = absurd (omega arith)
one_sight held a b (bad h) (long k) = refl
one_sight held a b (bad h) (bad k) = refl
one_sight held a b (bad h) (says k ms s) = absurd (h ms s)
one_sight held a b (says h ms s) (long k) = absurd (omega arith)
one_sight held a b (says h ms s) (bad k) = absurd (k ms s)
one_sight held a b (says {held = bytes} h ms s) (says k ns r) = ap (λ x. Says (manifest_of x)) (same_members bytes ms ns s r)

-- ---- one end

pub one_end : (t : FileTree) (a b : End) (from : Candidates) (xs ys : List (List ℕ)) → Leads t (ends a) from xs → Leads t (ends b) from ys → (a ≡ b) × (xs ≡ ys)
one_end t a b from xs ys there there = (refl, refl)
one_end t a b from xs ys (by_file {path = path} h) (by_file k) =
    let s = one_end t a b _ _ _ h k in (s.0, ap (λ l. path ∷ l) s.1)
one_end t a b from xs ys (by_manifest {path = path} {behind = behind} sight i h) (by_manifest {rest = last} other j k) =
    let e : other ≡ sight = one_sight (t path) other sight j i in
    let s = one_end t a b (behind sight) _ _ h (subst (λ x. Leads t (ends b) (behind x) last) e k) in (s.0, ap (λ l. path ∷ l) s.1)
one_end t a b from xs ys (by_target {form = form} {table = table} {map = map} {key = key} {behind = behind} answer i h) (by_target other j k) =
    let e : other ≡ answer = same_answer form table map key other answer j i in
    one_end t a b (behind answer) _ _ h (subst (λ x. Leads t (ends b) (behind x) ys) e k)

-- ---- trees that agree

module _ (t u : FileTree) (to : Candidates) where
  leads_too : (from : Candidates) (xs : List (List ℕ)) → All (λ path. u path ≡ t path) xs → Leads t to from xs → Leads u to from xs
  leads_too from xs all there = there
  leads_too from xs all (by_file {path = path} {yes = one} {no = other} {rest = rest} h) =
      let parts = recursion_from_All (λ p. u p ≡ t p) (path ∷ rest) all in
      by_file (subst (λ (held : Option (List ℕ)). Leads u to (if is_some held then one else other) rest) (sym parts.0) (leads_too _ rest (All-from_recursion (λ p. u p ≡ t p) rest parts.1) h))
  leads_too from xs all (by_manifest {path = path} {behind = behind} {rest = rest} sight i h) =
      let parts = recursion_from_All (λ p. u p ≡ t p) (path ∷ rest) all in
      by_manifest sight (subst (λ held. IsSight held sight) (sym parts.0) i) (leads_too _ rest (All-from_recursion (λ p. u p ≡ t p) rest parts.1) h)
  leads_too from xs all (by_target answer i h) = by_target answer i (leads_too _ xs all h)

pub agreeing : (t u : FileTree) (to from : Candidates) (xs : List (List ℕ)) → All (λ path. u path ≡ t path) xs → Leads t to from xs → Leads u to from xs
agreeing t u to from xs all h = leads_too t u to from xs all h
