-- What one look does along the candidates.
use Rattle.std.proofs.Common.{◌≡◌, ℕ, Bool, List, [], ◌∷◌, ◌++◌, inl, inr, Result, Ok, Err, IsTrue, is_some, refl, sym, ap, subst, ◌∙◌, append-nil, if◌then◌else◌}
use Rattle.std.specs.Result.{IsErrAnd}
use Rattle.pk_base.specs.declared.outside.ReadFail.{ReadFail}
use Rattle.pk_base.specs.declared.outside.ReadFail.TheVariants.{Failed, NoMemory}
use Rattle.node_resolve.specs.declared.sight.Sight.{Sight}
use Rattle.node_resolve.specs.Candidates.{Candidates, file, manifest, Leads, there, by_file, by_manifest}
use Rattle.node_resolve.specs.Looking.{Moment, AskedAll, AskedPart, failed, whole, LooksAt, wanted}
use Rattle.node_resolve.specs.Manifests.{IsSight}
use Rattle.node_resolve.specs.Present.{present}
use Rattle.node_resolve.specs.Walks.{Goes, Stops, Went}
use Rattle.node_resolve.proofs.Sights.{shows}
use Rattle.node_resolve.proofs.Walking.{fails_as, no_memory}

module _ (m0 m1 : Moment) (path : List ℕ) (from to : Candidates) where
  -- nothing came behind the candidates before it
  part_stops : {T : Type 0} → AskedPart m0 m1 [] NoMemory → LooksAt {T = T} path (Err NoMemory) m0 m1 → Stops NoMemory m0 m1 from
  part_stops part h = record { files = h.files; asked = []; to = from; made = part; leads = λ told. there }

  all_stops : {T : Type 0} → (IsTrue m0.files.told → Leads (present m0.files.tree) to from (path ∷ [])) → AskedAll m0 m1 (path ∷ []) → LooksAt {T = T} path (Err NoMemory) m0 m1 → Stops NoMemory m0 m1 from
  all_stops way all h = record { files = h.files; asked = path ∷ []; to = to; made = whole all.files all.kept; leads = way }

  fault_stops : {T : Type 0} → LooksAt {T = T} path (Err Failed) m0 m1 → Stops Failed m0 m1 from
  fault_stops h = record {
    files = h.files;
    asked = [];
    to = from;
    made = failed path
        (subst (λ kept. wanted kept path ≡ path ∷ []) (sym (append-nil m0.look.kept)) h.by.0)
        (h.by.1 ∙ ap (λ l. l ++ path ∷ []) (sym (append-nil m0.files.asks)))
        (h.by.2 ∙ sym (append-nil m0.look.kept));
    leads = λ told. there;
  }

  -- a look that failed, where the tree leads over the path
  look_stops : {T : Type 0} (fail : ReadFail) → (IsTrue m0.files.told → Leads (present m0.files.tree) to from (path ∷ [])) → LooksAt {T = T} path (Err fail) m0 m1 → Stops fail m0 m1 from
  look_stops Failed way h = fault_stops h
  look_stops NoMemory way h = elim h.by [
    | inl all ↦ all_stops way all h
    | inr part ↦ part_stops part h
  ]

  look_goes : {T : Type 0} (x : T) (n0 n1 : List (List ℕ)) → n1 ≡ n0 ++ path ∷ [] → (IsTrue m0.files.told → Leads (present m0.files.tree) to from (path ∷ [])) → LooksAt path (Ok x) m0 m1 → Goes m0 m1 n0 n1 from to
  look_goes x n0 n1 e way h = record { files = h.files; asked = path ∷ []; noted = e; asks = h.asked; made = h.by; leads = way }

-- ---- at a file

module _ (m0 m1 : Moment) (path : List ℕ) (yes no : Candidates) where
  pub file_fails : {T U : Type 0} (other : Result U ReadFail) (fail : ReadFail) (n0 n1 : List (List ℕ)) (to : U → Candidates) → IsErrAnd other (λ f. f ≡ fail) → LooksAt {T = T} path (Err fail) m0 m1 → Went other m0 m1 n0 n1 (file path yes no) to
  file_fails other fail n0 n1 to e h =
      fails_as other fail m0 m1 n0 n1 (file path yes no) to e (look_stops m0 m1 path (file path yes no) (if is_some (present m0.files.tree path) then yes else no) fail (λ told. by_file there) h)

  pub file_goes : (found : Bool) (n0 n1 : List (List ℕ)) → n1 ≡ n0 ++ path ∷ [] → (IsTrue m0.files.told → found ≡ is_some (present m0.files.tree path)) → LooksAt path (Ok found) m0 m1
      → Goes m0 m1 n0 n1 (file path yes no) (if found then yes else no)
  file_goes found n0 n1 e tells h =
      look_goes m0 m1 path (file path yes no) (if found then yes else no) found n0 n1 e
      (λ told. subst (λ b. Leads (present m0.files.tree) (if b then yes else no) (file path yes no) (path ∷ [])) (sym (tells told)) (by_file there)) h

-- ---- at a manifest

module _ (m0 m1 : Moment) (path : List ℕ) (next : Sight → Candidates) where
  pub manifest_fails : {T U : Type 0} (other : Result U ReadFail) (fail : ReadFail) (n0 n1 : List (List ℕ)) (to : U → Candidates) → IsErrAnd other (λ f. f ≡ fail) → LooksAt {T = T} path (Err fail) m0 m1 → Went other m0 m1 n0 n1 (manifest path next) to
  manifest_fails other fail n0 n1 to e h =
      let seen = shows (present m0.files.tree path) in
      fails_as other fail m0 m1 n0 n1 (manifest path next) to e (look_stops m0 m1 path (manifest path next) (next seen.0) fail (λ told. by_manifest seen.0 seen.1 there) h)

  pub manifest_goes : {T : Type 0} (x : T) (sight : Sight) (n0 n1 : List (List ℕ)) → n1 ≡ n0 ++ path ∷ [] → (IsTrue m0.files.told → IsSight (present m0.files.tree path) sight) → LooksAt path (Ok x) m0 m1 → Goes m0 m1 n0 n1 (manifest path next) (next sight)
  manifest_goes x sight n0 n1 e tells h = look_goes m0 m1 path (manifest path next) (next sight) x n0 n1 e (λ told. by_manifest sight (tells told) there) h

  -- for want of memory behind the look
  pub manifest_lost : {T U : Type 0} (x : T) (other : Result U ReadFail) (n0 n1 : List (List ℕ)) (to : U → Candidates) → IsErrAnd other (λ f. f ≡ NoMemory) → LooksAt path (Ok x) m0 m1 → Went other m0 m1 n0 n1 (manifest path next) to
  manifest_lost x other n0 n1 to e h =
      let seen = shows (present m0.files.tree path) in
      no_memory other m0 m1 n0 (n0 ++ path ∷ []) n1 (manifest path next) (next seen.0) to e (manifest_goes x seen.0 n0 (n0 ++ path ∷ []) refl (λ told. seen.1) h)
