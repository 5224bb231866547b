-- How walks along candidates come together.
use Rattle.std.proofs.Common.{◌≡◌, ℕ, Bool, true, false, List, [], ◌∷◌, ◌++◌, Option, None, Some, Result, Ok, Err, IsTrue, is_some, refl, sym, ap, subst, ◌∙◌, append-nil, append_assoc}
use Rattle.std.proofs.lemmas.Bool.{false≢true}
use Rattle.std.proofs.lemmas.Result.{err_from_is_err_and}
use Rattle.std.specs.Result.{IsErrAnd}
use Rattle.pk_base.specs.Causes.{Counts}
use Rattle.pk_base.specs.FileTree.{FileTree}
use Rattle.pk_base.specs.Meanings.{FilesMeaning}
use Rattle.pk_base.specs.declared.outside.ReadFail.{ReadFail}
use Rattle.pk_base.specs.declared.outside.ReadFail.TheVariants.{NoMemory}
use Rattle.pk_base.proofs.Keeping.{counts_none}
use Rattle.node_resolve.specs.Candidates.{Candidates, Verdict, decided, Leads, there, by_file, by_manifest, by_target}
use Rattle.node_resolve.specs.Looking.{Moment, AskedAll, AskedPart, failed, lost, whole, Stays, wanted, all_wanted}
use Rattle.node_resolve.specs.Present.{present}
use Rattle.node_resolve.specs.Walks.{Goes, Stops, Went, on, verdict_of}
use Rattle.node_resolve.specs.Resolution.{no_file}

-- ---- along the candidates

pub leads_then : (t : FileTree) (mid to from : Candidates) (xs ys : List (List ℕ)) → Leads t mid from xs → Leads t to mid ys → Leads t to from (xs ++ ys)
leads_then t mid to from xs ys there next = next
leads_then t mid to from xs ys (by_file h) next = by_file (leads_then t mid to _ _ ys h next)
leads_then t mid to from xs ys (by_manifest sight i h) next = by_manifest sight i (leads_then t mid to _ _ ys h next)
leads_then t mid to from xs ys (by_target answer i h) next = by_target answer i (leads_then t mid to _ _ ys h next)

-- ---- what is wanted

all_wanted-append : (kept xs ys : List (List ℕ)) → all_wanted kept (xs ++ ys) ≡ all_wanted kept xs ++ all_wanted (kept ++ all_wanted kept xs) ys
all_wanted-append kept [] ys = ap (λ k. all_wanted k ys) (sym (append-nil kept))
all_wanted-append kept (x ∷ xs) ys =
    let w = wanted kept x in
    let more = all_wanted (kept ++ w) xs in
    ap (λ l. w ++ l) (all_wanted-append (kept ++ w) xs ys) ∙ sym (append_assoc w more (all_wanted ((kept ++ w) ++ more) ys))
    ∙ ap (λ k. (w ++ more) ++ all_wanted k ys) (append_assoc kept w more)

-- what is behind a list, once what is wanted of two lists of paths was put there
grows : (old mid new kept kept_mid xs ys : List (List ℕ)) → mid ≡ old ++ all_wanted kept xs → kept_mid ≡ kept ++ all_wanted kept xs → new ≡ mid ++ all_wanted kept_mid ys → new ≡ old ++ all_wanted kept (xs ++ ys)
grows old mid new kept kept_mid xs ys e f g =
    g ∙ ap (λ k. mid ++ all_wanted k ys) f ∙ ap (λ m. m ++ all_wanted (kept ++ all_wanted kept xs) ys) e
    ∙ append_assoc old (all_wanted kept xs) (all_wanted (kept ++ all_wanted kept xs) ys) ∙ ap (λ l. old ++ l) (sym (all_wanted-append kept xs ys))

module _ (m0 m1 m2 : Moment) (xs ys : List (List ℕ)) (first : AskedAll m0 m1 xs) where
  all_then : AskedAll m1 m2 ys → AskedAll m0 m2 (xs ++ ys)
  all_then next = record {
    files = grows m0.files.asks m1.files.asks m2.files.asks m0.look.kept m1.look.kept xs ys first.files first.kept next.files;
    kept = grows m0.look.kept m1.look.kept m2.look.kept m0.look.kept m1.look.kept xs ys first.kept first.kept next.kept;
  }

  kept_too : m1.look.kept ++ all_wanted m1.look.kept ys ≡ m0.look.kept ++ all_wanted m0.look.kept (xs ++ ys)
  kept_too = grows m0.look.kept m1.look.kept (m1.look.kept ++ all_wanted m1.look.kept ys) m0.look.kept m1.look.kept xs ys first.kept first.kept refl

  asks_too : m1.files.asks ++ all_wanted m1.look.kept ys ≡ m0.files.asks ++ all_wanted m0.look.kept (xs ++ ys)
  asks_too = grows m0.files.asks m1.files.asks (m1.files.asks ++ all_wanted m1.look.kept ys) m0.look.kept m1.look.kept xs ys first.files first.kept refl

  part_then : (fail : ReadFail) → AskedPart m1 m2 ys fail → AskedPart m0 m2 (xs ++ ys) fail
  part_then fail (failed last w a k) = failed last (subst (λ kept. wanted kept last ≡ last ∷ []) kept_too w) (a ∙ ap (λ l. l ++ last ∷ []) asks_too) (k ∙ kept_too)
  part_then fail (lost last w a k) = lost last (subst (λ kept. wanted kept last ≡ last ∷ []) kept_too w) (a ∙ ap (λ l. l ++ last ∷ []) asks_too) (k ∙ kept_too)
  part_then fail (whole a k) = whole (a ∙ asks_too) (k ∙ kept_too)

-- ---- the files

stays_same : (files : FilesMeaning) → Stays false files files
stays_same files = record { told = refl; tree = refl; coming = refl; faults = counts_none files.faults }

stays_then : (fails : Bool) (before mid after : FilesMeaning) → Stays false before mid → Stays fails mid after → Stays fails before after
stays_then fails before mid after first next = record {
  told = next.told ∙ first.told;
  tree = next.tree ∙ first.tree;
  coming = next.coming ∙ first.coming;
  faults = subst (λ n. Counts fails n after.faults) (first.faults.kept refl) next.faults;
}

-- ---- walks

pub goes_nowhere : (m : Moment) (noted : List (List ℕ)) (from : Candidates) → Goes m m noted noted from from
goes_nowhere m noted from = record {
  files = stays_same m.files;
  asked = [];
  noted = sym (append-nil noted);
  asks = sym (append-nil m.look.asks);
  made = record { files = sym (append-nil m.files.asks); kept = sym (append-nil m.look.kept) };
  leads = λ told. there;
}

module _ (m0 m1 m2 : Moment) (n0 n1 n2 : List (List ℕ)) (a b : Candidates) (first : Goes m0 m1 n0 n1 a b) where
  on_the_way : (to : Candidates) (ys : List (List ℕ)) → (IsTrue m1.files.told → Leads (present m1.files.tree) to b ys) → IsTrue m0.files.told → Leads (present m0.files.tree) to a (first.asked ++ ys)
  on_the_way to ys next told =
      leads_then (present m0.files.tree) b to a first.asked ys (first.leads told) (subst (λ t. Leads (present t) to b ys) first.files.tree (next (subst IsTrue (sym first.files.told) told)))

  pub goes_then : (c : Candidates) → Goes m1 m2 n1 n2 b c → Goes m0 m2 n0 n2 a c
  goes_then c next = record {
    files = stays_then false m0.files m1.files m2.files first.files next.files;
    asked = first.asked ++ next.asked;
    noted = next.noted ∙ ap (λ l. l ++ next.asked) first.noted ∙ append_assoc n0 first.asked next.asked;
    asks = next.asks ∙ ap (λ l. l ++ next.asked) first.asks ∙ append_assoc m0.look.asks first.asked next.asked;
    made = all_then m0 m1 m2 first.asked next.asked first.made next.made;
    leads = on_the_way c next.asked next.leads;
  }

  pub stops_then : (fail : ReadFail) → Stops fail m1 m2 b → Stops fail m0 m2 a
  stops_then fail next = record {
    files = stays_then _ m0.files m1.files m2.files first.files next.files;
    asked = first.asked ++ next.asked;
    to = next.to;
    made = part_then m0 m1 m2 first.asked next.asked first.made fail next.made;
    leads = on_the_way next.to next.asked next.leads;
  }

  pub went_then : {T : Type 0} (answer : Result T ReadFail) (to : T → Candidates) → Went answer m1 m2 n1 n2 b to → Went answer m0 m2 n0 n2 a to
  went_then (Ok x) to next = goes_then (to x) next
  went_then (Err fail) to next = stops_then fail next

pub stops_memory : (m0 m1 : Moment) (n0 n1 : List (List ℕ)) (a b : Candidates) → Goes m0 m1 n0 n1 a b → Stops NoMemory m0 m1 a
stops_memory m0 m1 n0 n1 a b g = record { files = g.files; asked = g.asked; to = b; made = whole g.made.files g.made.kept; leads = g.leads }

-- ---- a `?` hands on a failure

abbrev failure : (T : Type 0) → ReadFail → Result T ReadFail
failure T fail = Err fail

pub fails_as : {U : Type 0} (other : Result U ReadFail) (fail : ReadFail) (m0 m1 : Moment) (n0 n1 : List (List ℕ)) (a : Candidates) (to : U → Candidates) → IsErrAnd other (λ f. f ≡ fail) → Stops fail m0 m1 a → Went other m0 m1 n0 n1 a to
fails_as {U} other fail m0 m1 n0 n1 a to e h =
    let error = err_from_is_err_and other e in
    let is : other ≡ failure U fail = error.1 ∙ ap (failure U) error.2 in
    subst (λ (o : Result U ReadFail). Went o m0 m1 n0 n1 a to) (sym is) h

-- behind a walk
pub fails_then : {U : Type 0} (other : Result U ReadFail) (fail : ReadFail) (m0 m1 m2 : Moment) (n0 n1 n2 : List (List ℕ)) (a b : Candidates) (to : U → Candidates) → IsErrAnd other (λ f. f ≡ fail) → Goes m0 m1 n0 n1 a b → Stops fail m1 m2 b
    → Went other m0 m2 n0 n2 a to
fails_then other fail m0 m1 m2 n0 n1 n2 a b to e first h = fails_as other fail m0 m2 n0 n2 a to e (stops_then m0 m1 m2 n0 n1 n1 a b first fail h)

-- for want of memory behind a walk
pub no_memory : {U : Type 0} (other : Result U ReadFail) (m0 m1 : Moment) (n0 n1 n2 : List (List ℕ)) (a b : Candidates) (to : U → Candidates) → IsErrAnd other (λ f. f ≡ NoMemory) → Goes m0 m1 n0 n1 a b → Went other m0 m1 n0 n2 a to
no_memory other m0 m1 n0 n1 n2 a b to e first = fails_as other NoMemory m0 m1 n0 n2 a to e (stops_memory m0 m1 n0 n1 a b first)

-- ---- ends

-- an end stays one, whatever comes next
pub same_end : (found : Option Verdict) (next other : Candidates) → is_some found ≡ true → on found next ≡ on found other
same_end None next other e = absurd (false≢true e)
same_end (Some verdict) next other e = refl

pub no_end : (found : Option Verdict) (next : Candidates) → is_some found ≡ false → on found next ≡ next
no_end None next e = refl
no_end (Some verdict) next e = absurd (false≢true (sym e))

pub last_end : (found : Option Verdict) → on found no_file ≡ decided (verdict_of found)
last_end None = refl
last_end (Some verdict) = refl

pub goes_as : (m0 m1 : Moment) (n0 n1 : List (List ℕ)) (a b c : Candidates) → b ≡ c → Goes m0 m1 n0 n1 a b → Goes m0 m1 n0 n1 a c
goes_as m0 m1 n0 n1 a b c e g = subst (λ x. Goes m0 m1 n0 n1 a x) e g

pub goes_from : (m0 m1 : Moment) (n0 n1 : List (List ℕ)) (a b c : Candidates) → a ≡ b → Goes m0 m1 n0 n1 a c → Goes m0 m1 n0 n1 b c
goes_from m0 m1 n0 n1 a b c e g = subst (λ x. Goes m0 m1 n0 n1 x c) e g

-- ---- no candidate is looked at

pub stays_at : (m : Moment) (n : List (List ℕ)) (a b : Candidates) → b ≡ a → Goes m m n n a b
stays_at m n a b e = goes_as m m n n a a b (sym e) (goes_nowhere m n a)

-- for want of memory
pub no_walk : (m : Moment) (from : Candidates) → Stops NoMemory m m from
no_walk m from = stops_memory m m [] [] from from (goes_nowhere m [] from)

pub memory_lost : {U : Type 0} (other : Result U ReadFail) (m : Moment) (n after : List (List ℕ)) (from : Candidates) (to : U → Candidates) → IsErrAnd other (λ f. f ≡ NoMemory) → Went other m m n after from to
memory_lost other m n after from to is = fails_as other NoMemory m m n after from to is (no_walk m from)

-- ---- the same candidates otherwise written

pub went_from : {T : Type 0} (answer : Result T ReadFail) (m0 m1 : Moment) (n0 n1 : List (List ℕ)) (a b : Candidates) (to : T → Candidates) → a ≡ b → Went answer m0 m1 n0 n1 a to → Went answer m0 m1 n0 n1 b to
went_from answer m0 m1 n0 n1 a b to e h = subst (λ x. Went answer m0 m1 n0 n1 x to) e h

pub stops_from : (fail : ReadFail) (m0 m1 : Moment) (a b : Candidates) → a ≡ b → Stops fail m0 m1 a → Stops fail m0 m1 b
stops_from fail m0 m1 a b e h = subst (λ x. Stops fail m0 m1 x) e h
