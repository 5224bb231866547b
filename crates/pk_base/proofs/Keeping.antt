-- How what calls over files keep comes together.
use Rattle.std.proofs.Common.{◌≡◌, ℕ, Bool, true, false, List, [], ◌∷◌, ◌++◌, ◌⊎◌, inl, inr, Result, Ok, Err, refl, sym, ap, subst, ◌∙◌, append-nil, append_assoc, arith}
use Rattle.std.proofs.lemmas.Bool.{false≢true}
use Rattle.std.proofs.lemmas.Map.Keys.{IsDistinct-from_apart, IsDistinct-push}
use Rattle.std.proofs.lemmas.Result.{err_from_is_err_and}
use Rattle.std.specs.Cmp.Lexicographic.{nat_list_eq_equiv}
use Rattle.std.specs.Result.{IsErrAnd}
use Rattle.std.specs.List.{IsDistinct, list_any}
use Rattle.std.specs.Str.{bytes_eq}
use Rattle.pk_base.specs.Causes.{Counts, is_failed}
use Rattle.pk_base.specs.Keeping.{AsksFor, AsksOnce, AsksUnseen, KeepsFiles, KeepsSeen, Keeps}
use Rattle.pk_base.specs.Meanings.{FilesMeaning}
use Rattle.pk_base.specs.declared.outside.ReadFail.{ReadFail}
use Rattle.pk_base.specs.declared.outside.ReadFail.TheVariants.{Failed, NoMemory}

-- ---- nothing was asked for

asks_nothing : (seen asks : List (List ℕ)) → AsksUnseen seen asks asks
asks_nothing seen asks = record { made = []; is = sym (append-nil asks); once = λ d. subst (IsDistinct bytes_eq) (sym (append-nil seen)) d }

pub counts_none : (count : ℕ) → Counts false count count
counts_none count = record { later = omega arith; rose = λ e. absurd (false≢true e); kept = λ e. refl }

pub keeps_all : (seen : List (List ℕ)) (files : FilesMeaning) → KeepsFiles false seen files files
keeps_all seen files = record { told = refl; tree = refl; coming = refl; faults = counts_none files.faults; asks = asks_nothing seen files.asks }

-- reflexive
pub sees_no_more : (seen : List (List ℕ)) (files : FilesMeaning) → KeepsSeen files files seen seen
unfolding keeps_all asks_nothing
sees_no_more seen files = record { files = keeps_all seen files; noted = sym (append-nil seen) }

-- ---- one call behind another

asks_then : (seen old mid new : List (List ℕ)) → (first : AsksUnseen seen old mid) → AsksUnseen (seen ++ first.made) mid new → AsksUnseen seen old new
asks_then seen old mid new first next = record {
  made = first.made ++ next.made;
  is = next.is ∙ ap (λ asks. asks ++ next.made) first.is ∙ append_assoc old first.made next.made;
  once = λ d. subst (IsDistinct bytes_eq) (append_assoc seen first.made next.made) (next.once (first.once d));
}

counts_then : (failed : Bool) (old mid new : ℕ) → mid ≡ old → Counts failed mid new → Counts failed old new
counts_then failed old mid new same h = subst (λ n. Counts failed n new) same h

keeps_behind : (failed : Bool) (before mid after : FilesMeaning) (seen : List (List ℕ)) → (first : KeepsFiles false seen before mid) → KeepsFiles failed (seen ++ first.asks.made) mid after → KeepsFiles failed seen before after
keeps_behind failed before mid after seen first next = record {
  told = next.told ∙ first.told;
  tree = next.tree ∙ first.tree;
  coming = next.coming ∙ first.coming;
  faults = counts_then failed before.faults mid.faults after.faults (first.faults.kept refl) next.faults;
  asks = asks_then seen before.asks mid.asks after.asks first.asks next.asks;
}

-- a call behind one that ended with an answer
pub then_keeps : (failed : Bool) (before mid after : FilesMeaning) (seen seen_mid : List (List ℕ)) → KeepsSeen before mid seen seen_mid → KeepsFiles failed seen_mid mid after → KeepsFiles failed seen before after
then_keeps failed before mid after seen seen_mid first next = keeps_behind failed before mid after seen first.files (subst (λ l. KeepsFiles failed l mid after) first.noted next)

-- transitive
pub then_sees : (before mid after : FilesMeaning) (seen seen_mid seen_after : List (List ℕ)) → KeepsSeen before mid seen seen_mid → KeepsSeen mid after seen_mid seen_after → KeepsSeen before after seen seen_after
unfolding keeps_behind asks_then
then_sees before mid after seen seen_mid seen_after first next =
    let same : KeepsSeen mid after (seen ++ first.files.asks.made) seen_after = subst (λ l. KeepsSeen mid after l seen_after) first.noted next in
    record {
      files = keeps_behind false before mid after seen first.files same.files;
      noted = same.noted ∙ append_assoc seen first.files.asks.made same.files.asks.made;
    }

-- whatever the answer is
pub then_call : {T : Type 0} (answer : Result T ReadFail) (before mid after : FilesMeaning) (seen seen_mid seen_after : List (List ℕ)) → KeepsSeen before mid seen seen_mid → Keeps answer mid after seen_mid seen_after → Keeps answer before after seen seen_after
then_call (Ok x) before mid after seen seen_mid seen_after first next = then_sees before mid after seen seen_mid seen_after first next
then_call (Err Failed) before mid after seen seen_mid seen_after first next = then_keeps true before mid after seen seen_mid first next
then_call (Err NoMemory) before mid after seen seen_mid seen_after first next = then_keeps false before mid after seen seen_mid first next

-- ---- by the answer

abbrev pub failure : (T : Type 0) → ReadFail → Result T ReadFail
failure T fail = Err fail

pub fails_as : (T U : Type 0) (fail : ReadFail) (before after : FilesMeaning) (seen seen_after : List (List ℕ)) → Keeps (failure T fail) before after seen seen_after → Keeps (failure U fail) before after seen seen_after
fails_as T U Failed before after seen seen_after h = h
fails_as T U NoMemory before after seen seen_after h = h

-- an answer that failed as another did, whose answers are of another type
pub fails_alike : (T U : Type 0) (answer : Result T ReadFail) (other : Result U ReadFail) (fail : ReadFail) (before after : FilesMeaning) (seen seen_after : List (List ℕ)) → answer ≡ failure T fail → other ≡ failure U fail → Keeps answer before after seen seen_after
    → Keeps other before after seen seen_after
fails_alike T U answer other fail before after seen seen_after e f h =
    subst (λ o. Keeps o before after seen seen_after) (sym f) (fails_as T U fail before after seen seen_after (subst (λ o. Keeps o before after seen seen_after) e h))

-- the frame alone
pub keeps_files : {T : Type 0} (answer : Result T ReadFail) (before after : FilesMeaning) (seen seen_after : List (List ℕ)) → Keeps answer before after seen seen_after → KeepsFiles (is_failed answer) seen before after
keeps_files (Ok x) before after seen seen_after h = h.files
keeps_files (Err Failed) before after seen seen_after h = h
keeps_files (Err NoMemory) before after seen seen_after h = h

-- a `?` hands on the failure of a call
pub fails_on : (T U : Type 0) (fail : ReadFail) (other : Result U ReadFail) (before after : FilesMeaning) (seen seen_after : List (List ℕ)) → IsErrAnd other (λ f. f ≡ fail) → Keeps (failure T fail) before after seen seen_after → Keeps other before after seen seen_after
fails_on T U fail other before after seen seen_after e h =
    let error = err_from_is_err_and other e in
    fails_alike T U (failure T fail) other fail before after seen seen_after refl (error.1 ∙ ap (failure U) error.2) h

-- and it ends for want of memory
pub no_memory : (U : Type 0) (other : Result U ReadFail) (before after : FilesMeaning) (seen seen_mid seen_after : List (List ℕ)) → IsErrAnd other (λ f. f ≡ NoMemory) → KeepsSeen before after seen seen_mid → Keeps other before after seen seen_after
no_memory U other before after seen seen_mid seen_after e h = fails_on U U NoMemory other before after seen seen_after e h.files

-- ---- one read of a path that was not seen

new_once : (seen : List (List ℕ)) (path : List ℕ) → list_any (bytes_eq path) seen ≡ false → IsDistinct bytes_eq seen → IsDistinct bytes_eq (seen ++ path ∷ [])
new_once seen path new d = IsDistinct-push nat_list_eq_equiv seen path d new

asks_one : (seen : List (List ℕ)) (path : List ℕ) (old new : List (List ℕ)) → list_any (bytes_eq path) seen ≡ false → new ≡ old ++ path ∷ [] → AsksUnseen seen old new
asks_one seen path old new unseen e = record { made = path ∷ []; is = e; once = λ d. new_once seen path unseen d }

asks_maybe : (seen : List (List ℕ)) (path : List ℕ) (old new : List (List ℕ)) → list_any (bytes_eq path) seen ≡ false → (new ≡ old) ⊎ (new ≡ old ++ path ∷ []) → AsksUnseen seen old new
asks_maybe seen path old new unseen (inl e) = subst (λ asks. AsksUnseen seen old asks) (sym e) (asks_nothing seen old)
asks_maybe seen path old new unseen (inr e) = asks_one seen path old new unseen e

pub reads_new : {T : Type 0} (answer : Result T ReadFail) (path : List ℕ) (before after : FilesMeaning) (seen : List (List ℕ)) → list_any (bytes_eq path) seen ≡ false → AsksFor path answer before after → Keeps answer before after seen (seen ++ path ∷ [])
unfolding asks_one
reads_new (Ok x) path before after seen unseen h = record {
  files = record { told = h.told; tree = h.tree; coming = h.coming; faults = h.faults; asks = asks_one seen path before.asks after.asks unseen h.asked };
  noted = refl;
}
reads_new (Err Failed) path before after seen unseen h =
    record { told = h.told; tree = h.tree; coming = h.coming; faults = h.faults; asks = asks_one seen path before.asks after.asks unseen h.asked }
reads_new (Err NoMemory) path before after seen unseen h =
    record { told = h.told; tree = h.tree; coming = h.coming; faults = h.faults; asks = asks_maybe seen path before.asks after.asks unseen h.asked }

-- ---- where nothing was seen before

pub asked_once : (old new : List (List ℕ)) → AsksUnseen [] old new → AsksOnce old new
asked_once old new h = record { made = h.made; is = h.is; once = h.once (IsDistinct-from_apart bytes_eq [] (λ i j d h k. absurd (omega arith))) }
