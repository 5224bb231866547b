-- Files that are put one after another.
use Rattle.std.proofs.Common.{◌≡◌, ℕ, List, [], ◌∷◌, ◌++◌, Some, Result, Ok, Err, IsTrue, OnErr, length, take, drop, get_or, ◌<◌, ◌+◌, refl, sym, ap, subst, ◌∙◌, append_assoc}
use Rattle.std.proofs.lemmas.List.{take_more, drop_more, take-append-drop}
use Rattle.pk_base.specs.FileTree.{FileTree}
use Rattle.pk_base.specs.Meanings.{StoreMeaning}
use Rattle.pk_base.specs.Outside.{set_at, Tried, ChangesOnly}
use Rattle.pk_base.specs.declared.outside.Call.{Call}
use Rattle.pk_base.specs.declared.outside.Call.TheVariants.{Put}
use Rattle.plan_core.specs.declared.files.OutFile.{OutFile}
use Rattle.pack_cli.specs.Output.{Files, put_calls, put_all}
use Rattle.pack_cli.specs.Round.{HasLostPut}

-- the files up to a place and the one there
pub one_more : (files : Files) (i : ℕ) (file : OutFile) → file ≡ get_or files i file → i < length files → take (i + 1) files ≡ take i files ++ file ∷ []
one_more files i file e h = take_more files i file h ∙ ap (λ f. take i files ++ f ∷ []) (sym e)

split_at : (files : Files) (i : ℕ) (file : OutFile) → file ≡ get_or files i file → i < length files → files ≡ take i files ++ file ∷ drop (i + 1) files
split_at files i file e h = sym (take-append-drop i files) ∙ ap (λ rest. take i files ++ rest) (drop_more files i file h ∙ ap (λ f. f ∷ drop (i + 1) files) (sym e))

calls_more : (files : Files) (file : OutFile) → put_calls (files ++ file ∷ []) ≡ put_calls files ++ Put file.name ∷ []
calls_more [] file = refl
calls_more (next ∷ files) file = ap (λ calls. Put next.name ∷ calls) (calls_more files file)

all_more : (files : Files) (file : OutFile) (held : FileTree) → put_all (files ++ file ∷ []) held ≡ set_at file.name (Some file.bytes) (put_all files held)
all_more [] file held = refl
all_more (next ∷ files) file held = all_more files file (set_at next.name (Some next.bytes) held)

pub called : (files : Files) (i : ℕ) (file : OutFile) (name : List ℕ) (old now new : List Call) → file ≡ get_or files i file → i < length files → name ≡ file.name → now ≡ old ++ put_calls (take i files) → new ≡ now ++ Put name ∷ []
    → new ≡ old ++ put_calls (take (i + 1) files)
called files i file name old now new e h n was is =
    is ∙ ap (λ calls. calls ++ Put name ∷ []) was ∙ ap (λ word. (old ++ put_calls (take i files)) ++ Put word ∷ []) n
    ∙ append_assoc old (put_calls (take i files)) (Put file.name ∷ [])
    ∙ ap (λ calls. old ++ calls) (sym (calls_more (take i files) file)) ∙ ap (λ l. old ++ put_calls l) (sym (one_more files i file e h))

pub held : (files : Files) (i : ℕ) (file : OutFile) (name bytes : List ℕ) (old now new : FileTree) → file ≡ get_or files i file → i < length files → name ≡ file.name → bytes ≡ file.bytes → now ≡ put_all (take i files) old → new ≡ set_at name (Some bytes) now
    → new ≡ put_all (take (i + 1) files) old
held files i file name bytes old now new e h n b was is =
    is ∙ ap (λ word. set_at word (Some bytes) now) n ∙ ap (λ l. set_at file.name (Some l) now) b ∙ ap (set_at file.name (Some file.bytes)) was
    ∙ sym (all_more (take i files) file old) ∙ ap (λ l. put_all l old) (sym (one_more files i file e h))

pub lost : (files : Files) (i : ℕ) (file : OutFile) (name : List ℕ) (old now new : StoreMeaning) → file ≡ get_or files i file → i < length files → name ≡ file.name → now.told ≡ old.told → now.calls ≡ old.calls ++ put_calls (take i files)
    → (IsTrue old.told → now.files ≡ put_all (take i files) old.files) → Tried now.calls new.calls (Put name) → (IsTrue now.told → ChangesOnly now.files new.files name) → HasLostPut files old new
lost files i file name old now new e h n told calls all tried changes = record {
  done = take i files;
  file = file;
  rest = drop (i + 1) files;
  split = split_at files i file e h;
  calls = subst (λ word. Tried (old.calls ++ put_calls (take i files)) new.calls (Put word)) n (subst (λ was. Tried was new.calls (Put name)) calls tried);
  files_are = λ h. subst (λ word. ChangesOnly (put_all (take i files) old.files) new.files word) n (subst (λ was. ChangesOnly was new.files name) (all h) (changes (subst IsTrue (sym told) h)));
}

pub on_err : {T E : Type 0} (P : Type 0) (result : Result T E) → P → OnErr result P
on_err P (Ok x) p = tt
on_err P (Err e) p = p
