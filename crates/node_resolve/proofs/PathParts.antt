-- The first part of a text, texts that are no path, and the folders from one outwards.
use Rattle.std.proofs.Common.{◌≡◌, ℕ, ◌+◌, ◌-◌, ◌<◌, ◌≤◌, true, false, IsTrue, ◌≢◌, None, Some, if◌then◌else◌, ◌↔◌, List, [], ◌∷◌, ◌++◌, length, take, get_or, refl, sym, ap, ◌∙◌, append_assoc, add-one, arith}
use Rattle.std.proofs.lemmas.Bool.{false≢true, false_from_ne_true}
use Rattle.std.proofs.lemmas.List.{length-take-le}
use Rattle.std.proofs.lemmas.List.Sums.{position_or_len_is}
use Rattle.std.proofs.lemmas.List.Splits.{length-slice_split}
use Rattle.pk_base.specs.Paths.{is_slash, is_path, path_or_none, segments, without_last, folder_of, IsFirstBreak}
use Rattle.pk_base.proofs.Breaks.{short_path, no_break-from_is_path}
use Rattle.node_resolve.specs.Folders.{folders_above, outward}
use Rattle.node_resolve.specs.Requests.{one_len}

pub one_len_at : (text : List ℕ) (n : ℕ) → n ≤ length text → ((k : ℕ) → k < n → is_slash (get_or text k 0) ≡ false) → (n < length text → is_slash (get_or text n 0) ≡ true) → n ≡ one_len text
one_len_at text n within before here =
    let p = position_or_len_is is_slash text n 0 within before here in
    sym (ap (λ m. length (take m text)) p ∙ length-take-le n text within)

no_path : (text : List ℕ) → (is_path text ≡ true → ⊥) → None ≡ path_or_none text
no_path text none = sym (ap (λ b. if b then Some text else None) (false_from_ne_true (is_path text) none))

pub no_path_long : (text : List ℕ) (n : ℕ) → (n ≡ length text) × (1024 < n) → None ≡ path_or_none text
no_path_long text n long = no_path text (λ h. let short = short_path text h in absurd (omega arith))

pub no_path_broken : (text : List ℕ) (p : ℕ) → 0 < length text → (text ≢ []) × (length text ≤ 1024) × IsFirstBreak text p → None ≡ path_or_none text
no_path_broken text p some broken = no_path text (λ h. no_break-from_is_path text some h p broken.2.breaks)

pub some_segment : (path : List ℕ) → (path ≡ [] → ⊥) → 0 < length (segments path)
some_segment [] some = absurd (some refl)
some_segment (c ∷ cs) some = omega (arith, length-slice_split is_slash (c ∷ cs))

pub fewer_segments : (here up : List ℕ) → 0 < length (segments here) → segments up ≡ without_last (segments here) → length (segments up) + 1 ≡ length (segments here)
fewer_segments here up some e =
    let l = ap length e in
    let t = length-take-le (length (segments here) - 1) (segments here) (omega arith) in
    omega arith

outward_from : (n : ℕ) (here up : List ℕ) → length (segments here) ≡ n + 1 → length (segments up) ≡ n → up ≡ folder_of here → outward here ≡ here ∷ outward up
outward_from n here up e f is =
    ap (λ m. folders_above m here) (e ∙ add-one n) ∙ ap (λ x. here ∷ folders_above n x) (sym is) ∙ ap (λ m. here ∷ folders_above m up) (sym f)

-- a folder that is not the root, and those from the one around it outwards
pub outward_up : (here up : List ℕ) → 0 < length (segments here) → up ≡ folder_of here → segments up ≡ without_last (segments here) → outward here ≡ here ∷ outward up
outward_up here up some is e = outward_from (length (segments up)) here up (sym (fewer_segments here up some e)) refl is

-- one more folder is put behind those that were found
pub outward_more : (found new : List (List ℕ)) (here copied up : List ℕ) (all : List (List ℕ)) → found ++ outward here ≡ all → new ≡ found ++ copied ∷ [] → copied ≡ here → (IsTrue false ↔ (here ≡ [])) → up ≡ folder_of here
    → segments up ≡ without_last (segments here) → new ++ outward up ≡ all
outward_more found new here copied up all old e f root is g =
    let some = some_segment here (λ h. false≢true (root.1 h)) in
    ap (λ l. l ++ outward up) (e ∙ ap (λ x. found ++ x ∷ []) f) ∙ append_assoc found (here ∷ []) (outward up)
    ∙ ap (λ l. found ++ l) (sym (outward_up here up some is g)) ∙ old
