-- Two walks of one tree from one entry agree as far as both go.
use Rattle.std.proofs.Common.{◌≡◌, ℕ, zero, suc, ◌+◌, ◌<◌, ◌≤◌, Bool, List, [], ◌∷◌, ◌++◌, length, length-append, length-take, length-drop, map, take, drop, Some, slice_get, refl, sym, ap, subst, ◌∙◌, arith}
use Rattle.std.specs.List.{AllZip}
use Rattle.std.specs.Option.{option_and_then, option_map}
use Rattle.std.proofs.lemmas.List.{length-map}
use Rattle.std.proofs.lemmas.List.Elements.{All-head, All-tail}
use Rattle.std.proofs.lemmas.List.Sums.{sum_by-cons}
use Rattle.std.proofs.lemmas.Option.{same_Some, none-some, slice_get-map, slice_get_within, get_or_from_slice_get}
use Rattle.emit_body.specs.declared.body.Body.{Body}
use Rattle.module_graph.specs.Building.{Building, so_far, leaf_of}
use Rattle.module_graph.specs.Known.{number_in, numbers_in}
use Rattle.pk_base.specs.FileTree.{FileTree}
use Rattle.pk_types.specs.declared.facts.Facts.{Facts}
use Rattle.pk_types.specs.declared.graph.Row.{Row}
use Rattle.bare_modules.specs.declared.read.ModuleText.{ModuleText}
use Rattle.watch_core.specs.Followed.{IsKnown, AreKnown, IsFollowed, AreFollowed, source_bytes}
use Rattle.watch_core.specs.Modules.{IsModule, facts_of}
use Rattle.watch_laws.proofs.OneNumbering.{IsNumbered, IsNumberedAt, agree, same_number, no_more}
use Rattle.watch_laws.proofs.OneModules.{one_module}

-- ---- lists, place by place

pub from_places : {X : Type 0} (xs ys : List X) → length xs ≡ length ys → ((n : ℕ) → n < length xs → slice_get xs n ≡ slice_get ys n) → xs ≡ ys
from_places [] [] h e = refl
from_places [] (y ∷ ys) h e = absurd (omega arith)
from_places (x ∷ xs) [] h e = absurd (omega arith)
from_places (x ∷ xs) (y ∷ ys) h e = ap (λ z. z ∷ xs) (same_Some x y (e zero (omega arith))) ∙ ap (λ l. y ∷ l) (from_places xs ys (omega arith) (λ n l. e (suc n) (omega arith)))

get_take : {X : Type 0} (xs : List X) (n m : ℕ) → m < n → slice_get (take n xs) m ≡ slice_get xs m
get_take xs zero m h = absurd (omega arith)
get_take [] (suc n) m h = refl
get_take (x ∷ xs) (suc n) zero h = refl
get_take (x ∷ xs) (suc n) (suc m) h = get_take xs n m (omega arith)

get_front : {X : Type 0} (xs ys : List X) (m : ℕ) (x : X) → slice_get xs m ≡ Some x → slice_get (xs ++ ys) m ≡ Some x
get_front [] ys m x e = absurd (none-some x e)
get_front (y ∷ xs) ys zero x e = e
get_front (y ∷ xs) ys (suc m) x e = get_front xs ys m x e

-- the rows up to one, and it, count no more than all
pub bytes_up_to : (xs ys : List Row) (row : Row) → ((n : ℕ) → n < length xs → slice_get xs n ≡ slice_get ys n) → slice_get ys (length xs) ≡ Some row → source_bytes xs + row.size ≤ source_bytes ys
bytes_up_to xs [] row e f = absurd (none-some row f)
bytes_up_to [] (y ∷ ys) row e f =
    let size : y.size ≡ row.size = ap (λ r. r.size) (same_Some y row f) in
    let none : source_bytes [] ≡ 0 = refl in
    omega (arith, sum_by-cons (λ (r : Row). r.size) y ys)
bytes_up_to (x ∷ xs) (y ∷ ys) row e f =
    let size : x.size ≡ y.size = ap (λ r. r.size) (same_Some x y (e zero (omega arith))) in
    omega (arith, sum_by-cons (λ (r : Row). r.size) x xs, sum_by-cons (λ (r : Row). r.size) y ys, bytes_up_to xs ys row (λ n h. e (suc n) (omega arith)) f)

pub record HasBoth (R : Row → Body → Type 0) (rows : List Row) (bodies : List Body) (m : ℕ) : Type 0 where
  pub row : Row
  pub body : Body
  pub row_is : slice_get rows m ≡ Some row
  pub body_is : slice_get bodies m ≡ Some body
  pub holds : R row body

zip_at : (R : Row → Body → Type 0) (rows : List Row) (bodies : List Body) (m : ℕ) → AllZip R rows bodies → m < length rows → HasBoth R rows bodies m
zip_at R [] bodies m h l = absurd (omega arith)
zip_at R (row ∷ rows) [] m h l = absurd h
zip_at R (row ∷ rows) (body ∷ bodies) zero h l = record { row = row; body = body; row_is = refl; body_is = refl; holds = h.0 }
zip_at R (row ∷ rows) (body ∷ bodies) (suc m) h l =
    let r = zip_at R rows bodies m h.1 (omega arith) in
    record { row = r.row; body = r.body; row_is = r.row_is; body_is = r.body_is; holds = r.holds }

-- leaves lead nowhere
leaf_ends : (rows : List Row) (paths : List (List ℕ)) (m i n : ℕ) → option_and_then (λ row. slice_get row.targets i) (slice_get (rows ++ map leaf_of paths) m) ≡ Some n → m < length rows
leaf_ends [] [] m i n e = absurd (none-some n e)
leaf_ends [] (path ∷ paths) zero i n e = absurd (none-some n e)
leaf_ends [] (path ∷ paths) (suc m) i n e = let no_row : m < 0 = leaf_ends [] paths m i n e in absurd (omega arith)
leaf_ends (row ∷ rows) paths zero i n e = omega arith
leaf_ends (row ∷ rows) paths (suc m) i n e = let below : m < length rows = leaf_ends rows paths m i n e in omega arith

-- ---- a walk numbers the modules of the tree

-- the module at a path leads to these files
abbrev pub LeadsIn : FileTree → List ℕ → List (List ℕ) → Type 0
LeadsIn t path targets = (bytes : List ℕ) × (said : ModuleText) × IsModule t path bytes said targets

pub leads_one : (t : FileTree) (path : List ℕ) (xs ys : List (List ℕ)) → LeadsIn t path xs → LeadsIn t path ys → xs ≡ ys
leads_one t path xs ys a b = (one_module t path a.0 b.0 a.1 b.1 xs ys a.2 b.2).2

first_of : (known : List (List ℕ)) (entry : List ℕ) → take 1 known ≡ entry ∷ [] → slice_get known 0 ≡ Some entry
first_of known entry e = sym (get_take known 1 0 (omega arith)) ∙ ap (λ l. slice_get l 0) e

module _ (t : FileTree) (entry : List ℕ) (building : Building) (bodies : List Body) (followed : AreFollowed t entry building bodies) where
  abbrev label_of : Row → List ℕ
  label_of row = row.label

  pub within : length building.rows ≤ length building.known
  within =
      let same : length (map label_of building.rows) ≡ length (take (length building.rows) building.known) = ap length followed.labels in
      omega (arith, length-map building.rows label_of, length-take (length building.rows) building.known)

  counts : length (so_far building).rows ≡ length building.known
  counts =
      let further = drop (length building.rows) building.known in
      omega (arith, within, length-append building.rows (map leaf_of further), length-map further leaf_of, length-drop (length building.rows) building.known)

  pub both_at : (m : ℕ) → m < length building.rows → HasBoth (IsFollowed t building.known) building.rows bodies m
  both_at m h = zip_at (IsFollowed t building.known) building.rows bodies m followed.each h

  pub label_at : (m : ℕ) (row : Row) → slice_get building.rows m ≡ Some row → slice_get building.known m ≡ Some row.label
  label_at m row e =
      sym (get_take building.known (length building.rows) m (slice_get_within building.rows m row e)) ∙ ap (λ l. slice_get l m) (sym followed.labels)
      ∙ slice_get-map label_of building.rows m ∙ ap (option_map label_of) e

  numbered_at : (m : ℕ) → m < length building.rows → IsNumberedAt (LeadsIn t) (so_far building) building.known m
  numbered_at m h =
      let b = both_at m h in
      let f = b.holds in
      record {
        path = b.row.label;
        targets = f.targets;
        here = label_at m b.row b.row_is;
        leads = (f.bytes, f.said, f.is);
        are_known = λ i target e. subst (IsKnown building.known) (get_or_from_slice_get f.targets i target target e) (f.are_known i target (slice_get_within f.targets i target e));
        numbers = λ i. ap (λ o. option_and_then (λ (row : Row). slice_get row.targets i) o) (get_front building.rows (map leaf_of (drop (length building.rows) building.known)) m b.row b.row_is)
            ∙ ap (λ l. slice_get l i) f.leads ∙ slice_get-map (number_in building.known) f.targets i;
      }

  pub numbered : IsNumbered (LeadsIn t) entry (so_far building) building.known (length building.rows)
  numbered = record {
    first = first_of building.known entry followed.first;
    entries = followed.entries;
    order = followed.order;
    count = counts;
    ends = λ m i n e. leaf_ends building.rows (drop (length building.rows) building.known) m i n e;
    each = numbered_at;
  }

-- ---- two walks

same_numbers : (known others : List (List ℕ)) → ((path : List ℕ) → IsKnown known path → IsKnown others path → number_in known path ≡ number_in others path) → (paths : List (List ℕ)) → AreKnown known paths → AreKnown others paths
    → numbers_in known paths ≡ numbers_in others paths
same_numbers known others one [] a b = refl
same_numbers known others one (path ∷ paths) a b =
    ap (λ n. n ∷ numbers_in known paths) (one path (All-head (IsKnown known) path paths a) (All-head (IsKnown others) path paths b))
    ∙ ap (λ l. number_in others path ∷ l) (same_numbers known others one paths (All-tail (IsKnown known) path paths a) (All-tail (IsKnown others) path paths b))

row_made : List ℕ → Facts → List ℕ → Bool → ℕ → Row
row_made label facts targets flagged size = record { label = label; facts = facts; targets = targets; flagged = flagged; size = size }

-- a row and a body of one path are the same in both
pub one_row : (t : FileTree) (known others : List (List ℕ)) (row other : Row) (body more : Body) → ((path : List ℕ) → IsKnown known path → IsKnown others path → number_in known path ≡ number_in others path)
    → row.label ≡ other.label → IsFollowed t known row body → IsFollowed t others other more → (row ≡ other) × (body ≡ more)
unfolding row_made
one_row t known others row other body more one label a b =
    let m = one_module t other.label a.bytes b.bytes a.said b.said a.targets b.targets (subst (λ p. IsModule t p a.bytes a.said a.targets) label a.is) b.is in
    let facts : row.facts ≡ other.facts = a.facts ∙ ap facts_of m.1 ∙ sym b.facts in
    let targets : row.targets ≡ other.targets =
    a.leads ∙ same_numbers known others one a.targets a.are_known (subst (AreKnown others) (sym m.2) b.are_known) ∙ ap (numbers_in others) m.2 ∙ sym b.leads in
    let flagged : row.flagged ≡ other.flagged = a.flagged ∙ sym b.flagged in
    let size : row.size ≡ other.size = a.size ∙ ap length m.0 ∙ sym b.size in (
      ap (λ l. row_made l row.facts row.targets row.flagged row.size) label
          ∙ ap (λ f. row_made other.label f row.targets row.flagged row.size) facts
          ∙ ap (λ l. row_made other.label other.facts l row.flagged row.size) targets
          ∙ ap (λ f. row_made other.label other.facts other.targets f row.size) flagged
          ∙ ap (λ n. row_made other.label other.facts other.targets other.flagged n) size,
      a.body_is ∙ ap (λ (s : ModuleText). record { text = s.body; pieces = [] }) m.1 ∙ sym b.body_is,
    )

module _ (t : FileTree) (entry : List ℕ) (left right : Building) (bodies others : List Body) (a : AreFollowed t entry left bodies) (b : AreFollowed t entry right others) where
  abbrev one : (path : List ℕ) → IsKnown left.known path → IsKnown right.known path → number_in left.known path ≡ number_in right.known path
  one = same_number (LeadsIn t) entry (leads_one t) (so_far left) (so_far right) left.known right.known (length left.rows) (length right.rows) (numbered t entry left bodies a) (numbered t entry right others b)

  pub known_agree : (n : ℕ) → n < length left.known → n < length right.known → slice_get left.known n ≡ slice_get right.known n
  known_agree = agree (LeadsIn t) entry (leads_one t) (so_far left) (so_far right) left.known right.known (length left.rows) (length right.rows) (numbered t entry left bodies a) (numbered t entry right others b)

  -- the rows and the bodies agree as far as both go
  pub rows_agree : (m : ℕ) → m < length left.rows → m < length right.rows → (slice_get left.rows m ≡ slice_get right.rows m) × (slice_get bodies m ≡ slice_get others m)
  rows_agree m h l =
      let x = both_at t entry left bodies a m h in
      let y = both_at t entry right others b m l in
      let p = label_at t entry left bodies a m x.row x.row_is in
      let q = label_at t entry right others b m y.row y.row_is in
      let label : x.row.label ≡ y.row.label = same_Some x.row.label y.row.label (sym p ∙ known_agree m (slice_get_within left.known m x.row.label p) (slice_get_within right.known m y.row.label q) ∙ q) in
      let r = one_row t left.known right.known x.row y.row x.body y.body one label x.holds y.holds in
      (x.row_is ∙ ap Some r.0 ∙ sym y.row_is, x.body_is ∙ ap Some r.1 ∙ sym y.body_is)

  -- the right one knows no more where the left one followed each module that it did
  pub knows_no_more : ((m : ℕ) → m < length right.rows → m < length left.known → m < length left.rows) → length right.known ≤ length left.known
  knows_no_more = no_more (LeadsIn t) entry (leads_one t) (so_far left) (so_far right) left.known right.known (length left.rows) (length right.rows) (numbered t entry left bodies a) (numbered t entry right others b)
