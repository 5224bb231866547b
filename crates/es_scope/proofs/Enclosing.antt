-- The parts that are open at a place, as a list with the innermost first: they are just those that enclose the place.
use Rattle.std.proofs.Common.{◌≡◌, ℕ, zero, suc, ◌+◌, ◌-◌, ◌<◌, ◌≤◌, ◌⊎◌, ⊎_elim, true, List, [], ◌∷◌, ◌++◌, Option, Some, None, Contains, length, take, drop, get_or, slice_get, slice_range, is_some, option_and_then, refl, sym, ap, subst, ◌∙◌, arith, true≢false}
use Rattle.std.proofs.lemmas.List.{take_more, take_all, length-drop, get_or-drop}
use Rattle.std.proofs.lemmas.Option.{none-some, same_Some, slice_get_within, get_or_from_slice_get}
use Rattle.pk_types.proofs.Members.{Contains-at, at-Contains}
use Rattle.es_outline.specs.declared.mark.Mark.{Mark}
use Rattle.es_outline.specs.declared.mark.Mark.TheVariants as mark
use Rattle.es_outline.specs.declared.mark.Part.{Part}
use Rattle.es_outline.specs.Outline.{Marks}
use Rattle.es_scope.specs.Parts.{ends_none, Encloses}

-- a part, and where it begins
abbrev pub Opened : Type 0
Opened = Part × ℕ

-- without the innermost
abbrev pub outer : List Opened → List Opened
outer [] = []
outer (innermost ∷ others) = others

abbrev pub opened_behind : Option Mark → ℕ → List Opened → List Opened
opened_behind (Some (mark.Begin which)) place others = (which, place) ∷ others
opened_behind (Some (mark.End which)) place others = outer others
opened_behind _ place others = others

-- the parts that are open at the place
unfoldable pub open_at : Marks → ℕ → List Opened
open_at marks zero = []
open_at marks (suc place) = opened_behind (slice_get marks place) place (open_at marks place)

-- how many parts are open behind a mark, where so many are before it; none where one too many ends
abbrev one_less : ℕ → Option ℕ
one_less zero = None
one_less (suc more) = Some more

abbrev left_behind : Option Mark → ℕ → Option ℕ
left_behind (Some (mark.Begin which)) more = Some (suc more)
left_behind (Some (mark.End which)) more = one_less more
left_behind _ more = Some more

left_open : Marks → ℕ → Option ℕ
left_open [] more = Some more
left_open (one_mark ∷ rest) more = option_and_then (left_open rest) (left_behind (Some one_mark) more)

left_open_some : (rest : Marks) → ((more : ℕ) → ends_none more rest ≡ is_some (left_open rest more)) → (one_mark : Mark) (more : ℕ)
    → ends_none more (one_mark ∷ rest) ≡ is_some (left_open (one_mark ∷ rest) more)
unfolding ends_none left_open
left_open_some rest h (mark.Begin which) more = h (suc more)
left_open_some rest h (mark.End which) zero = refl
left_open_some rest h (mark.End which) (suc more) = h more
left_open_some rest h _ more = h more

ends_none_is : (marks : Marks) (more : ℕ) → ends_none more marks ≡ is_some (left_open marks more)
unfolding ends_none left_open
ends_none_is [] more = refl
ends_none_is (one_mark ∷ rest) more = left_open_some rest (ends_none_is rest) one_mark more

left_open_last : (last : Mark) (rest : Marks) → ((more : ℕ) → left_open (rest ++ last ∷ []) more ≡ option_and_then (left_behind (Some last)) (left_open rest more))
    → (left : Option ℕ) → option_and_then (left_open (rest ++ last ∷ [])) left ≡ option_and_then (left_behind (Some last)) (option_and_then (left_open rest) left)
left_open_last last rest h None = refl
left_open_last last rest h (Some more) = h more

same_option : (left : Option ℕ) → option_and_then (left_open []) left ≡ left
unfolding left_open
same_option None = refl
same_option (Some more) = refl

left_open_append : (marks : Marks) (last : Mark) (more : ℕ) → left_open (marks ++ last ∷ []) more ≡ option_and_then (left_behind (Some last)) (left_open marks more)
unfolding left_open
left_open_append [] last more = same_option (left_behind (Some last) more)
left_open_append (one_mark ∷ rest) last more = left_open_last last rest (left_open_append rest last) (left_behind (Some one_mark) more)

-- the marks up to a place, with the one there
range_more : (marks : Marks) (from place : ℕ) (one_mark : Mark) → from ≤ place → slice_get marks place ≡ Some one_mark
    → slice_range marks from (suc place) ≡ slice_range marks from place ++ one_mark ∷ []
range_more marks from place one_mark before there =
    let within : place < length marks = slice_get_within marks place one_mark there in
    let long : length (drop from marks) ≡ length marks - from = length-drop from marks in
    let count : suc place - from ≡ (place - from) + 1 = omega arith in
    let inside : place - from < length (drop from marks) = omega arith in
    let place_is : from + (place - from) ≡ place = omega arith in
    let last : get_or (drop from marks) (place - from) one_mark ≡ one_mark =
    get_or-drop from marks (place - from) one_mark ∙ (ap (λ k. get_or marks k one_mark) place_is ∙ get_or_from_slice_get marks place one_mark one_mark there) in
    ap (λ k. take k (drop from marks)) count ∙ (take_more (drop from marks) (place - from) one_mark inside ∙ ap (λ x. take (place - from) (drop from marks) ++ x ∷ []) last)

behind_end : (marks : Marks) (place : ℕ) → slice_get marks place ≡ None → length marks ≤ place
behind_end [] place e = omega arith
behind_end (one_mark ∷ rest) zero e = absurd (none-some one_mark (sym e))
behind_end (one_mark ∷ rest) (suc place) e = let shorter = behind_end rest place e in omega arith

range_past : (marks : Marks) (from place : ℕ) → from ≤ place → slice_get marks place ≡ None → slice_range marks from (suc place) ≡ slice_range marks from place
range_past marks from place before there =
    let past : length marks ≤ place = behind_end marks place there in
    let long : length (drop from marks) ≡ length marks - from = length-drop from marks in
    take_all (suc place - from) (drop from marks) (omega arith) ∙ sym (take_all (place - from) (drop from marks) (omega arith))

-- how many parts that begin behind the opening are open at the place
left_at : Marks → ℕ → ℕ → Option ℕ
left_at marks opening place = left_open (slice_range marks (opening + 1) place) 0

left_first : (marks : Marks) (opening : ℕ) → left_at marks opening (suc opening) ≡ Some 0
unfolding left_at left_open
left_first marks opening =
    let none : suc opening - (opening + 1) ≡ 0 = omega arith in
    ap (λ k. left_open (take k (drop (opening + 1) marks)) 0) none

left_by : (marks : Marks) (opening place : ℕ) (there : Option Mark) → opening < place → slice_get marks place ≡ there
    → left_at marks opening (suc place) ≡ option_and_then (left_behind there) (left_at marks opening place)
unfolding left_at
left_by marks opening place None before e =
    let from : opening + 1 ≤ place = omega arith in
    ap (λ ms. left_open ms 0) (range_past marks (opening + 1) place from e) ∙ sym (some_itself (left_open (slice_range marks (opening + 1) place) 0))
  where
    some_itself : (left : Option ℕ) → option_and_then (left_behind None) left ≡ left
    some_itself None = refl
    some_itself (Some more) = refl
left_by marks opening place (Some one_mark) before e =
    let from : opening + 1 ≤ place = omega arith in
    ap (λ ms. left_open ms 0) (range_more marks (opening + 1) place one_mark from e) ∙ left_open_append (slice_range marks (opening + 1) place) one_mark 0

-- the part is open at the place, with so many within it
record IsOpen (marks : Marks) (which : Part) (opening place depth : ℕ) : Type 0 where
  begins : slice_get marks opening ≡ Some (mark.Begin which)
  before : opening < place
  left : left_at marks opening place ≡ Some depth

goes_on : (marks : Marks) (which : Part) (opening place depth deeper : ℕ) (there : Option Mark) → slice_get marks place ≡ there
    → IsOpen marks which opening place depth → left_behind there depth ≡ Some deeper → IsOpen marks which opening (suc place) deeper
goes_on marks which opening place depth deeper there e h l = record {
  begins = h.begins;
  before = let b = h.before in omega arith;
  left = left_by marks opening place there h.before e ∙ (ap (option_and_then (left_behind there)) h.left ∙ l);
}

-- the part that is open behind a mark begins with it, or was open before
some_before : (there : Option Mark) (left : Option ℕ) (deeper : ℕ) → option_and_then (left_behind there) left ≡ Some deeper
    → (depth : ℕ) × (left ≡ Some depth) × (left_behind there depth ≡ Some deeper)
some_before there None deeper e = absurd (none-some deeper e)
some_before there (Some depth) deeper e = (depth, refl, e)

was_open : (marks : Marks) (which : Part) (opening place deeper : ℕ) (there : Option Mark) → slice_get marks place ≡ there → IsOpen marks which opening (suc place) deeper
    → opening < place → (depth : ℕ) × IsOpen marks which opening place depth × (left_behind there depth ≡ Some deeper)
was_open marks which opening place deeper there e h b =
    let found = some_before there (left_at marks opening place) deeper (sym (left_by marks opening place there b e) ∙ h.left) in
    (found.0, record { begins = h.begins; before = b; left = found.1 }, found.2)

begins_now : (marks : Marks) (which : Part) (opening place deeper : ℕ) → IsOpen marks which opening (suc place) deeper → opening ≡ place → deeper ≡ 0
begins_now marks which opening place deeper h same =
    same_Some deeper 0 (sym h.left ∙ (ap (λ o. left_at marks o (suc place)) same ∙ left_first marks place))

begins_or_was : (opening place : ℕ) → opening < suc place → (opening ≡ place) ⊎ (opening < place)
begins_or_was opening place h = grind arith

-- the next of the list
next_outer : (others : List Opened) (depth : ℕ) → slice_get (outer others) depth ≡ slice_get others (suc depth)
next_outer [] depth = refl
next_outer (innermost ∷ others) depth = refl

pair_of : (one other : Opened) → Some one ≡ Some other → (one.0 ≡ other.0) × (one.1 ≡ other.1)
pair_of one other e = let same = same_Some one other e in (ap (λ o. o.0) same, ap (λ o. o.1) same)

abbrev AreOpen : Marks → ℕ → List Opened → Type 0
AreOpen marks place others = (depth opening : ℕ) (which : Part) → slice_get others depth ≡ Some (which, opening) → IsOpen marks which opening place depth

open_behind : (marks : Marks) (place : ℕ) (others : List Opened) → AreOpen marks place others → (there : Option Mark) → slice_get marks place ≡ there
    → AreOpen marks (suc place) (opened_behind there place others)
open_behind marks place others h (Some (mark.Begin begun)) e zero opening which at =
    let same = pair_of (begun, place) (which, opening) at in
    record {
      begins = subst (λ o. slice_get marks o ≡ Some (mark.Begin which)) same.1 (e ∙ ap (λ w. Some (mark.Begin w)) same.0);
      before = let p = same.1 in omega arith;
      left = subst (λ o. left_at marks o (suc place) ≡ Some 0) same.1 (left_first marks place);
    }
open_behind marks place others h (Some (mark.Begin begun)) e (suc depth) opening which at =
    goes_on marks which opening place depth (suc depth) (Some (mark.Begin begun)) e (h depth opening which at) refl
open_behind marks place others h (Some (mark.End ended)) e depth opening which at =
    goes_on marks which opening place (suc depth) depth (Some (mark.End ended)) e (h (suc depth) opening which (sym (next_outer others depth) ∙ at)) refl
open_behind marks place others h there e depth opening which at = goes_on marks which opening place depth depth there e (h depth opening which at) refl

open_there : (marks : Marks) (place : ℕ) → AreOpen marks place (open_at marks place)
unfolding open_at
open_there marks zero depth opening which at = absurd (none-some (which, opening) at)
open_there marks (suc place) depth opening which at =
    open_behind marks place (open_at marks place) (open_there marks place) (slice_get marks place) refl depth opening which at

-- each that is open stands in the list
listed_behind : (place : ℕ) (others : List Opened) (one : Opened) (depth deeper : ℕ) → slice_get others depth ≡ Some one → (there : Option Mark)
    → left_behind there depth ≡ Some deeper → slice_get (opened_behind there place others) deeper ≡ Some one
listed_behind place others one depth deeper at (Some (mark.Begin begun)) l =
    subst (λ k. slice_get ((begun, place) ∷ others) k ≡ Some one) (same_Some (suc depth) deeper l) at
listed_behind place others one zero deeper at (Some (mark.End ended)) l = absurd (none-some deeper l)
listed_behind place others one (suc depth) deeper at (Some (mark.End ended)) l =
    subst (λ k. slice_get (outer others) k ≡ Some one) (same_Some depth deeper l) (next_outer others depth ∙ at)
listed_behind place others one depth deeper at _ l = subst (λ k. slice_get others k ≡ Some one) (same_Some depth deeper l) at

listed_first : (marks : Marks) (which : Part) (place : ℕ) (others : List Opened) → slice_get marks place ≡ Some (mark.Begin which)
    → slice_get (opened_behind (slice_get marks place) place others) 0 ≡ Some (which, place)
listed_first marks which place others e = ap (λ there. slice_get (opened_behind there place others) 0) e

listed : (marks : Marks) (place depth opening : ℕ) (which : Part) → IsOpen marks which opening place depth → slice_get (open_at marks place) depth ≡ Some (which, opening)
unfolding open_at
listed marks zero depth opening which h = absurd (let b = h.before in omega arith)
listed marks (suc place) depth opening which h = ⊎_elim
    (λ same. subst (λ k. slice_get (opened_behind (slice_get marks place) place (open_at marks place)) k ≡ Some (which, opening)) (sym (begins_now marks which opening place depth h same))
    (listed_first marks which place (open_at marks place) (subst (λ o. slice_get marks o ≡ Some (mark.Begin which)) same h.begins) ∙ ap (λ o. Some (which, o)) (sym same)))
    (λ b. let was = was_open marks which opening place depth (slice_get marks place) refl h b in
    listed_behind place (open_at marks place) (which, opening) was.0 depth (listed marks place was.0 opening which was.1) (slice_get marks place) was.2)
    (begins_or_was opening place h.before)

some_of : (left : Option ℕ) → is_some left ≡ true → (depth : ℕ) × (left ≡ Some depth)
some_of None e = absurd (true≢false (sym e))
some_of (Some depth) e = (depth, refl)

-- the parts in the list are those that enclose the place
pub enclosing : (marks : Marks) (place opening : ℕ) (which : Part) → Contains (open_at marks place) (which, opening) → Encloses marks which opening place
unfolding left_at
enclosing marks place opening which c =
    let there = open_there marks place c.0 opening which (at-Contains (open_at marks place) (which, opening) c) in
    record {
      begins = there.begins;
      before = there.before;
      unended = ends_none_is (slice_range marks (opening + 1) place) 0 ∙ ap is_some there.left;
    }

pub enclosing_listed : (marks : Marks) (place opening : ℕ) (which : Part) → Encloses marks which opening place → Contains (open_at marks place) (which, opening)
unfolding left_at
enclosing_listed marks place opening which h =
    let found = some_of (left_open (slice_range marks (opening + 1) place) 0) (sym (ends_none_is (slice_range marks (opening + 1) place) 0) ∙ h.unended) in
    Contains-at (open_at marks place) found.0 (which, opening) (listed marks place found.0 opening which (record { begins = h.begins; before = h.before; left = found.1 }))
