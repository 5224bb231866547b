-- A walk with a stack.
use Rattle.std.proofs.Common.{◌≡◌, ◌≢◌, ⊎_elim, ℕ, zero, suc, ◌+◌, ◌-◌, ◌<◌, ◌≤◌, ◌||◌, Bool, true, false, true≢false, cond, nat_eq, List, [], ◌∷◌, ◌++◌, length, drop, get_or, refl, sym, ap, subst, ◌∙◌, arith}
use mathlib.Core.List.{reverse}
use Rattle.std.specs.List.{All, Contains, list_any, sum_by}
use Rattle.std.proofs.lemmas.Bool.{cases_eq, ne_eqb}
use Rattle.std.proofs.lemmas.List.{append-nil, append_assoc, drop_more, drop_all, reverse-append, length-append, get_or_append_left}
use Rattle.std.proofs.lemmas.List.Elements.{All-push, All-nil, All-get_or, All-contains}
use Rattle.std.proofs.lemmas.List.Folds.{list_any-append}
use Rattle.pk_types.specs.Places.{ArePlacesIn}
use Rattle.pk_types.specs.declared.plan.Active.{Active}
use Rattle.pk_types.specs.declared.plan.Item.{Item}
use Rattle.pk_types.specs.declared.plan.Item.TheVariants.{Segment, Evaluate}
use Rattle.pk_types.specs.HoistSets.{edges_at, set_of}
use Rattle.pk_types.specs.HoistItems.{Visits, Follows, visit, ended, passed, entered, noted, AreItems}
use Rattle.std.proofs.lemmas.List.Sums.{sum_by-append}
use Rattle.std.proofs.lemmas.List.Elements.{Contains-append_right}
use Rattle.pk_types.proofs.ListMembers.{has-true, true-has, here as list_here}
use Rattle.pk_types.proofs.OneHoist.{in_set, of_set}
use Rattle.scope_hoist.specs.declared.walk.Frame.{Frame}
use Rattle.scope_hoist.specs.Walks.{targets_at, Steps, leaves, passes, enters, notes}

-- What is left of the visit of a module notes these items, where these modules were come to before, and these after.
pub record Leaves (active : Active) (members before : List ℕ) (frame : Frame) (items : List Item) (after : List ℕ) : Type 0 where
  pub others : List Item
  pub follows : Follows active members before (drop frame.next (edges_at active frame.module)) others after
  pub is : items ≡ others ++ Segment frame.module ∷ []

-- the same of visits inside one another, the innermost first
pub data Finishes (active : Active) (members : List ℕ) : List ℕ → List Frame → List Item → List ℕ → Type 0 where
  none : (before : List ℕ) → Finishes active members before [] [] before
  left : (before between after : List ℕ) (frame : Frame) (frames : List Frame) (items others : List Item)
      → Leaves active members before frame items between → Finishes active members between frames others after
      → Finishes active members before (frame ∷ frames) (items ++ others) after

module _ (active : Active) (members : List ℕ) where
  -- the innermost visit, and the others
  pub record AreParted (before : List ℕ) (frame : Frame) (frames : List Frame) (items : List Item) (after : List ℕ) : Type 0 where
    pub between : List ℕ
    pub first : List Item
    pub rest : List Item
    pub inner : Leaves active members before frame first between
    pub outer : Finishes active members between frames rest after
    pub is : items ≡ first ++ rest

  pub parted : (before : List ℕ) (frame : Frame) (frames : List Frame) (items : List Item) (after : List ℕ) → Finishes active members before (frame ∷ frames) items after
      → AreParted before frame frames items after
  parted before frame frames items after (left _ between _ _ _ first rest inner outer) = record { between = between; first = first; rest = rest; inner = inner; outer = outer; is = refl }

  pub joined : (before : List ℕ) (frame : Frame) (frames : List Frame) (items : List Item) (after : List ℕ) → AreParted before frame frames items after
      → Finishes active members before (frame ∷ frames) items after
  joined before frame frames items after parts = subst (λ i. Finishes active members before (frame ∷ frames) i after) (sym parts.is)
      (left before parts.between after frame frames parts.first parts.rest parts.inner parts.outer)

  module _ (frame : Frame) (target : ℕ) (rest : List ℕ) (is : drop frame.next (edges_at active frame.module) ≡ target ∷ rest)
      (next : Frame) (same : next.module ≡ frame.module) (later : drop next.next (edges_at active frame.module) ≡ rest) where
    next_follows : {before : List ℕ} {others : List Item} {after : List ℕ} → Follows active members before (drop next.next (edges_at active next.module)) others after
        → Follows active members before rest others after
    next_follows {before} {others} {after} follows = subst (λ l. Follows active members before l others after) (ap (λ m. drop next.next (edges_at active m)) same ∙ later) follows

    -- the edge leads to what was come to
    pub finish_passed : (before : List ℕ) (frames : List Frame) (items : List Item) (after : List ℕ) → Contains before target
        → Finishes active members before (next ∷ frames) items after → Finishes active members before (frame ∷ frames) items after
    finish_passed before frames items after known finishes =
        let parts = parted before next frames items after finishes in
        joined before frame frames items after (record {
          between = parts.between;
          first = parts.first;
          rest = parts.rest;
          inner = record {
            others = parts.inner.others;
            follows = subst (λ l. Follows active members before l parts.inner.others parts.between) (sym is)
                (passed before parts.between target rest parts.inner.others known (next_follows parts.inner.follows));
            is = parts.inner.is ∙ ap (λ m. parts.inner.others ++ Segment m ∷ []) same;
          };
          outer = parts.outer;
          is = parts.is;
        })

    -- it leads to a module of another set
    pub finish_noted : (before : List ℕ) (frames : List Frame) (items : List Item) (after : List ℕ) → ¬ Contains before target → ¬ Contains members target
        → Finishes active members (before ++ target ∷ []) (next ∷ frames) items after → Finishes active members before (frame ∷ frames) (Evaluate target ∷ items) after
    finish_noted before frames items after new outside finishes =
        let parts = parted (before ++ target ∷ []) next frames items after finishes in
        joined before frame frames (Evaluate target ∷ items) after (record {
          between = parts.between;
          first = Evaluate target ∷ parts.first;
          rest = parts.rest;
          inner = record {
            others = Evaluate target ∷ parts.inner.others;
            follows = subst (λ l. Follows active members before l (Evaluate target ∷ parts.inner.others) parts.between) (sym is)
                (noted before parts.between target rest parts.inner.others new outside (next_follows parts.inner.follows));
            is = ap (λ l. Evaluate target ∷ l) (parts.inner.is ∙ ap (λ m. parts.inner.others ++ Segment m ∷ []) same);
          };
          outer = parts.outer;
          is = ap (λ l. Evaluate target ∷ l) parts.is;
        })

    -- it leads to a member
    pub finish_entered : (before : List ℕ) (frames : List Frame) (items : List Item) (after : List ℕ) (inner : Frame) → inner.module ≡ target → inner.next ≡ 0
        → ¬ Contains before target → Contains members target
        → Finishes active members (before ++ target ∷ []) (inner ∷ next ∷ frames) items after → Finishes active members before (frame ∷ frames) items after
    finish_entered before frames items after inner at at_first new inside finishes =
        let first = parted (before ++ target ∷ []) inner (next ∷ frames) items after finishes in
        let second = parted first.between next frames first.rest after first.outer in
        let visited : Visits active members before target (first.inner.others ++ Segment target ∷ []) first.between = visit before first.between target first.inner.others
        (subst (λ l. Follows active members (before ++ target ∷ []) l first.inner.others first.between) (ap (λ n. drop n (edges_at active inner.module)) at_first ∙ ap (edges_at active) at) first.inner.follows) in
        let first_is = first.inner.is ∙ ap (λ m. first.inner.others ++ Segment m ∷ []) at in
        joined before frame frames items after (record {
          between = second.between;
          first = first.first ++ second.first;
          rest = second.rest;
          inner = record {
            others = (first.inner.others ++ Segment target ∷ []) ++ second.inner.others;
            follows = subst (λ l. Follows active members before l ((first.inner.others ++ Segment target ∷ []) ++ second.inner.others) second.between) (sym is)
                (entered before first.between second.between target rest (first.inner.others ++ Segment target ∷ []) second.inner.others new inside visited (next_follows second.inner.follows));
            is = ap (λ l. l ++ second.first) first_is ∙ ap (λ l. (first.inner.others ++ Segment target ∷ []) ++ l) (second.inner.is ∙ ap (λ m. second.inner.others ++ Segment m ∷ []) same)
                ∙ sym (append_assoc (first.inner.others ++ Segment target ∷ []) second.inner.others (Segment frame.module ∷ []));
          };
          outer = second.outer;
          is = first.is ∙ ap (λ l. first.first ++ l) second.is ∙ sym (append_assoc first.first second.first second.rest);
        })

  -- no edge is left
  pub finish_left : (before : List ℕ) (frame : Frame) (frames : List Frame) (items : List Item) (after : List ℕ) → length (edges_at active frame.module) ≤ frame.next
      → Finishes active members before frames items after → Finishes active members before (frame ∷ frames) (Segment frame.module ∷ items) after
  finish_left before frame frames items after end finishes = joined before frame frames (Segment frame.module ∷ items) after (record {
    between = before;
    first = Segment frame.module ∷ [];
    rest = items;
    inner = record {
      others = [];
      follows = subst (λ l. Follows active members before l [] before) (sym (drop_all frame.next (edges_at active frame.module) end)) (ended before);
      is = refl;
    };
    outer = finishes;
    is = refl;
  })

  -- the visit of the root is all that is left
  pub finish_root : (root : ℕ) (items : List Item) (after : List ℕ) → Finishes active members (root ∷ []) (record { «module» = root; next = 0 } ∷ []) items after → Visits active members [] root items after
  finish_root root items after finishes =
      let parts = parted (root ∷ []) (record { «module» = root; next = 0 }) [] items after finishes in
      go parts.between parts.rest parts.outer (subst (λ i. Visits active members [] root i parts.between) (sym parts.inner.is) (visit [] parts.between root parts.inner.others parts.inner.follows)) parts.is
    where
      go : (between : List ℕ) (rest : List Item) → Finishes active members between [] rest after → {first : List Item} → Visits active members [] root first between → items ≡ first ++ rest
          → Visits active members [] root items after
      go between rest (none _) {first} visits is = subst (λ i. Visits active members [] root i after) (sym (is ∙ append-nil first)) visits

-- where the visits finish with some items, the visit of the root notes these behind those that are noted
pub record IsOnWay (active : Active) (members : List ℕ) (root : ℕ) (before : List ℕ) (stack : List Frame) (items : List Item) : Type 0 where
  pub on : (others : List Item) (after : List ℕ) → Finishes active members before (reverse stack) others after → Visits active members [] root (items ++ others) after

top_first : (stack : List Frame) (frame : Frame) → reverse (stack ++ frame ∷ []) ≡ frame ∷ reverse stack
top_first stack frame = reverse-append stack (frame ∷ [])

module _ (edges : List (List ℕ)) (roots : List ℕ) (root : ℕ) (active : Active) (is : active.edges ≡ edges) (frame : Frame) (before after : List ℕ) (stack now : List Frame) (items more : List Item)
    (long : length roots ≡ length edges) (all : All (ArePlacesIn edges) edges) (inside : frame.module < length edges) where
  target : ℕ
  target = get_or (targets_at edges frame.module) frame.next 0

  at_edges : edges_at active frame.module ≡ targets_at edges frame.module
  at_edges = ap (λ l. get_or l frame.module []) is

  first_is : frame.next < length (targets_at edges frame.module)
      → drop frame.next (edges_at active frame.module) ≡ get_or (targets_at edges frame.module) frame.next 0 ∷ drop (frame.next + 1) (edges_at active frame.module)
  first_is h = ap (drop frame.next) at_edges ∙ drop_more (targets_at edges frame.module) frame.next 0 h ∙ ap (λ l. get_or (targets_at edges frame.module) frame.next 0 ∷ drop (frame.next + 1) l) (sym at_edges)

  new_one : list_any (nat_eq (get_or (targets_at edges frame.module) frame.next 0)) before ≡ false → ¬ Contains before (get_or (targets_at edges frame.module) frame.next 0)
  new_one no_one c = true≢false (sym (has-true before (get_or (targets_at edges frame.module) frame.next 0) c) ∙ no_one)

  target_low : frame.next < length (targets_at edges frame.module) → get_or (targets_at edges frame.module) frame.next 0 < length edges
  target_low h = All-get_or (λ t. t < length edges) (targets_at edges frame.module) frame.next 0 h (All-get_or (ArePlacesIn edges) edges frame.module [] inside all)

  pub step_on : IsOnWay active (set_of roots root) root before (stack ++ frame ∷ []) items → Steps edges roots root frame before after stack now items more
      → IsOnWay active (set_of roots root) root after now more
  step_on way (leaves end same list notes_it) = subst (λ m. IsOnWay active (set_of roots root) root after now m) (sym notes_it)
      (subst (λ s. IsOnWay active (set_of roots root) root after s (items ++ Segment frame.module ∷ [])) (sym list)
      (subst (λ b. IsOnWay active (set_of roots root) root b stack (items ++ Segment frame.module ∷ [])) (sym same) (record {
        on = λ others then finishes. subst (λ i. Visits active (set_of roots root) [] root i then) (sym (append_assoc items (Segment frame.module ∷ []) others))
            (way.on (Segment frame.module ∷ others) then (subst (λ s. Finishes active (set_of roots root) before s (Segment frame.module ∷ others) then) (sym (top_first stack frame))
            (finish_left active (set_of roots root) before frame (reverse stack) others then (subst (λ l. length l ≤ frame.next) (sym at_edges) end) finishes)));
      })))
  step_on way (passes h known same list notes_it) = subst (λ m. IsOnWay active (set_of roots root) root after now m) (sym notes_it)
      (subst (λ s. IsOnWay active (set_of roots root) root after s items) (sym list)
      (subst (λ b. IsOnWay active (set_of roots root) root b (stack ++ record { «module» = frame.module; next = frame.next + 1 } ∷ []) items) (sym same) (record {
        on = λ others then finishes. way.on others then (subst (λ s. Finishes active (set_of roots root) before s others then) (sym (top_first stack frame))
            (finish_passed active (set_of roots root) frame (get_or (targets_at edges frame.module) frame.next 0) (drop (frame.next + 1) (edges_at active frame.module)) (first_is h)
            (record { «module» = frame.module; next = frame.next + 1 }) refl refl before (reverse stack) others then (true-has before (get_or (targets_at edges frame.module) frame.next 0) known)
            (subst (λ s. Finishes active (set_of roots root) before s others then) (top_first stack (record { «module» = frame.module; next = frame.next + 1 })) finishes)));
      })))
  step_on way (enters h no_one own same list notes_it) = subst (λ m. IsOnWay active (set_of roots root) root after now m) (sym notes_it)
      (subst (λ s. IsOnWay active (set_of roots root) root after s items) (sym list)
      (subst (λ b. IsOnWay active (set_of roots root) root b ((stack ++ record { «module» = frame.module; next = frame.next + 1 } ∷ []) ++ record { «module» = get_or (targets_at edges frame.module) frame.next 0; next = 0 } ∷ []) items) (sym same) (record {
        on = λ others then finishes. way.on others then (subst (λ s. Finishes active (set_of roots root) before s others then) (sym (top_first stack frame))
            (finish_entered active (set_of roots root) frame (get_or (targets_at edges frame.module) frame.next 0) (drop (frame.next + 1) (edges_at active frame.module)) (first_is h)
            (record { «module» = frame.module; next = frame.next + 1 }) refl refl before (reverse stack) others then
            (record { «module» = get_or (targets_at edges frame.module) frame.next 0; next = 0 }) refl refl (new_one no_one)
            (in_set roots root (get_or (targets_at edges frame.module) frame.next 0) (let low = target_low h in omega (arith, low, long)) own)
            (subst (λ s. Finishes active (set_of roots root) (before ++ get_or (targets_at edges frame.module) frame.next 0 ∷ []) s others then)
            (top_first (stack ++ record { «module» = frame.module; next = frame.next + 1 } ∷ []) (record { «module» = get_or (targets_at edges frame.module) frame.next 0; next = 0 })
            ∙ ap (λ l. record { «module» = get_or (targets_at edges frame.module) frame.next 0; next = 0 } ∷ l) (top_first stack (record { «module» = frame.module; next = frame.next + 1 }))) finishes)));
      })))
  step_on way (notes h no_one other same list notes_it) = subst (λ m. IsOnWay active (set_of roots root) root after now m) (sym notes_it)
      (subst (λ s. IsOnWay active (set_of roots root) root after s (items ++ Evaluate (get_or (targets_at edges frame.module) frame.next 0) ∷ [])) (sym list)
      (subst (λ b. IsOnWay active (set_of roots root) root b (stack ++ record { «module» = frame.module; next = frame.next + 1 } ∷ []) (items ++ Evaluate (get_or (targets_at edges frame.module) frame.next 0) ∷ [])) (sym same) (record {
        on = λ others then finishes. subst (λ i. Visits active (set_of roots root) [] root i then) (sym (append_assoc items (Evaluate (get_or (targets_at edges frame.module) frame.next 0) ∷ []) others))
            (way.on (Evaluate (get_or (targets_at edges frame.module) frame.next 0) ∷ others) then
            (subst (λ s. Finishes active (set_of roots root) before s (Evaluate (get_or (targets_at edges frame.module) frame.next 0) ∷ others) then) (sym (top_first stack frame))
            (finish_noted active (set_of roots root) frame (get_or (targets_at edges frame.module) frame.next 0) (drop (frame.next + 1) (edges_at active frame.module)) (first_is h)
            (record { «module» = frame.module; next = frame.next + 1 }) refl refl before (reverse stack) others then (new_one no_one)
            (λ c. other (of_set roots root (get_or (targets_at edges frame.module) frame.next 0) c))
            (subst (λ s. Finishes active (set_of roots root) (before ++ get_or (targets_at edges frame.module) frame.next 0 ∷ []) s others then)
            (top_first stack (record { «module» = frame.module; next = frame.next + 1 })) finishes))));
      })))

-- ---- what is left of a walk

-- the edges of the modules below a number that were not come to, and one for each such module
abbrev pub unmet : List (List ℕ) → List ℕ → ℕ → ℕ
unmet edges met zero = 0
unmet edges met (suc number) = cond (list_any (nat_eq number) met) 0 (1 + length (get_or edges number [])) + unmet edges met number

abbrev pub frame_left : List (List ℕ) → Frame → ℕ
frame_left edges frame = 1 + (length (get_or edges frame.module []) - frame.next)

abbrev pub left_over : List (List ℕ) → List ℕ → List Frame → ℕ
left_over edges met stack = unmet edges met (length edges) + sum_by (frame_left edges) stack

no_more : (edges : List (List ℕ)) (met more : List ℕ) (count : ℕ) → unmet edges (met ++ more) count ≤ unmet edges met count
no_more edges met more zero = omega arith
no_more edges met more (suc number) =
    let rest = no_more edges met more number in
    let one = here (list_any (nat_eq number) met) (list_any (nat_eq number) more) (1 + length (get_or edges number [])) in
    let is : cond (list_any (nat_eq number) (met ++ more)) 0 (1 + length (get_or edges number [])) ≤ cond (list_any (nat_eq number) met) 0 (1 + length (get_or edges number [])) =
    subst (λ b. cond b 0 (1 + length (get_or edges number [])) ≤ cond (list_any (nat_eq number) met) 0 (1 + length (get_or edges number []))) (sym (list_any-append (nat_eq number) met more)) one in
    omega (arith, rest, is)
  where
    here : (a b : Bool) (size : ℕ) → cond (a || b) 0 size ≤ cond a 0 size
    here true b size = omega arith
    here false true size = omega arith
    here false false size = omega arith

fewer : (edges : List (List ℕ)) (met : List ℕ) (target count : ℕ) → target < count → list_any (nat_eq target) met ≡ false
    → unmet edges (met ++ target ∷ []) count + (1 + length (get_or edges target [])) ≤ unmet edges met count
fewer edges met target zero low new = absurd (omega (arith, low))
fewer edges met target (suc number) low new = ⊎_elim last (λ ne. earlier (fewer edges met target number (omega (arith, low, ne)) new) ne) (cases_eq target number)
  where
    size : ℕ → ℕ
    size n = 1 + length (get_or edges n [])

    last : target ≡ number → unmet edges (met ++ target ∷ []) (suc number) + (1 + length (get_or edges target [])) ≤ unmet edges met (suc number)
    last e = subst (λ n. unmet edges (met ++ target ∷ []) (suc n) + (1 + length (get_or edges target [])) ≤ unmet edges met (suc n)) e (
        let rest = no_more edges met (target ∷ []) target in
        let now : ◌≡◌ {A = ℕ} (cond (list_any (nat_eq target) (met ++ target ∷ [])) 0 (1 + length (get_or edges target []))) 0 =
        ap (λ b. cond b 0 (1 + length (get_or edges target []))) (has-true (met ++ target ∷ []) target (Contains-append_right met (target ∷ []) target (list_here target []))) in
        let was : ◌≡◌ {A = ℕ} (cond (list_any (nat_eq target) met) 0 (1 + length (get_or edges target []))) (1 + length (get_or edges target [])) =
        ap (λ b. cond b 0 (1 + length (get_or edges target []))) new in
        omega (arith, rest, now, was))

    earlier : unmet edges (met ++ target ∷ []) number + (1 + length (get_or edges target [])) ≤ unmet edges met number → target ≢ number → unmet edges (met ++ target ∷ []) (suc number) + (1 + length (get_or edges target [])) ≤ unmet edges met (suc number)
    earlier rest ne =
        let same : list_any (nat_eq number) (met ++ target ∷ []) ≡ list_any (nat_eq number) met =
        list_any-append (nat_eq number) met (target ∷ []) ∙ ap (λ b. list_any (nat_eq number) met || (b || false)) (ne_eqb number target (λ e. ne (sym e))) ∙ or_false (list_any (nat_eq number) met) in
        let one : ◌≡◌ {A = ℕ} (cond (list_any (nat_eq number) (met ++ target ∷ [])) 0 (1 + length (get_or edges number []))) (cond (list_any (nat_eq number) met) 0 (1 + length (get_or edges number []))) =
        ap (λ b. cond b 0 (1 + length (get_or edges number []))) same in
        omega (arith, rest, one)
      where
        or_false : (b : Bool) → (b || false) ≡ b
        or_false true = refl
        or_false false = refl

module _ (edges : List (List ℕ)) (roots : List ℕ) (root : ℕ) (frame : Frame) (before after : List ℕ) (stack now : List Frame) (items more : List Item)
    (all : All (ArePlacesIn edges) edges) (inside : frame.module < length edges) where
  low_target : frame.next < length (targets_at edges frame.module) → get_or (targets_at edges frame.module) frame.next 0 < length edges
  low_target h = All-get_or (λ t. t < length edges) (targets_at edges frame.module) frame.next 0 h (All-get_or (ArePlacesIn edges) edges frame.module [] inside all)

  pub step_less : Steps edges roots root frame before after stack now items more → left_over edges after now < left_over edges before (stack ++ frame ∷ [])
  step_less (leaves end same list notes_it) =
      let sum = sum_by-append (frame_left edges) stack (frame ∷ []) in
      subst (λ s. left_over edges after s < left_over edges before (stack ++ frame ∷ [])) (sym list)
      (subst (λ b. left_over edges b stack < left_over edges before (stack ++ frame ∷ [])) (sym same) (omega (arith, sum)))
  step_less (passes h known same list notes_it) =
      let next : Frame = record { «module» = frame.module; next = frame.next + 1 } in
      let sum = sum_by-append (frame_left edges) stack (frame ∷ []) in
      let other = sum_by-append (frame_left edges) stack (next ∷ []) in
      subst (λ s. left_over edges after s < left_over edges before (stack ++ frame ∷ [])) (sym list)
      (subst (λ b. left_over edges b (stack ++ next ∷ []) < left_over edges before (stack ++ frame ∷ [])) (sym same) (omega (arith, sum, other, h)))
  step_less (enters h no_one own same list notes_it) =
      let next : Frame = record { «module» = frame.module; next = frame.next + 1 } in
      let inner : Frame = record { «module» = get_or (targets_at edges frame.module) frame.next 0; next = 0 } in
      let sum = sum_by-append (frame_left edges) stack (frame ∷ []) in
      let other = sum_by-append (frame_left edges) stack (next ∷ []) in
      let last = sum_by-append (frame_left edges) (stack ++ next ∷ []) (inner ∷ []) in
      let less = fewer edges before (get_or (targets_at edges frame.module) frame.next 0) (length edges) (low_target h) no_one in
      subst (λ s. left_over edges after s < left_over edges before (stack ++ frame ∷ [])) (sym list)
      (subst (λ b. left_over edges b ((stack ++ next ∷ []) ++ inner ∷ []) < left_over edges before (stack ++ frame ∷ [])) (sym same) (omega (arith, sum, other, last, less, h)))
  step_less (notes h no_one other_one same list notes_it) =
      let next : Frame = record { «module» = frame.module; next = frame.next + 1 } in
      let sum = sum_by-append (frame_left edges) stack (frame ∷ []) in
      let other = sum_by-append (frame_left edges) stack (next ∷ []) in
      let less = no_more edges before (get_or (targets_at edges frame.module) frame.next 0 ∷ []) (length edges) in
      subst (λ s. left_over edges after s < left_over edges before (stack ++ frame ∷ [])) (sym list)
      (subst (λ b. left_over edges b (stack ++ next ∷ []) < left_over edges before (stack ++ frame ∷ [])) (sym same) (omega (arith, sum, other, less, h)))

  pub frames_stay : All (λ (f : Frame). f.module < length edges) stack → Steps edges roots root frame before after stack now items more → All (λ (f : Frame). f.module < length edges) now
  frames_stay low (leaves end same list notes_it) = subst (All (λ (f : Frame). f.module < length edges)) (sym list) low
  frames_stay low (passes h known same list notes_it) = subst (All (λ (f : Frame). f.module < length edges)) (sym list) (All-push (λ (f : Frame). f.module < length edges) stack _ low inside)
  frames_stay low (enters h no_one own same list notes_it) = subst (All (λ (f : Frame). f.module < length edges)) (sym list)
      (All-push (λ (f : Frame). f.module < length edges) (stack ++ record { «module» = frame.module; next = frame.next + 1 } ∷ []) (record { «module» = get_or (targets_at edges frame.module) frame.next 0; next = 0 })
      (All-push (λ (f : Frame). f.module < length edges) stack (record { «module» = frame.module; next = frame.next + 1 }) low inside) (low_target h))
  frames_stay low (notes h no_one other same list notes_it) = subst (All (λ (f : Frame). f.module < length edges)) (sym list) (All-push (λ (f : Frame). f.module < length edges) stack _ low inside)

-- ---- the whole walk

pub record IsWalking (edges : List (List ℕ)) (roots : List ℕ) (root : ℕ) (met : List ℕ) (stack : List Frame) (items : List Item) : Type 0 where
  pub frames : All (λ (f : Frame). f.module < length edges) stack
  pub way : (active : Active) → active.edges ≡ edges → IsOnWay active (set_of roots root) root met stack items

pub walking_starts : (edges : List (List ℕ)) (roots : List ℕ) (root : ℕ) (met : List ℕ) (stack : List Frame) (items : List Item) → root < length edges
    → met ≡ root ∷ [] → stack ≡ record { «module» = root; next = 0 } ∷ [] → items ≡ [] → IsWalking edges roots root met stack items
walking_starts edges roots root met stack items low met_is stack_is items_are =
    subst (λ m. IsWalking edges roots root m stack items) (sym met_is)
    (subst (λ s. IsWalking edges roots root (root ∷ []) s items) (sym stack_is)
    (subst (IsWalking edges roots root (root ∷ []) (record { «module» = root; next = 0 } ∷ [])) (sym items_are) (record {
      frames = All-push (λ (f : Frame). f.module < length edges) [] (record { «module» = root; next = 0 }) (All-nil (λ (f : Frame). f.module < length edges)) low;
      way = λ active is. record { on = λ others after finishes. finish_root active (set_of roots root) root others after finishes };
    })))

module _ (edges : List (List ℕ)) (roots : List ℕ) (root : ℕ) (frame : Frame) (before after : List ℕ) (old stack now : List Frame) (items more : List Item)
    (long : length roots ≡ length edges) (all : All (ArePlacesIn edges) edges) (so_far : IsWalking edges roots root before old items) (is : old ≡ stack ++ frame ∷ []) where
  pub frame_low : frame.module < length edges
  frame_low = All-contains (λ (f : Frame). f.module < length edges) (stack ++ frame ∷ []) frame (subst (All (λ (f : Frame). f.module < length edges)) is so_far.frames)
      (Contains-append_right stack (frame ∷ []) frame (list_here frame []))

  pub walks_on : Steps edges roots root frame before after stack now items more → IsWalking edges roots root after now more
  walks_on steps = record {
    frames = frames_stay edges roots root frame before after stack now items more all frame_low
        (λ k d h. subst (λ (f : Frame). f.module < length edges) (get_or_append_left stack (frame ∷ []) d k h)
        (subst (All (λ (f : Frame). f.module < length edges)) is so_far.frames k d (let longer = length-append stack (frame ∷ []) in omega (arith, h, longer)))) steps;
    way = λ active same. step_on edges roots root active same frame before after stack now items more long all frame_low
        (subst (λ s. IsOnWay active (set_of roots root) root before s items) is (so_far.way active same)) steps;
  }

  pub walk_less : Steps edges roots root frame before after stack now items more → left_over edges after now < left_over edges before old
  walk_less steps = subst (λ s. left_over edges after now < left_over edges before s) (sym is) (step_less edges roots root frame before after stack now items more all frame_low steps)

pub walking_ends : (edges : List (List ℕ)) (roots : List ℕ) (root : ℕ) (met : List ℕ) (stack : List Frame) (items : List Item) → IsWalking edges roots root met stack items → stack ≡ []
    → (active : Active) → active.edges ≡ edges → AreItems active (set_of roots root) root items
walking_ends edges roots root met stack items done none_left active is = (
  met,
  subst (λ i. Visits active (set_of roots root) [] root i met) (append-nil items)
      ((done.way active is).on [] met (subst (λ s. Finishes active (set_of roots root) met (reverse s) [] met) (sym none_left) (none met))),
)
