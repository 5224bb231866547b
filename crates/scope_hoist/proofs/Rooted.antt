-- One root more has its set.
use Rattle.std.proofs.Common.{◌≡◌, ◌≢◌, ◌⊎◌, inl, inr, ⊎_elim, ℕ, ◌+◌, ◌<◌, ◌≤◌, Bool, true, false, true≢false, List, [], length, get_or, sym, ap, subst, ◌∙◌, arith}
use Rattle.std.specs.List.{All}
use Rattle.std.specs.Prelude.{slice_index}
use Rattle.std.proofs.lemmas.Bool.{cases_eq, cases_lt}
use Rattle.std.proofs.lemmas.Option.{none-some}
use Rattle.std.proofs.lemmas.List.{get_or_past}
use Rattle.scope_hoist.specs.declared.marks.Marks.{Marks}
use Rattle.scope_hoist.specs.Standing.{AreStanding, AreKnown}
use Rattle.scope_hoist.specs.Taking.{AreRootsBefore, TakesSet}
use Rattle.scope_hoist.specs.Rooting.{AreFirstMarks, MaySet, IsSetOf, HaveSetsBefore}

-- what is so far: the sets, and how the other modules stand
pub record AreSoFar (asks homes : List (List ℕ)) (may_join shares : List Bool) (next : ℕ) (roots : List ℕ) (marks : Marks) : Type 0 where
  pub have : HaveSetsBefore asks homes may_join shares next roots
  pub standing : AreStanding asks homes marks
  pub known : AreKnown may_join roots next [] marks

inside_of : (may_join : List Bool) (member : ℕ) → get_or may_join member false ≡ true → member < length may_join
inside_of may_join member is = ⊎_elim (λ h. h) (λ past. absurd (true≢false (sym is ∙ get_or_past may_join member false past))) (cases_lt member (length may_join))

-- ---- at first

pub starts : (asks homes : List (List ℕ)) (may_join shares : List Bool) (roots : List ℕ) (marks : Marks) → length may_join ≡ length asks → length roots ≡ length asks
    → ((member : ℕ) → member < length asks → slice_index roots member ≡ member) → AreFirstMarks may_join marks → AreSoFar asks homes may_join shares 0 roots marks
starts asks homes may_join shares roots marks long each itself first = record {
  have = record {
    each = each;
    in_order = λ member h. let e = itself member (omega (arith, h, each)) in omega (arith, e);
    before = λ member h. inr (itself member (omega (arith, h, each)));
    rooted = λ member h less. absurd (omega (arith, less));
    alone = λ root less. absurd (omega (arith, less));
    sets = λ root less. absurd (omega (arith, less));
  };
  standing = record {
    each_held = ap length first.held ∙ long;
    each_witness = first.each ∙ long;
    led = λ member from by. absurd (none-some from (sym (first.none member) ∙ by));
    not_both = λ member from by is. none-some from (sym (first.none member) ∙ by);
    listed = first.listed;
    within = subst (λ n. All (λ member. member < n) marks.list.items) long first.within;
  };
  known = record {
    known = λ member free. inl (ap (λ l. get_or l member false) first.held ∙ free.able);
    found = λ member found. ⊎_elim
        (λ is. let able = sym (ap (λ l. get_or l member false) first.held) ∙ is in
        inr (record { able = able; itself = itself member (omega (arith, long, inside_of may_join member able)); later = omega arith }))
        (λ by. absurd (none-some by.0 (sym (first.none member) ∙ by.1))) found;
  };
}

-- ---- a module that takes no set

less_more : (a n : ℕ) → a < n + 1 → (a < n) ⊎ (a ≡ n)
less_more a n h = grind arith

module _ (asks homes : List (List ℕ)) (may_join shares : List Bool) (next : ℕ) (roots : List ℕ) (marks : Marks) (so_far : AreSoFar asks homes may_join shares next roots marks)
    (inside : next < length asks) where
  -- the next module has a root already
  pub has_one : slice_index roots next ≢ next → AreSoFar asks homes may_join shares (next + 1) roots marks
  has_one taken = record {
    have = record {
      each = so_far.have.each;
      in_order = so_far.have.in_order;
      before = λ member h. ⊎_elim (λ less. inl (omega (arith, less))) (λ e. inr e) (so_far.have.before member h);
      rooted = λ member h less. ⊎_elim (λ low. so_far.have.rooted member h low)
          (λ e. ⊎_elim (λ low. absurd (omega (arith, low, e))) (λ itself. absurd (taken (subst (λ m. slice_index roots m ≡ m) (sym itself ∙ e) itself))) (so_far.have.before member h))
          (less_more (slice_index roots member) next less);
      alone = λ root less itself. ⊎_elim (λ low. so_far.have.alone root low itself) (λ e. absurd (taken (subst (λ m. slice_index roots m ≡ m) e itself))) (less_more root next less);
      sets = λ root less itself. ⊎_elim (λ low. so_far.have.sets root low itself) (λ e. absurd (taken (subst (λ m. slice_index roots m ≡ m) e itself))) (less_more root next less);
    };
    standing = so_far.standing;
    known = goes_by (λ e. taken e);
  }
    where
      goes_by : (slice_index roots next ≡ next → ⊥) → AreKnown may_join roots (next + 1) [] marks
      goes_by not = record {
        known = λ member free. so_far.known.known member (record { able = free.able; itself = free.itself; later = let h = free.later in omega (arith, h) });
        found = λ member found. ⊎_elim (λ none. inl none)
            (λ free. inr (record {
              able = free.able;
              itself = free.itself;
              later = let h = free.later in ⊎_elim (λ e. absurd (not (subst (λ m. slice_index roots m ≡ m) e free.itself))) (λ ne. omega (arith, h, ne)) (cases_eq member next);
            }))
            (so_far.known.found member found);
      }

  -- the next module is a root that stands alone
  pub stands_alone : slice_index roots next ≡ next → ¬ (get_or shares next false ≡ true) → ((member : ℕ) → get_or may_join member false ≡ true → get_or shares member false ≡ true)
      → AreSoFar asks homes may_join shares (next + 1) roots marks
  stands_alone root_itself not_shares sharing = record {
    have = record {
      each = so_far.have.each;
      in_order = so_far.have.in_order;
      before = λ member h. ⊎_elim (λ less. inl (omega (arith, less))) (λ e. inr e) (so_far.have.before member h);
      rooted = λ member h less. ⊎_elim (λ low. so_far.have.rooted member h low)
          (λ e. ap (slice_index roots) e ∙ root_itself ∙ sym e) (less_more (slice_index roots member) next less);
      alone = λ root less itself not. ⊎_elim (λ low. so_far.have.alone root low itself not)
          (λ e member h is. ⊎_elim (λ low. absurd (omega (arith, low, is, e))) (λ own. sym own ∙ is) (so_far.have.before member h)) (less_more root next less);
      sets = λ root less itself shares_it. ⊎_elim (λ low. so_far.have.sets root low itself shares_it)
          (λ e. absurd (not_shares (subst (λ m. get_or shares m false ≡ true) e shares_it))) (less_more root next less);
    };
    standing = so_far.standing;
    known = record {
      known = λ member free. so_far.known.known member (record { able = free.able; itself = free.itself; later = let h = free.later in omega (arith, h) });
      found = λ member found. ⊎_elim (λ none. inl none)
          (λ free. inr (record {
            able = free.able;
            itself = free.itself;
            later = let h = free.later in ⊎_elim (λ e. absurd (not_shares (sharing next (subst (λ m. get_or may_join m false ≡ true) e free.able)))) (λ ne. omega (arith, h, ne)) (cases_eq member next);
          }))
          (so_far.known.found member found);
    };
  }

  -- the next module is a root that has taken its set
  pub roots_before : slice_index roots next ≡ next → AreRootsBefore roots next
  roots_before itself = record { itself = itself; before = so_far.have.before }

  module _ (now : List ℕ) (new : Marks) (itself : slice_index roots next ≡ next) (shares_it : get_or shares next false ≡ true) (takes : TakesSet asks homes may_join roots now next)
      (able_within : length may_join ≡ length asks) (standing : AreStanding asks homes new) (known : AreKnown may_join now (next + 1) [] new) where
    -- the roots before this one are kept
    kept : (member : ℕ) → member < length roots → slice_index roots member < next → slice_index now member ≡ slice_index roots member
    kept member h low = takes.same member (λ e. ⊎_elim
        (λ same. absurd (clash (slice_index roots member) next low (ap (slice_index roots) same ∙ itself)))
        (λ ne. let free = takes.free member h e ne in wrong (slice_index roots member) member next low free.itself free.later)
        (cases_eq member next))
      where
        clash : (a b : ℕ) → a < b → a ≡ b → ⊥
        clash a b h e = omega arith

        wrong : (a m n : ℕ) → a < n → a ≡ m → n ≤ m → ⊥
        wrong a m n h e g = omega arith

    now_low : (member : ℕ) → slice_index now member < next → slice_index roots member < next
    now_low member low = let same = takes.same member (λ e. absurd (omega (arith, low, e))) in omega (arith, low, same)

    set_kept : (root : ℕ) → root < next → IsSetOf asks homes may_join roots root → IsSetOf asks homes may_join now root
    set_kept root low set = record {
      able = λ member h is. set.able member (in_roots h) (was member is);
      together = λ member h is. set.together member (in_roots h) (was member is);
      closed = λ member from h is ne asking. let by = set.closed member from (in_roots h) (was member is) ne asking in will from by;
      greatest = λ members may member c. let is = set.greatest members (back members may) member c in will member is;
    }
      where
        in_roots : {member : ℕ} → member < length now → member < length roots
        in_roots h = let e = takes.each in omega (arith, h)

        was : (member : ℕ) → slice_index now member ≡ root → slice_index roots member ≡ root
        was member is = sym (takes.same member (λ e. absurd (omega (arith, low, is, e)))) ∙ is

        will : (member : ℕ) → slice_index roots member ≡ root → slice_index now member ≡ root
        will member is = ⊎_elim (λ h. kept member h (omega (arith, low, is)) ∙ is)
            (λ past. get_or_past now member 0 (let e = takes.each in omega (arith, past)) ∙ sym (get_or_past roots member 0 past) ∙ is) (cases_lt member (length roots))

        back : (members : List ℕ) → MaySet asks homes may_join now root members → MaySet asks homes may_join roots root members
        back members may = record {
          able = may.able;
          free = λ member c ne less. may.free member c ne
              (let inside_it = inside_of may_join member (may.able member c ne) in
              let same = kept member (let e = so_far.have.each in omega (arith, inside_it, able_within)) (omega (arith, less, low)) in omega (arith, same, less));
          together = may.together;
          closed = may.closed;
        }

    set_taken : IsSetOf asks homes may_join now next
    set_taken = record {
      able = λ member h is ne. (takes.free member (let e = takes.each in omega (arith, h)) is ne).able;
      together = λ member h is ne. takes.together member (let e = takes.each in omega (arith, h)) is ne;
      closed = λ member from h is ne asking. takes.closed member from (let e = takes.each in omega (arith, h)) is ne asking;
      greatest = λ members may member c. takes.greatest members (record {
        free = λ other d ne.
            let able = may.able other d ne in
            let inside_it = inside_of may_join other able in
            let h : other < length roots = let e = so_far.have.each in omega (arith, inside_it, able_within) in
            ⊎_elim
            (λ low. absurd (may.free other d ne (let same = kept other h low in omega (arith, same, low))))
            (λ own. record {
              able = able;
              itself = own;
              later = ⊎_elim
                  (λ low. absurd (may.free other d ne (let same = kept other h (omega (arith, low, own)) in omega (arith, same, own, low)))) (λ high. high) (cases_lt other next);
            })
            (so_far.have.before other h);
        together = may.together;
        closed = may.closed;
      }) member c;
    }

    pub has_taken : AreSoFar asks homes may_join shares (next + 1) now new
    has_taken = record {
      have = record {
        each = takes.each ∙ so_far.have.each;
        in_order = λ member h.
            let g : member < length roots = let e = takes.each in omega (arith, h) in
            ⊎_elim
            (λ e. ⊎_elim (λ same. omega (arith, e, same)) (λ ne. let later = (takes.free member g e ne).later in omega (arith, e, later)) (cases_eq member next))
            (λ ne. let same = takes.same member ne in let low = so_far.have.in_order member g in omega (arith, same, low))
            (cases_eq (slice_index now member) next);
        before = λ member h.
            let g : member < length roots = let e = takes.each in omega (arith, h) in
            ⊎_elim (λ e. inl (omega (arith, e)))
            (λ ne. let same = takes.same member ne in ⊎_elim (λ low. inl (omega (arith, same, low))) (λ own. inr (same ∙ own)) (so_far.have.before member g))
            (cases_eq (slice_index now member) next);
        rooted = λ member h less.
            let g : member < length roots = let e = takes.each in omega (arith, h) in
            ⊎_elim
            (λ low.
            let was = now_low member low in
            let same = kept member g was in
            let own = so_far.have.rooted member g was in
            let order = so_far.have.in_order member g in
            ap (slice_index now) same ∙ kept (slice_index roots member) (omega (arith, order, g)) (omega (arith, own, was)) ∙ own ∙ sym same)
            (λ e. ap (slice_index now) e ∙ takes.itself ∙ sym e)
            (less_more (slice_index now member) next less);
        alone = λ root less own not. ⊎_elim
            (λ low member h is.
            let g : member < length roots = let e = takes.each in omega (arith, h) in
            so_far.have.alone root low (sym (takes.same root (λ e. absurd (omega (arith, low, own, e)))) ∙ own) not member g
            (sym (takes.same member (λ e. absurd (omega (arith, low, is, e)))) ∙ is))
            (λ e. absurd (not (subst (λ m. get_or shares m false ≡ true) (sym e) shares_it)))
            (less_more root next less);
        sets = λ root less own shares_root. ⊎_elim
            (λ low. set_kept root low (so_far.have.sets root low (sym (takes.same root (λ e. absurd (omega (arith, low, own, e)))) ∙ own) shares_root))
            (λ e. subst (IsSetOf asks homes may_join now) (sym e) set_taken)
            (less_more root next less);
      };
      standing = standing;
      known = known;
    }
