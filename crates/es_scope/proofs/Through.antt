-- A `var` that goes through the scopes around it, one after another.
use Rattle.std.proofs.Common.{◌≡◌, ◌<◌, ◌≤◌, ℕ, suc, Bool, true, false, cond, nat_le, nat_eq, Option, Some, None, IfSome, List, [], ◌∷◌, ◌++◌, length, filter, reverse, refl, sym, ap, subst, ◌∙◌, ⊎_elim, arith, true≢false}
use Rattle.std.specs.List.{Contains, AllPairs}
use Rattle.std.specs.Option.{option_eq}
use Rattle.std.proofs.lemmas.Bool.{le-leb, lt-leb, eqb-true, cases_lt}
use Rattle.std.proofs.lemmas.List.{reverse-append}
use Rattle.pk_types.proofs.ListMembers.{here, there, one_of}
use Rattle.es_scope.specs.declared.frame.Frame.{Frame}
use Rattle.es_scope.specs.Frames.{scopes_of}
use Rattle.es_scope.specs.Noting.{Notes, Takes}
use Rattle.es_scope.proofs.Noting.{claim, HasVar, takes_none, takes_inner, takes_outer, takes_skipped}

-- scopes from the innermost out
abbrev pub Descend : List ℕ → Type 0
Descend scopes = AllPairs (λ inner outer. outer ≤ inner) scopes

-- those of the scopes that do not lie around this one
abbrev pub kept : ℕ → List Frame → List ℕ
kept own frames = filter (nat_le own) (scopes_of frames)

descend_tail : (scope : ℕ) (scopes : List ℕ) → Descend (scope ∷ scopes) → Descend scopes
descend_tail scope scopes order i j d below inside = order (suc i) (suc j) d (omega arith) (omega arith)

descend_head : (scope : ℕ) (scopes : List ℕ) → Descend (scope ∷ scopes) → (other : ℕ) → Contains scopes other → other ≤ scope
descend_head scope scopes order other c = subst (λ o. o ≤ scope) c.2 (order 0 (suc c.0) other (omega arith) (omega (arith, c.1)))

filter_none : (test : ℕ → Bool) (numbers : List ℕ) → ((number : ℕ) → Contains numbers number → test number ≡ false) → filter test numbers ≡ []
filter_none test [] none = refl
filter_none test (number ∷ numbers) none =
    ap (λ b. cond b (number ∷ filter test numbers) (filter test numbers)) (none number (here number numbers))
    ∙ filter_none test numbers (λ other c. none other (there number numbers other c))

module _ (own : ℕ) (frame : Frame) (outer : List Frame) where
  kept_one : own ≤ frame.scope → kept own (frame ∷ outer) ≡ frame.scope ∷ kept own outer
  kept_one h = ap (λ b. cond b (frame.scope ∷ kept own outer) (kept own outer)) (le-leb own frame.scope h)

  kept_none : Descend (scopes_of (frame ∷ outer)) → frame.scope < own → kept own (frame ∷ outer) ≡ []
  kept_none order h = filter_none (nat_le own) (scopes_of (frame ∷ outer))
      (λ scope c. ⊎_elim (λ same. lt-leb own scope (omega (arith, same, h)))
      (λ behind. let low = descend_head frame.scope (scopes_of outer) order scope behind in lt-leb own scope (omega (arith, low, h)))
      (one_of frame.scope (scopes_of outer) scope c))

-- what is left to go through, where the `var` belongs to the scope `own`: done with it, all is noted
pub record Going (number own : ℕ) (first : Notes) (all : List Frame) (now : Notes) (left : List Frame) : Type 0 where
  pub order : Descend (scopes_of left)
  pub rest : (new : Notes) (clashes : Bool) → Takes now (claim number [] (kept own left)) new clashes → Takes first (claim number [] (kept own all)) new clashes

pub starts : (number own : ℕ) (first : Notes) (all frames : List Frame) → Descend (scopes_of all) → frames ≡ all → Going number own first all first frames
starts number own first all frames order same = subst (Going number own first all first) (sym same) (record { order = order; rest = λ new clashes taken. taken })

module _ {number own : ℕ} {first : Notes} {all : List Frame} {now : Notes} {frame : Frame} {outer : List Frame}
    (going : Going number own first all now (frame ∷ outer)) where
  -- a `var` that is noted in the innermost scope goes on to the others
  pub goes_on : (new : Notes) → own ≤ frame.scope → Takes now (claim number [] (frame.scope ∷ [])) new false → Going number own first all new outer
  goes_on new h taken = record {
    order = descend_tail frame.scope (scopes_of outer) going.order;
    rest = λ last clashes more. going.rest last clashes
        (subst (λ scopes. Takes now (claim number [] scopes) last clashes) (sym (kept_one own frame outer h))
        (takes_outer number frame.scope (kept own outer) now new last clashes taken more));
  }

  -- it was noted there last
  pub goes_past : own ≤ frame.scope → HasVar now frame.scope number → Going number own first all now outer
  goes_past h had = record {
    order = descend_tail frame.scope (scopes_of outer) going.order;
    rest = λ last clashes more. going.rest last clashes
        (subst (λ scopes. Takes now (claim number [] scopes) last clashes) (sym (kept_one own frame outer h))
        (takes_skipped number frame.scope (kept own outer) now last clashes had more));
  }

  pub clashes_there : (new : Notes) → own ≤ frame.scope → Takes now (claim number [] (frame.scope ∷ [])) new true
      → Takes first (claim number [] (kept own all)) new true
  clashes_there new h taken = going.rest new true
      (subst (λ scopes. Takes now (claim number [] scopes) new true) (sym (kept_one own frame outer h))
      (takes_inner number frame.scope (kept own outer) now new taken))

  -- its own scope is behind
  pub is_past : frame.scope < own → Takes first (claim number [] (kept own all)) now false
  is_past h = going.rest now false
      (subst (λ scopes. Takes now (claim number [] scopes) now false) (sym (kept_none own frame outer going.order h)) (takes_none now number))

module _ {number own : ℕ} {first : Notes} {all : List Frame} {now : Notes} (going : Going number own first all now []) where
  -- it belongs to a part
  pub ends_below : 0 < own → Takes first (claim number [] (kept own all)) now false
  ends_below h = going.rest now false
      (subst (λ scopes. Takes now (claim number [] scopes) now false) (sym (ap (λ b. cond b (0 ∷ []) []) (lt-leb own 0 h))) (takes_none now number))

  -- it belongs to the top
  pub ends_at_top : (new : Notes) (clashes : Bool) → own ≤ 0 → Takes now (claim number [] (0 ∷ [])) new clashes → Takes first (claim number [] (kept own all)) new clashes
  ends_at_top new clashes h taken = going.rest new clashes
      (subst (λ scopes. Takes now (claim number [] scopes) new clashes) (sym (ap (λ b. cond b (0 ∷ []) []) (le-leb own 0 h))) taken)

  pub ends_again : HasVar now 0 number → Takes first (claim number [] (kept own all)) now false
  ends_again had = ⊎_elim ends_below (λ h. ends_at_top now false h (takes_skipped number 0 [] now now false had (takes_none now number))) (cases_lt 0 own)

-- what is left is told by a slice of frames, the innermost last
pub with_last : {number own : ℕ} {first : Notes} {all : List Frame} {now : Notes} (frames outer : List Frame) (frame : Frame) → frames ≡ outer ++ frame ∷ []
    → Going number own first all now (reverse frames) → Going number own first all now (frame ∷ reverse outer)
with_last {number} {own} {first} {all} {now} frames outer frame e going =
    subst (Going number own first all now) (ap reverse e ∙ reverse-append outer (frame ∷ [])) going

pub with_none : {number own : ℕ} {first : Notes} {all : List Frame} {now : Notes} (frames : List Frame) → length frames ≡ 0
    → Going number own first all now (reverse frames) → Going number own first all now []
with_none [] e going = going
with_none (frame ∷ frames) e going = absurd (omega (arith, e))

pub last_is : (last : Option ℕ) (scope : ℕ) (P : ℕ → Type 0) → option_eq nat_eq last (Some scope) ≡ true → IfSome last P → P scope
last_is None scope P e had = absurd (true≢false (sym e))
last_is (Some other) scope P e had = subst P (eqb-true other scope e) had
