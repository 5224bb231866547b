use Rattle.std.proofs.Common.{◌≡◌, ◌≢◌, ◌++◌, ◌∷◌, [], ℕ, List, Option, Some, None, MatchOption, not, true, false, length, refl, sym, ap, subst, ◌∙◌}
use Rattle.std.specs.Borrow.{Bor}
use Rattle.std.specs.Cmp.Lexicographic.{bytes_decides}
use Rattle.std.specs.Str.{bytes_eq}
use Rattle.std.proofs.lemmas.Bool.{false≢true, not-false}
use Rattle.pkg_exports.specs.Texts.{has}
use Rattle.pkg_exports.specs.Keys.{equal, pattern, before_star}
use Rattle.pkg_exports.proofs.Stars.{before_whole, before_first, other_name, two_stars, none_between}
use Rattle.pkg_exports.proofs.key.fit_of.Goals as goal
use Rattle.pkg_exports.proofs.key.fit_of.Goals.{in-None+else-ne, in-Some+else-has_star+in-Some-between}

whole : (name first : List ℕ) (rest : Option (Bor (List ℕ))) → MatchOption rest (name ≡ first) (λ r. name ≡ first ++ 42 ∷ r.now) → rest ≡ None → name ≡ first
whole name first rest h e = subst (λ (r : Option (Bor (List ℕ))). MatchOption r (name ≡ first) (λ r. name ≡ first ++ 42 ∷ r.now)) e h

parts : (name first : List ℕ) (rest : Option (Bor (List ℕ))) (after : Bor (List ℕ)) → MatchOption rest (name ≡ first) (λ r. name ≡ first ++ 42 ∷ r.now) → rest ≡ Some after → name ≡ first ++ 42 ∷ after.now
parts name first rest after h e = subst (λ (r : Option (Bor (List ℕ))). MatchOption r (name ≡ first) (λ r. name ≡ first ++ 42 ∷ r.now)) e h

differs : (name key : List ℕ) → not (bytes_eq name key) ≡ true → name ≢ key
differs name key h e = false≢true (sym (ap not ((bytes_decides name key).1 e)) ∙ h)

pub returns-then-ne : goal.returns-then-ne
returns-then-ne c =
    let name = c.args.name.now in
    let first = c.cut.result.0.now in
    let e : name ≡ first = whole name first c.cut.result.1 c.cut.ensures.parts c.in-None.is in
    other_name c.args.key.now name (ap (has 42) e ∙ c.cut.ensures.first) (differs name c.args.key.now (sym c.ne.ensures ∙ c.if-ne.true))

pub returns-then-has_star : goal.returns-then-has_star
returns-then-has_star c =
    let name = c.args.name.now in
    let first = c.cut.result.0.now in
    let after = c.in-Some.after.now in
    two_stars c.args.key.now name first after c.cut.ensures.first (sym c.has_star.ensures ∙ c.if-has_star.true) (parts name first c.cut.result.1 c.in-Some.after c.cut.ensures.parts c.in-Some.is)

pub returns-in-None-between : goal.returns-in-None-between
returns-in-None-between c =
    let name = c.args.name.now in
    let first = c.cut.result.0.now in
    let after = c.in-Some.after.now in
    none_between c.args.key.now name first after c.cut.ensures.first (parts name first c.cut.result.1 c.in-Some.after c.cut.ensures.parts c.in-Some.is) c.in-None-between.ensures

pub returns : goal.returns
returns c =
    let key = c.args.key.now in
    let name = c.args.name.now in
    let first = c.cut.result.0.now in
    elim c.match-after.branch [
      | in-None+else-ne w ↦
          let e : name ≡ first = whole name first c.cut.result.1 c.cut.ensures.parts w.in-None.is in
          let none : has 42 name ≡ false = ap (has 42) e ∙ c.cut.ensures.first in
          let same : name ≡ key = (bytes_decides name key).0 (not-false (bytes_eq name key) (sym w.ne.ensures ∙ w.if-ne.false)) in
          let star : c.match-after.part.now ≡ 42 ∷ [] = ap (λ (r : Bor (List ℕ)). r.now) w.part-is ∙ w.as_slice-part.ensures in
          record { place_is = refl; before_is = ap length (sym e ∙ sym (before_whole name none)); length_is = refl; fits = equal none same star }
      | in-Some+else-has_star+in-Some-between w ↦
          let after = w.in-Some.after.now in
          let e : name ≡ first ++ 42 ∷ after = parts name first c.cut.result.1 w.in-Some.after c.cut.ensures.parts w.in-Some.is in
          let h = c.cut.ensures.first in
          let same : c.match-after.part.now ≡ w.in-Some-between.part.now = ap (λ (r : Bor (List ℕ)). r.now) w.part-is in
          record {
            place_is = refl;
            before_is = ap length (sym (ap before_star e ∙ before_first first after h));
            length_is = refl;
            fits = pattern first after h (sym w.has_star.ensures ∙ w.if-has_star.false) e (λ f. (w.in-Some-between.ensures).1 (sym same ∙ f)) ((w.in-Some-between.ensures).0 ∙ ap (λ p. first ++ p ++ after) (sym same));
          }
    ]
