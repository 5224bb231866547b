use Rattle.std.proofs.Common.{◌≡◌, ◌≢◌, ◌++◌, ◌∷◌, ◌==◌, length, [], List, ℕ, Option, Some, refl, arith, sym, ap, ◌∙◌, subst, MatchOption, append_assoc}
use Rattle.std.specs.Borrow.{Bor}
use Rattle.std.proofs.lemmas.Slice.Eq.{strip_prefix_is, strip_suffix_is}
use Rattle.std.proofs.lemmas.Bool.{eqb-true, false≢true}
use Rattle.std.proofs.lemmas.Bool.Decides.{Decides-eqb}
use Rattle.std.proofs.lemmas.List.{append_cancel_left, append_cancel_right}
use Rattle.pkg_exports.proofs.key.between.Goals as goal

length_zero : (s : List ℕ) → length s ≡ 0 → s ≡ []
length_zero [] e = refl
length_zero (x ∷ s) e = absurd (omega arith)

pub returns-in_default : goal.returns-in_default
returns-in_default c part e =
    let key = c.args.key.now in
    let before = c.args.before.now in
    let cases = strip_prefix_is Decides-eqb key before c.strip_prefix.result c.strip_prefix.ensures.cases in
    let none : (rest : List ℕ) → key ≢ before ++ rest =
    subst (λ (r : Option (Bor (List ℕ))). MatchOption r ((rest : List ℕ) → key ≢ before ++ rest) (λ x. key ≡ before ++ x.now)) c.in_default.is cases in
    absurd (none (part ++ c.args.after.now) (e ∙ append_assoc before part c.args.after.now))

pub returns-in_default-strip_suffix : goal.returns-in_default-strip_suffix
returns-in_default-strip_suffix c part e =
    let key = c.args.key.now in
    let before = c.args.before.now in
    let after = c.args.after.now in
    let rest = c.in-Some.rest.now in
    let first : key ≡ before ++ rest = strip_prefix_is Decides-eqb key before (Some c.in-Some.rest) c.in-Some.ensures.cases in
    let cases = strip_suffix_is Decides-eqb rest after c.strip_suffix.result c.strip_suffix.ensures.cases in
    let none : (front : List ℕ) → rest ≢ front ++ after =
    subst (λ (r : Option (Bor (List ℕ))). MatchOption r ((front : List ℕ) → rest ≢ front ++ after) (λ x. rest ≡ x.now ++ after)) c.in_default-strip_suffix.is cases in
    absurd (none part (append_cancel_left before rest (part ++ after) (sym first ∙ e ∙ append_assoc before part after)))

pub returns-then-is_empty : goal.returns-then-is_empty
returns-then-is_empty c part e =
    let key = c.args.key.now in
    let before = c.args.before.now in
    let after = c.args.after.now in
    let rest = c.in-Some.rest.now in
    let found = c.in-Some-strip_suffix.part.now in
    let first : key ≡ before ++ rest = strip_prefix_is Decides-eqb key before (Some c.in-Some.rest) c.in-Some.ensures.cases in
    let second : rest ≡ found ++ after = strip_suffix_is Decides-eqb rest after (Some c.in-Some-strip_suffix.part) c.in-Some-strip_suffix.ensures.cases in
    let same : part ++ after ≡ found ++ after = append_cancel_left before (part ++ after) (found ++ after) (sym (append_assoc before part after) ∙ sym e ∙ first ∙ ap (λ x. before ++ x) second) in
    append_cancel_right part found after same ∙ length_zero found (eqb-true (length found) 0 (sym c.is_empty.ensures ∙ c.if-is_empty.true))

pub returns : goal.returns
returns c =
    let key = c.args.key.now in
    let before = c.args.before.now in
    let after = c.args.after.now in
    let rest = c.in-Some.rest.now in
    let part = c.in-Some-strip_suffix.part.now in
    let first : key ≡ before ++ rest = strip_prefix_is Decides-eqb key before (Some c.in-Some.rest) c.in-Some.ensures.cases in
    let second : rest ≡ part ++ after = strip_suffix_is Decides-eqb rest after (Some c.in-Some-strip_suffix.part) c.in-Some-strip_suffix.ensures.cases in
    (first ∙ ap (λ x. before ++ x) second ∙ sym (append_assoc before part after), λ e. false≢true (sym c.if-is_empty.false ∙ c.is_empty.ensures ∙ ap (λ (x : List ℕ). length x == 0) e))
