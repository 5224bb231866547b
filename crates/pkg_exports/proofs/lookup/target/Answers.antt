use Rattle.std.proofs.Common.{◌≡◌, ◌⊎◌, ◌<◌, ℕ, List, [], ◌∷◌, false, true, length, codes, Some, None, Result, Err, refl, sym, ap, subst, ◌∙◌, inl}
use Rattle.std.specs.List.{slice_get}
use Rattle.std.specs.Str.{bytes_eq}
use Rattle.std.specs.Cmp.Lexicographic.{bytes_decides}
use Rattle.std.proofs.lemmas.Option.{slice_get_read}
use Rattle.std.proofs.lemmas.Bool.{false≢true}
use Rattle.pk_types.specs.declared.form.Form.{Form}
use Rattle.pkg_manifest.specs.declared.value.Json.{Json}
use Rattle.pkg_manifest.specs.declared.value.Member.{Member}
use Rattle.pkg_manifest.specs.Members.{member}
use Rattle.pkg_exports.specs.declared.answer.Table.{Table}
use Rattle.pkg_exports.specs.declared.answer.Target.{Target}
use Rattle.pkg_exports.specs.declared.answer.TargetFault.{TargetFault}
use Rattle.pkg_exports.specs.declared.answer.TargetFault.TheVariants.{NotExported, NoMemory}
use Rattle.pkg_exports.specs.declared.key.Fit.{Fit}
use Rattle.pkg_exports.specs.Keys.{NoneFits, Decides}
use Rattle.pkg_exports.specs.Choices.{Chosen}
use Rattle.pkg_exports.specs.Meanings.{meaning}
use Rattle.pkg_exports.specs.Answers.{Answers, not_there, decided, answer_of, is_mixed, entries_of, sole}
use Rattle.pkg_exports.proofs.Whole.{some_one, chosen_decides, chosen_none, same_answer, sole_decides, sole_none}
use Rattle.pkg_exports.proofs.lookup.target.Goals as goal

module _ (form : Form) (table : Table) (map : Json) (key : List ℕ) where
  not_sole : is_mixed table map ≡ false → entries_of table map ≡ sole map → bytes_eq key (codes ".") ≡ false → Answers form table map key (Err NotExported)
  not_sole h e differs =
      not_there h (subst (λ es. NoneFits es key) (sym e) (sole_none map key (λ same. false≢true (sym differs ∙ (bytes_decides key (codes ".")).1 same)))) refl

  is_sole : is_mixed table map ≡ false → entries_of table map ≡ sole map → bytes_eq key (codes ".") ≡ true → (a : Result Target TargetFault) → a ≡ answer_of (meaning form table (42 ∷ []) map)
      → Answers form table map key a
  is_sole h e same a f = decided h (member (codes ".") map) (42 ∷ []) (subst (λ es. Decides es key (member (codes ".") map) (42 ∷ [])) (sym e) (sole_decides map key ((bytes_decides key (codes ".")).0 same))) f

  none_decides : is_mixed table map ≡ false → (es : List (Member Json)) → entries_of table map ≡ es → Chosen es key (length es) None → Answers form table map key (Err NotExported)
  none_decides h es e none = not_there h (subst (λ es. NoneFits es key) (sym e) (chosen_none es key none)) refl

  one_decides : is_mixed table map ≡ false → (es : List (Member Json)) → entries_of table map ≡ es → (fit : Fit) → Chosen es key (length es) (Some fit) → (m : Member Json) → slice_get es fit.place ≡ Some m
      → (a : Result Target TargetFault) → a ≡ answer_of (meaning form table fit.part.now m.value) → Answers form table map key a
  one_decides h es e fit at m here a f =
      let same : at.entry ≡ m = some_one at.entry m (sym at.stands ∙ here) in
      decided h m fit.part.now (subst (λ es. Decides es key m fit.part.now) (sym e) (subst (λ (x : Member Json). Decides es key x fit.part.now) same (chosen_decides es key fit at))) f

  only_this : (a b : Result Target TargetFault) → Answers form table map key a → Answers form table map key b → (a ≡ b) ⊎ (a ≡ Err NoMemory)
  only_this a b f g = inl (same_answer form table map key a b f g)

pub returns-then-not-is-clause-answers : goal.returns-then-not-is-clause-answers
returns-then-not-is-clause-answers c more =
    let s = c.in-Sole.ensures in
    not_sole c.args.form c.args.table c.args.map.now c.args.key.now s.0 s.1 (sym c.is.ensures ∙ c.if-not-is.true)

sole_answers : (c : goal.After-answer) → Answers c.args.form c.args.table c.args.map.now c.args.key.now c.answer.result
sole_answers c =
    let s = c.in-Sole.ensures in
    let map = c.args.map.now in
    is_sole c.args.form c.args.table map c.args.key.now s.0 s.1 (sym c.is.ensures ∙ c.if-not-is.false) c.answer.result (c.answer.ensures ∙ ap answer_of c.in_ok-meaning_of-in-Sole.ensures)

none_answers : (c : goal.In-None) → Answers c.args.form c.args.table c.args.map.now c.args.key.now (Err NotExported)
none_answers c =
    let s = c.in-Entries.ensures in
    none_decides c.args.form c.args.table c.args.map.now c.args.key.now s.0 c.in-Entries.entries.now s.1 c.in-None.ensures

one_answers : (c : goal.After-answer-in-Some) → Answers c.args.form c.args.table c.args.map.now c.args.key.now c.answer-in-Some.result
one_answers c =
    let s = c.in-Entries.ensures in
    let es = c.in-Entries.entries.now in
    let fit = c.in-Some.fit in
    let at : Chosen es c.args.key.now (length es) (Some fit) = c.in-Some.ensures in
    let m = c.index-entries-fit.result in
    let below : fit.place < length es = at.below in
    one_decides c.args.form c.args.table c.args.map.now c.args.key.now s.0 es s.1 fit at m (slice_get_read es (length es) fit.place m refl below c.index-entries-fit.is) c.answer-in-Some.result
    (c.answer-in-Some.ensures ∙ ap answer_of c.in_ok-meaning_of-in-Some.ensures ∙ ap (λ (x : Member Json). answer_of (meaning c.args.form c.args.table fit.part.now x.value)) (sym c.index-entries-fit.is))

pub returns-in_ok-meaning_of-in-Sole-clause-answers : goal.returns-in_ok-meaning_of-in-Sole-clause-answers
returns-in_ok-meaning_of-in-Sole-clause-answers c more = sole_answers c

pub returns-in_ok-meaning_of-in-Sole-clause-only : goal.returns-in_ok-meaning_of-in-Sole-clause-only
returns-in_ok-meaning_of-in-Sole-clause-only c b h = only_this c.args.form c.args.table c.args.map.now c.args.key.now c.answer.result b (sole_answers c) h

pub returns-in-None-clause-answers : goal.returns-in-None-clause-answers
returns-in-None-clause-answers c more = none_answers c

pub returns-in-None-clause-only : goal.returns-in-None-clause-only
returns-in-None-clause-only c b h = only_this c.args.form c.args.table c.args.map.now c.args.key.now (Err NotExported) b (none_answers c) h

pub returns-in_ok-meaning_of-in-Some-clause-answers : goal.returns-in_ok-meaning_of-in-Some-clause-answers
returns-in_ok-meaning_of-in-Some-clause-answers c more = one_answers c

pub returns-in_ok-meaning_of-in-Some-clause-only : goal.returns-in_ok-meaning_of-in-Some-clause-only
returns-in_ok-meaning_of-in-Some-clause-only c b h = only_this c.args.form c.args.table c.args.map.now c.args.key.now c.answer-in-Some.result b (one_answers c) h
