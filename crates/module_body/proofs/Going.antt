-- The marks of an outline, gone through one by one: what is known and what is written before a place.
use Rattle.std.proofs.Common.{◌≡◌, ℕ, ◌+◌, ◌-◌, ◌<◌, ◌≤◌, [], ◌∷◌, ◌++◌, length, get_or, take, drop, refl, sym, ap, subst, ◌∙◌, arith, add-one}
use Rattle.std.proofs.Math.Seq.{drop-cons, take-length}
use Rattle.std.proofs.lemmas.List.{length-drop}
use Rattle.std.proofs.Math.ListN.{drop_of_length-le}
use Rattle.es_outline.specs.declared.mark.Mark.{Mark}
use Rattle.es_outline.specs.declared.mark.Mark.TheVariants as mark
use Rattle.es_outline.specs.declared.mark.Role.TheVariants as is
use Rattle.es_outline.specs.Outline.{Marks}
use Rattle.es_scope.specs.Source.{Source}
use Rattle.emit_body.specs.declared.body.Body.{Body}
use Rattle.module_body.specs.declared.before.Before.{Before}
use Rattle.module_body.specs.Standing.{standing_at}
use Rattle.module_body.specs.Changes.{ChangesOf, sites_passed, touches_passed, last_change}
use Rattle.module_body.specs.Before.{last_kept, is_broken, begins_value, opens_before, opens_behind, before_of, behind, nothing}
use Rattle.module_body.specs.Chunks.{Drafted, no_draft, drafted}
use Rattle.module_body.specs.Writing.{chunks_for, chunks_from, body_of}
use Rattle.module_body.proofs.Drafting.{drafted_append, body_joined}

nothing_before : (changes : ChangesOf) → nothing ≡ before_of changes []
unfolding standing_at sites_passed touches_passed last_change last_kept is_broken begins_value opens_before
nothing_before changes = refl

known_behind : (changes : ChangesOf) (one_mark : Mark) (before : Marks) → behind changes one_mark (before_of changes before) ≡ before_of changes (one_mark ∷ before)
unfolding standing_at sites_passed touches_passed last_change last_kept is_broken begins_value opens_before
known_behind changes one_mark before = refl

opens_more : (one_mark : Mark) (opens place : ℕ) → opens ≤ place → opens_behind one_mark opens ≤ place + 1
opens_more (mark.Token is.Opens token) opens place within = omega arith
opens_more _ opens place within = omega arith

written_first : (source : Source) (changes : ChangesOf) (one_mark : Mark) (before after : Marks) → chunks_from source changes before (one_mark ∷ after)
    ≡ chunks_for source changes (before_of changes before) one_mark (one_mark ∷ after) ++ chunks_from source changes (one_mark ∷ before) after
unfolding chunks_from
written_first source changes one_mark before after = refl

none_written : (source : Source) (changes : ChangesOf) (before : Marks) → chunks_from source changes before [] ≡ []
unfolding chunks_from
none_written source changes before = refl

nothing_drafted : (draft : Drafted) → drafted draft [] ≡ draft
unfolding drafted
nothing_drafted draft = refl

-- the whole, as a draft
abbrev whole : Source → ChangesOf → Drafted
whole source changes = drafted no_draft (chunks_from source changes [] source.marks)

-- the marks before the place are gone through: this is known of them, and with what is left to be written the draft is the whole
pub record IsGone (source : Source) (changes : ChangesOf) (place : ℕ) (known : Before) (draft : Drafted) : Type 0 where
  pub before : Marks
  pub known_is : known ≡ before_of changes before
  pub opens : known.opens ≤ place
  pub left : drafted draft (chunks_from source changes before (drop place source.marks)) ≡ whole source changes

pub none_gone : (source : Source) (changes : ChangesOf) (known : Before) (draft : Drafted) → known ≡ nothing → draft ≡ no_draft → IsGone source changes 0 known draft
none_gone source changes known draft k d = record {
  before = [];
  known_is = k ∙ nothing_before changes;
  opens = let h : known.opens ≡ 0 = ap (λ (b : Before). b.opens) k in omega (arith, h);
  left = ap (λ (start : Drafted). drafted start (chunks_from source changes [] source.marks)) d;
}

-- the marks from the place on
abbrev from : Source → ℕ → Marks
from source place = drop place source.marks

pub one_gone : (source : Source) (changes : ChangesOf) (place : ℕ) (known more : Before) (draft drafting : Drafted) (one_mark : Mark) (marks : Marks)
    → from source place ≡ one_mark ∷ from source (place + 1) → marks ≡ from source place → IsGone source changes place known draft
    → drafting ≡ drafted draft (chunks_for source changes known one_mark marks) → more ≡ behind changes one_mark known
    → IsGone source changes (place + 1) more drafting
one_gone source changes place known more draft drafting one_mark marks at all gone d k = record {
  before = one_mark ∷ gone.before;
  known_is = k ∙ ap (behind changes one_mark) gone.known_is ∙ known_behind changes one_mark gone.before;
  opens = let h : more.opens ≡ opens_behind one_mark known.opens = ap (λ (b : Before). b.opens) k in
      omega (arith, h, opens_more one_mark known.opens place gone.opens);
  left =
      let after = from source (place + 1) in
      let rest = chunks_from source changes (one_mark ∷ gone.before) after in
      let first = chunks_for source changes (before_of changes gone.before) one_mark (one_mark ∷ after) in
      let written : drafting ≡ drafted draft first =
      d ∙ ap (λ (b : Before). drafted draft (chunks_for source changes b one_mark marks)) gone.known_is
      ∙ ap (λ (list : Marks). drafted draft (chunks_for source changes (before_of changes gone.before) one_mark list)) (all ∙ at) in
      ap (λ (start : Drafted). drafted start rest) written ∙ sym (drafted_append draft first rest)
      ∙ ap (drafted draft) (sym (written_first source changes one_mark gone.before after))
      ∙ ap (λ (marks : Marks). drafted draft (chunks_from source changes gone.before marks)) (sym at) ∙ gone.left;
}

pub next_mark : (source : Source) (others : Marks) (place : ℕ) (d : Mark) → others ≡ source.marks → place < length others
    → from source place ≡ get_or others place d ∷ from source (place + 1)
next_mark source others place d same within =
    subst (λ (marks : Marks). drop place marks ≡ get_or others place d ∷ drop (place + 1) marks) same
    (drop-cons others place d within ∙ ap (λ n. get_or others place d ∷ drop n others) (sym (add-one place)))

whole_taken : (marks : Marks) (place : ℕ) → take (length marks - place) (drop place marks) ≡ drop place marks
whole_taken marks place = ap (λ n. take n (drop place marks)) (sym (length-drop place marks)) ∙ take-length (drop place marks)

pub rest_from : (source : Source) (others : Marks) (place : ℕ) → others ≡ source.marks → take (length others - place) (drop place others) ≡ from source place
rest_from source others place same = whole_taken others place ∙ ap (drop place) same

abbrev body_from : Drafted → Body
body_from draft = record { text = draft.text; pieces = draft.pieces }

pub all_gone : (source : Source) (changes : ChangesOf) (place : ℕ) (known : Before) (draft : Drafted) → length source.marks ≤ place
    → IsGone source changes place known draft → body_from draft ≡ body_of source changes
all_gone source changes place known draft within gone =
    let end : drop place source.marks ≡ [] = drop_of_length-le source.marks within in
    let is : draft ≡ whole source changes =
    sym (ap (λ (marks : Marks). drafted draft (chunks_from source changes gone.before marks)) end
    ∙ ap (drafted draft) (none_written source changes gone.before) ∙ nothing_drafted draft) ∙ gone.left in
    ap body_from is ∙ body_joined (chunks_from source changes [] source.marks)
