-- Tests of the marks around a name tell what is defined of them.
use Rattle.std.proofs.Common.{◌≡◌, ◌≢◌, ◌⊎◌, inl, inr, ℕ, zero, suc, ◌+◌, Bool, true, false, ◌&&◌, ◌||◌, not, cond, List, [], ◌∷◌, Option, Some, drop, slice_get, codes, refl, sym, ap, ◌∙◌, arith, add-one, true≢false}
use Rattle.std.specs.Str.{bytes_eq}
use Rattle.std.proofs.lemmas.Slice.Eq.{bytes_eq-Decides}
use Rattle.es_tree.specs.declared.tokens.Token.{Token}
use Rattle.es_outline.specs.declared.mark.Mark.{Mark}
use Rattle.es_outline.specs.declared.mark.Mark.TheVariants as mark
use Rattle.es_outline.specs.declared.mark.Role.TheVariants as is
use Rattle.es_outline.specs.declared.mark.Part.TheVariants as part
use Rattle.es_outline.specs.Outline.{Marks}
use Rattle.es_scope.specs.Source.{Source, HasRole, spelled_at}
use Rattle.es_scope.specs.Occurrences.{IsAssigned, UpdatedFrom, IsUpdated}
use Rattle.es_scope.specs.Around.{GoesOn, IsParenthesised, IsDeleted}
use Rattle.es_scope.specs.SiteRules.{IsMember}
use Rattle.es_sites.specs.Marks.{closes, opens, is_updated, is_assigned, is_iterated, is_prefix, is_dot, is_reference, initializes, begins_default, begins_value, goes_on, updated_by, updated_from, deletes, deleted, is_member, is_read}
use Rattle.es_sites.proofs.MarkLaws.{updated_step, updated_stop}
use Rattle.es_sites.proofs.InsideLaws.{both_true}

-- ---- single marks

closing : (found : Option Mark) → closes found ≡ true → (token : Token) × (found ≡ Some (mark.Token is.Closes token))
closing (Some (mark.Token is.Closes token)) e = (token, refl)
closing _ e = absurd (true≢false (sym e))

opening : (found : Option Mark) → opens found ≡ true → (token : Token) × (found ≡ Some (mark.Token is.Opens token))
opening (Some (mark.Token is.Opens token)) e = (token, refl)
opening _ e = absurd (true≢false (sym e))

prefixing : (found : Option Mark) → is_prefix found ≡ true → (token : Token) × (found ≡ Some (mark.Token is.Prefix token))
prefixing (Some (mark.Token is.Prefix token)) e = (token, refl)
prefixing _ e = absurd (true≢false (sym e))

dotting : (found : Option Mark) → is_dot found ≡ true → (token : Token) × (found ≡ Some (mark.Token is.Dot token))
dotting (Some (mark.Token is.Dot token)) e = (token, refl)
dotting _ e = absurd (true≢false (sym e))

pub referring : (found : Option Mark) → is_reference found ≡ true → (token : Token) × (found ≡ Some (mark.Token is.Reference token))
referring (Some (mark.Token is.Reference token)) e = (token, refl)
referring _ e = absurd (true≢false (sym e))

pub initializing : (found : Option Mark) → initializes found ≡ true → (token : Token) × (found ≡ Some (mark.Token is.Initializes token))
initializing (Some (mark.Token is.Initializes token)) e = (token, refl)
initializing _ e = absurd (true≢false (sym e))

pub assigned_mark : (found : Option Mark) → is_assigned found ≡ true → found ≡ Some mark.Assigned
assigned_mark (Some mark.Assigned) e = refl
assigned_mark _ e = absurd (true≢false (sym e))

pub iterated_mark : (found : Option Mark) → is_iterated found ≡ true → found ≡ Some mark.Iterated
iterated_mark (Some mark.Iterated) e = refl
iterated_mark _ e = absurd (true≢false (sym e))

updated_mark : (found : Option Mark) → is_updated found ≡ true → found ≡ Some mark.Updated
updated_mark (Some mark.Updated) e = refl
updated_mark _ e = absurd (true≢false (sym e))

pub default_mark : (found : Option Mark) → begins_default found ≡ true → found ≡ Some (mark.Begin part.ExportDefault)
default_mark (Some (mark.Begin part.ExportDefault)) e = refl
default_mark _ e = absurd (true≢false (sym e))

pub value_mark : (found : Option Mark) → begins_value found ≡ true → found ≡ Some (mark.Begin part.ExportedValue)
value_mark (Some (mark.Begin part.ExportedValue)) e = refl
value_mark _ e = absurd (true≢false (sym e))

going_on : (source : Source) (place : ℕ) (found : Option Mark) → slice_get source.marks place ≡ found → goes_on found ≡ true → GoesOn source place
going_on source place (Some (mark.Token is.Dot token)) at e = GoesOn.dot (token, at)
going_on source place (Some (mark.Token is.Suffixes token)) at e = GoesOn.suffix (token, at)
going_on source place (Some mark.Call) at e = GoesOn.call at
going_on source place (Some mark.Tag) at e = GoesOn.tag at
going_on source place _ at e = absurd (true≢false (sym e))

does_go_on : (source : Source) (place : ℕ) → GoesOn source place → goes_on (slice_get source.marks place) ≡ true
does_go_on source place (GoesOn.dot t) = ap goes_on t.1
does_go_on source place (GoesOn.suffix t) = ap goes_on t.1
does_go_on source place (GoesOn.call t) = ap goes_on t
does_go_on source place (GoesOn.tag t) = ap goes_on t

-- ---- Booleans

pub not_true : (b : Bool) → b ≢ true → b ≡ false
not_true true h = absurd (h refl)
not_true false h = refl

not_of : (b : Bool) → not b ≡ true → b ≡ false
not_of true e = absurd (true≢false (sym e))
not_of false e = refl

pub either : (a b : Bool) → (a || b) ≡ true → (a ≡ true) ⊎ (b ≡ true)
either true b e = inl refl
either false b e = inr e

pub or_left : (a b : Bool) → a ≡ true → (a || b) ≡ true
or_left a b e = ap (λ c. c || b) e

pub or_right : (a b : Bool) → b ≡ true → (a || b) ≡ true
or_right true b e = refl
or_right false b e = e

pub and_true : (a b : Bool) → a ≡ true → b ≡ true → (a && b) ≡ true
and_true a b e f = ap (λ c. c && b) e ∙ f

-- ---- updated

head_of : (marks : Marks) (place : ℕ) (one_mark : Mark) (rest : Marks) → drop place marks ≡ one_mark ∷ rest
    → (slice_get marks place ≡ Some one_mark) × (drop (place + 1) marks ≡ rest)
head_of [] zero one_mark rest e = absurd (cc)
head_of [] (suc place) one_mark rest e = absurd (cc)
head_of (first ∷ marks) zero one_mark rest e = let same : first ≡ one_mark = cc in let more : marks ≡ rest = cc in (ap Some same, more)
head_of (first ∷ marks) (suc place) one_mark rest e =
    let further = head_of marks place one_mark rest e in
    (further.0, ap (λ k. drop k (first ∷ marks)) (add-one (suc place)) ∙ sym (ap (λ k. drop k marks) (add-one place)) ∙ further.1)

updated_list : (source : Source) (rest : Marks) (place : ℕ) → drop place source.marks ≡ rest → updated_by rest ≡ true → UpdatedFrom source place
unfolding updated_by
updated_list source [] place e h = absurd (true≢false (sym h))
updated_list source (one_mark ∷ rest) place e h = by (λ further g. updated_list source rest (place + 1) further g) (closes (Some one_mark)) refl h
  where
    at : (slice_get source.marks place ≡ Some one_mark) × (drop (place + 1) source.marks ≡ rest)
    at = head_of source.marks place one_mark rest e

    by : (drop (place + 1) source.marks ≡ rest → updated_by rest ≡ true → UpdatedFrom source (place + 1)) → (b : Bool) → closes (Some one_mark) ≡ b
        → cond b (updated_by rest) (is_updated (Some one_mark)) ≡ true → UpdatedFrom source place
    by more true c g =
        let token = closing (Some one_mark) c in
        UpdatedFrom.further place (token.0, at.0 ∙ token.1) (more at.1 g)
    by more false c g = UpdatedFrom.here place (at.0 ∙ updated_mark (Some one_mark) g)

updated_is : (source : Source) (place : ℕ) → UpdatedFrom source place → updated_from source place ≡ true
updated_is source _ (UpdatedFrom.here place at) = updated_stop source.marks place (ap closes at) ∙ ap is_updated at
updated_is source _ (UpdatedFrom.further place t more) = sym (updated_step source.marks place (ap closes t.1)) ∙ updated_is source (place + 1) more

pub read_is : (source : Source) (place : ℕ) → IsUpdated source place ⊎ ¬ IsAssigned source place → is_read source place ≡ true
read_is source place (inl u) = or_right (not (is_assigned (slice_get source.marks (place + 1)))) (updated_from source (place + 2)) (updated_is source (place + 2) u.updated)
read_is source place (inr n) =
    or_left (not (is_assigned (slice_get source.marks (place + 1)))) (updated_from source (place + 2))
    (ap not (not_true (is_assigned (slice_get source.marks (place + 1))) (λ e. n (assigned_mark (slice_get source.marks (place + 1)) e))))

pub is_so_read : (source : Source) (place : ℕ) → is_read source place ≡ true → IsUpdated source place ⊎ ¬ IsAssigned source place
is_so_read source place e = by (is_assigned (slice_get source.marks (place + 1))) refl e
  where
    by : (b : Bool) → is_assigned (slice_get source.marks (place + 1)) ≡ b → (not b || updated_from source (place + 2)) ≡ true → IsUpdated source place ⊎ ¬ IsAssigned source place
    by true a h = inl (record {
      assigned = assigned_mark (slice_get source.marks (place + 1)) a;
      updated = updated_list source (drop (place + 2) source.marks) (place + 2) refl h;
    })
    by false a h = inr (λ at. true≢false (sym (ap is_assigned at) ∙ a))

-- ---- deleted

spells : (source : Source) (place : ℕ) (word : List ℕ) → bytes_eq (spelled_at source place) word ≡ true → spelled_at source place ≡ word
spells source place word e = (bytes_eq-Decides (spelled_at source place) word).0 e

deleted_out : (source : Source) (first last outer end : ℕ) → IsParenthesised source first last outer end → deleted source outer end ≡ true → IsDeleted source first last
unfolding deleted
deleted_out source first last zero end p h = absurd (true≢false (sym h))
deleted_out source first last (suc before) end p h =
    by (λ q g. deleted_out source first last before (end + 1) q g) (opens (slice_get source.marks before) && closes (slice_get source.marks (end + 1))) refl h
  where
    by : (IsParenthesised source first last before (end + 1) → deleted source before (end + 1) ≡ true → IsDeleted source first last) → (b : Bool) → (opens (slice_get source.marks before) && closes (slice_get source.marks (end + 1))) ≡ b
        → cond b (deleted source before (end + 1)) (deletes source before && not (goes_on (slice_get source.marks (end + 1)))) ≡ true → IsDeleted source first last
    by more true e g =
        let parts = both_true (opens (slice_get source.marks before)) (closes (slice_get source.marks (end + 1))) e in
        more (IsParenthesised.more before (suc before) end (add-one before) p (opening (slice_get source.marks before) parts.0) (closing (slice_get source.marks (end + 1)) parts.1)) g
    by more false e g =
        let parts = both_true (deletes source before) (not (goes_on (slice_get source.marks (end + 1)))) g in
        let word = both_true (is_prefix (slice_get source.marks before)) (bytes_eq (spelled_at source before) (codes "delete")) parts.0 in
        record {
          outer = suc before;
          end = end;
          parentheses = p;
          prefix = record {
            before = before;
            next = add-one before;
            prefix = prefixing (slice_get source.marks before) word.0;
            spells = spells source before (codes "delete") word.1;
          };
          whole = λ on. true≢false (sym (does_go_on source (end + 1) on) ∙ not_of (goes_on (slice_get source.marks (end + 1))) parts.1);
        }

step_out : (source : Source) (before end : ℕ) → HasRole source before is.Opens → HasRole source (end + 1) is.Closes → deleted source before (end + 1) ≡ deleted source (suc before) end
unfolding deleted
step_out source before end o c =
    sym (ap (λ b. cond b (deleted source before (end + 1)) (deletes source before && not (goes_on (slice_get source.marks (end + 1)))))
    (and_true (opens (slice_get source.marks before)) (closes (slice_get source.marks (end + 1))) (ap opens o.1) (ap closes c.1)))

all_out : (source : Source) (first last outer end : ℕ) → IsParenthesised source first last outer end → deleted source outer end ≡ deleted source first last
all_out source first last _ _ IsParenthesised.bare = refl
all_out source first last _ _ (IsParenthesised.more before outer end next p o c) =
    step_out source before end o c ∙ ap (λ k. deleted source k end) (sym (add-one before) ∙ next) ∙ all_out source first last outer end p

stop_out : (source : Source) (before end : ℕ) → HasRole source before is.Prefix → spelled_at source before ≡ codes "delete" → ¬ GoesOn source (end + 1)
    → deleted source (suc before) end ≡ true
unfolding deleted
stop_out source before end t word whole =
    ap (λ (m : Option Mark). cond (opens m && closes (slice_get source.marks (end + 1))) (deleted source before (end + 1)) (deletes source before && not (goes_on (slice_get source.marks (end + 1))))) t.1
    ∙ and_true (deletes source before) (not (goes_on (slice_get source.marks (end + 1))))
    (and_true (is_prefix (slice_get source.marks before)) (bytes_eq (spelled_at source before) (codes "delete")) (ap is_prefix t.1)
    ((bytes_eq-Decides (spelled_at source before) (codes "delete")).1 word))
    (ap not (not_true (goes_on (slice_get source.marks (end + 1))) (λ e. whole (going_on source (end + 1) (slice_get source.marks (end + 1)) refl e))))

deleted_is : (source : Source) (first last : ℕ) → IsDeleted source first last → deleted source first last ≡ true
deleted_is source first last d =
    sym (all_out source first last d.outer d.end d.parentheses)
    ∙ ap (λ k. deleted source k d.end) (sym d.prefix.next ∙ add-one d.prefix.before)
    ∙ stop_out source d.prefix.before d.end d.prefix.prefix d.prefix.spells d.whole

-- ---- members

three : (place : ℕ) → place + 2 + 1 ≡ place + 3
three place = omega arith

pub member_is : (source : Source) (place : ℕ) → IsMember source place → is_member source place ≡ true
member_is source place m =
    and_true (is_dot (slice_get source.marks (place + 1))) (not (is_assigned (slice_get source.marks (place + 3))) && not (deleted source place (place + 2))) (ap is_dot m.dot.1)
    (and_true (not (is_assigned (slice_get source.marks (place + 3)))) (not (deleted source place (place + 2)))
    (ap not (not_true (is_assigned (slice_get source.marks (place + 3)))
    (λ e. m.kept (ap (slice_get source.marks) (three place) ∙ assigned_mark (slice_get source.marks (place + 3)) e))))
    (ap not (not_true (deleted source place (place + 2)) (λ e. m.left (deleted_out source place (place + 2) place (place + 2) IsParenthesised.bare e)))))

pub is_so_member : (source : Source) (place : ℕ) → HasRole source place is.Reference → is_member source place ≡ true → IsMember source place
is_so_member source place t e =
    let parts = both_true (is_dot (slice_get source.marks (place + 1))) (not (is_assigned (slice_get source.marks (place + 3))) && not (deleted source place (place + 2))) e in
    let more = both_true (not (is_assigned (slice_get source.marks (place + 3)))) (not (deleted source place (place + 2))) parts.1 in
    record {
      refers = t;
      dot = dotting (slice_get source.marks (place + 1)) parts.0;
      kept = λ at. true≢false (sym (ap is_assigned (sym (ap (slice_get source.marks) (three place)) ∙ at)) ∙ not_of (is_assigned (slice_get source.marks (place + 3))) more.0);
      left = λ d. true≢false (sym (deleted_is source place (place + 2) d) ∙ not_of (deleted source place (place + 2)) more.1);
    }
