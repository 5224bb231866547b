-- What is known of suffixes that were found.
use Rattle.std.proofs.Common.{◌≡◌, ℕ, Bool, true, false, not, ◌&&◌, ◌||◌, List, [], ◌∷◌, ◌++◌, Option, Some, None, refl, ap, ◌∙◌, if◌then◌else◌}
use Rattle.std.specs.List.{list_any}
use Rattle.es_tree.specs.declared.parts.SuffixOf.TheVariants as suffix_v
use Rattle.es_grammar.specs.Expressions as grammar
use Rattle.es_grammar.specs.Targets as grammar_targets
use Rattle.es_outline.specs.Outline.{Marks, listed, suffix_marks}
use Rattle.es_reader.specs.Basics.{◌>>=◌}
use Rattle.es_reader.specs.declared.pieces.TurnOf.TheVariants as turn_of
use Rattle.es_reader.specs.Expressions as reads
use Rattle.es_reader.specs.Expressions.{Suffix}
use Rattle.es_reader.specs.Targets.{end_with_member}
use Rattle.es_trace.specs.Basics.{Traced}
use Rattle.es_trace.specs.declared.pieces.Turn.TheVariants as turn_v
use Rattle.es_trace.specs.declared.pieces_expressions.Suffixes.{Suffixes}
use Rattle.es_trace.specs.declared.pieces_expressions.SuffixKind.{SuffixKind}
use Rattle.es_trace.specs.declared.pieces_expressions.SuffixKind.TheVariants as suffix
use Rattle.es_trace.specs.Expressions.{Suffixing, follows_super, is_optional, is_template, names_member, suffixed, suffixes_behind}
use Rattle.es_trace.specs.Following.{has_no_suffix}
use Rattle.es_trace.proofs.Laying.{laid_turn}

abbrev pub kind_of : Suffix → SuffixKind
kind_of (suffix_v.Dot mark name) = suffix.Dot
kind_of (suffix_v.Private mark name) = suffix.Private
kind_of (suffix_v.Index left x right) = suffix.Index
kind_of (suffix_v.Args x) = suffix.Args
kind_of (suffix_v.Template x) = suffix.Template
kind_of (suffix_v.OptionalDot mark name) = suffix.Optional
kind_of (suffix_v.OptionalPrivate mark name) = suffix.Optional
kind_of (suffix_v.OptionalIndex mark left x right) = suffix.Optional
kind_of (suffix_v.OptionalArgs mark x) = suffix.Optional

-- a suffix that was read, as it is traced
abbrev pub laid_suffix : Marks → Option (Suffix × ℕ) → Suffixing
laid_suffix marks None = None
laid_suffix marks (Some x) = Some (suffix_marks x.0 marks, suffixed (kind_of x.0) x.1)

-- what stands behind `?.`, as a suffix
abbrev pub as_optional : Traced ℕ → Suffixing
as_optional traced = traced >>= λ x. Some (x.0, suffixed suffix.Optional x.1)

-- what is known of suffixes, the last of which ends there
abbrev pub suffixes_of : List Suffix → ℕ → Suffixes
suffixes_of xs p = record {
  at = p;
  is_empty = has_no_suffix xs;
  follow_super = reads.follow_super xs;
  has_optional = list_any grammar.is_optional xs;
  has_plain_templates = grammar.has_plain_templates xs;
  end_with_member = end_with_member xs;
}

-- the kind tells all that is asked of a suffix
record Told (x : Suffix) : Type 0 where
  optional : is_optional (kind_of x) ≡ grammar.is_optional x
  template : is_template (kind_of x) ≡ grammar.is_template x
  member : names_member (kind_of x) ≡ grammar_targets.names_member x
  super : follows_super (kind_of x) ≡ grammar.follows_super x

told_by_kind : (x : Suffix) → Told x
told_by_kind (suffix_v.Dot mark name) = record { optional = refl; template = refl; member = refl; super = refl }
told_by_kind (suffix_v.Private mark name) = record { optional = refl; template = refl; member = refl; super = refl }
told_by_kind (suffix_v.Index left x right) = record { optional = refl; template = refl; member = refl; super = refl }
told_by_kind (suffix_v.Args x) = record { optional = refl; template = refl; member = refl; super = refl }
told_by_kind (suffix_v.Template x) = record { optional = refl; template = refl; member = refl; super = refl }
told_by_kind (suffix_v.OptionalDot mark name) = record { optional = refl; template = refl; member = refl; super = refl }
told_by_kind (suffix_v.OptionalPrivate mark name) = record { optional = refl; template = refl; member = refl; super = refl }
told_by_kind (suffix_v.OptionalIndex mark left x right) = record { optional = refl; template = refl; member = refl; super = refl }
told_by_kind (suffix_v.OptionalArgs mark x) = record { optional = refl; template = refl; member = refl; super = refl }

or_over : (a b c : Bool) {d : Bool} → (b || c) ≡ d → ((a || b) || c) ≡ (a || d)
or_over true b c is = refl
or_over false b c is = is

or_none : (a : Bool) → a ≡ (a || false)
or_none true = refl
or_none false = refl

none_pushed : (xs : List Suffix) (x : Suffix) → false ≡ has_no_suffix (xs ++ x ∷ [])
none_pushed [] x = refl
none_pushed (y ∷ ys) x = refl

super_pushed : (xs : List Suffix) (x : Suffix)
    → (if has_no_suffix xs then follows_super (kind_of x) else reads.follow_super xs) ≡ reads.follow_super (xs ++ x ∷ [])
super_pushed [] x = (told_by_kind x).super
super_pushed (y ∷ ys) x = refl

-- whether one of them is so, of which the kind tells
any_pushed : (test : Suffix → Bool) (xs : List Suffix) (x : Suffix) {b : Bool} → b ≡ test x → (list_any test xs || b) ≡ list_any test (xs ++ x ∷ [])
any_pushed test [] x is = is ∙ or_none (test x)
any_pushed test (y ∷ ys) x {b} is = or_over (test y) (list_any test ys) b (any_pushed test ys x is)

not_or : (a b : Bool) {c : Bool} → (a || b) ≡ c → (not a && not b) ≡ not c
not_or true b is = ap not is
not_or false b is = ap not is

plain_if : (b : Bool) → true ≡ (if b then true else true)
plain_if true = refl
plain_if false = refl

plain_step : (first any plain some x : Bool) {more rest : Bool} → (any || x) ≡ more → (plain && not (some && x)) ≡ rest
    → ((if first then not any else plain) && not ((first || some) && x)) ≡ (if first then not more else rest)
plain_step true any plain some x is same = not_or any x is
plain_step false any plain some x is same = same

plain_pushed : (xs : List Suffix) (x : Suffix)
    → (grammar.has_plain_templates xs && not (list_any grammar.is_optional xs && is_template (kind_of x)))
    ≡ grammar.has_plain_templates (xs ++ x ∷ [])
plain_pushed [] x = plain_if (grammar.is_optional x)
plain_pushed (y ∷ ys) x = plain_step (grammar.is_optional y) (list_any grammar.is_template ys) (grammar.has_plain_templates ys)
    (list_any grammar.is_optional ys) (is_template (kind_of x)) (any_pushed grammar.is_template ys x (told_by_kind x).template) (plain_pushed ys x)

member_step : (first some x : Bool) {rest : Bool} → (not some && x) ≡ rest → (not (first || some) && x) ≡ (not first && rest)
member_step true some x is = refl
member_step false some x is = is

member_pushed : (xs : List Suffix) (x : Suffix)
    → (not (list_any grammar.is_optional xs) && names_member (kind_of x)) ≡ end_with_member (xs ++ x ∷ [])
member_pushed [] x = (told_by_kind x).member
member_pushed (y ∷ []) x = member_step (grammar.is_optional y) false (names_member (kind_of x)) (told_by_kind x).member
member_pushed (y ∷ z ∷ zs) x = member_step (grammar.is_optional y) (list_any grammar.is_optional (z ∷ zs)) (names_member (kind_of x))
    (member_pushed (z ∷ zs) x)

abbrev known : ℕ → Bool → Bool → Bool → Bool → Bool → Suffixes
known p is_empty super optional plain member = record {
  at = p;
  is_empty = is_empty;
  follow_super = super;
  has_optional = optional;
  has_plain_templates = plain;
  end_with_member = member;
}

all_known : (p : ℕ) {a b c d e a' b' c' d' e' : Bool} → a ≡ a' → b ≡ b' → c ≡ c' → d ≡ d' → e ≡ e' → known p a b c d e ≡ known p a' b' c' d' e'
all_known p is_empty super optional plain member = λ i. known p (is_empty i) (super i) (optional i) (plain i) (member i)

-- one more suffix
pub suffix_pushed : (xs : List Suffix) (x : Suffix) (p q : ℕ)
    → suffixes_behind (suffixes_of xs p) (suffixed (kind_of x) q) ≡ suffixes_of (xs ++ x ∷ []) q
suffix_pushed xs x p q = all_known q (none_pushed xs x) (super_pushed xs x) (any_pushed grammar.is_optional xs x (told_by_kind x).optional)
    (plain_pushed xs x) (member_pushed xs x)

-- the turn that such a suffix makes
pub next_laid : (marks : Marks) (found : List Suffix) (p : ℕ) (traced : Suffixing) (read : Option (Suffix × ℕ))
    → traced ≡ laid_suffix (listed suffix_marks found marks) read
    → (traced >>= λ x. Some (x.0, turn_v.More (suffixes_behind (suffixes_of found p) x.1)))
    ≡ laid_turn suffix_marks suffixes_of found marks (read >>= λ x. Some (turn_of.More x.0 x.1))
next_laid marks found p traced None is = ap (λ m. m >>= λ x. Some (x.0, turn_v.More (suffixes_behind (suffixes_of found p) x.1))) is
next_laid marks found p traced (Some x) is = ap (λ m. m >>= λ y. Some (y.0, turn_v.More (suffixes_behind (suffixes_of found p) y.1))) is
    ∙ ap (λ s. Some (suffix_marks x.0 (listed suffix_marks found marks), turn_v.More s)) (suffix_pushed found x.0 p x.1)
