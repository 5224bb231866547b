-- What may be assigned to, of an LHS that was read: a Name, or a member.
use Rattle.std.proofs.Common.{◌≡◌, ℕ, Bool, true, false, List, [], ◌∷◌, Option, Some, None, refl, ap, sym, ◌∙◌, if◌then◌else◌, ◌&&◌, codes}
use Rattle.es_tree.specs.declared.tokens.Token.{Token}
use Rattle.es_tree.specs.declared.tokens.Goal.TheVariants.{Operand as AtOperand}
use Rattle.es_tree.specs.declared.cycle.Base.{Base}
use Rattle.es_tree.specs.declared.cycle.Base.TheVariants as base_v
use Rattle.es_tree.specs.declared.cycle.Primary.TheVariants as primary_v
use Rattle.es_grammar.specs.declared.places.Context.{Context}
use Rattle.es_grammar.specs.Expressions as grammar
use Rattle.es_grammar.specs.Reading.{Bytes}
use Rattle.es_outline.specs.declared.mark.Role.TheVariants as is
use Rattle.es_outline.specs.Outline.{Lays, Marks, base_marks, listed, suffix_marks, target_marks, told}
use Rattle.es_outline.proofs.Laws.{base-Primary, primary-Name, target-Member, target-Name}
use Rattle.es_outline.proofs.Rolled.{lhs_rolled}
use Rattle.es_reader.specs.Basics.{◌>>=◌, is_word, token}
use Rattle.es_reader.specs.declared.pieces.BareOf.TheVariants as bare_v
use Rattle.es_reader.specs.Expressions as reads
use Rattle.es_reader.specs.Expressions.{Parts, Suffix, begins_with_name, lhs, name_base, parts}
use Rattle.es_reader.specs.Loops as loops
use Rattle.es_reader.specs.Operators.{through}
use Rattle.es_reader.specs.Readers.{Readers}
use Rattle.es_reader.specs.Targets.{Bare, bare_of, bare_target, end_with_member}
use Rattle.es_trace.specs.Basics.{Traced, laid}
use Rattle.es_trace.specs.declared.pieces.Chain.{Chain}
use Rattle.es_trace.specs.Following.{chain_of, laid_parts, parts_marks}
use Rattle.es_trace.specs.Targets.{assigned, bare_behind, is_bare}
use Rattle.es_trace.proofs.Laying.{mark_at}

-- Parts that begin with a Name: their base is that Name

abbrev pub NameIs : Option Token → Base → Type 0
NameIs None base = Unit {0}
NameIs (Some u) base = base ≡ name_base u

abbrev pub AreNamed : Option (Parts × ℕ) → Type 0
AreNamed None = Unit {0}
AreNamed (Some x) = NameIs x.0.name x.0.base

bind_named : {A : Type 0} (o : Option A) (f : A → Option (Parts × ℕ)) → ((a : A) → AreNamed (f a)) → AreNamed (o >>= f)
bind_named None f each = tt
bind_named (Some a) f each = each a

if_named : (b : Bool) (x y : Option (Parts × ℕ)) → AreNamed x → AreNamed y → AreNamed (if b then x else y)
if_named true x y is other = is
if_named false x y is other = other

module _ (text : Bytes) (r : Readers) (c : Context) where
  behind_named : (x : Base) (n : Option Token) (p : ℕ) → NameIs n x → AreNamed (reads.parts_behind text r c x n p)
  unfolding reads.parts_behind
  behind_named x n p is = bind_named (loops.all_turns text (reads.suffixes_turn text r c) p) _ (λ xs.
      if_named (grammar.has_plain_templates xs.0) (Some (parts x n xs.0, xs.1)) None is tt)

  super_named : (u : Token) → AreNamed (reads.super_parts text r c u)
  unfolding reads.super_parts
  super_named u = bind_named (loops.all_turns text (reads.suffixes_turn text r c) u.end) _ (λ xs.
      if_named (reads.follow_super xs.0 && grammar.has_plain_templates xs.0) (Some (parts (base_v.Super u) None xs.0, xs.1)) None tt tt)

  import_named : (u : Token) → AreNamed (reads.import_parts text r c u)
  unfolding reads.import_parts
  import_named u = bind_named (reads.import_base text r c u) _ (λ x. behind_named x.0 None x.1 tt)

  other_named : (p : ℕ) (u : Token) → AreNamed (reads.other_parts text r c p u)
  unfolding reads.other_parts
  other_named p u = bind_named (reads.base_from text r c p u) _ (λ x. behind_named x.0 None x.1 tt)

  from_named : (p : ℕ) (u : Token) → AreNamed (reads.parts_from text r c p u)
  unfolding reads.parts_from
  from_named p u = if_named (begins_with_name text c u) _ _ (behind_named (name_base u) (Some u) u.end refl)
      (if_named (is_word text (codes "super") u) _ _ (super_named u)
      (if_named (is_word text (codes "import") u) _ _ (import_named u) (other_named p u)))

  pub parts_named : (p : ℕ) → AreNamed (reads.read_parts text r c p)
  unfolding reads.read_parts
  parts_named p = bind_named (token text AtOperand p) _ (λ u. from_named p u)

-- parts that were read, and then what follows them
pub parts_bind : {A B : Type 0} (before : Marks) (φ : Option A → Option B) → φ None ≡ None → (traced : Traced Chain) (read : Option (Parts × ℕ))
    (trace : Marks × Chain → Option B) (next : Parts × ℕ → Option A) → AreNamed read → traced ≡ laid_parts before read
    → ((x : Parts × ℕ) → NameIs x.0.name x.0.base → trace (parts_marks x.0 before, chain_of x.0 x.1) ≡ φ (next x)) → (traced >>= trace) ≡ φ (read >>= next)
parts_bind before φ none traced None trace next are is each = ap (λ o. o >>= trace) is ∙ sym none
parts_bind before φ none traced (Some x) trace next are is each = ap (λ o. o >>= trace) is ∙ each x are

-- the same with another way, where nothing was read
pub parts_through : {A B : Type 0} (before : Marks) (φ : Option A → Option B) (traced : Traced Chain) (read : Option (Parts × ℕ))
    (trace : Marks × Chain → Option B) (next : Parts × ℕ → Option A) (other : Option B) (second : Option A) → AreNamed read
    → traced ≡ laid_parts before read
    → ((x : Parts × ℕ) → NameIs x.0.name x.0.base → trace (parts_marks x.0 before, chain_of x.0 x.1) ≡ φ (next x)) → other ≡ φ second
    → through traced trace other ≡ φ (through read next second)
parts_through before φ traced None trace next other second are is each same = ap (λ o. through o trace other) is ∙ same
parts_through before φ traced (Some x) trace next other second are is each same = ap (λ o. through o trace other) is ∙ each x are

-- what may be assigned to is marked as the target that it is
abbrev pub bare_marks : Bare → Lays
bare_marks b = target_marks (bare_target b)

name_is : (u : Token) (marks : Marks) → base_marks (name_base u) marks ≡ told is.Reference u marks
name_is u marks = sym (mark_at (primary-Name u) marks ∙ mark_at (base-Primary (primary_v.Name u)) marks)

module _ {A B : Type 0} (φ : Option A → Option B) (marks : Marks) (trace : Marks → Option B) (next : Bare → Option A)
    (each : (b : Bare) → trace (bare_marks b marks) ≡ φ (next b)) where
  name_laid : (base : Base) (u : Token) → base ≡ name_base u → trace (assigned (base_marks base marks)) ≡ φ (next (bare_v.Name u))
  name_laid base u is = ap (λ b. trace (assigned (base_marks b marks))) is ∙ ap (λ m. trace (assigned m)) (name_is u marks)
      ∙ ap trace (mark_at (target-Name u) marks) ∙ each (bare_v.Name u)

  member_laid : (base : Base) (xs : List Suffix)
      → trace (assigned (listed suffix_marks xs (base_marks base marks))) ≡ φ (next (bare_v.Member (lhs base xs)))
  member_laid base xs = ap (λ m. trace (assigned m)) (mark_at (lhs_rolled (record { base = base; suffixes = xs })) marks)
      ∙ ap trace (mark_at (target-Member (lhs base xs)) marks) ∙ each (bare_v.Member (lhs base xs))

  member_or_other : (is_member : Bool) (base : Base) (xs : List Suffix) (other : Option B) (second : Option A) → other ≡ φ second
      → (if is_member then trace (assigned (listed suffix_marks xs (base_marks base marks))) else other)
      ≡ φ (through (if is_member then Some (bare_v.Member (lhs base xs)) else None) next second)
  member_or_other true base xs other second same = member_laid base xs
  member_or_other false base xs other second same = same

  by_suffixes : (base : Base) (n : Option Token) (xs : List Suffix) (p : ℕ) (other : Option B) (second : Option A) → NameIs n base → other ≡ φ second
      → (if is_bare (chain_of (parts base n xs) p) then trace (assigned (parts_marks (parts base n xs) marks)) else other)
      ≡ φ (through (bare_of (parts base n xs)) next second)
  unfolding bare_of
  by_suffixes base None [] p other second is same = same
  by_suffixes base (Some u) [] p other second is same = name_laid base u is
  by_suffixes base None (y ∷ ys) p other second is same = member_or_other (end_with_member (y ∷ ys)) base (y ∷ ys) other second same
  by_suffixes base (Some u) (y ∷ ys) p other second is same = member_or_other (end_with_member (y ∷ ys)) base (y ∷ ys) other second same

  -- it is assigned to, or the other way is gone
  pub bare_through : (x : Parts) (p : ℕ) (other : Option B) (second : Option A) → NameIs x.name x.base → other ≡ φ second
      → (if is_bare (chain_of x p) then trace (assigned (parts_marks x marks)) else other) ≡ φ (through (bare_of x) next second)
  bare_through x p other second is same = by_suffixes x.base x.name x.suffixes p other second is same

through_none : {A B : Type 0} (o : Option A) (f : A → Option B) → through o f None ≡ (o >>= f)
through_none None f = refl
through_none (Some a) f = refl

pub bare_behind_laid : (marks : Marks) (x : Parts) (p : ℕ) → NameIs x.name x.base
    → bare_behind (parts_marks x marks) (chain_of x p) ≡ laid bare_marks marks (bare_of x >>= λ b. Some (b, p))
unfolding bare_behind
bare_behind_laid marks x p is = bare_through (laid bare_marks marks) marks (λ m. Some (m, p)) (λ b. Some (b, p)) (λ b. refl) x p None None is refl
    ∙ ap (laid bare_marks marks) (through_none (bare_of x) (λ b. Some (b, p)))
