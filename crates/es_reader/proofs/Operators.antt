-- Operators, conditions and assignments that are read stand in the text by the grammar.
use Rattle.std.proofs.Common.{◌≡◌, ℕ, true, ◌&&◌, ◌||◌, List, ◌∷◌, Option, Some, None, refl, sym, subst, ◌∙◌}
use Rattle.std.specs.Prelude.{codes}
use Rattle.es_tree.specs.declared.tokens.Token.{Token}
use Rattle.es_tree.specs.declared.tokens.TokenKind.{TokenKind}
use Rattle.es_tree.specs.declared.tokens.TokenKind.TheVariants as kind
use Rattle.es_tree.specs.declared.tokens.Goal.TheVariants.{Operand as AtOperand, Operator as AtOperator}
use Rattle.es_tree.specs.declared.parts.BinaryOf.{BinaryOf}
use Rattle.es_tree.specs.declared.parts.Joined.{Joined}
use Rattle.es_tree.specs.declared.cycle.Cond.{Cond, roll-Cond}
use Rattle.es_tree.specs.declared.cycle.Operand.{Operand}
use Rattle.es_tree.specs.declared.cycle.Operand.TheVariants as operand_v
use Rattle.es_tree.specs.declared.cycle.Target.{Target}
use Rattle.es_grammar.specs.declared.places.Context.{Context}
use Rattle.es_grammar.specs.declared.places.Stop.{Stop}
use Rattle.es_grammar.specs.Contexts.{bracketed}
use Rattle.es_grammar.specs.Reading.{Bytes, MarkAt}
use Rattle.es_grammar.specs.Semicolons.{stop, expression, postfix, binary_marks}
use Rattle.es_grammar.specs.Rules.{Rules}
use Rattle.es_grammar.specs.Targets.{SimpleTargetAt}
use Rattle.es_grammar.specs.Operators.{AllFit, BinaryAt, CondAt, FitsBetween, JoinedAt, ListedAt, OperandAt, OperatorAt, PrefixedAt, next_operator, prefix_marks, prefix_words}
use Rattle.es_reader.specs.Basics.{token, is_mark, is_one_mark, is_one_word, is_word, mark}
use Rattle.es_reader.specs.declared.pieces.TurnOf.{TurnOf}
use Rattle.es_reader.specs.declared.pieces.TurnOf.TheVariants.{Ended as ended}
use Rattle.es_reader.specs.Loops.{all_turns}
use Rattle.es_reader.specs.Readers.{Readers}
use Rattle.es_reader.specs.declared.pieces.Shape.{Shape}
use Rattle.es_reader.specs.Shapes.{begins_prefixed, is_await, is_private_kind, is_sign, is_update, shape_of}
use Rattle.es_reader.specs.Expressions.{Parts, lhs_of, read_parts}
use Rattle.es_reader.specs.Targets.{bare_of, bare_target, read_paren_target, read_simple_target}
use Rattle.es_reader.specs.declared.pieces.Operands.{Operands}
use Rattle.es_reader.specs.Operators.{arms_behind, await_operand, binary_behind, cond_behind, cond_by, cond_from, fits, is_operator, is_postfix, joined, joined_behind, joined_by, joined_ended, joined_turn, listed_from, mixes, next_joined, operand_behind, operand_from, operands, other_postfix, paren_postfix, plain_operand, postfix_behind, postfix_of, prefix_operand, prefixed_from, read_cond, read_operand, read_prefixed, through, update_operand}
use Rattle.es_reader.specs.Soundness.{AreSound, HasShape, SoundEnded}
use Rattle.es_reader.proofs.Steps.{bind_some, both, chosen, when, else, first, given, is_false, kind_there, mark_there, marked, one_marked, one_of, one_worded, second, some_is, worded}
use Rattle.es_reader.proofs.Lists.{Joins, turns_sound}
use Rattle.es_reader.proofs.Primaries.{PartsAt, parts_lhs, parts_sound}
use Rattle.es_reader.proofs.Targets.{bare_of_sound, bare_target_is, paren_target_sound, simple_target_sound}
use Rattle.es_reader.proofs.Shapes.{await_shape, await_shape_of, fits_sound, lhs_shape, postfix_shape, prefix_shape, private_shape, private_shape_of, sign_shape, update_shape}

-- which way it went on
pub data Went {A B : Type 0} (o : Option A) (f : A → Option B) (y : Option B) (z : B) : Type 0 where
  on : (x : A) → o ≡ Some x → f x ≡ Some z → Went o f y z
  otherwise : y ≡ Some z → Went o f y z

pub went : {A B : Type 0} (o : Option A) (f : A → Option B) (y : Option B) (z : B) → through o f y ≡ Some z → Went o f y z
went (Some x) f y z e = Went.on x refl e
went None f y z e = Went.otherwise e

-- Operands

-- an operand without prefix, which has any shape
abbrev pub PlainAt : Bytes → Rules → Context → ℕ → Operand → Stop → Type 0
PlainAt text g c p x s = OperandAt text g c p x s × ((shape : Shape) → HasShape shape x)

pub postfix_at : (text : Bytes) (g : Rules) (c : Context) (p : ℕ) (x : Target) (q : ℕ) → SimpleTargetAt text g c p x q → (u : Token)
    → token text AtOperator q ≡ Some u → is_postfix text u ≡ true → PlainAt text g c p (operand_v.Postfix x u) (stop u.end postfix)
unfolding is_update
postfix_at text g c p x q h u at e =
    let b = both _ _ e in (OperandAt.postfix_of x u h (one_marked at b.0) (is_false _ b.1), postfix_shape x u)

postfix_behind_sound : (text : Bytes) (g : Rules) (c : Context) (p : ℕ) (x : Target) (q : ℕ) → SimpleTargetAt text g c p x q → (y : Operand × Stop)
    → postfix_behind text x q ≡ Some y → PlainAt text g c p y.0 y.1
unfolding postfix_behind
postfix_behind_sound text g c p x q h y e =
    let u = bind_some (token text AtOperator q) _ _ e in
    elim (chosen (is_postfix text u.0) (postfix_of x u.0) None _ u.2) [
      | when i f ↦ given (PlainAt text g c p) _ _ y f (postfix_at text g c p x q h u.0 u.1 i)
      | else i f ↦ absurd cc
    ]

other_postfix_sound : {text : Bytes} {g : Rules} {r : Readers} (s : AreSound text g r) (c : Context) (p : ℕ) (t : Token) → token text AtOperand p ≡ Some t
    → (y : Operand × Stop) → other_postfix text r c t ≡ Some y → PlainAt text g c p y.0 y.1
unfolding other_postfix paren_postfix
other_postfix_sound {text} {g} {r} s c p t at y e =
    elim (chosen (is_mark text (codes "(") t) (paren_postfix text r c t) None _ e) [
      | when h f ↦ let x = bind_some (read_paren_target text r c t) _ _ f in
          postfix_behind_sound text g c p _ _ (paren_target_sound s c p t (marked at h) _ x.1) y x.2
      | else h f ↦ absurd cc
    ]

pub operand_behind_sound : {text : Bytes} {g : Rules} {r : Readers} (s : AreSound text g r) (c : Context) (p : ℕ) (t : Token) → token text AtOperand p ≡ Some t
    → (x : Parts) (q : ℕ) → PartsAt text g c p x q → (y : Operand × Stop) → operand_behind text r c t x q ≡ Some y → PlainAt text g c p y.0 y.1
unfolding operand_behind
operand_behind_sound {text} {g} {r} s c p t at x q h y e =
    let u = bind_some (token text AtOperator q) _ _ e in
    elim (chosen (is_postfix text u.0) (through (bare_of x) (λ b. postfix_of (bare_target b) u.0) (other_postfix text r c t))
    (Some (operand_v.LHS (lhs_of x), stop q expression)) _ u.2) [
      | when i f ↦ elim (went (bare_of x) (λ b. postfix_of (bare_target b) u.0) (other_postfix text r c t) y f) [
        | Went.on b k l ↦ given (PlainAt text g c p) _ _ y l
            (postfix_at text g c p _ q (bare_target_is text g c p b q (bare_of_sound text g c p x q h b k)) u.0 u.1 i)
        | Went.otherwise k ↦ other_postfix_sound s c p t at y k
      ]
      | else i f ↦ given (PlainAt text g c p) _ _ y f (OperandAt.lhs (lhs_of x) (parts_lhs text g c p x q h), lhs_shape (lhs_of x))
    ]

plain_operand_sound : {text : Bytes} {g : Rules} {r : Readers} (s : AreSound text g r) (c : Context) (p : ℕ) (t : Token) → token text AtOperand p ≡ Some t
    → (y : Operand × Stop) → plain_operand text r c p t ≡ Some y → PlainAt text g c p y.0 y.1
unfolding plain_operand
plain_operand_sound {text} {g} {r} s c p t at y e =
    elim (went (read_parts text r c p) (λ x. operand_behind text r c t x.0 x.1) (other_postfix text r c t) y e) [
      | Went.on x k l ↦ operand_behind_sound s c p t at x.0 x.1 (parts_sound s c p x k) y l
      | Went.otherwise k ↦ other_postfix_sound s c p t at y k
    ]

-- an operand of the shape that its first token tells
abbrev ShapedAt : Bytes → Rules → Context → Token → ℕ → Operand → Stop → Type 0
ShapedAt text g c t p x s = OperandAt text g c p x s × HasShape (shape_of text c t) x

operand_from_sound : {text : Bytes} {g : Rules} {r : Readers} (s : AreSound text g r) (c : Context) (p : ℕ) (t : Token) → token text AtOperand p ≡ Some t
    → (y : Operand × Stop) → operand_from text r c p t ≡ Some y → ShapedAt text g c t p y.0 y.1
unfolding operand_from
operand_from_sound {text} {g} {r} s c p t at y e =
    elim (chosen (begins_prefixed text c t) (r.prefixed c p) (plain_operand text r c p t) _ e) [
      | when h f ↦ (OperandAt.prefixed y.0 (s.prefixed c p y f), s.shaped c p t y at f)
      | else h f ↦ let k = plain_operand_sound s c p t at y f in (k.0, k.1 (shape_of text c t))
    ]

pub operand_sound : {text : Bytes} {g : Rules} {r : Readers} (s : AreSound text g r) (c : Context) → SoundEnded (OperandAt text g c) (read_operand text r c)
unfolding read_operand
operand_sound {text} {g} {r} s c p y e =
    let t = bind_some (token text AtOperand p) _ _ e in (operand_from_sound s c p t.0 t.1 y t.2).0

-- with a prefix, and of the shape that its first token tells
abbrev PrefixedAs : Bytes → Rules → Context → Token → ℕ → Operand → Stop → Type 0
PrefixedAs text g c t p x s = PrefixedAt text g c p x s × HasShape (shape_of text c t) x

sign_sound : {text : Bytes} {g : Rules} {r : Readers} (s : AreSound text g r) (c : Context) (p : ℕ) (t : Token) → token text AtOperand p ≡ Some t
    → is_sign text t ≡ true → (y : Operand × Stop) → prefix_operand text r c t ≡ Some y → PrefixedAs text g c t p y.0 y.1
unfolding prefix_operand is_sign
sign_sound {text} {g} {r} s c p t at h y e =
    let x = bind_some (read_operand text r c t.end) _ _ e in
    let o = operand_sound s c t.end _ x.1 in
    let shaped = subst (λ z. HasShape z (operand_v.Prefix t x.0.0)) (sym (sign_shape text c t h)) (prefix_shape t x.0.0) in
    elim (one_of (is_one_word text prefix_words t) (is_one_mark text prefix_marks t) h) [
      | first i ↦ given (PrefixedAs text g c t p) _ _ y x.2 (PrefixedAt.word t x.0.0 (one_worded at i) o, shaped)
      | second i ↦ given (PrefixedAs text g c t p) _ _ y x.2 (PrefixedAt.mark t x.0.0 (one_marked at i) o, shaped)
    ]

await_sound : {text : Bytes} {g : Rules} {r : Readers} (s : AreSound text g r) (c : Context) (p : ℕ) (t : Token) → token text AtOperand p ≡ Some t
    → is_await text c t ≡ true → (y : Operand × Stop) → await_operand text r c t ≡ Some y → PrefixedAs text g c t p y.0 y.1
unfolding await_operand is_await
await_sound {text} {g} {r} s c p t at h y e =
    let x = bind_some (read_operand text r c t.end) _ _ e in
    let b = both _ _ h in
    given (PrefixedAs text g c t p) _ _ y x.2 (
      PrefixedAt.await t x.0.0 b.0 (worded at b.1) (operand_sound s c t.end _ x.1),
      subst (λ z. HasShape z (operand_v.Await t x.0.0)) (sym (await_shape_of text c t h)) (await_shape t x.0.0),
    )

update_sound : {text : Bytes} {g : Rules} {r : Readers} (s : AreSound text g r) (c : Context) (p : ℕ) (t : Token) → token text AtOperand p ≡ Some t
    → is_update text t ≡ true → (y : Operand × Stop) → update_operand text r c t ≡ Some y → PrefixedAs text g c t p y.0 y.1
unfolding update_operand is_update
update_sound {text} {g} {r} s c p t at h y e =
    let x = bind_some (read_simple_target text r c t.end) _ _ e in
    given (PrefixedAs text g c t p) _ _ y x.2
    (PrefixedAt.update t x.0.0 (one_marked at h) (simple_target_sound s c t.end _ x.1), update_shape x.0.0 t (shape_of text c t))

prefixed_from_sound : {text : Bytes} {g : Rules} {r : Readers} (s : AreSound text g r) (c : Context) (p : ℕ) (t : Token) → token text AtOperand p ≡ Some t
    → (y : Operand × Stop) → prefixed_from text r c t ≡ Some y → PrefixedAs text g c t p y.0 y.1
unfolding prefixed_from
prefixed_from_sound {text} {g} {r} s c p t at y e =
    elim (chosen (is_sign text t) (prefix_operand text r c t) _ _ e) [
      | when h f ↦ sign_sound s c p t at h y f
      | else h f ↦ elim (chosen (is_await text c t) (await_operand text r c t) _ _ f) [
        | when i k ↦ await_sound s c p t at i y k
        | else i k ↦ elim (chosen (is_update text t) (update_operand text r c t) None _ k) [
          | when j l ↦ update_sound s c p t at j y l
          | else j l ↦ absurd cc
        ]
      ]
    ]

prefixed_read : {text : Bytes} {g : Rules} {r : Readers} (s : AreSound text g r) (c : Context) (p : ℕ) (y : Operand × Stop) → read_prefixed text r c p ≡ Some y
    → (t : Token) × (token text AtOperand p ≡ Some t) × PrefixedAs text g c t p y.0 y.1
unfolding read_prefixed
prefixed_read {text} {g} {r} s c p y e =
    let t = bind_some (token text AtOperand p) _ _ e in (t.0, t.1, prefixed_from_sound s c p t.0 t.1 y t.2)

pub prefixed_sound : {text : Bytes} {g : Rules} {r : Readers} (s : AreSound text g r) (c : Context) → SoundEnded (PrefixedAt text g c) (read_prefixed text r c)
prefixed_sound s c p y e = (prefixed_read s c p y e).2.0

pub prefixed_shaped : {text : Bytes} {g : Rules} {r : Readers} (s : AreSound text g r) (c : Context) (p : ℕ) (t : Token) (y : Operand × Stop)
    → token text AtOperand p ≡ Some t → read_prefixed text r c p ≡ Some y → HasShape (shape_of text c t) y.0
prefixed_shaped {text} s c p t y at e =
    let k = prefixed_read s c p y e in subst (λ z. HasShape (shape_of text c z) y.0) (some_is _ _ (sym k.1 ∙ at)) k.2.1

-- Lists of operands

-- an operand of a list, of the shape that its first token tells
abbrev ListedAs : Bytes → Rules → Context → Token → ℕ → Operand → Stop → Type 0
ListedAs text g c t p x s = ListedAt text g c p x s × HasShape (shape_of text c t) x

private_kind_is : (k : TokenKind) → is_private_kind k ≡ true → k ≡ kind.Private
private_kind_is kind.Private e = refl
private_kind_is _ e = absurd cc

listed_from_sound : {text : Bytes} {g : Rules} {r : Readers} (s : AreSound text g r) (c : Context) (p : ℕ) (t : Token) → token text AtOperand p ≡ Some t
    → (y : Operand × Stop) → listed_from text r c p t ≡ Some y → ListedAs text g c t p y.0 y.1
unfolding listed_from
listed_from_sound {text} {g} {r} s c p t at y e =
    elim (chosen (is_private_kind t.kind) (Some (operand_v.Private t, stop t.end expression)) (operand_from text r c p t) _ e) [
      | when h f ↦ given (ListedAs text g c t p) _ _ y f (
        ListedAt.private t (kind_there at (private_kind_is _ h)),
        subst (λ z. HasShape z (operand_v.Private t)) (sym (private_shape_of text c t h)) (private_shape t),
      )
      | else h f ↦ let k = operand_from_sound s c p t at y f in (ListedAt.operand y.0 k.0, k.1)
    ]

operator_is : (text : Bytes) (c : Context) (p : ℕ) (t : Token) → token text AtOperator p ≡ Some t → is_operator text c t ≡ true → OperatorAt text c p t
unfolding is_operator
operator_is text c p t at e =
    elim (one_of (is_one_mark text binary_marks t || is_word text (codes "instanceof") t) (c.has_in && is_word text (codes "in") t) e) [
      | first h ↦ elim (one_of (is_one_mark text binary_marks t) (is_word text (codes "instanceof") t) h) [
        | first i ↦ OperatorAt.mark t (one_marked at i)
        | second i ↦ OperatorAt.instance t (worded at i)
      ]
      | second h ↦ let b = both c.has_in (is_word text (codes "in") t) h in OperatorAt.member t b.0 (worded at b.1)
    ]

-- operators with operands behind one of some shape, each fitting in its place
abbrev JoinsAt : Bytes → Rules → Context → Operands → List (Joined Operand) → Operands → Type 0
JoinsAt text g c s xs z =
    JoinedAt text g c s.at xs z.at × ((x : Operand) → HasShape s.shape x → FitsBetween text s.before x (next_operator xs)) × AllFit text xs

joins_more : (text : Bytes) (g : Rules) (c : Context) (s : Operands) (op : Token) → OperatorAt text c s.at.at op → fits text s.before s.shape (Some op) ≡ true
    → (x : Operand) (a : Stop) (shape : Shape) → ListedAt text g c op.end x a → HasShape shape x → (xs : List (Joined Operand)) (z : Operands)
    → JoinsAt text g c (operands a (Some op) shape) xs z → JoinsAt text g c s (joined op x ∷ xs) z
joins_more text g c s op o e x a shape h k xs z j =
    (JoinedAt.more op x xs o h j.0, λ w l. fits_sound text s.before s.shape (Some op) e w l, (j.1 x k, j.2))

joined_turn_sound : {text : Bytes} {g : Rules} {r : Readers} (s : AreSound text g r) (c : Context) (o : Operands) (u : TurnOf Operands (Joined Operand))
    → joined_turn text r c o ≡ Some u → Joins (JoinsAt text g c) o u
unfolding joined_turn joined_behind joined_ended next_joined joined_by
joined_turn_sound {text} {g} {r} s c o u e =
    let op = bind_some (token text AtOperator o.at.at) _ _ e in
    elim (chosen (is_operator text c op.0) (joined_behind text r c o op.0) (joined_ended text o) _ op.2) [
      | when h f ↦ elim (chosen (fits text o.before o.shape (Some op.0)) (next_joined text r c op.0) None _ f) [
        | when i k ↦ let t = bind_some (token text AtOperand op.0.end) _ _ k in
            let x = bind_some (listed_from text r c op.0.end t.0) _ _ t.2 in
            let l = listed_from_sound s c op.0.end t.0 t.1 _ x.1 in
            subst (Joins (JoinsAt text g c) o) (some_is _ _ x.2)
            (λ ys z j. joins_more text g c o op.0 (operator_is text c _ op.0 op.1 h) i x.0.0 x.0.1 (shape_of text c t.0) l.0 l.1 ys z j)
        | else i k ↦ absurd cc
      ]
      | else h f ↦ elim (chosen (fits text o.before o.shape None) (Some (ended o)) None _ f) [
        | when i k ↦ subst (Joins (JoinsAt text g c) o) (some_is _ _ k) (JoinedAt.none, λ w l. fits_sound text o.before o.shape None i w l, tt)
        | else i k ↦ absurd cc
      ]
    ]

binary_behind_sound : {text : Bytes} {g : Rules} {r : Readers} (s : AreSound text g r) (c : Context) (p : ℕ) (x : Operand) (shape : Shape) (a : Stop)
    → ListedAt text g c p x a → HasShape shape x → (y : BinaryOf Operand × Stop) → binary_behind text r c x shape a ≡ Some y → BinaryAt text g c p y.0 y.1
unfolding binary_behind
binary_behind_sound {text} {g} {r} s c p x shape a h k y e =
    let xs = bind_some (all_turns text (joined_turn text r c) (operands a None shape)) _ _ e in
    let j = turns_sound text (JoinsAt text g c) _ (joined_turn_sound s c) (operands a None shape) _ xs.1 in
    elim (chosen (mixes text xs.0.0) None (Some (record { first = x; more = xs.0.0 }, xs.0.1.at)) _ xs.2) [
      | when i f ↦ absurd cc
      | else i f ↦ given (BinaryAt text g c p) _ _ y f (BinaryAt.binary x xs.0.0 h j.0 (j.1 x k) j.2 i)
    ]

arms_behind_sound : {text : Bytes} {g : Rules} {r : Readers} (s : AreSound text g r) (c : Context) (p : ℕ) (x : BinaryOf Operand) (a : Stop)
    → BinaryAt text g c p x a → (t : Token) → MarkAt text AtOperator (codes "?") a.at t → (y : Cond × Stop) → arms_behind text r c x t ≡ Some y
    → CondAt text g c p y.0 y.1
unfolding arms_behind
arms_behind_sound {text} {g} {r} s c p x a h t m y e =
    let v = bind_some (r.assign (bracketed c) t.end) _ _ e in
    let colon = bind_some (mark text AtOperator (codes ":") v.0.1.at) _ _ v.2 in
    let w = bind_some (r.assign c colon.0.end) _ _ colon.2 in
    given (CondAt text g c p) _ _ y w.2
    (CondAt.choice x t v.0.0 colon.0 w.0.0 h m (s.assign (bracketed c) _ _ v.1) (mark_there colon.1) (s.assign c _ _ w.1))

pub cond_from_sound : {text : Bytes} {g : Rules} {r : Readers} (s : AreSound text g r) (c : Context) (p : ℕ) (shape : Shape) (x : Operand) (a : Stop)
    → ListedAt text g c p x a → HasShape shape x → (y : Cond × Stop) → cond_from text r c shape x a ≡ Some y → CondAt text g c p y.0 y.1
unfolding cond_from cond_behind
cond_from_sound {text} {g} {r} s c p shape x a h k y e =
    let b = bind_some (binary_behind text r c x shape a) _ _ e in
    let is = binary_behind_sound s c p x shape a h k _ b.1 in
    let t = bind_some (token text AtOperator b.0.1.at) _ _ b.2 in
    elim (chosen (is_mark text (codes "?") t.0) (arms_behind text r c b.0.0 t.0) (Some (roll-Cond (record { test = b.0.0; arms = None }), b.0.1)) _ t.2) [
      | when i f ↦ arms_behind_sound s c p b.0.0 b.0.1 is t.0 (marked t.1 i) y f
      | else i f ↦ given (CondAt text g c p) _ _ y f (CondAt.test b.0.0 is)
    ]

pub cond_by_sound : {text : Bytes} {g : Rules} {r : Readers} (s : AreSound text g r) (c : Context) (p : ℕ) (t : Token) → token text AtOperand p ≡ Some t
    → (y : Cond × Stop) → cond_by text r c p t ≡ Some y → CondAt text g c p y.0 y.1
unfolding cond_by
cond_by_sound {text} {g} {r} s c p t at y e =
    let x = bind_some (listed_from text r c p t) _ _ e in
    let l = listed_from_sound s c p t at _ x.1 in
    cond_from_sound s c p (shape_of text c t) x.0.0 x.0.1 l.0 l.1 y x.2

pub cond_sound : {text : Bytes} {g : Rules} {r : Readers} (s : AreSound text g r) (c : Context) → SoundEnded (CondAt text g c) (read_cond text r c)
unfolding read_cond
cond_sound {text} {g} {r} s c p y e = let t = bind_some (token text AtOperand p) _ _ e in cond_by_sound s c p t.0 t.1 y t.2
