-- Arrows and assignments that are read stand in the text by the grammar.
use Rattle.std.proofs.Common.{◌≡◌, ℕ, true, false, Option, Some, None, subst}
use Rattle.std.specs.Prelude.{codes, is_some}
use Rattle.es_tree.specs.declared.tokens.Token.{Token}
use Rattle.es_tree.specs.declared.tokens.Goal.TheVariants.{Operand as AtOperand, Operator as AtOperator}
use Rattle.es_tree.specs.declared.parts.ArrowParams.{ArrowParams}
use Rattle.es_tree.specs.declared.parts.ArrowParams.TheVariants as arrow_params
use Rattle.es_tree.specs.declared.cycle.Params.{Params}
use Rattle.es_tree.specs.declared.cycle.Arrow.{Arrow}
use Rattle.es_tree.specs.declared.cycle.Assign.{Assign}
use Rattle.es_tree.specs.declared.cycle.Assign.TheVariants as assign_v
use Rattle.es_tree.specs.declared.cycle.Operand.{Operand}
use Rattle.es_tree.specs.declared.cycle.Operand.TheVariants as operand_v
use Rattle.es_tree.specs.declared.cycle.Target.{Target}
use Rattle.es_grammar.specs.declared.places.Context.{Context}
use Rattle.es_grammar.specs.declared.places.Stop.{Stop}
use Rattle.es_grammar.specs.Contexts.{in_arrow, in_concise}
use Rattle.es_grammar.specs.Reading.{Bytes, IsOnLine, MarkAt, NameAt, WordAt}
use Rattle.es_grammar.specs.Semicolons.{stop, block_arrow, postfix, assignment_marks}
use Rattle.es_grammar.specs.Rules.{Rules}
use Rattle.es_grammar.specs.Functions.{ArrowAt, ArrowParamsAt, AsyncAt}
use Rattle.es_grammar.specs.Targets.{SimpleTargetAt, TargetAt}
use Rattle.es_grammar.specs.Operators.{AssignAt, ListedAt, YieldedAt}
use Rattle.es_reader.specs.Basics.{token, is_mark, is_name, is_one_mark, is_word, mark}
use Rattle.es_reader.specs.Readers.{Readers}
use Rattle.es_reader.specs.Functions.{read_body, read_params}
use Rattle.es_reader.specs.declared.pieces.Shape.{Shape}
use Rattle.es_reader.specs.Expressions.{Parts, read_parts}
use Rattle.es_reader.specs.Targets.{bare_of, bare_target, begins_pattern, read_paren_target}
use Rattle.es_reader.specs.Operators.{Head, arrow_assign, arrow_behind, arrow_body, assign_behind, assign_from, async_assign, async_head, begins_nothing, begins_other, block_body, bracket_assign, compound_assign, concise_body, cond_assign, cond_by, cond_from, head, is_arrow, is_assignment, is_postfix, is_yield, list_head, named_assign, named_by, operand_assign, operand_behind, other_assign, other_cond, params_head, paren_assign, paren_by, pattern_assign, plain_assign, read_assign, set_assign, target_assign, through, yield_assign, yield_by, yield_value, yielded}
use Rattle.es_reader.specs.Soundness.{AreSound, SoundEnded}
use Rattle.es_reader.proofs.Steps.{bind_some, both, chosen, when, else, first, given, is_false, mark_there, marked, named, neither, no_mark, one_marked, one_of, read_there, second, some_is, worded}
use Rattle.es_reader.proofs.Functions.{params_sound}
use Rattle.es_reader.proofs.Classes.{body_sound}
use Rattle.es_reader.proofs.Primaries.{PartsAt, parts_sound}
use Rattle.es_reader.proofs.Targets.{bare_of_sound, bare_target_is, paren_target_sound}
use Rattle.es_reader.proofs.Operators.{PlainAt, Went, cond_by_sound, cond_from_sound, operand_behind_sound, postfix_at, went}
use Rattle.es_reader.proofs.Shapes.{not_both}

-- Arrows

-- what stands before an arrow's body, from its parameters on
abbrev HeadAt : Bytes → Rules → Context → ℕ → Head → Type 0
HeadAt text g c a h = (b : ℕ) × ArrowParamsAt text g c a h.params b × MarkAt text AtOperator (codes "=>") b h.mark × IsOnLine h.mark

arrow_at : (text : Bytes) (g : Rules) (c : Context) (a : ℕ) (x : ArrowParams Params) (b : ℕ) → ArrowParamsAt text g c a x b → (t : Token)
    → token text AtOperator b ≡ Some t → is_arrow text t ≡ true → HeadAt text g c a (head x t)
unfolding is_arrow
arrow_at text g c a x b h t at e = let k = both (is_mark text (codes "=>") t) _ e in (b, h, marked at k.0, is_false _ k.1)

arrow_behind_sound : (text : Bytes) (g : Rules) (c : Context) (a : ℕ) (x : ArrowParams Params) (b : ℕ) → ArrowParamsAt text g c a x b → (y : Head)
    → arrow_behind text x b ≡ Some y → HeadAt text g c a y
unfolding arrow_behind
arrow_behind_sound text g c a x b h y e =
    let t = bind_some (token text AtOperator b) _ _ e in
    elim (chosen (is_arrow text t.0) (Some (head x t.0)) None _ t.2) [
      | when i f ↦ subst (HeadAt text g c a) (some_is _ _ f) (arrow_at text g c a x b h t.0 t.1 i)
      | else i f ↦ absurd cc
    ]

list_head_sound : {text : Bytes} {g : Rules} {r : Readers} (s : AreSound text g r) (c : Context) (a : ℕ) (left : Token)
    → MarkAt text AtOperand (codes "(") a left → (y : Head) → list_head text r c left ≡ Some y → HeadAt text g c a y
unfolding list_head
list_head_sound {text} {g} {r} s c a left m y e =
    let x = bind_some (read_params text r c left.end) _ _ e in
    let right = bind_some (mark text AtOperator (codes ")") x.0.1) _ _ x.2 in
    arrow_behind_sound text g c a (arrow_params.List left x.0.0 right.0) right.0.end
    (ArrowParamsAt.list left x.0.0 right.0 m (params_sound s c left.end _ x.1) (mark_there right.1)) y right.2

params_head_sound : {text : Bytes} {g : Rules} {r : Readers} (s : AreSound text g r) (c : Context) (a : ℕ) (t : Token) → token text AtOperand a ≡ Some t
    → (y : Head) → params_head text r c t ≡ Some y → HeadAt text g c a y
unfolding params_head
params_head_sound {text} {g} {r} s c a t at y e =
    elim (chosen (is_name text c t) (arrow_behind text (arrow_params.Name t) t.end) _ _ e) [
      | when h f ↦ arrow_behind_sound text g c a (arrow_params.Name t) t.end (ArrowParamsAt.name t (named at h)) y f
      | else h f ↦ elim (chosen (is_mark text (codes "(") t) (list_head text r c t) None _ f) [
        | when i k ↦ list_head_sound s c a t (marked at i) y k
        | else i k ↦ absurd cc
      ]
    ]

-- `async` and what stands before an arrow's body behind it
abbrev AsyncHeadAt : Bytes → Rules → Context → ℕ → Token → Head → Type 0
AsyncHeadAt text g c p t h = AsyncAt text p (Some t) true t.end × HeadAt text g (in_arrow true c) t.end h

async_head_sound : {text : Bytes} {g : Rules} {r : Readers} (s : AreSound text g r) (c : Context) (p : ℕ) (t : Token) → WordAt text AtOperand (codes "async") p t
    → (y : Head) → async_head text r c t ≡ Some y → AsyncHeadAt text g c p t y
unfolding async_head
async_head_sound {text} {g} {r} s c p t w y e =
    let u = bind_some (token text AtOperand t.end) _ _ e in
    elim (chosen u.0.newline None (params_head text r (in_arrow true c) u.0) _ u.2) [
      | when h f ↦ absurd cc
      | else h f ↦ (AsyncAt.word t u.0 w (read_there _ _ _ _ u.1) h, params_head_sound s (in_arrow true c) t.end u.0 u.1 y f)
    ]

arrow_body_sound : {text : Bytes} {g : Rules} {r : Readers} (s : AreSound text g r) (c : Context) (p a : ℕ) (async : Option Token) (h : Head)
    → AsyncAt text p async (is_some async) a → HeadAt text g (in_arrow (is_some async) c) a h
    → (y : Arrow × Stop) → arrow_body text r c async h ≡ Some y → ArrowAt text g c p y.0 y.1
unfolding arrow_body block_body concise_body
arrow_body_sound {text} {g} {r} s c p a async h is k y e =
    let t = bind_some (token text AtOperand h.mark.end) _ _ e in
    elim (chosen (is_mark text (codes "{") t.0) (block_body text r c async h) (concise_body r c async h) _ t.2) [
      | when i f ↦ let x = bind_some (read_body text r (in_arrow (is_some async) c) h.mark.end) _ _ f in
          given (ArrowAt text g c p) _ _ y x.2
          (ArrowAt.block async h.params h.mark x.0.0 is k.1 k.2 k.3 (body_sound s (in_arrow (is_some async) c) h.mark.end _ x.1))
      | else i f ↦ let x = bind_some (r.assign (in_concise (is_some async) c) h.mark.end) _ _ f in
          given (ArrowAt text g c p) _ _ y x.2
          (ArrowAt.concise async h.params h.mark x.0.0 is k.1 k.2 k.3 (no_mark t.1 i) (s.assign (in_concise (is_some async) c) _ _ x.1))
    ]

arrow_assign_sound : {text : Bytes} {g : Rules} {r : Readers} (s : AreSound text g r) (c : Context) (p a : ℕ) (async : Option Token) (h : Head)
    → AsyncAt text p async (is_some async) a → HeadAt text g (in_arrow (is_some async) c) a h
    → (y : Assign × Stop) → arrow_assign text r c async h ≡ Some y → AssignAt text g c p y.0 y.1
unfolding arrow_assign
arrow_assign_sound {text} {g} {r} s c p a async h is k y e =
    let x = bind_some (arrow_body text r c async h) _ _ e in
    given (AssignAt text g c p) _ _ y x.2 (AssignAt.arrow x.0.0 (arrow_body_sound s c p a async h is k _ x.1))

-- Targets and what is assigned to them

set_sound : {text : Bytes} {g : Rules} {r : Readers} (s : AreSound text g r) (c : Context) (p : ℕ) (x : Target) (q : ℕ) → TargetAt text g c p x q
    → (op : Token) → MarkAt text AtOperator (codes "=") q op → (y : Assign × Stop) → set_assign r c x op ≡ Some y → AssignAt text g c p y.0 y.1
unfolding set_assign
set_sound {text} {g} {r} s c p x q h op m y e =
    let v = bind_some (r.assign c op.end) _ _ e in
    given (AssignAt text g c p) _ _ y v.2 (AssignAt.set x op v.0.0 h m (s.assign c _ _ v.1))

is_compound : (text : Bytes) (t : Token) → is_assignment text t ≡ true → is_mark text (codes "=") t ≡ false → is_one_mark text assignment_marks t ≡ true
unfolding is_assignment
is_compound text t e f = elim (one_of (is_mark text (codes "=") t) (is_one_mark text assignment_marks t) e) [
  | first h ↦ absurd (not_both _ h f)
  | second h ↦ h
]

target_assign_sound : {text : Bytes} {g : Rules} {r : Readers} (s : AreSound text g r) (c : Context) (p : ℕ) (x : Target) (q : ℕ)
    → SimpleTargetAt text g c p x q → (op : Token) → token text AtOperator q ≡ Some op → is_assignment text op ≡ true
    → (y : Assign × Stop) → target_assign text r c x op ≡ Some y → AssignAt text g c p y.0 y.1
unfolding target_assign compound_assign
target_assign_sound {text} {g} {r} s c p x q h op at is y e =
    elim (chosen (is_mark text (codes "=") op) (set_assign r c x op) (compound_assign r c x op) _ e) [
      | when i f ↦ set_sound s c p x q (TargetAt.simple x h) op (marked at i) y f
      | else i f ↦ let v = bind_some (r.assign c op.end) _ _ f in
          given (AssignAt text g c p) _ _ y v.2
          (AssignAt.compound x op v.0.0 h (one_marked at (is_compound text op is i)) (s.assign c _ _ v.1))
    ]

-- a condition that begins with an operand without prefix
cond_assign_sound : {text : Bytes} {g : Rules} {r : Readers} (s : AreSound text g r) (c : Context) (p : ℕ) (x : Operand) (a : Stop)
    → PlainAt text g c p x a → (y : Assign × Stop) → cond_assign text r c x a ≡ Some y → AssignAt text g c p y.0 y.1
unfolding cond_assign
cond_assign_sound {text} {g} {r} s c p x a h y e =
    let z = bind_some (cond_from text r c Shape.Plain x a) _ _ e in
    given (AssignAt text g c p) _ _ y z.2
    (AssignAt.cond z.0.0 (cond_from_sound s c p Shape.Plain x a (ListedAt.operand x h.0) (h.1 Shape.Plain) _ z.1))

paren_assign_sound : {text : Bytes} {g : Rules} {r : Readers} (s : AreSound text g r) (c : Context) (p : ℕ) (left : Token)
    → MarkAt text AtOperand (codes "(") p left → (y : Assign × Stop) → paren_assign text r c left ≡ Some y → AssignAt text g c p y.0 y.1
unfolding paren_assign paren_by
paren_assign_sound {text} {g} {r} s c p left m y e =
    let x = bind_some (read_paren_target text r c left) _ _ e in
    let is = paren_target_sound s c p left m _ x.1 in
    let u = bind_some (token text AtOperator x.0.1) _ _ x.2 in
    elim (chosen (is_assignment text u.0) (target_assign text r c x.0.0 u.0) _ _ u.2) [
      | when h f ↦ target_assign_sound s c p x.0.0 x.0.1 is u.0 u.1 h y f
      | else h f ↦ elim (chosen (is_postfix text u.0) (cond_assign text r c (operand_v.Postfix x.0.0 u.0) (stop u.0.end postfix)) None _ f) [
        | when i k ↦ cond_assign_sound s c p _ _ (postfix_at text g c p x.0.0 x.0.1 is u.0 u.1 i) y k
        | else i k ↦ absurd cc
      ]
    ]

other_assign_sound : {text : Bytes} {g : Rules} {r : Readers} (s : AreSound text g r) (c : Context) (p : ℕ) (t : Token) → token text AtOperand p ≡ Some t
    → (y : Assign × Stop) → other_assign text r c p t ≡ Some y → AssignAt text g c p y.0 y.1
unfolding other_assign pattern_assign
other_assign_sound {text} {g} {r} s c p t at y e =
    elim (chosen (is_mark text (codes "(") t) (paren_assign text r c t) _ _ e) [
      | when h f ↦ paren_assign_sound s c p t (marked at h) y f
      | else h f ↦ elim (chosen (begins_pattern text t) (pattern_assign text r c p) None _ f) [
        | when i k ↦ let x = bind_some (r.target_pattern c p) _ _ k in
            let op = bind_some (mark text AtOperator (codes "=") x.0.1) _ _ x.2 in
            set_sound s c p x.0.0 x.0.1 (TargetAt.pattern x.0.0 (s.target_pattern c p _ x.1)) op.0 (mark_there op.1) y op.2
        | else i k ↦ absurd cc
      ]
    ]

assign_behind_sound : {text : Bytes} {g : Rules} {r : Readers} (s : AreSound text g r) (c : Context) (p : ℕ) (t : Token) → token text AtOperand p ≡ Some t
    → (x : Parts) (q : ℕ) → PartsAt text g c p x q → (y : Assign × Stop) → assign_behind text r c p t x q ≡ Some y → AssignAt text g c p y.0 y.1
unfolding assign_behind operand_assign
assign_behind_sound {text} {g} {r} s c p t at x q h y e =
    let u = bind_some (token text AtOperator q) _ _ e in
    elim (chosen (is_assignment text u.0) (through (bare_of x) (λ b. target_assign text r c (bare_target b) u.0) (other_assign text r c p t))
    (operand_assign text r c t x q) _ u.2) [
      | when i f ↦ elim (went (bare_of x) (λ b. target_assign text r c (bare_target b) u.0) (other_assign text r c p t) y f) [
        | Went.on b k l ↦ target_assign_sound s c p _ q (bare_target_is text g c p b q (bare_of_sound text g c p x q h b k)) u.0 u.1 i y l
        | Went.otherwise k ↦ other_assign_sound s c p t at y k
      ]
      | else i f ↦ let z = bind_some (operand_behind text r c t x q) _ _ f in
          cond_assign_sound s c p _ _ (operand_behind_sound s c p t at x q h _ z.1) y z.2
    ]

plain_assign_sound : {text : Bytes} {g : Rules} {r : Readers} (s : AreSound text g r) (c : Context) (p : ℕ) (t : Token) → token text AtOperand p ≡ Some t
    → (y : Assign × Stop) → plain_assign text r c p t ≡ Some y → AssignAt text g c p y.0 y.1
unfolding plain_assign
plain_assign_sound {text} {g} {r} s c p t at y e =
    elim (went (read_parts text r c p) (λ x. assign_behind text r c p t x.0 x.1) (other_assign text r c p t) y e) [
      | Went.on x k l ↦ assign_behind_sound s c p t at x.0 x.1 (parts_sound s c p x k) y l
      | Went.otherwise k ↦ other_assign_sound s c p t at y k
    ]

-- by the first token

async_assign_sound : {text : Bytes} {g : Rules} {r : Readers} (s : AreSound text g r) (c : Context) (p : ℕ) (t : Token) → token text AtOperand p ≡ Some t
    → WordAt text AtOperand (codes "async") p t → (y : Assign × Stop) → async_assign text r c p t ≡ Some y → AssignAt text g c p y.0 y.1
unfolding async_assign
async_assign_sound {text} {g} {r} s c p t at w y e =
    elim (went (async_head text r c t) (arrow_assign text r c (Some t)) (plain_assign text r c p t) y e) [
      | Went.on h k l ↦ let is = async_head_sound s c p t w h k in arrow_assign_sound s c p t.end (Some t) h is.0 is.1 y l
      | Went.otherwise k ↦ plain_assign_sound s c p t at y k
    ]

named_assign_sound : {text : Bytes} {g : Rules} {r : Readers} (s : AreSound text g r) (c : Context) (p : ℕ) (t : Token) → token text AtOperand p ≡ Some t
    → NameAt text AtOperand c p t → (y : Assign × Stop) → named_assign text r c p t ≡ Some y → AssignAt text g c p y.0 y.1
unfolding named_assign named_by
named_assign_sound {text} {g} {r} s c p t at n y e =
    let u = bind_some (token text AtOperator t.end) _ _ e in
    elim (chosen (is_arrow text u.0) (arrow_assign text r c None (head (arrow_params.Name t) u.0)) _ _ u.2) [
      | when h f ↦ arrow_assign_sound s c p p None (head (arrow_params.Name t) u.0) AsyncAt.none
          (arrow_at text g (in_arrow false c) p (arrow_params.Name t) t.end (ArrowParamsAt.name t (record { is = n.is; free = n.free })) u.0 u.1 h) y f
      | else h f ↦ elim (chosen (is_word text (codes "async") t) (async_assign text r c p t) (plain_assign text r c p t) _ f) [
        | when i k ↦ async_assign_sound s c p t at (worded at i) y k
        | else i k ↦ plain_assign_sound s c p t at y k
      ]
    ]

bracket_assign_sound : {text : Bytes} {g : Rules} {r : Readers} (s : AreSound text g r) (c : Context) (p : ℕ) (t : Token) → token text AtOperand p ≡ Some t
    → MarkAt text AtOperand (codes "(") p t → (y : Assign × Stop) → bracket_assign text r c p t ≡ Some y → AssignAt text g c p y.0 y.1
unfolding bracket_assign
bracket_assign_sound {text} {g} {r} s c p t at m y e =
    elim (went (list_head text r (in_arrow false c) t) (arrow_assign text r c None) (plain_assign text r c p t) y e) [
      | Went.on h k l ↦ arrow_assign_sound s c p p None h AsyncAt.none (list_head_sound s (in_arrow false c) p t m h k) y l
      | Went.otherwise k ↦ plain_assign_sound s c p t at y k
    ]

-- `yield`

on_line : (text : Bytes) (t : Token) → begins_nothing text t ≡ false → IsOnLine t
unfolding begins_nothing
on_line text t e = (neither _ _ (neither _ _ (neither _ _ e).0).0).0

yield_plain_sound : {text : Bytes} {g : Rules} {r : Readers} (s : AreSound text g r) (c : Context) (p : ℕ) (word : Token) → c.has_yield ≡ true
    → WordAt text AtOperand (codes "yield") p word → (t : Token) → token text AtOperand word.end ≡ Some t → IsOnLine t
    → (y : Assign × Stop) → yield_value r c word None word.end ≡ Some y → AssignAt text g c p y.0 y.1
unfolding yield_value
yield_plain_sound {text} {g} {r} s c p word has w t at line y e =
    let x = bind_some (r.assign c word.end) _ _ e in
    given (AssignAt text g c p) _ _ y x.2
    (AssignAt.yield word (yielded None x.0.0) has w (YieldedAt.plain x.0.0 t (read_there _ _ _ _ at) line (s.assign c _ _ x.1)))

yield_starred_sound : {text : Bytes} {g : Rules} {r : Readers} (s : AreSound text g r) (c : Context) (p : ℕ) (word : Token) → c.has_yield ≡ true
    → WordAt text AtOperand (codes "yield") p word → (t : Token) → MarkAt text AtOperand (codes "*") word.end t → IsOnLine t
    → (y : Assign × Stop) → yield_value r c word (Some t) t.end ≡ Some y → AssignAt text g c p y.0 y.1
unfolding yield_value
yield_starred_sound {text} {g} {r} s c p word has w t m line y e =
    let x = bind_some (r.assign c t.end) _ _ e in
    given (AssignAt text g c p) _ _ y x.2
    (AssignAt.yield word (yielded (Some t) x.0.0) has w (YieldedAt.delegated t x.0.0 m line (s.assign c _ _ x.1)))

yield_assign_sound : {text : Bytes} {g : Rules} {r : Readers} (s : AreSound text g r) (c : Context) (p : ℕ) (word : Token) → c.has_yield ≡ true
    → WordAt text AtOperand (codes "yield") p word → (y : Assign × Stop) → yield_assign text r c word ≡ Some y → AssignAt text g c p y.0 y.1
unfolding yield_assign yield_by
yield_assign_sound {text} {g} {r} s c p word has w y e =
    let t = bind_some (token text AtOperand word.end) _ _ e in
    elim (chosen (begins_nothing text t.0) (Some (assign_v.Yield word None, stop word.end block_arrow)) _ _ t.2) [
      | when h f ↦ given (AssignAt text g c p) _ _ y f (AssignAt.yield_alone word has w)
      | else h f ↦ elim (chosen (is_mark text (codes "*") t.0) (yield_value r c word (Some t.0) t.0.end) (yield_value r c word None word.end) _ f) [
        | when i k ↦ yield_starred_sound s c p word has w t.0 (marked t.1 i) (on_line text t.0 h) y k
        | else i k ↦ yield_plain_sound s c p word has w t.0 t.1 (on_line text t.0 h) y k
      ]
    ]

other_cond_sound : {text : Bytes} {g : Rules} {r : Readers} (s : AreSound text g r) (c : Context) (p : ℕ) (t : Token) → token text AtOperand p ≡ Some t
    → (y : Assign × Stop) → other_cond text r c p t ≡ Some y → AssignAt text g c p y.0 y.1
unfolding other_cond
other_cond_sound {text} {g} {r} s c p t at y e =
    let x = bind_some (cond_by text r c p t) _ _ e in given (AssignAt text g c p) _ _ y x.2 (AssignAt.cond x.0.0 (cond_by_sound s c p t at _ x.1))

assign_from_sound : {text : Bytes} {g : Rules} {r : Readers} (s : AreSound text g r) (c : Context) (p : ℕ) (t : Token) → token text AtOperand p ≡ Some t
    → (y : Assign × Stop) → assign_from text r c p t ≡ Some y → AssignAt text g c p y.0 y.1
unfolding assign_from is_yield
assign_from_sound {text} {g} {r} s c p t at y e =
    elim (chosen (is_name text c t) (named_assign text r c p t) _ _ e) [
      | when h f ↦ named_assign_sound s c p t at (named at h) y f
      | else h f ↦ elim (chosen (is_mark text (codes "(") t) (bracket_assign text r c p t) _ _ f) [
        | when i k ↦ bracket_assign_sound s c p t at (marked at i) y k
        | else i k ↦ elim (chosen (begins_other text c t) (other_cond text r c p t) _ _ k) [
          | when j l ↦ other_cond_sound s c p t at y l
          | else j l ↦ elim (chosen (is_yield text c t) (yield_assign text r c t) (plain_assign text r c p t) _ l) [
            | when m n ↦ let b = both c.has_yield (is_word text (codes "yield") t) m in yield_assign_sound s c p t b.0 (worded at b.1) y n
            | else m n ↦ plain_assign_sound s c p t at y n
          ]
        ]
      ]
    ]

pub assign_sound : {text : Bytes} {g : Rules} {r : Readers} (s : AreSound text g r) (c : Context) → SoundEnded (AssignAt text g c) (read_assign text r c)
unfolding read_assign
assign_sound {text} {g} {r} s c p y e =
    let t = bind_some (token text AtOperand p) _ _ e in assign_from_sound s c p t.0 t.1 y t.2
