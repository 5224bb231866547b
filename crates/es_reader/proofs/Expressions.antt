-- Expressions that are read stand in the text by the grammar.
use Rattle.std.proofs.Common.{◌≡◌, ℕ, true, List, [], Some, None, refl, subst}
use Rattle.std.specs.Prelude.{codes}
use Rattle.es_tree.specs.declared.tokens.Token.{Token}
use Rattle.es_tree.specs.declared.tokens.TokenKind.{TokenKind}
use Rattle.es_tree.specs.declared.tokens.TokenKind.TheVariants as kind
use Rattle.es_tree.specs.declared.tokens.Goal.{Goal}
use Rattle.es_tree.specs.declared.tokens.Goal.TheVariants.{Operand as AtOperand, Operator as AtOperator, Template as AtTemplate}
use Rattle.es_tree.specs.declared.parts.Piece.{Piece}
use Rattle.es_tree.specs.declared.parts.Template.{Template}
use Rattle.es_tree.specs.declared.parts.ArgsOf.{ArgsOf}
use Rattle.es_tree.specs.declared.cycle.Assign.{Assign}
use Rattle.es_grammar.specs.declared.places.Context.{Context}
use Rattle.es_grammar.specs.Contexts.{bracketed}
use Rattle.es_grammar.specs.Reading.{Bytes, KindAt, MarkAt}
use Rattle.es_grammar.specs.Lists.{Chain}
use Rattle.es_grammar.specs.Rules.{Rules}
use Rattle.es_grammar.specs.Expressions.{ArgsAt, ArgumentAt, ClosedExprAt, Expr, ExprAt, PieceAt, PiecesAt, SuffixAt, TemplateAt, is_member, opens}
use Rattle.es_reader.specs.Basics.{token, is_mark, mark}
use Rattle.es_reader.specs.declared.pieces.TurnOf.TheVariants.{Ended as ended}
use Rattle.es_reader.specs.declared.pieces.TurnOf.TheVariants.{Last as last}
use Rattle.es_reader.specs.declared.pieces.TurnOf.TheVariants.{More as more}
use Rattle.es_reader.specs.Loops.{Turn, all_turns}
use Rattle.es_reader.specs.Lists.{list_turn}
use Rattle.es_reader.specs.EndedLists.{read_ended_list}
use Rattle.es_reader.specs.Readers.{Readers}
use Rattle.es_reader.specs.Semis.{is_closed}
use Rattle.es_reader.specs.Expressions.{read_expr, read_closed_expr, is_template_kind, is_piece, piece, piece_turn, piece_behind, pieces_turn, pieces_behind, template_from, read_template, spread_argument, plain_argument, read_argument, args_behind, read_args, Suffix, dot_by, read_dot, read_index, template_suffix, args_suffix, optional_index, optional_args, optional_by, read_optional, member_suffix, begins_call, call_suffix, begins_suffix, suffix_from, next_suffix, suffixes_turn}
use Rattle.es_reader.specs.Soundness.{AreSound, Sound, SoundEnded}
use Rattle.es_reader.proofs.Steps.{bind_some, both, chosen, when, else, given, kind_there, mark_there, marked, some_is}
use Rattle.es_reader.proofs.Lists.{Joins, ended_list_sound, list_sound, turns_sound}
use Rattle.es_reader.proofs.Semis.{closed_sound}

pub expr_sound : {text : Bytes} {g : Rules} {r : Readers} (s : AreSound text g r) (c : Context) → SoundEnded (ExprAt text g c) (read_expr text r c)
unfolding read_expr
expr_sound {text} {g} {r} s c p y e =
    let xs = bind_some (read_ended_list text (r.assign c) p) _ _ e in
    given (ExprAt text g c p) _ _ y xs.2 (ExprAt.expr xs.0.0 (ended_list_sound text (r.assign c) (g.assign c) (s.assign c) p _ xs.1))

pub closed_expr_sound : {text : Bytes} {g : Rules} {r : Readers} (s : AreSound text g r) (c : Context)
    → Sound (ClosedExprAt text g c) (read_closed_expr text r c)
unfolding read_closed_expr
closed_expr_sound {text} {g} {r} s c p y e =
    let x = bind_some (read_expr text r c p) _ _ e in
    elim (chosen (is_closed text x.0.1) (Some (x.0.0, x.0.1.at)) None _ x.2) [
      | when h f ↦ given (ClosedExprAt text g c p) _ _ y f (ClosedExprAt.closed x.0.0 (expr_sound s c p _ x.1) (closed_sound text _ h))
      | else h f ↦ absurd cc
    ]

-- Templates

template_kind_is : (k : TokenKind) → is_template_kind k ≡ true → k ≡ kind.Template
template_kind_is kind.Template e = refl
template_kind_is _ e = absurd cc

piece_there : {text : Bytes} {p : ℕ} {t : Token} → token text AtTemplate p ≡ Some t → is_piece text t ≡ true → PieceAt text p t
unfolding is_piece
piece_there e h = let b = both _ _ h in record { is = kind_there e (template_kind_is _ b.0); goes_on = b.1 }

piece_turn_sound : (text : Bytes) (g : Rules) (c : Context) (p : ℕ) (x : Expr) (a : ℕ) → ClosedExprAt text g (bracketed c) p x a → (t : Token) → PieceAt text a t
    → (u : Turn (Piece Expr)) → piece_turn text x t ≡ u → Joins (PiecesAt text g c) p u
piece_turn_sound text g c p x a is t at u e = elim (chosen (opens text t) (more (piece x t) t.end) (last (piece x t) t.end) u e) [
  | when h f ↦ subst (Joins (PiecesAt text g c) p) f (λ ys z k. PiecesAt.more x t ys is at h k)
  | else h f ↦ subst (Joins (PiecesAt text g c) p) f (PiecesAt.last x t is at h)
]

pieces_turn_sound : {text : Bytes} {g : Rules} {r : Readers} (s : AreSound text g r) (c : Context) (p : ℕ) (u : Turn (Piece Expr))
    → pieces_turn text r c p ≡ Some u → Joins (PiecesAt text g c) p u
unfolding pieces_turn piece_behind
pieces_turn_sound {text} {g} {r} s c p u e =
    let x = bind_some (read_closed_expr text r (bracketed c) p) _ _ e in
    let t = bind_some (token text AtTemplate x.0.1) _ _ x.2 in
    elim (chosen (is_piece text t.0) (Some (piece_turn text x.0.0 t.0)) None _ t.2) [
      | when h f ↦ piece_turn_sound text g c p _ _ (closed_expr_sound s (bracketed c) p _ x.1) t.0 (piece_there t.1 h) u (some_is _ _ f)
      | else h f ↦ absurd cc
    ]

pub template_from_sound : {text : Bytes} {g : Rules} {r : Readers} (s : AreSound text g r) (c : Context) (goal : Goal) (p : ℕ) (t : Token)
    → KindAt text goal kind.Template p t → (y : Template Expr × ℕ) → template_from text r c t ≡ Some y → TemplateAt text g c goal p y.0 y.1
unfolding template_from pieces_behind
template_from_sound {text} {g} {r} s c goal p t k y e =
    elim (chosen (opens text t) (pieces_behind text r c t) (Some (record { head = t; more = [] }, t.end)) _ e) [
      | when h f ↦ let xs = bind_some (all_turns text (pieces_turn text r c) t.end) _ _ f in
          given (TemplateAt text g c goal p) _ _ y xs.2
          (TemplateAt.pieces t xs.0.0 k h (turns_sound text (PiecesAt text g c) _ (pieces_turn_sound s c) t.end _ xs.1))
      | else h f ↦ given (TemplateAt text g c goal p) _ _ y f (TemplateAt.whole t k h)
    ]

pub template_sound : {text : Bytes} {g : Rules} {r : Readers} (s : AreSound text g r) (c : Context) (goal : Goal)
    → Sound (TemplateAt text g c goal) (read_template text r c goal)
unfolding read_template
template_sound {text} {g} {r} s c goal p y e =
    let t = bind_some (token text goal p) _ _ e in
    elim (chosen (is_template_kind t.0.kind) (template_from text r c t.0) None _ t.2) [
      | when h f ↦ template_from_sound s c goal p t.0 (kind_there t.1 (template_kind_is _ h)) y f
      | else h f ↦ absurd cc
    ]

-- Arguments

pub argument_sound : {text : Bytes} {g : Rules} {r : Readers} (s : AreSound text g r) (c : Context) → Sound (ArgumentAt text g c) (read_argument text r c)
unfolding read_argument spread_argument plain_argument
argument_sound {text} {g} {r} s c p y e =
    let t = bind_some (token text AtOperand p) _ _ e in
    elim (chosen (is_mark text (codes "...") t.0) (spread_argument r c t.0) (plain_argument r c p) _ t.2) [
      | when h f ↦ let v = bind_some (r.assign (bracketed c) t.0.end) _ _ f in
          given (ArgumentAt text g c p) _ _ y v.2 (ArgumentAt.spread t.0 v.0.0 (marked t.1 h) (s.assign (bracketed c) _ _ v.1))
      | else h f ↦ let v = bind_some (r.assign (bracketed c) p) _ _ f in
          given (ArgumentAt text g c p) _ _ y v.2 (ArgumentAt.plain v.0.0 (s.assign (bracketed c) _ _ v.1))
    ]

pub args_behind_sound : {text : Bytes} {g : Rules} {r : Readers} (s : AreSound text g r) (c : Context) (p : ℕ) (left : Token)
    → MarkAt text AtOperator (codes "(") p left → (y : ArgsOf Assign × ℕ) → args_behind text r c left ≡ Some y → ArgsAt text g c p y.0 y.1
unfolding args_behind
args_behind_sound {text} {g} {r} s c p left m y e =
    let xs = bind_some (all_turns text (list_turn text (is_mark text (codes ")")) (read_argument text r c)) left.end) _ _ e in
    let right = bind_some (mark text AtOperator (codes ")") xs.0.1) _ _ xs.2 in
    given (ArgsAt text g c p) _ _ y right.2
    (ArgsAt.args left xs.0.0 right.0 m (list_sound text _ _ (ArgumentAt text g c) (argument_sound s c) left.end _ xs.1) (mark_there right.1))

pub args_sound : {text : Bytes} {g : Rules} {r : Readers} (s : AreSound text g r) (c : Context) → Sound (ArgsAt text g c) (read_args text r c)
unfolding read_args
args_sound {text} {g} {r} s c p y e =
    let t = bind_some (mark text AtOperator (codes "(") p) _ _ e in args_behind_sound s c p t.0 (mark_there t.1) y t.2

-- Suffixes

-- one that the callee of `new` may have
abbrev pub MemberSuffixAt : Bytes → Rules → Context → ℕ → Suffix → ℕ → Type 0
MemberSuffixAt text g c p x q = SuffixAt text g c p x q × (is_member x ≡ true)

dot_by_sound : (text : Bytes) (g : Rules) (c : Context) (p : ℕ) (t : Token) → MarkAt text AtOperator (codes ".") p t → (u : Token)
    → token text AtOperand t.end ≡ Some u → (k : TokenKind) → u.kind ≡ k → (y : Suffix × ℕ) → dot_by t u k ≡ Some y
    → MemberSuffixAt text g c p y.0 y.1
dot_by_sound text g c p t m u at kind.IdName k y e = given (MemberSuffixAt text g c p) _ _ y e (SuffixAt.dot t u m (kind_there at k), refl)
dot_by_sound text g c p t m u at kind.Private k y e = given (MemberSuffixAt text g c p) _ _ y e (SuffixAt.private t u m (kind_there at k), refl)
dot_by_sound text g c p t m u at _ k y e = absurd cc

dot_sound : (text : Bytes) (g : Rules) (c : Context) (p : ℕ) (t : Token) → MarkAt text AtOperator (codes ".") p t → (y : Suffix × ℕ)
    → read_dot text t ≡ Some y → MemberSuffixAt text g c p y.0 y.1
unfolding read_dot
dot_sound text g c p t m y e =
    let u = bind_some (token text AtOperand t.end) _ _ e in dot_by_sound text g c p t m u.0 u.1 _ refl y u.2

index_sound : {text : Bytes} {g : Rules} {r : Readers} (s : AreSound text g r) (c : Context) (p : ℕ) (left : Token)
    → MarkAt text AtOperator (codes "[") p left → (y : Suffix × ℕ) → read_index text r c left ≡ Some y → MemberSuffixAt text g c p y.0 y.1
unfolding read_index
index_sound {text} {g} {r} s c p left m y e =
    let v = bind_some (read_closed_expr text r (bracketed c) left.end) _ _ e in
    let right = bind_some (mark text AtOperator (codes "]") v.0.1) _ _ v.2 in
    given (MemberSuffixAt text g c p) _ _ y right.2
    (SuffixAt.index left v.0.0 right.0 m (closed_expr_sound s (bracketed c) _ _ v.1) (mark_there right.1), refl)

pub member_suffix_sound : {text : Bytes} {g : Rules} {r : Readers} (s : AreSound text g r) (c : Context) (p : ℕ) (t : Token)
    → token text AtOperator p ≡ Some t → (y : Suffix × ℕ) → member_suffix text r c t ≡ Some y → MemberSuffixAt text g c p y.0 y.1
unfolding member_suffix template_suffix
member_suffix_sound {text} {g} {r} s c p t at y e =
    elim (chosen (is_mark text (codes ".") t) (read_dot text t) _ _ e) [
      | when h f ↦ dot_sound text g c p t (marked at h) y f
      | else h f ↦ elim (chosen (is_mark text (codes "[") t) (read_index text r c t) _ _ f) [
        | when i k ↦ index_sound s c p t (marked at i) y k
        | else i k ↦ elim (chosen (is_template_kind t.kind) (template_suffix text r c t) None _ k) [
          | when j l ↦ let v = bind_some (template_from text r c t) _ _ l in
              given (MemberSuffixAt text g c p) _ _ y v.2
              (SuffixAt.template v.0.0 (template_from_sound s c AtOperator p t (kind_there at (template_kind_is _ j)) _ v.1), refl)
          | else j l ↦ absurd cc
        ]
      ]
    ]

optional_index_sound : {text : Bytes} {g : Rules} {r : Readers} (s : AreSound text g r) (c : Context) (p : ℕ) (t left : Token)
    → MarkAt text AtOperator (codes "?.") p t → MarkAt text AtOperand (codes "[") t.end left → (y : Suffix × ℕ)
    → optional_index text r c t left ≡ Some y → SuffixAt text g c p y.0 y.1
unfolding optional_index
optional_index_sound {text} {g} {r} s c p t left m n y e =
    let v = bind_some (read_closed_expr text r (bracketed c) left.end) _ _ e in
    let right = bind_some (mark text AtOperator (codes "]") v.0.1) _ _ v.2 in
    given (SuffixAt text g c p) _ _ y right.2
    (SuffixAt.optional_index t left v.0.0 right.0 m n (closed_expr_sound s (bracketed c) _ _ v.1) (mark_there right.1))

optional_by_sound : {text : Bytes} {g : Rules} {r : Readers} (s : AreSound text g r) (c : Context) (p : ℕ) (t : Token)
    → MarkAt text AtOperator (codes "?.") p t → (u : Token) → token text AtOperand t.end ≡ Some u → (k : TokenKind) → u.kind ≡ k
    → (y : Suffix × ℕ) → optional_by text r c t u k ≡ Some y → SuffixAt text g c p y.0 y.1
unfolding optional_args
optional_by_sound {text} {g} {r} s c p t m u at kind.IdName k y e = given (SuffixAt text g c p) _ _ y e (SuffixAt.optional_dot t u m (kind_there at k))
optional_by_sound {text} {g} {r} s c p t m u at kind.Private k y e =
    given (SuffixAt text g c p) _ _ y e (SuffixAt.optional_private t u m (kind_there at k))
optional_by_sound {text} {g} {r} s c p t m u at kind.Punctuator k y e =
    elim (chosen (is_mark text (codes "[") u) (optional_index text r c t u) (optional_args text r c t) _ e) [
      | when h f ↦ optional_index_sound s c p t u m (marked at h) y f
      | else h f ↦ let v = bind_some (read_args text r c t.end) _ _ f in
          given (SuffixAt text g c p) _ _ y v.2 (SuffixAt.optional_args t v.0.0 m (args_sound s c _ _ v.1))
    ]
optional_by_sound s c p t m u at _ k y e = absurd cc

call_suffix_sound : {text : Bytes} {g : Rules} {r : Readers} (s : AreSound text g r) (c : Context) (p : ℕ) (t : Token)
    → token text AtOperator p ≡ Some t → (y : Suffix × ℕ) → call_suffix text r c t ≡ Some y → SuffixAt text g c p y.0 y.1
unfolding call_suffix args_suffix read_optional
call_suffix_sound {text} {g} {r} s c p t at y e =
    elim (chosen (is_mark text (codes "(") t) (args_suffix text r c t) _ _ e) [
      | when h f ↦ let v = bind_some (args_behind text r c t) _ _ f in
          given (SuffixAt text g c p) _ _ y v.2 (SuffixAt.args v.0.0 (args_behind_sound s c p t (marked at h) _ v.1))
      | else h f ↦ elim (chosen (is_mark text (codes "?.") t) (read_optional text r c t) None _ f) [
        | when i k ↦ let u = bind_some (token text AtOperand t.end) _ _ k in
            optional_by_sound s c p t (marked at i) u.0 u.1 _ refl y u.2
        | else i k ↦ absurd cc
      ]
    ]

suffix_from_sound : {text : Bytes} {g : Rules} {r : Readers} (s : AreSound text g r) (c : Context) (p : ℕ) (t : Token)
    → token text AtOperator p ≡ Some t → (y : Suffix × ℕ) → suffix_from text r c t ≡ Some y → SuffixAt text g c p y.0 y.1
unfolding suffix_from
suffix_from_sound {text} {g} {r} s c p t at y e =
    elim (chosen (begins_call text t) (call_suffix text r c t) (member_suffix text r c t) _ e) [
      | when h f ↦ call_suffix_sound s c p t at y f
      | else h f ↦ (member_suffix_sound s c p t at y f).0
    ]

suffixes_turn_sound : {text : Bytes} {g : Rules} {r : Readers} (s : AreSound text g r) (c : Context) (p : ℕ) (u : Turn Suffix)
    → suffixes_turn text r c p ≡ Some u → Joins (Chain (SuffixAt text g c)) p u
unfolding suffixes_turn next_suffix
suffixes_turn_sound {text} {g} {r} s c p u e =
    let t = bind_some (token text AtOperator p) _ _ e in
    elim (chosen (begins_suffix text t.0) (next_suffix text r c t.0) (Some (ended p)) _ t.2) [
      | when h f ↦ let v = bind_some (suffix_from text r c t.0) _ _ f in
          subst (Joins (Chain (SuffixAt text g c)) p) (some_is _ _ v.2) (λ ys z k. Chain.more _ ys (suffix_from_sound s c p t.0 t.1 _ v.1) k)
      | else h f ↦ subst (Joins (Chain (SuffixAt text g c)) p) (some_is _ _ f) Chain.none
    ]

pub suffixes_sound : {text : Bytes} {g : Rules} {r : Readers} (s : AreSound text g r) (c : Context) (p : ℕ) (y : List Suffix × ℕ)
    → all_turns text (suffixes_turn text r c) p ≡ Some y → Chain (SuffixAt text g c) p y.0 y.1
suffixes_sound {text} {g} {r} s c p y e = turns_sound text (Chain (SuffixAt text g c)) _ (suffixes_turn_sound s c) p y e
