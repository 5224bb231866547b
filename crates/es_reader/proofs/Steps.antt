-- Steps that succeed, and the tokens that they take.
use Rattle.std.proofs.Common.{◌≡◌, ℕ, Bool, true, false, cond, not, ◌&&◌, ◌||◌, List, Option, Some, None, Result, Ok, Err, refl, sym, ap, subst, ◌∙◌}
use Rattle.std.specs.List.{list_any}
use Rattle.std.specs.Str.{bytes_eq}
use Rattle.std.proofs.lemmas.Slice.Eq.{bytes_eq-Decides}
use Rattle.es_tree.specs.declared.tokens.Token.{Token}
use Rattle.es_tree.specs.declared.tokens.TokenKind.{TokenKind}
use Rattle.es_tree.specs.declared.tokens.TokenKind.TheVariants as kind
use Rattle.es_tree.specs.declared.tokens.LexFault.{LexFault}
use Rattle.es_tree.specs.declared.tokens.Goal.{Goal}
use Rattle.es_grammar.specs.declared.places.Context.{Context}
use Rattle.es_grammar.specs.Reading.{Bytes, IsAt, KindAt, MarkAt, NameAt, OneOfMarksAt, OneOfWordsAt, WordAt, spelled}
use Rattle.es_reader.specs.Basics.{◌>>=◌, answer, token, is_punctuator, is_id_name, is_mark, is_one_mark, is_word, is_one_word, is_name, take_if, mark, word, name}
use Rattle.es_reader.specs.Semis.{holds}

pub bind_some : {A B : Type 0} (r : Option A) (f : A → Option B) (y : B) → (r >>= f) ≡ Some y → (x : A) × (r ≡ Some x) × (f x ≡ Some y)
bind_some (Some x) f y e = (x, refl, e)
bind_some None f y e = absurd cc

-- which way a test went
pub data Chosen {A : Type 0} (b : Bool) (x y z : A) : Type 0 where
  when : b ≡ true → x ≡ z → Chosen b x y z
  else : b ≡ false → y ≡ z → Chosen b x y z

pub chosen : {A : Type 0} (b : Bool) (x y z : A) → cond b x y ≡ z → Chosen b x y z
chosen true x y z e = when refl e
chosen false x y z e = else refl e

abbrev pub just : {A : Type 0} → A → Option A
just x = Some x

pub some_is : {A : Type 0} (x y : A) → just x ≡ just y → x ≡ y
some_is x y e = cc

-- what was answered is of a rule
pub given : {X E : Type 0} (rule : X → E → Type 0) (x : X) (q : E) (y : X × E) → just (x, q) ≡ just y → rule x q → rule y.0 y.1
given rule x q y e h = subst (λ (z : _ × _). rule z.0 z.1) (some_is _ _ e) h

pub both : (a b : Bool) → a && b ≡ true → (a ≡ true) × (b ≡ true)
both true b e = (refl, e)
both false b e = absurd cc

pub neither : (a b : Bool) → a || b ≡ false → (a ≡ false) × (b ≡ false)
neither true b e = absurd cc
neither false b e = (refl, e)

pub data OneOf (a b : Bool) : Type 0 where
  first : a ≡ true → OneOf a b
  second : b ≡ true → OneOf a b

pub one_of : (a b : Bool) → a || b ≡ true → OneOf a b
one_of true b e = first refl
one_of false b e = second e

pub is_false : (a : Bool) → not a ≡ true → a ≡ false
is_false true e = absurd cc
is_false false e = refl

pub is_true : (a : Bool) → not a ≡ false → a ≡ true
is_true true e = refl
is_true false e = absurd cc

answer_is : (r : Result Token LexFault) (t : Token) → answer r ≡ Some t → r ≡ Ok t
answer_is (Ok u) t e = cc
answer_is (Err f) t e = absurd cc

pub read_there : (text : Bytes) (goal : Goal) (p : ℕ) (t : Token) → token text goal p ≡ Some t → IsAt text goal p t
unfolding token
read_there text goal p t e = answer_is _ _ e

pub there_read : (text : Bytes) (goal : Goal) (p : ℕ) (t : Token) → IsAt text goal p t → token text goal p ≡ Some t
unfolding token
there_read text goal p t e = ap answer e

pub kind_there : {text : Bytes} {goal : Goal} {p : ℕ} {t : Token} {k : TokenKind} → token text goal p ≡ Some t → t.kind ≡ k → KindAt text goal k p t
kind_there e k = record { read = read_there _ _ _ _ e; kind_is = k }

pub punctuator_is : (k : TokenKind) → is_punctuator k ≡ true → k ≡ kind.Punctuator
punctuator_is kind.Punctuator e = refl
punctuator_is _ e = absurd cc

pub id_name_is : (k : TokenKind) → is_id_name k ≡ true → k ≡ kind.IdName
id_name_is kind.IdName e = refl
id_name_is _ e = absurd cc

pub marked : {text : Bytes} {goal : Goal} {m : List ℕ} {p : ℕ} {t : Token} → token text goal p ≡ Some t → is_mark text m t ≡ true → MarkAt text goal m p t
unfolding is_mark
marked e h = let b = both _ _ h in record { is = kind_there e (punctuator_is _ b.0); spelled_as = (bytes_eq-Decides _ _).0 b.1 }

pub worded : {text : Bytes} {goal : Goal} {w : List ℕ} {p : ℕ} {t : Token} → token text goal p ≡ Some t → is_word text w t ≡ true → WordAt text goal w p t
unfolding is_word
worded e h = let b = both _ _ h in record { is = kind_there e (id_name_is _ b.0); spelled_as = (bytes_eq-Decides _ _).0 b.1 }

pub one_marked : {text : Bytes} {goal : Goal} {ms : List (List ℕ)} {p : ℕ} {t : Token} → token text goal p ≡ Some t → is_one_mark text ms t ≡ true
    → OneOfMarksAt text goal ms p t
unfolding is_one_mark
one_marked e h = let b = both _ _ h in record { is = kind_there e (punctuator_is _ b.0); among = b.1 }

pub one_worded : {text : Bytes} {goal : Goal} {ws : List (List ℕ)} {p : ℕ} {t : Token} → token text goal p ≡ Some t → is_one_word text ws t ≡ true
    → OneOfWordsAt text goal ws p t
unfolding is_one_word
one_worded e h = let b = both _ _ h in record { is = kind_there e (id_name_is _ b.0); among = b.1 }

pub named : {text : Bytes} {goal : Goal} {c : Context} {p : ℕ} {t : Token} → token text goal p ≡ Some t → is_name text c t ≡ true → NameAt text goal c p t
unfolding is_name
named e h = let b = both _ _ h in record { is = kind_there e (id_name_is _ b.0); free = is_false _ b.1 }

-- a token that was asked for
pub taken_if : (o : Option Token) (test : Token → Bool) (t : Token) → (o >>= take_if test) ≡ Some t → (o ≡ Some t) × (test t ≡ true)
taken_if None test t e = absurd cc
taken_if (Some u) test t e = elim (chosen (test u) (just u) None (just t) e) [
  | when h f ↦ let same = some_is _ _ f in (ap just same, ap test (sym same) ∙ h)
  | else h f ↦ absurd cc
]

pub mark_there : {text : Bytes} {goal : Goal} {m : List ℕ} {p : ℕ} {t : Token} → mark text goal m p ≡ Some t → MarkAt text goal m p t
unfolding mark
mark_there e = let x = taken_if _ _ _ e in marked x.0 x.1

pub word_there : {text : Bytes} {goal : Goal} {w : List ℕ} {p : ℕ} {t : Token} → word text goal w p ≡ Some t → WordAt text goal w p t
unfolding word
word_there e = let x = taken_if _ _ _ e in worded x.0 x.1

pub name_there : {text : Bytes} {goal : Goal} {c : Context} {p : ℕ} {t : Token} → name text goal c p ≡ Some t → NameAt text goal c p t
unfolding name
name_there e = let x = taken_if _ _ _ e in named x.0 x.1

-- what a grammar's token says of the tests
pub mark_tells : {text : Bytes} {goal : Goal} {m : List ℕ} {p : ℕ} {t : Token} → MarkAt text goal m p t → is_mark text m t ≡ true
unfolding is_mark
mark_tells {text} {goal} {m} {p} {t} h = rw (h.is.kind_is, (bytes_eq-Decides (spelled text t) m).1 h.spelled_as) refl

pub word_tells : {text : Bytes} {goal : Goal} {w : List ℕ} {p : ℕ} {t : Token} → WordAt text goal w p t → is_word text w t ≡ true
unfolding is_word
word_tells {text} {goal} {w} {p} {t} h = rw (h.is.kind_is, (bytes_eq-Decides (spelled text t) w).1 h.spelled_as) refl

pub same_token : (text : Bytes) (goal : Goal) (p : ℕ) (t u : Token) → token text goal p ≡ Some t → IsAt text goal p u → u ≡ t
same_token text goal p t u e h = some_is _ _ (sym (there_read text goal p u h) ∙ e)

pub not_both : (b : Bool) → b ≡ true → b ≡ false → ⊥
not_both true e f = absurd cc
not_both false e f = absurd cc

-- no such token stands there
pub no_mark : {text : Bytes} {goal : Goal} {m : List ℕ} {p : ℕ} {t : Token} → token text goal p ≡ Some t → is_mark text m t ≡ false
    → (u : Token) → MarkAt text goal m p u → ⊥
no_mark {text} {goal} {m} {p} {t} e h u k = not_both (is_mark text m t) (subst (λ z. is_mark text m z ≡ true) (same_token text goal p t u e k.is.read) (mark_tells k)) h

pub no_word : {text : Bytes} {goal : Goal} {w : List ℕ} {p : ℕ} {t : Token} → token text goal p ≡ Some t → is_word text w t ≡ false
    → (u : Token) → WordAt text goal w p u → ⊥
no_word {text} {goal} {w} {p} {t} e h u k = not_both (is_word text w t) (subst (λ z. is_word text w z ≡ true) (same_token text goal p t u e k.is.read) (word_tells k)) h

-- none of some words stands there
pub no_word_of : {text : Bytes} {goal : Goal} (ws : List (List ℕ)) {p : ℕ} {t : Token} → token text goal p ≡ Some t → is_one_word text ws t ≡ false
    → (w : List ℕ) → list_any (bytes_eq w) ws ≡ true → (u : Token) → WordAt text goal w p u → ⊥
unfolding is_one_word
no_word_of {text} {goal} ws {p} {t} e h w among u k =
    let is : is_id_name u.kind && list_any (bytes_eq (spelled text u)) ws ≡ true = rw (k.is.kind_is, k.spelled_as, among) refl in
    not_both (is_one_word text ws t) (subst (λ z. is_one_word text ws z ≡ true) (same_token text goal p t u e k.is.read) is) h

none_some : (o : Option Token) (t : Token) → o ≡ None → o ≡ Some t → ⊥
none_some None t e f = absurd cc
none_some (Some u) t e f = absurd cc

-- nothing stands where no token is read
pub nothing_there : (text : Bytes) (goal : Goal) (p : ℕ) → token text goal p ≡ None → (u : Token) → IsAt text goal p u → ⊥
nothing_there text goal p e u h = none_some _ _ e (there_read text goal p u h)

-- what a test of a token that may not be there says
pub held : (test : Token → Bool) (o : Option Token) → holds test o ≡ true → (t : Token) × (o ≡ Some t) × (test t ≡ true)
held test None e = absurd cc
held test (Some t) e = (t, refl, e)
