-- Tokens that stand one behind the other, and those of lists.
use Rattle.std.proofs.Common.{◌≡◌, ℕ, List, [], ◌++◌, Option, sym, subst}
use Rattle.es_tree.specs.declared.tokens.Token.{Token}
use Rattle.es_tree.specs.declared.tokens.TokenKind.{TokenKind}
use Rattle.es_tree.specs.declared.tokens.Goal.{Goal}
use Rattle.es_tree.specs.declared.parts.Separated.{Separated}
use Rattle.es_tree.specs.declared.parts.Rest.{Rest}
use Rattle.es_tree.specs.Yield.{Tokens, one, opt, listed, separated_tokens, rest_tokens}
use Rattle.es_grammar.specs.declared.places.Context.{Context}
use Rattle.es_grammar.specs.Reading.{Bytes, KindAt, MarkAt, OneOfMarksAt, WordAt, OneOfWordsAt, NameAt}
use Rattle.es_grammar.specs.declared.places.Stop.{Stop}
use Rattle.es_grammar.specs.Semicolons.{SemiAt, FreeSemiAt}
use Rattle.es_grammar.specs.Lists.{Chain, SomeAt, ListAt, EachAt, EndedListAt, ElementsAt, EachElementAt}
use Rattle.es_grammar.specs.Functions.{RestAt}
use Rattle.es_grammar.specs.Tokens.{TokensAt}

infixl 20 ◌▹◌
-- one behind the other
pub ◌▹◌ : {text : Bytes} {p a q : ℕ} {xs ys : Tokens} → TokensAt text p xs a → TokensAt text a ys q → TokensAt text p (xs ++ ys) q
TokensAt.none ▹ rest = rest
TokensAt.more goal token tokens at behind ▹ rest = TokensAt.more goal token _ at (behind ▹ rest)

pub over : {text : Bytes} {p q : ℕ} {xs ys : Tokens} → xs ≡ ys → TokensAt text p ys q → TokensAt text p xs q
over {text} {p} {q} e h = subst (λ t. TokensAt text p t q) (sym e) h

pub nothing : {text : Bytes} {p : ℕ} → TokensAt text p [] p
nothing = TokensAt.none

-- one token

pub kind_at : {text : Bytes} {goal : Goal} {kind : TokenKind} {p : ℕ} {token : Token} → KindAt text goal kind p token → TokensAt text p (one token) token.end
kind_at {text} {goal} {kind} {p} {token} h = TokensAt.more goal token [] h.read TokensAt.none

pub mark_at : {text : Bytes} {goal : Goal} {mark : List ℕ} {p : ℕ} {token : Token} → MarkAt text goal mark p token → TokensAt text p (one token) token.end
mark_at h = kind_at h.is

pub one_mark_at : {text : Bytes} {goal : Goal} {marks : List (List ℕ)} {p : ℕ} {token : Token} → OneOfMarksAt text goal marks p token
    → TokensAt text p (one token) token.end
one_mark_at h = kind_at h.is

pub word_at : {text : Bytes} {goal : Goal} {word : List ℕ} {p : ℕ} {token : Token} → WordAt text goal word p token → TokensAt text p (one token) token.end
word_at h = kind_at h.is

pub one_word_at : {text : Bytes} {goal : Goal} {words : List (List ℕ)} {p : ℕ} {token : Token} → OneOfWordsAt text goal words p token
    → TokensAt text p (one token) token.end
one_word_at h = kind_at h.is

pub name_at : {text : Bytes} {goal : Goal} {c : Context} {p : ℕ} {token : Token} → NameAt text goal c p token → TokensAt text p (one token) token.end
name_at h = kind_at h.is

pub semi_stands : {text : Bytes} {s : Stop} {semi : Option Token} {q : ℕ} → SemiAt text s semi q → TokensAt text s.at (opt one semi) q
semi_stands (SemiAt.written token h) = mark_at h
semi_stands (SemiAt.left_out token h other fresh) = nothing

pub free_semi_stands : {text : Bytes} {p : ℕ} {semi : Option Token} {q : ℕ} → FreeSemiAt text p semi q → TokensAt text p (opt one semi) q
free_semi_stands (FreeSemiAt.written token h) = mark_at h
free_semi_stands (FreeSemiAt.left_out other) = nothing

-- lists, each part of which has its tokens

abbrev pub Stands : {X : Type 0} → Bytes → (X → Tokens) → (ℕ → X → ℕ → Type 0) → Type 0
Stands {X} text f a_part = (p : ℕ) (x : X) (q : ℕ) → a_part p x q → TokensAt text p (f x) q

abbrev pub EndedStands : {X : Type 0} → Bytes → (X → Tokens) → (ℕ → X → Stop → Type 0) → Type 0
EndedStands {X} text f a_part = (p : ℕ) (x : X) (s : Stop) → a_part p x s → TokensAt text p (f x) s.at

pub chain_stands : {X : Type 0} {text : Bytes} {a_part : ℕ → X → ℕ → Type 0} {p : ℕ} {xs : List X} {q : ℕ} (f : X → Tokens)
    → Chain a_part p xs q → Stands text f a_part → TokensAt text p (listed f xs) q
chain_stands f Chain.none part = nothing
chain_stands f (Chain.more x xs h rest) part = part _ x _ h ▹ chain_stands f rest part

pub some_stands : {X : Type 0} {text : Bytes} {a_part : ℕ → X → ℕ → Type 0} {p : ℕ} {xs : List (Separated X)} {q : ℕ} (f : X → Tokens)
    → SomeAt text a_part p xs q → Stands text f a_part → TokensAt text p (listed (separated_tokens f) xs) q
some_stands f (SomeAt.last x h) part = part _ x _ h ▹ nothing ▹ nothing
some_stands f (SomeAt.ended x comma h mark) part = part _ x _ h ▹ mark_at mark ▹ nothing
some_stands f (SomeAt.more x comma xs h mark rest) part = part _ x _ h ▹ mark_at mark ▹ some_stands f rest part

pub list_stands : {X : Type 0} {text : Bytes} {a_part : ℕ → X → ℕ → Type 0} {p : ℕ} {xs : List (Separated X)} {q : ℕ} (f : X → Tokens)
    → ListAt text a_part p xs q → Stands text f a_part → TokensAt text p (listed (separated_tokens f) xs) q
list_stands f ListAt.none part = nothing
list_stands f (ListAt.some xs h) part = some_stands f h part

pub each_stands : {X : Type 0} {text : Bytes} {a_part : ℕ → X → ℕ → Type 0} {p : ℕ} {xs : List (Separated X)} {q : ℕ} (f : X → Tokens)
    → EachAt text a_part p xs q → Stands text f a_part → TokensAt text p (listed (separated_tokens f) xs) q
each_stands f EachAt.none part = nothing
each_stands f (EachAt.more x comma xs h mark rest) part = part _ x _ h ▹ mark_at mark ▹ each_stands f rest part

pub ended_list_stands : {X : Type 0} {text : Bytes} {a_part : ℕ → X → Stop → Type 0} {p : ℕ} {xs : List (Separated X)} {s : Stop} (f : X → Tokens)
    → EndedListAt text a_part p xs s → EndedStands text f a_part → TokensAt text p (listed (separated_tokens f) xs) s.at
ended_list_stands f (EndedListAt.last x h) part = part _ x _ h ▹ nothing ▹ nothing
ended_list_stands f (EndedListAt.more x comma xs h mark rest) part = part _ x _ h ▹ mark_at mark ▹ ended_list_stands f rest part

pub elements_stand : {X : Type 0} {text : Bytes} {a_part : ℕ → X → ℕ → Type 0} {p : ℕ} {xs : List (Separated (Option X))} {q : ℕ} (f : X → Tokens)
    → ElementsAt text a_part p xs q → Stands text f a_part → TokensAt text p (listed (separated_tokens (opt f)) xs) q
elements_stand f ElementsAt.none part = nothing
elements_stand f (ElementsAt.hole comma xs mark rest) part = mark_at mark ▹ elements_stand f rest part
elements_stand f (ElementsAt.last x h) part = part _ x _ h ▹ nothing ▹ nothing
elements_stand f (ElementsAt.more x comma xs h mark rest) part = part _ x _ h ▹ mark_at mark ▹ elements_stand f rest part

pub each_element_stands : {X : Type 0} {text : Bytes} {a_part : ℕ → X → ℕ → Type 0} {p : ℕ} {xs : List (Separated (Option X))} {q : ℕ} (f : X → Tokens)
    → EachElementAt text a_part p xs q → Stands text f a_part → TokensAt text p (listed (separated_tokens (opt f)) xs) q
each_element_stands f EachElementAt.none part = nothing
each_element_stands f (EachElementAt.hole comma xs mark rest) part = mark_at mark ▹ each_element_stands f rest part
each_element_stands f (EachElementAt.more x comma xs h mark rest) part = part _ x _ h ▹ mark_at mark ▹ each_element_stands f rest part

pub rest_stands : {X : Type 0} {text : Bytes} {a_part : ℕ → X → ℕ → Type 0} {p : ℕ} {x : Rest X} {q : ℕ} (f : X → Tokens)
    → RestAt text a_part p x q → Stands text f a_part → TokensAt text p (rest_tokens f x) q
rest_stands f (RestAt.rest dots x mark h) part = mark_at mark ▹ part _ x _ h
