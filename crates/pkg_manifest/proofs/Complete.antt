-- A text of the grammar is read, and as the value that the grammar gives.
use Rattle.std.proofs.Common.{◌≡◌, ℕ, suc, ◌-◌, ◌≤◌, ◌<◌, true, false, List, [], ◌∷◌, length, Some, None, refl, sym, ap, ap₂, subst, ◌∙◌, arith}
use Rattle.std.proofs.lemmas.Bool.{or_right}
use Rattle.json.specs.Token as tokens
use Rattle.json.specs.Token.{Token}
use Rattle.json.specs.Word.{is_operator, is_space, ends_word}
use Rattle.json.specs.Lex.{begins_colon, lex, between, Place, fresh, after_value, after_comma, may_begin}
use Rattle.json.specs.Json as read
use Rattle.json.specs.Json.{parse_map, after_end_array, read_key, items, members, value}
use Rattle.json.proofs.Grammar.{left, value_is, read_key-shorter, items_end, items_more, members_end, members_more, skip_value-shorter}
use Rattle.pkg_manifest.specs.declared.value.Json.{Json}
use Rattle.pkg_manifest.specs.declared.value.Json.TheVariants as json
use Rattle.pkg_manifest.specs.declared.value.Member.{Member}
use Rattle.pkg_manifest.specs.Characters.{ByteAt, BlankAt, no_blank, blank}
use Rattle.pkg_manifest.specs.Members.{member, merged}
use Rattle.pkg_manifest.specs.Grammar as grammar
use Rattle.pkg_manifest.specs.Grammar.{NameAt, ValueAt, ElementAt, element, ItemsAt, last_item, item, MembersAt, last_member, more_members}
use Rattle.pkg_manifest.specs.Reading.{kept, kept_items, kept_members}
use Rattle.pkg_manifest.proofs.Lexing.{blank_lexed}
use Rattle.pkg_manifest.proofs.Words.{Ended}
use Rattle.pkg_manifest.proofs.Places.{from, close_bracket_lexed, close_brace_lexed, comma_lexed, end_lexed, array_from, object_from, string_from, number_from, null_from, true_from, false_from, key_from, end_array_from, end_object_from, comma_from, end_from}

-- ---- what may stand behind a value

record Follow (q : List ℕ) : Type 0 where
  ended : Ended q
  alone : begins_colon (lex between q) ≡ false

ended_before : (q a : List ℕ) → BlankAt q a → Ended a → Ended q
ended_before q a no_blank h = h
ended_before q a (blank c s e rest) h = ap ends_word e ∙ or_right (is_operator c) (is_space c) s

before_bracket : (q a r : List ℕ) → BlankAt q a → ByteAt 93 a r → Follow q
before_bracket q a r b e = record { ended = ended_before q a b (ap ends_word e); alone = ap begins_colon (blank_lexed q a b ∙ close_bracket_lexed a r e) }

before_brace : (q a r : List ℕ) → BlankAt q a → ByteAt 125 a r → Follow q
before_brace q a r b e = record { ended = ended_before q a b (ap ends_word e); alone = ap begins_colon (blank_lexed q a b ∙ close_brace_lexed a r e) }

before_comma : (q a r : List ℕ) → BlankAt q a → ByteAt 44 a r → Follow q
before_comma q a r b e = record { ended = ended_before q a b (ap ends_word e); alone = ap begins_colon (blank_lexed q a b ∙ comma_lexed a r e) }

before_end : (q : List ℕ) → BlankAt q [] → Follow q
before_end q b = record { ended = ended_before q [] b refl; alone = ap begins_colon (blank_lexed q [] b ∙ end_lexed) }

-- ---- what is read

record Made (n : ℕ) (place : Place) (p : List ℕ) (j : Json) (q : List ℕ) : Type 0 where
  found : read.Json
  read : value n (from place p) ≡ Some (found, from after_value q)
  same : kept found ≡ j

record MadeItems (n : ℕ) (place : Place) (p : List ℕ) (js : List Json) (q : List ℕ) : Type 0 where
  found : read.Items
  read : (m : ℕ) → length (from place p) ≤ m → items (value n) m (from place p) ≡ Some (found, from after_value q)
  same : kept_items found ≡ js

record MadeMembers (n : ℕ) (place : Place) (p : List ℕ) (ms : List (Member Json)) (q : List ℕ) : Type 0 where
  found : read.Members
  read : (m : ℕ) → length (from place p) ≤ m → members (value n) m (from place p) ≡ Some (found, from after_value q)
  same : kept_members found ≡ ms

-- a token that is a value on its own
single : (n : ℕ) (place : Place) (o q : List ℕ) (j : Json) (t : Token) (k : read.Json) → from place o ≡ t ∷ from after_value q → value n (t ∷ from after_value q) ≡ Some (k, from after_value q) → kept k ≡ j
    → Made n place o j q
single n place o q j t k e v s = record { found = k; read = ap (value n) e ∙ v; same = s }

nothing_closes : (n : ℕ) (ts : List Token) (x : read.Json × List Token) → value n ts ≡ Some x → after_end_array ts ≡ None
nothing_closes n [] x e = refl
nothing_closes n (tokens.begin_object ∷ ts) x e = refl
nothing_closes n (tokens.end_object ∷ ts) x e = refl
nothing_closes n (tokens.begin_array ∷ ts) x e = refl
nothing_closes n (tokens.end_array ∷ ts) x e = let none : None ≡ Some x = sym (value_is n (tokens.end_array ∷ ts)) ∙ e in absurd (cc)
nothing_closes n (tokens.key s ∷ ts) x e = refl
nothing_closes n (tokens.string s ∷ ts) x e = refl
nothing_closes n (tokens.number s ∷ ts) x e = refl
nothing_closes n (tokens.boolean b ∷ ts) x e = refl
nothing_closes n (tokens.null ∷ ts) x e = refl
nothing_closes n (tokens.bad ∷ ts) x e = refl

-- an item and what follows it
item_read : (n m : ℕ) (ts r : List Token) (k : read.Json) (ks : read.Items) (last : List Token) → length ts ≤ m → value n ts ≡ Some (k, r) → ((i : ℕ) → length r ≤ i → items (value n) i r ≡ Some (ks, last))
    → items (value n) m ts ≡ Some (read.item k ks, last)
item_read n m ts r k ks last le e more =
    let less : length r < length ts = skip_value-shorter n ts r (ap left e) in
    items_more (value n) m ts r k (omega arith) (nothing_closes n ts (k, r) e) e ∙ ap (parse_map (read.item k)) (more (m - 1) (omega arith))

member_read : (n m : ℕ) (ts us r : List Token) (s : List ℕ) (k : read.Json) (ks : read.Members) (last : List Token) → length ts ≤ m → read_key ts ≡ Some (Some s, us) → value n us ≡ Some (k, r)
    → ((i : ℕ) → length r ≤ i → members (value n) i r ≡ Some (ks, last)) → members (value n) m ts ≡ Some (read.member s k ks, last)
member_read n m ts us r s k ks last le key e more =
    let less : length r < length us = skip_value-shorter n us r (ap left e) in
    let lesser = read_key-shorter ts (Some s) us key in
    members_more (value n) m s ts us r k (omega arith) key e ∙ ap (parse_map (read.member s k)) (more (m - 1) (omega arith))

array_made : (n : ℕ) (place : Place) (o a q : List ℕ) (js : List Json) → from place o ≡ tokens.begin_array ∷ from fresh a → MadeItems n fresh a js q → Made (suc n) place o (json.List js) q
unfolding value
array_made n place o a q js e made = record {
  found = read.array made.found;
  read = ap (value (suc n)) e ∙ ap (parse_map read.array) (made.read (length (from fresh a)) (omega arith));
  same = ap json.List made.same;
}

object_made : (n : ℕ) (place : Place) (o a q : List ℕ) (ms : List (Member Json)) → from place o ≡ tokens.begin_object ∷ from fresh a → MadeMembers n fresh a ms q → Made (suc n) place o (json.Object (merged ms)) q
unfolding value
object_made n place o a q ms e made = record {
  found = read.object made.found;
  read = ap (value (suc n)) e ∙ ap (parse_map read.object) (made.read (length (from fresh a)) (omega arith));
  same = ap (λ l. json.Object (merged l)) made.same;
}

mutual
  value_made : (n : ℕ) (p : List ℕ) (j : Json) (q : List ℕ) → ValueAt n p j q → Follow q → (place : Place) → may_begin place ≡ true → (o : List ℕ) → BlankAt o p → Made n place o j q
  value_made n p j q (grammar.null e) after place m o b = single n place o q j tokens.null read.null (null_from place m o p b q e after.ended) (value_is n _) refl
  value_made n p j q (grammar.truth e) after place m o b = single n place o q j (tokens.boolean true) (read.boolean true) (true_from place m o p b q e after.ended) (value_is n _) refl
  value_made n p j q (grammar.falsehood e) after place m o b = single n place o q j (tokens.boolean false) (read.boolean false) (false_from place m o p b q e after.ended) (value_is n _) refl
  value_made n p j q (grammar.number x) after place m o b = let t = number_from place m o p b q x after.ended in single n place o q j (tokens.number t.0) (read.number t.0) t.1 (value_is n _) refl
  value_made n p j q (grammar.text {a = a} {s = s} e chars) after place m o b = single n place o q j (tokens.string s) (read.string s) (string_from place m o p b a s q e chars after.alone) (value_is n _) refl
  value_made n p j q (grammar.no_items {n = k} {a = a} {b = c} e f g) after place m o b =
      let closed = ap after_end_array (end_array_from fresh refl a c q f g) in
      array_made k place o a q [] (array_from place m o p b a e) (record { found = read.no_items; read = λ i le. items_end (value k) i (from fresh a) (from after_value q) le closed; same = refl })
  value_made n p j q (grammar.items {n = k} {a = a} {js = js} e more) after place m o b = array_made k place o a q js (array_from place m o p b a e) (items_made k a js q more fresh refl)
  value_made n p j q (grammar.no_members {n = k} {a = a} {b = c} e f g) after place m o b =
      let closed = ap read_key (end_object_from fresh refl a c q f g) in
      object_made k place o a q [] (object_from place m o p b a e) (record { found = read.no_members; read = λ i le. members_end (value k) i (from fresh a) (from after_value q) le closed; same = refl })
  value_made n p j q (grammar.members {n = k} {a = a} {ms = ms} e more) after place m o b = object_made k place o a q ms (object_from place m o p b a e) (members_made k a ms q more fresh refl)

  items_made : (n : ℕ) (p : List ℕ) (js : List Json) (q : List ℕ) → ItemsAt n p js q → (place : Place) → may_begin place ≡ true → MadeItems n place p js q
  items_made n p js q (last_item {a = c} {j = j} (element {a = a} {b = b} before v behind) e) place m =
      let made = value_made n a j b v (before_bracket b c q behind e) place m p before in
      let closed = ap after_end_array (end_array_from after_value refl b c q behind e) in
      record {
        found = read.item made.found read.no_items;
        read = λ i le. item_read n i (from place p) (from after_value b) made.found read.no_items (from after_value q) le made.read (λ k l. items_end (value n) k (from after_value b) (from after_value q) l closed);
        same = ap (λ x. x ∷ []) made.same;
      }
  items_made n p js q (item {a = c} {b = d} {j = j} {js = more} (element {a = a} {b = b} before v behind) e rest) place m =
      let made = value_made n a j b v (before_comma b c d behind e) place m p before in
      let others = items_made n d more q rest after_comma refl in
      let onward = comma_from b c d behind e in
      record {
        found = read.item made.found others.found;
        read = λ i le. item_read n i (from place p) (from after_value b) made.found others.found (from after_value q) le made.read
            (λ k l. ap (items (value n) k) onward ∙ others.read k (subst (λ ts. length ts ≤ k) onward l));
        same = ap₂ (λ x xs. x ∷ xs) made.same others.same;
      }

  members_made : (n : ℕ) (p : List ℕ) (ms : List (Member Json)) (q : List ℕ) → MembersAt n p ms q → (place : Place) → may_begin place ≡ true → MadeMembers n place p ms q
  members_made n p ms q (last_member {a = z} {b = c} {s = s} {j = j} named (element {a = a} {b = b} before v behind) e) place m =
      let made = value_made n a j b v (before_brace b c q behind e) fresh refl z before in
      let key = ap read_key (key_from place m p s z named) in
      let closed = ap read_key (end_object_from after_value refl b c q behind e) in
      record {
        found = read.member s made.found read.no_members;
        read = λ i le. member_read n i (from place p) (from fresh z) (from after_value b) s made.found read.no_members (from after_value q) le key made.read (λ k l. members_end (value n) k (from after_value b) (from after_value q) l closed);
        same = ap (λ x. member s x ∷ []) made.same;
      }
  members_made n p ms q (more_members {a = z} {b = c} {c = d} {s = s} {j = j} {ms = more} named (element {a = a} {b = b} before v behind) e rest) place m =
      let made = value_made n a j b v (before_comma b c d behind e) fresh refl z before in
      let key = ap read_key (key_from place m p s z named) in
      let others = members_made n d more q rest after_comma refl in
      let onward = comma_from b c d behind e in
      record {
        found = read.member s made.found others.found;
        read = λ i le. member_read n i (from place p) (from fresh z) (from after_value b) s made.found others.found (from after_value q) le key made.read
            (λ k l. ap (members (value n) k) onward ∙ others.read k (subst (λ ts. length ts ≤ k) onward l));
        same = ap₂ (λ x xs. member s x ∷ xs) made.same others.same;
      }

-- a whole text
pub text_made : (n : ℕ) (p : List ℕ) (j : Json) → ElementAt n p j [] → (k : read.Json) × (value n (from fresh p) ≡ Some (k, [])) × (kept k ≡ j)
text_made n p j (element {a = a} {b = b} before v behind) =
    let made = value_made n a j b v (before_end b behind) fresh refl p before in
    (made.found, made.read ∙ ap (λ ts. Some (made.found, ts)) (end_from b behind), made.same)
