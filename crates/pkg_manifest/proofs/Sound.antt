-- What is read is a value that the grammar gives.
use Rattle.std.proofs.Common.{◌≡◌, ℕ, zero, suc, true, false, List, [], ◌∷◌, length, Option, Some, None, refl, sym, ap, subst, ◌∙◌}
use Rattle.std.proofs.lemmas.Bool.{false≢true}
use Rattle.json.specs.Token as tokens
use Rattle.json.specs.Token.{Token}
use Rattle.json.specs.Lex.{Place, fresh, after_value, after_comma, may_begin, may_close}
use Rattle.json.specs.Json as read
use Rattle.json.specs.Json.{Parse, parse_map, after_end_array, read_key, items_step, members_step, items, members, value}
use Rattle.json.proofs.Grammar.{value_is, items_fail, members_no_key, closed_array, read_key_is, key_token}
use Rattle.json.proofs.Found.{Some_inj, not_found}
use Rattle.pkg_manifest.specs.declared.value.Json.TheVariants as json
use Rattle.pkg_manifest.specs.Characters.{ByteAt, BlankAt}
use Rattle.pkg_manifest.specs.Members.{member, merged}
use Rattle.pkg_manifest.specs.Grammar as grammar
use Rattle.pkg_manifest.specs.Grammar.{NameAt, ValueAt, ElementAt, element, ItemsAt, last_item, item, MembersAt, last_member, more_members}
use Rattle.pkg_manifest.specs.Reading.{kept, kept_items, kept_members}
use Rattle.pkg_manifest.proofs.Lexing.{and_then_some}
use Rattle.pkg_manifest.proofs.Places.{from}
use Rattle.pkg_manifest.proofs.Views.{First, array, object, end_array, end_object, string, key, number, null, truth, falsehood, nothing, faulty, first, After, array_ends, object_ends, goes_on, text_ends, faulty_after, after}

record ValueFound (n : ℕ) (p : List ℕ) (k : read.Json) (ts : List Token) : Type 0 where
  start : List ℕ
  behind : List ℕ
  before : BlankAt p start
  stands : ValueAt n start (kept k) behind
  left : ts ≡ from after_value behind

abbrev ValueSound : ℕ → Type 0
ValueSound n = (place : Place) → may_begin place ≡ true → (p : List ℕ) (k : read.Json) (ts : List Token) → value n (from place p) ≡ Some (k, ts) → ValueFound n p k ts

pub some_pair : {A B : Type 0} (a c : A) (b d : B) → ◌≡◌ {A = Option (A × B)} (Some (a, b)) (Some (c, d)) → (a ≡ c) × (b ≡ d)
some_pair {A} {B} a c b d e =
    let x : A × B = (a, b) in
    let y : A × B = (c, d) in
    let same : x ≡ y = Some_inj x y e in
    (ap (λ z. z.0) same, ap (λ z. z.1) same)

pub parse_map_some : {A B : Type 0} (f : A → B) (r : Option (A × List Token)) (b : B) (ts : List Token) → parse_map f r ≡ Some (b, ts) → (a : A) × (r ≡ Some (a, ts)) × (f a ≡ b)
parse_map_some f None b ts e = absurd (cc)
parse_map_some f (Some (a, us)) b ts e = let same = some_pair (f a) b us ts e in (a, ap (λ u. Some (a, u)) same.1, same.0)

-- ---- items

data ItemsFound (n : ℕ) (place : Place) (p : List ℕ) (ks : read.Items) (ts : List Token) : Type 0 where
  at_once : (a z : List ℕ) → BlankAt p a → ByteAt 93 a z → may_close place ≡ true → ks ≡ read.no_items → ts ≡ from after_value z → ItemsFound n place p ks ts
  some_items : (z : List ℕ) → ItemsAt n p (kept_items ks) z → ts ≡ from after_value z → ItemsFound n place p ks ts

-- what follows an item
data MoreItems (n : ℕ) (p : List ℕ) (ks : read.Items) (ts : List Token) : Type 0 where
  closed : (a z : List ℕ) → BlankAt p a → ByteAt 93 a z → ks ≡ read.no_items → ts ≡ from after_value z → MoreItems n p ks ts
  more : (a b z : List ℕ) → BlankAt p a → ByteAt 44 a b → ItemsAt n b (kept_items ks) z → ts ≡ from after_value z → MoreItems n p ks ts

items_closed : (v : Parse read.Json) (m : ℕ) (r : List Token) (ks : read.Items) (ts : List Token) → items v m (tokens.end_array ∷ r) ≡ Some (ks, ts) → (ks ≡ read.no_items) × (ts ≡ r)
unfolding items
items_closed v zero r ks ts e = not_found (ks, ts) e
items_closed v (suc m) r ks ts e = let same = some_pair read.no_items ks r ts e in (sym same.0, sym same.1)

end_first : (place : Place) (p : List ℕ) (r : List Token) → from place p ≡ tokens.end_array ∷ r → First place p → (a : List ℕ) × (z : List ℕ) × BlankAt p a × ByteAt 93 a z × (may_close place ≡ true) × (r ≡ from after_value z)
end_first place p r e (array a q b f g) = absurd (cc)
end_first place p r e (object a q b f g) = absurd (cc)
end_first place p r e (end_array a q b f m g) = (a, q, b, f, m, cc)
end_first place p r e (end_object a q b f m g) = absurd (cc)
end_first place p r e (string a c s q b f x g) = absurd (cc)
end_first place p r e (key s q x g) = absurd (cc)
end_first place p r e (number a t q b x g) = absurd (cc)
end_first place p r e (null a q b x g) = absurd (cc)
end_first place p r e (truth a q b x g) = absurd (cc)
end_first place p r e (falsehood a q b x g) = absurd (cc)
end_first place p r e (nothing m g) = absurd (cc)
end_first place p r e (faulty g) = absurd (cc)

module _ (n : ℕ) (sound : ValueSound n) where
  abbrev ItemsSound : ℕ → Type 0
  ItemsSound m = (place : Place) → may_begin place ≡ true → (p : List ℕ) (ks : read.Items) (ts : List Token) → items (value n) m (from place p) ≡ Some (ks, ts) → ItemsFound n place p ks ts

  no_items_read : {P : Type 0} (m : ℕ) (us : List Token) (x : read.Items × List Token) → items (value n) m us ≡ Some x → after_end_array us ≡ None → value n us ≡ None → P
  no_items_read m us x e f g = let none : None ≡ Some x = sym (items_fail (value n) m us f g) ∙ e in absurd (cc)

  go_on : (z : List ℕ) (ks : read.Items) (ts : List Token) (p a : List ℕ) → BlankAt p a → ByteAt 44 a z → ItemsFound n after_comma z ks ts → MoreItems n p ks ts
  go_on z ks ts p a b f (at_once c d g h m k e) = absurd (false≢true m)
  go_on z ks ts p a b f (some_items d js e) = more a z d b f js e

  items_after : (m : ℕ) → ItemsSound m → (p : List ℕ) (ks : read.Items) (ts : List Token) → items (value n) m (from after_value p) ≡ Some (ks, ts) → After p → MoreItems n p ks ts
  items_after m next p ks ts e (array_ends a z b f g) = let c = items_closed (value n) m (from after_value z) ks ts (ap (items (value n) m) (sym g) ∙ e) in closed a z b f c.0 c.1
  items_after m next p ks ts e (object_ends a z b f g) =
      no_items_read m (tokens.end_object ∷ from after_value z) (ks, ts) (ap (items (value n) m) (sym g) ∙ e) refl (value_is n (tokens.end_object ∷ from after_value z))
  items_after m next p ks ts e (goes_on a z b f g) = go_on z ks ts p a b f (next after_comma refl z ks ts (ap (items (value n) m) (sym g) ∙ e))
  items_after m next p ks ts e (text_ends b g) = no_items_read m [] (ks, ts) (ap (items (value n) m) (sym g) ∙ e) refl (value_is n [])
  items_after m next p ks ts e (faulty_after g) = no_items_read m (tokens.bad ∷ []) (ks, ts) (ap (items (value n) m) (sym g) ∙ e) refl (value_is n (tokens.bad ∷ []))

  one_item : (place : Place) (p : List ℕ) (k : read.Json) (ks : read.Items) (ts : List Token) (a q : List ℕ) → BlankAt p a → ValueAt n a (kept k) q → MoreItems n q ks ts → ItemsFound n place p (read.item k ks) ts
  one_item place p k ks ts a q b v (closed c z d f none e) = some_items z (subst (λ xs. ItemsAt n p (kept k ∷ kept_items xs) z) (sym none) (last_item (element b v d) f)) e
  one_item place p k ks ts a q b v (more c d z f g js e) = some_items z (item (element b v f) g js) e

  items_sound : (m : ℕ) → ItemsSound m
  unfolding items
  items_sound zero place begins p ks ts e = not_found (ks, ts) e
  items_sound (suc m) place begins p ks ts e = by (items_sound m) (after_end_array (from place p)) refl e
    where
      by : ItemsSound m → (o : Option (List Token)) → after_end_array (from place p) ≡ o → items_step (value n) (items (value n) m) (from place p) o ≡ Some (ks, ts) → ItemsFound n place p ks ts
      by next (Some r) f g =
          let c = end_first place p r (closed_array (from place p) r f) (first place begins p) in
          let same = some_pair read.no_items ks r ts g in
          at_once c.0 c.1 c.2 c.3 c.4 (sym same.0) (sym same.1 ∙ c.5)
      by next None f g =
          let v = and_then_some (λ q. parse_map (read.item q.0) (items (value n) m q.1)) (value n (from place p)) (ks, ts) g in
          let found = sound place begins p v.0.0 v.0.1 v.1 in
          let w = parse_map_some (read.item v.0.0) (items (value n) m v.0.1) ks ts v.2 in
          let others = items_after m next found.behind w.0 ts (ap (items (value n) m) (sym found.left) ∙ w.1) (after found.behind) in
          subst (λ xs. ItemsFound n place p xs ts) w.2 (one_item place p v.0.0 w.0 ts found.start found.behind found.before found.stands others)

-- ---- members

data MembersFound (n : ℕ) (place : Place) (p : List ℕ) (ks : read.Members) (ts : List Token) : Type 0 where
  empty : (a z : List ℕ) → BlankAt p a → ByteAt 125 a z → may_close place ≡ true → ks ≡ read.no_members → ts ≡ from after_value z → MembersFound n place p ks ts
  some_members : (z : List ℕ) → MembersAt n p (kept_members ks) z → ts ≡ from after_value z → MembersFound n place p ks ts

data MoreMembers (n : ℕ) (p : List ℕ) (ks : read.Members) (ts : List Token) : Type 0 where
  braced : (a z : List ℕ) → BlankAt p a → ByteAt 125 a z → ks ≡ read.no_members → ts ≡ from after_value z → MoreMembers n p ks ts
  others : (a b z : List ℕ) → BlankAt p a → ByteAt 44 a b → MembersAt n b (kept_members ks) z → ts ≡ from after_value z → MoreMembers n p ks ts

members_closed : (v : Parse read.Json) (m : ℕ) (r : List Token) (ks : read.Members) (ts : List Token) → members v m (tokens.end_object ∷ r) ≡ Some (ks, ts) → (ks ≡ read.no_members) × (ts ≡ r)
unfolding members
members_closed v zero r ks ts e = not_found (ks, ts) e
members_closed v (suc m) r ks ts e = let same = some_pair read.no_members ks r ts e in (sym same.0, sym same.1)

brace_first : (place : Place) (p : List ℕ) (r : List Token) → from place p ≡ tokens.end_object ∷ r → First place p → (a : List ℕ) × (z : List ℕ) × BlankAt p a × ByteAt 125 a z × (may_close place ≡ true) × (r ≡ from after_value z)
brace_first place p r e (array a q b f g) = absurd (cc)
brace_first place p r e (object a q b f g) = absurd (cc)
brace_first place p r e (end_array a q b f m g) = absurd (cc)
brace_first place p r e (end_object a q b f m g) = (a, q, b, f, m, cc)
brace_first place p r e (string a c s q b f x g) = absurd (cc)
brace_first place p r e (key s q x g) = absurd (cc)
brace_first place p r e (number a t q b x g) = absurd (cc)
brace_first place p r e (null a q b x g) = absurd (cc)
brace_first place p r e (truth a q b x g) = absurd (cc)
brace_first place p r e (falsehood a q b x g) = absurd (cc)
brace_first place p r e (nothing m g) = absurd (cc)
brace_first place p r e (faulty g) = absurd (cc)

name_first : (place : Place) (p s : List ℕ) (r : List Token) → from place p ≡ tokens.key s ∷ r → First place p → (z : List ℕ) × NameAt p s z × (r ≡ from fresh z)
name_first place p s r e (array a q b f g) = absurd (cc)
name_first place p s r e (object a q b f g) = absurd (cc)
name_first place p s r e (end_array a q b f m g) = absurd (cc)
name_first place p s r e (end_object a q b f m g) = absurd (cc)
name_first place p s r e (string a c t q b f x g) = absurd (cc)
name_first place p s r e (key t q x g) = let same : t ≡ s = cc in (q, subst (λ u. NameAt p u q) same x, cc)
name_first place p s r e (number a t q b x g) = absurd (cc)
name_first place p s r e (null a q b x g) = absurd (cc)
name_first place p s r e (truth a q b x g) = absurd (cc)
name_first place p s r e (falsehood a q b x g) = absurd (cc)
name_first place p s r e (nothing m g) = absurd (cc)
name_first place p s r e (faulty g) = absurd (cc)

module _ (n : ℕ) (sound : ValueSound n) where
  abbrev MembersSound : ℕ → Type 0
  MembersSound m = (place : Place) → may_begin place ≡ true → (p : List ℕ) (ks : read.Members) (ts : List Token) → members (value n) m (from place p) ≡ Some (ks, ts) → MembersFound n place p ks ts

  no_members_read : {P : Type 0} (m : ℕ) (us : List Token) (x : read.Members × List Token) → members (value n) m us ≡ Some x → read_key us ≡ None → P
  no_members_read m us x e f = let none : None ≡ Some x = sym (members_no_key (value n) m us f) ∙ e in absurd (cc)

  go_on_members : (z : List ℕ) (ks : read.Members) (ts : List Token) (p a : List ℕ) → BlankAt p a → ByteAt 44 a z → MembersFound n after_comma z ks ts → MoreMembers n p ks ts
  go_on_members z ks ts p a b f (empty c d g h m k e) = absurd (false≢true m)
  go_on_members z ks ts p a b f (some_members d ms e) = others a z d b f ms e

  members_after : (m : ℕ) → MembersSound m → (p : List ℕ) (ks : read.Members) (ts : List Token) → members (value n) m (from after_value p) ≡ Some (ks, ts) → After p → MoreMembers n p ks ts
  members_after m next p ks ts e (array_ends a z b f g) = no_members_read m (tokens.end_array ∷ from after_value z) (ks, ts) (ap (members (value n) m) (sym g) ∙ e) refl
  members_after m next p ks ts e (object_ends a z b f g) = let c = members_closed (value n) m (from after_value z) ks ts (ap (members (value n) m) (sym g) ∙ e) in braced a z b f c.0 c.1
  members_after m next p ks ts e (goes_on a z b f g) = go_on_members z ks ts p a b f (next after_comma refl z ks ts (ap (members (value n) m) (sym g) ∙ e))
  members_after m next p ks ts e (text_ends b g) = no_members_read m [] (ks, ts) (ap (members (value n) m) (sym g) ∙ e) refl
  members_after m next p ks ts e (faulty_after g) = no_members_read m (tokens.bad ∷ []) (ks, ts) (ap (members (value n) m) (sym g) ∙ e) refl

  one_member : (place : Place) (p s w : List ℕ) (k : read.Json) (ks : read.Members) (ts : List Token) (a q : List ℕ) → NameAt p s w → BlankAt w a → ValueAt n a (kept k) q → MoreMembers n q ks ts → MembersFound n place p (read.member s k ks) ts
  one_member place p s w k ks ts a q named b v (braced c z d f none e) =
      some_members z (subst (λ xs. MembersAt n p (member s (kept k) ∷ kept_members xs) z) (sym none) (last_member named (element b v d) f)) e
  one_member place p s w k ks ts a q named b v (others c d z f g ms e) = some_members z (more_members named (element b v f) g ms) e

  members_sound : (m : ℕ) → MembersSound m
  unfolding members
  members_sound zero place begins p ks ts e = not_found (ks, ts) e
  members_sound (suc m) place begins p ks ts e =
      let o = and_then_some (λ q. members_step (value n) (members (value n) m) q.0 q.1) (read_key (from place p)) (ks, ts) e in
      by (members_sound m) o.0.0 o.0.1 (read_key_is (from place p) o.0.0 o.0.1 o.1) o.2
    where
      by : MembersSound m → (o : Option (List ℕ)) (r : List Token) → from place p ≡ key_token o ∷ r → members_step (value n) (members (value n) m) o r ≡ Some (ks, ts) → MembersFound n place p ks ts
      by next None r f g =
          let c = brace_first place p r f (first place begins p) in
          let same = some_pair read.no_members ks r ts g in
          empty c.0 c.1 c.2 c.3 c.4 (sym same.0) (sym same.1 ∙ c.5)
      by next (Some s) r f g =
          let named = name_first place p s r f (first place begins p) in
          let v = and_then_some (λ q. parse_map (read.member s q.0) (members (value n) m q.1)) (value n r) (ks, ts) g in
          let found = sound fresh refl named.0 v.0.0 v.0.1 (ap (value n) (sym named.2) ∙ v.1) in
          let w = parse_map_some (read.member s v.0.0) (members (value n) m v.0.1) ks ts v.2 in
          let rest = members_after m next found.behind w.0 ts (ap (members (value n) m) (sym found.left) ∙ w.1) (after found.behind) in
          subst (λ xs. MembersFound n place p xs ts) w.2 (one_member place p s named.0 v.0.0 w.0 ts found.start found.behind named.1 found.before found.stands rest)

-- ---- values

array_found : (n : ℕ) (p a q : List ℕ) (ks : read.Items) (ts : List Token) → BlankAt p a → ByteAt 91 a q → ItemsFound n fresh q ks ts → ValueFound (suc n) p (read.array ks) ts
array_found n p a q ks ts b e (at_once c z f g m none r) = record { start = a; behind = z; before = b; stands = subst (λ xs. ValueAt (suc n) a (json.List (kept_items xs)) z) (sym none) (grammar.no_items e f g); left = r }
array_found n p a q ks ts b e (some_items z js r) = record { start = a; behind = z; before = b; stands = grammar.items e js; left = r }

object_found : (n : ℕ) (p a q : List ℕ) (ks : read.Members) (ts : List Token) → BlankAt p a → ByteAt 123 a q → MembersFound n fresh q ks ts → ValueFound (suc n) p (read.object ks) ts
object_found n p a q ks ts b e (empty c z f g m none r) = record { start = a; behind = z; before = b; stands = subst (λ xs. ValueAt (suc n) a (json.Object (merged (kept_members xs))) z) (sym none) (grammar.no_members e f g); left = r }
object_found n p a q ks ts b e (some_members z ms r) = record { start = a; behind = z; before = b; stands = grammar.members e ms; left = r }

-- a value that opens nothing
leaf_found : (n : ℕ) (p a q : List ℕ) (k : read.Json) (ts : List Token) (t : Token) (u : read.Json) → BlankAt p a → ValueAt n a (kept u) q → value n (t ∷ from after_value q) ≡ Some (u, from after_value q)
    → value n (t ∷ from after_value q) ≡ Some (k, ts) → ValueFound n p k ts
leaf_found n p a q k ts t u b v e f =
    let same = some_pair u k (from after_value q) ts (sym e ∙ f) in
    record { start = a; behind = q; before = b; stands = subst (λ x. ValueAt n a (kept x) q) same.0 v; left = sym same.1 }

nothing_read : {P : Type 0} (n : ℕ) (us : List Token) (x : read.Json × List Token) → value n us ≡ None → value n us ≡ Some x → P
nothing_read n us x e f = let none : None ≡ Some x = sym e ∙ f in absurd (cc)

array_sound : (n : ℕ) → ValueSound n → (p a q : List ℕ) (k : read.Json) (ts : List Token) → BlankAt p a → ByteAt 91 a q → value (suc n) (tokens.begin_array ∷ from fresh q) ≡ Some (k, ts) → ValueFound (suc n) p k ts
unfolding value
array_sound n sound p a q k ts b e f =
    let w = parse_map_some read.array (items (value n) (length (from fresh q)) (from fresh q)) k ts f in
    subst (λ x. ValueFound (suc n) p x ts) w.2 (array_found n p a q w.0 ts b e (items_sound n sound (length (from fresh q)) fresh refl q w.0 ts w.1))

object_sound : (n : ℕ) → ValueSound n → (p a q : List ℕ) (k : read.Json) (ts : List Token) → BlankAt p a → ByteAt 123 a q → value (suc n) (tokens.begin_object ∷ from fresh q) ≡ Some (k, ts) → ValueFound (suc n) p k ts
unfolding value
object_sound n sound p a q k ts b e f =
    let w = parse_map_some read.object (members (value n) (length (from fresh q)) (from fresh q)) k ts f in
    subst (λ x. ValueFound (suc n) p x ts) w.2 (object_found n p a q w.0 ts b e (members_sound n sound (length (from fresh q)) fresh refl q w.0 ts w.1))

-- at a bracket the nest decides
abbrev Opens : ℕ → Type 0
Opens n =
    ((p a q : List ℕ) (k : read.Json) (ts : List Token) → BlankAt p a → ByteAt 91 a q → value n (tokens.begin_array ∷ from fresh q) ≡ Some (k, ts) → ValueFound n p k ts)
    × ((p a q : List ℕ) (k : read.Json) (ts : List Token) → BlankAt p a → ByteAt 123 a q → value n (tokens.begin_object ∷ from fresh q) ≡ Some (k, ts) → ValueFound n p k ts)

value_by : (n : ℕ) → Opens n → (place : Place) (p : List ℕ) (k : read.Json) (ts : List Token) → value n (from place p) ≡ Some (k, ts) → First place p → ValueFound n p k ts
value_by n opens place p k ts e (array a q b f g) = opens.0 p a q k ts b f (ap (value n) (sym g) ∙ e)
value_by n opens place p k ts e (object a q b f g) = opens.1 p a q k ts b f (ap (value n) (sym g) ∙ e)
value_by n opens place p k ts e (end_array a q b f m g) = nothing_read n _ (k, ts) (ap (value n) g ∙ value_is n (tokens.end_array ∷ from after_value q)) e
value_by n opens place p k ts e (end_object a q b f m g) = nothing_read n _ (k, ts) (ap (value n) g ∙ value_is n (tokens.end_object ∷ from after_value q)) e
value_by n opens place p k ts e (string a c s q b f x g) = leaf_found n p a q k ts (tokens.string s) (read.string s) b (grammar.text f x) (value_is n _) (ap (value n) (sym g) ∙ e)
value_by n opens place p k ts e (key s q x g) = nothing_read n _ (k, ts) (ap (value n) g ∙ value_is n (tokens.key s ∷ from fresh q)) e
value_by n opens place p k ts e (number a t q b x g) = leaf_found n p a q k ts (tokens.number t) (read.number t) b (grammar.number x) (value_is n _) (ap (value n) (sym g) ∙ e)
value_by n opens place p k ts e (null a q b x g) = leaf_found n p a q k ts tokens.null read.null b (grammar.null x) (value_is n _) (ap (value n) (sym g) ∙ e)
value_by n opens place p k ts e (truth a q b x g) = leaf_found n p a q k ts (tokens.boolean true) (read.boolean true) b (grammar.truth x) (value_is n _) (ap (value n) (sym g) ∙ e)
value_by n opens place p k ts e (falsehood a q b x g) = leaf_found n p a q k ts (tokens.boolean false) (read.boolean false) b (grammar.falsehood x) (value_is n _) (ap (value n) (sym g) ∙ e)
value_by n opens place p k ts e (nothing m g) = nothing_read n _ (k, ts) (ap (value n) g ∙ value_is n []) e
value_by n opens place p k ts e (faulty g) = nothing_read n _ (k, ts) (ap (value n) g ∙ value_is n (tokens.bad ∷ [])) e

opens_nothing : Opens 0
unfolding value
opens_nothing = (λ p a q k ts b e f. nothing_read 0 (tokens.begin_array ∷ from fresh q) (k, ts) refl f, λ p a q k ts b e f. nothing_read 0 (tokens.begin_object ∷ from fresh q) (k, ts) refl f)

value_sound : (n : ℕ) → ValueSound n
value_sound zero place m p k ts e = value_by 0 opens_nothing place p k ts e (first place m p)
value_sound (suc n) place m p k ts e =
    value_by (suc n) (λ q a r j us. array_sound n (value_sound n) q a r j us, λ q a r j us. object_sound n (value_sound n) q a r j us) place p k ts e (first place m p)

-- ---- a whole text

after_comma_some : (p : List ℕ) → from after_comma p ≡ [] → First after_comma p → ⊥
after_comma_some p e (array a q b f g) = absurd (cc)
after_comma_some p e (object a q b f g) = absurd (cc)
after_comma_some p e (end_array a q b f m g) = absurd (cc)
after_comma_some p e (end_object a q b f m g) = absurd (cc)
after_comma_some p e (string a c s q b f x g) = absurd (cc)
after_comma_some p e (key s q x g) = absurd (cc)
after_comma_some p e (number a t q b x g) = absurd (cc)
after_comma_some p e (null a q b x g) = absurd (cc)
after_comma_some p e (truth a q b x g) = absurd (cc)
after_comma_some p e (falsehood a q b x g) = absurd (cc)
after_comma_some p e (nothing m g) = false≢true m
after_comma_some p e (faulty g) = absurd (cc)

ended_after : (q : List ℕ) → [] ≡ from after_value q → After q → BlankAt q []
ended_after q e (array_ends a z b f g) = absurd (cc)
ended_after q e (object_ends a z b f g) = absurd (cc)
ended_after q e (goes_on a z b f g) = absurd (after_comma_some z (sym (e ∙ g)) (first after_comma refl z))
ended_after q e (text_ends b g) = b
ended_after q e (faulty_after g) = absurd (cc)

pub text_found : (n : ℕ) (p : List ℕ) (k : read.Json) → value n (from fresh p) ≡ Some (k, []) → ElementAt n p (kept k) []
text_found n p k e =
    let found = value_sound n fresh refl p k [] e in
    element found.before found.stands (ended_after found.behind found.left (after found.behind))
