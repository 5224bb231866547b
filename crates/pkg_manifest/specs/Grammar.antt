-- Which value a text stands for, by the grammar of RFC 8259.
use Rattle.std.specs.Prelude.{ℕ, suc, true, false, List, [], ◌∷◌, drop, if◌then◌else◌, nat_eq}
use Rattle.std.specs.List.{starts_with}
use Rattle.std.specs.Str.{IsUtf8}
use Rattle.json.specs.Ascii.{null_text, true_text, false_text}
use Rattle.pkg_manifest.specs.declared.value.Json.{Json}
use Rattle.pkg_manifest.specs.declared.value.Json.TheVariants as json
use Rattle.pkg_manifest.specs.declared.value.Member.{Member}
use Rattle.pkg_manifest.specs.Characters.{ByteAt, WordAt, BlankAt, CharsAt}
use Rattle.pkg_manifest.specs.Numbers.{NumberAt}
use Rattle.pkg_manifest.specs.Members.{member, merged}

-- a name and its colon, with white space around both
pub data NameAt : List ℕ → List ℕ → List ℕ → Type 0 where
  name : {p a b c d q s : List ℕ} → BlankAt p a → ByteAt 34 a b → CharsAt b s c → BlankAt c d → ByteAt 58 d q → NameAt p s q

-- The number bounds the nest: how many arrays and objects stand within one another.
mutual
  pub data ValueAt : ℕ → List ℕ → Json → List ℕ → Type 0 where
    null : {n : ℕ} {p q : List ℕ} → WordAt null_text p q → ValueAt n p json.Null q
    truth : {n : ℕ} {p q : List ℕ} → WordAt true_text p q → ValueAt n p (json.Bool true) q
    falsehood : {n : ℕ} {p q : List ℕ} → WordAt false_text p q → ValueAt n p (json.Bool false) q
    number : {n : ℕ} {p q : List ℕ} → NumberAt p q → ValueAt n p json.Number q
    text : {n : ℕ} {p a s q : List ℕ} → ByteAt 34 p a → CharsAt a s q → ValueAt n p (json.Text s) q
    no_items : {n : ℕ} {p a b q : List ℕ} → ByteAt 91 p a → BlankAt a b → ByteAt 93 b q → ValueAt (suc n) p (json.List []) q
    items : {n : ℕ} {p a q : List ℕ} {js : List Json} → ByteAt 91 p a → ItemsAt n a js q → ValueAt (suc n) p (json.List js) q
    no_members : {n : ℕ} {p a b q : List ℕ} → ByteAt 123 p a → BlankAt a b → ByteAt 125 b q → ValueAt (suc n) p (json.Object []) q
    members : {n : ℕ} {p a q : List ℕ} {ms : List (Member Json)} → ByteAt 123 p a → MembersAt n a ms q → ValueAt (suc n) p (json.Object (merged ms)) q

  -- a value with white space around it
  pub data ElementAt : ℕ → List ℕ → Json → List ℕ → Type 0 where
    element : {n : ℕ} {p a b q : List ℕ} {j : Json} → BlankAt p a → ValueAt n a j b → BlankAt b q → ElementAt n p j q

  -- items with commas between them, and the closing bracket
  pub data ItemsAt : ℕ → List ℕ → List Json → List ℕ → Type 0 where
    last_item : {n : ℕ} {p a q : List ℕ} {j : Json} → ElementAt n p j a → ByteAt 93 a q → ItemsAt n p (j ∷ []) q
    item : {n : ℕ} {p a b q : List ℕ} {j : Json} {js : List Json} → ElementAt n p j a → ByteAt 44 a b → ItemsAt n b js q → ItemsAt n p (j ∷ js) q

  -- members with commas between them, and the closing brace
  pub data MembersAt : ℕ → List ℕ → List (Member Json) → List ℕ → Type 0 where
    last_member : {n : ℕ} {p a b s q : List ℕ} {j : Json} → NameAt p s a → ElementAt n a j b → ByteAt 125 b q → MembersAt n p (member s j ∷ []) q
    more_members : {n : ℕ} {p a b c s q : List ℕ} {j : Json} {ms : List (Member Json)} → NameAt p s a → ElementAt n a j b → ByteAt 44 b c → MembersAt n c ms q → MembersAt n p (member s j ∷ ms) q

abbrev pub max_nest : ℕ
max_nest = 127

-- the text without a U+FEFF at its front
abbrev pub without_mark : List ℕ → List ℕ
without_mark bytes = if starts_with nat_eq bytes (239 ∷ 187 ∷ 191 ∷ []) then drop 3 bytes else bytes

-- behind a U+FEFF that may begin them, these bytes are UTF-8, and they are this value with white space around it
pub record StandsFor (bytes : List ℕ) (j : Json) : Type 0 where
  pub utf8 : IsUtf8 (without_mark bytes)
  pub value : ElementAt max_nest (without_mark bytes) j []
