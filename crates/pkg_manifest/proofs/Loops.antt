-- The turns of the reader's loops.
use Rattle.std.proofs.Common.{◌≡◌, ℕ, List, [], ◌∷◌, ◌++◌, Option, Some, None, refl, sym, ap, ◌∙◌, append_assoc}
use Rattle.json.specs.Token.{Token}
use Rattle.json.specs.Json as read
use Rattle.json.specs.Json.{parse_map}
use Rattle.pkg_manifest.specs.declared.value.Json.{Json}
use Rattle.pkg_manifest.specs.declared.value.Json.TheVariants as json
use Rattle.pkg_manifest.specs.declared.value.Member.{Member}
use Rattle.pkg_manifest.specs.Members.{member, merged}
use Rattle.pkg_manifest.specs.Reading.{kept, kept_items, kept_members}

pub none_before : {A B : Type 0} (f : A → B) (r : Option (A × List Token)) → parse_map f r ≡ None → r ≡ None
none_before f None e = refl
none_before f (Some p) e = absurd (cc)

pub array_kept : (r : Option (read.Items × List Token)) (js : List Json) (ts : List Token) → parse_map kept_items r ≡ Some (js, ts) → parse_map kept (parse_map read.array r) ≡ Some (json.List js, ts)
array_kept None js ts e = absurd (cc)
array_kept (Some p) js ts e = ap (parse_map json.List) e

pub object_kept : (r : Option (read.Members × List Token)) (ms : List (Member Json)) (ts : List Token) → parse_map (λ l. merged (kept_members l)) r ≡ Some (ms, ts) → parse_map kept (parse_map read.object r) ≡ Some (json.Object ms, ts)
object_kept None ms ts e = absurd (cc)
object_kept (Some p) ms ts e = ap (parse_map json.Object) e

pub one_more_item : (vs : List Json) (v : Json) (k : read.Json) (r : Option (read.Items × List Token)) → kept k ≡ v → parse_map (λ js. vs ++ kept_items js) (parse_map (read.item k) r) ≡ parse_map (λ js. (vs ++ v ∷ []) ++ kept_items js) r
one_more_item vs v k None e = refl
one_more_item vs v k (Some p) e = ap (λ x. Some (vs ++ (x ∷ kept_items p.0), p.1)) e ∙ ap (λ l. Some (l, p.1)) (sym (append_assoc vs (v ∷ []) (kept_items p.0)))

pub one_more_member : (before : List (Member Json)) (s : List ℕ) (v : Json) (k : read.Json) (r : Option (read.Members × List Token)) → kept k ≡ v
    → parse_map (λ ms. before ++ kept_members ms) (parse_map (read.member s k) r) ≡ parse_map (λ ms. (before ++ member s v ∷ []) ++ kept_members ms) r
one_more_member before s v k None e = refl
one_more_member before s v k (Some p) e = ap (λ x. Some (before ++ (member s x ∷ kept_members p.0), p.1)) e ∙ ap (λ l. Some (l, p.1)) (sym (append_assoc before (member s v ∷ []) (kept_members p.0)))

pub members_merged : (r : Option (read.Members × List Token)) (ms : List (Member Json)) (ts : List Token) → parse_map kept_members r ≡ Some (ms, ts) → parse_map (λ l. merged (kept_members l)) r ≡ Some (merged ms, ts)
members_merged None ms ts e = absurd (cc)
members_merged (Some p) ms ts e = ap (parse_map merged) e
