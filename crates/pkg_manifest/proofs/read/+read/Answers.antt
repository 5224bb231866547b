use Rattle.std.proofs.Common.{◌≡◌, ◌-◌, ◌<◌, [], ◌∷◌, ◌++◌, length, map, Some, None, sym, ap, ap₂, ◌∙◌, append-nil, arith, rules}
use Rattle.json.specs.Token.{Token}
use Rattle.json.specs.Json as read
use Rattle.json.specs.Json.{parse_map, after_end_array, read_key, items, members, value}
use Rattle.json.specs.Reads.{token_of}
use Rattle.json.proofs.Grammar.{value_is, value-begin_array, value-begin_object, read_key-shorter, items_end, items_fail, items_more, members_end, members_no_key, members_fail, members_more}
use Rattle.pkg_manifest.specs.declared.value.Json.TheVariants as json
use Rattle.pkg_manifest.specs.Members.{member, entry_member, merged}
use Rattle.pkg_manifest.specs.Reading.{kept, kept_items, kept_members}
use Rattle.pkg_manifest.proofs.Sound.{parse_map_some}
use Rattle.pkg_manifest.proofs.Merging.{merged_more}
use Rattle.pkg_manifest.proofs.Loops.{none_before, array_kept, object_kept, one_more_item, one_more_member, members_merged}
use Rattle.pkg_manifest.proofs.read.+read.Goals as goal

pub read_value-returns-in_err-token-clause-not_json : goal.read_value-returns-in_err-token-clause-not_json
read_value-returns-in_err-token-clause-not_json t c told =
    let empty : c.args.reader.now ≡ [] = grind arith in
    ap (value c.args.depth) empty ∙ value_is c.args.depth []

pub read_value-returns-then-depth-eq0-clause-not_json : goal.read_value-returns-then-depth-eq0-clause-not_json
unfolding value
read_value-returns-then-depth-eq0-clause-not_json t c told =
    let first : c.args.reader.now ≡ token_of c.in_ok-token.token ∷ c.next.new.self = grind arith in
    let none : c.args.depth ≡ 0 = omega arith in
    ap₂ value none (first ∙ ap (λ k. token_of k ∷ c.next.new.self) c.in-BeginArray.is)

pub read_value-returns-in_err-read_items-in-BeginArray-clause-not_json : goal.read_value-returns-in_err-read_items-in-BeginArray-clause-not_json
read_value-returns-in_err-read_items-in-BeginArray-clause-not_json t c told =
    let first : c.args.reader.now ≡ token_of c.in_ok-token.token ∷ c.next.new.self = grind arith in
    let opened = ap (value c.args.depth) (first ∙ ap (λ k. token_of k ∷ c.next.new.self) c.in-BeginArray.is) ∙ value-begin_array c.args.depth c.next.new.self (omega arith) in
    let failed : items (value (c.args.depth - 1)) (length c.next.new.self) c.next.new.self ≡ None = grind arith in
    opened ∙ ap (parse_map read.array) failed

pub read_value-returns-then-depth-eq0-2-clause-not_json : goal.read_value-returns-then-depth-eq0-2-clause-not_json
unfolding value
read_value-returns-then-depth-eq0-2-clause-not_json t c told =
    let first : c.args.reader.now ≡ token_of c.in_ok-token.token ∷ c.next.new.self = grind arith in
    let none : c.args.depth ≡ 0 = omega arith in
    ap₂ value none (first ∙ ap (λ k. token_of k ∷ c.next.new.self) c.in-BeginObject.is)

pub read_value-returns-in_err-read_members-in-BeginObject-clause-not_json : goal.read_value-returns-in_err-read_members-in-BeginObject-clause-not_json
read_value-returns-in_err-read_members-in-BeginObject-clause-not_json t c told =
    let first : c.args.reader.now ≡ token_of c.in_ok-token.token ∷ c.next.new.self = grind arith in
    let opened = ap (value c.args.depth) (first ∙ ap (λ k. token_of k ∷ c.next.new.self) c.in-BeginObject.is) ∙ value-begin_object c.args.depth c.next.new.self (omega arith) in
    let failed : members (value (c.args.depth - 1)) (length c.next.new.self) c.next.new.self ≡ None = grind arith in
    opened ∙ ap (parse_map read.object) failed

pub read_value-returns-in-EndObject-clause-not_json : goal.read_value-returns-in-EndObject-clause-not_json
read_value-returns-in-EndObject-clause-not_json t c told =
    let first : c.args.reader.now ≡ token_of c.in_ok-token.token ∷ c.next.new.self = grind arith in
    rw (value_is c.args.depth c.args.reader.now, first) (grind arith)

pub read_value-returns-in-Null-clause-value : goal.read_value-returns-in-Null-clause-value
read_value-returns-in-Null-clause-value t c =
    let first : c.args.reader.now ≡ token_of c.in_ok-token.token ∷ c.next.new.self = grind arith in
    let is : c.args.reader.now ≡ Token.null ∷ c.next.new.self = grind (arith, first) in
    ap (parse_map kept) (ap (value c.args.depth) is ∙ value_is c.args.depth _)

pub read_value-returns-in-Bool-clause-value : goal.read_value-returns-in-Bool-clause-value
read_value-returns-in-Bool-clause-value t c =
    let first : c.args.reader.now ≡ token_of c.in_ok-token.token ∷ c.next.new.self = grind arith in
    let is : c.args.reader.now ≡ Token.boolean c.in-Bool.truth ∷ c.next.new.self = grind (arith, first) in
    ap (parse_map kept) (ap (value c.args.depth) is ∙ value_is c.args.depth _)

pub read_value-returns-in-Number-clause-value : goal.read_value-returns-in-Number-clause-value
read_value-returns-in-Number-clause-value t c =
    let first : c.args.reader.now ≡ token_of c.in_ok-token.token ∷ c.next.new.self = grind arith in
    let is : c.args.reader.now ≡ Token.number c.in-Number.field-0.now ∷ c.next.new.self = grind (arith, first) in
    ap (parse_map kept) (ap (value c.args.depth) is ∙ value_is c.args.depth _)

pub read_value-returns-in_ok-from_slice-in-String-clause-value : goal.read_value-returns-in_ok-from_slice-in-String-clause-value
read_value-returns-in_ok-from_slice-in-String-clause-value t c =
    let first : c.args.reader.now ≡ token_of c.in_ok-token.token ∷ c.next.new.self = grind arith in
    let is : c.args.reader.now ≡ Token.string c.in-String.text.now ∷ c.next.new.self = grind (arith, first) in
    let bytes : c.in-String.text.now ≡ c.in_ok-from_slice-in-String.field-0 = grind arith in
    ap (parse_map kept) (ap (value c.args.depth) is ∙ value_is c.args.depth _) ∙ ap (λ s. Some (json.Text s, c.next.new.self)) bytes

pub read_value-returns-in_ok-read_items-in-BeginArray-clause-value : goal.read_value-returns-in_ok-read_items-in-BeginArray-clause-value
read_value-returns-in_ok-read_items-in-BeginArray-clause-value t c =
    let first : c.args.reader.now ≡ token_of c.in_ok-token.token ∷ c.next.new.self = grind arith in
    let opened = ap (value c.args.depth) (first ∙ ap (λ k. token_of k ∷ c.next.new.self) c.in-BeginArray.is) ∙ value-begin_array c.args.depth c.next.new.self (omega arith) in
    let found = c.in_ok-read_items-in-BeginArray in
    ap (parse_map kept) opened ∙ array_kept _ found.field-0 c.read_items.new.reader found.ensures.value

pub read_value-returns-in_ok-read_members-in-BeginObject-clause-value : goal.read_value-returns-in_ok-read_members-in-BeginObject-clause-value
read_value-returns-in_ok-read_members-in-BeginObject-clause-value t c =
    let first : c.args.reader.now ≡ token_of c.in_ok-token.token ∷ c.next.new.self = grind arith in
    let opened = ap (value c.args.depth) (first ∙ ap (λ k. token_of k ∷ c.next.new.self) c.in-BeginObject.is) ∙ value-begin_object c.args.depth c.next.new.self (omega arith) in
    let found = c.in_ok-read_members-in-BeginObject in
    ap (parse_map kept) opened ∙ object_kept _ found.field-0 c.read_members.new.reader found.ensures.value

pub read_items-returns-in_err-item-clause-not_json : goal.read_items-returns-in_err-item-clause-not_json
read_items-returns-in_err-item-clause-not_json t c told =
    let p = value c.args.depth in
    let l = c.loop-alloc in
    let n = l.invariant.0 in
    let going : (after_end_array l.reader ≡ None) × (c.take_end_array.new.self ≡ l.reader) = grind arith in
    let failed : p c.take_end_array.new.self ≡ None = grind arith in
    none_before kept_items _ (l.invariant.2 ∙ ap (parse_map (λ js. l.found.items ++ kept_items js)) (items_fail p n l.reader going.0 (ap p (sym going.1) ∙ failed)))

pub read_items-loop-alloc-preserved : goal.read_items-loop-alloc-preserved
read_items-loop-alloc-preserved t c =
    let p = value c.args.depth in
    let l = c.loop-alloc in
    let n = l.invariant.0 in
    let going : (after_end_array l.reader ≡ None) × (c.take_end_array.new.self ≡ l.reader) = grind arith in
    let done = c.in_ok-item.ensures in
    let v = c.in_ok-item.item in
    let r = c.read_value.new.reader in
    let less : length r < length l.reader = rw (← going.1) done.shorter in
    let pushed : c.push.new.items.items ≡ l.found.items ++ v ∷ [] = search rules in
    let found = parse_map_some kept (p c.take_end_array.new.self) v r done.value in
    let turn = items_more p n l.reader r found.0 (omega (arith, l.invariant.1)) going.0 (ap p (sym going.1) ∙ found.1) in (
      n - 1,
      omega (arith, l.invariant.1),
      l.invariant.2 ∙ ap (parse_map (λ js. l.found.items ++ kept_items js)) turn ∙ one_more_item l.found.items v found.0 _ found.2 ∙ ap (λ vs. parse_map (λ js. vs ++ kept_items js) (items p (n - 1) r)) (sym pushed),
      omega (arith, l.invariant.3),
    )

pub read_items-returns-clause-value : goal.read_items-returns-clause-value
read_items-returns-clause-value t c =
    let p = value c.args.depth in
    let l = c.loop-alloc in
    let n = l.invariant.0 in
    let r = c.take_end_array.new.self in
    let made : c.from_vec.result ≡ l.found.items = grind arith in
    l.invariant.2 ∙ ap (parse_map (λ js. l.found.items ++ kept_items js)) (items_end p n l.reader r l.invariant.1 (grind arith)) ∙ ap (λ js. Some (js, r)) (append-nil l.found.items ∙ sym made)

pub read_members-returns-in_err-name-clause-not_json : goal.read_members-returns-in_err-name-clause-not_json
read_members-returns-in_err-name-clause-not_json t c told =
    let p = value c.args.depth in
    let l = c.loop-found in
    let n = l.invariant.0 in
    none_before kept_members _ (l.invariant.4 ∙ ap (parse_map (λ ms. l.invariant.2 ++ kept_members ms)) (members_no_key p n l.reader c.in_err-name.ensures.value))

pub read_members-returns-in_err-value-clause-not_json : goal.read_members-returns-in_err-value-clause-not_json
read_members-returns-in_err-value-clause-not_json t c told =
    let p = value c.args.depth in
    let l = c.loop-found in
    let n = l.invariant.0 in
    let k = c.in-Some.name.now in
    let s = c.next_key.new.self in
    let key : read_key l.reader ≡ Some (Some k, s) = grind arith in
    let failed : p s ≡ None = grind arith in
    none_before kept_members _ (l.invariant.4 ∙ ap (parse_map (λ ms. l.invariant.2 ++ kept_members ms)) (members_fail p n k l.reader s key failed))

pub read_members-loop-found-preserved : goal.read_members-loop-found-preserved
read_members-loop-found-preserved t c =
    let p = value c.args.depth in
    let l = c.loop-found in
    let n = l.invariant.0 in
    let before = l.invariant.2 in
    let k = c.in-Some.name.now in
    let s = c.next_key.new.self in
    let key : read_key l.reader ≡ Some (Some k, s) = grind arith in
    let done = c.in_ok-value.ensures in
    let v = c.in_ok-value.value in
    let r = c.read_value.new.reader in
    let less = read_key-shorter l.reader (Some k) s key in
    let lesser = done.shorter in
    let name : c.in_ok-key.key ≡ k = grind arith in
    let found = parse_map_some kept (p s) v r done.value in
    let turn = members_more p n k l.reader s r found.0 (omega (arith, l.invariant.1)) key found.1 in (
      n - 1,
      omega (arith, l.invariant.1),
      before ++ member k v ∷ [],
      ap (map entry_member) c.in_ok-insert.ensures ∙ merged_more l.found.entries before c.in_ok-key.key v l.invariant.3 ∙ ap (λ x. merged (before ++ member x v ∷ [])) name,
      l.invariant.4 ∙ ap (parse_map (λ ms. before ++ kept_members ms)) turn ∙ one_more_member before k v found.0 _ found.2,
      omega (arith, l.invariant.5),
    )

pub read_members-returns-clause-value : goal.read_members-returns-clause-value
read_members-returns-clause-value t c =
    let p = value c.args.depth in
    let l = c.loop-found in
    let n = l.invariant.0 in
    let before = l.invariant.2 in
    let r = c.next_key.new.self in
    let made : c.in_ok-into_members.field-0 ≡ map entry_member l.found.entries = grind arith in
    let all = l.invariant.4 ∙ ap (parse_map (λ ms. before ++ kept_members ms)) (members_end p n l.reader r l.invariant.1 (grind arith)) in
    members_merged _ (before ++ []) r all ∙ ap (λ ms. Some (ms, r)) (ap merged (append-nil before) ∙ sym (made ∙ l.invariant.3))
