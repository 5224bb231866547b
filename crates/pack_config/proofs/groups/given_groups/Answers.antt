use Rattle.std.proofs.Common.{◌≡◌, [], ◌∷◌, ◌++◌, None, codes, string_bytes, option_to_list, if◌then◌else◌, nat_cmp, ap, rules}
use Rattle.std.specs.Cmp.Lexicographic.{slice_cmp}
use Rattle.serde_json.specs.View.{view, members_view}
use Rattle.pack_config.specs.Settings.{group_of, if_kept}
use Rattle.pack_config.specs.Merging.{stays_due, put_before}
use Rattle.pack_config.proofs.Merged.{one_turn, last_turn}
use Rattle.pack_config.proofs.NamedApart.{given_apart}
use Rattle.pack_config.proofs.groups.given_groups.Goals as goal

pub loop-name-preserved : goal.loop-name-preserved
loop-name-preserved c =
    let l = c.loop-name in
    let s = c.args.shared in
    let key = string_bytes c.in-Some.name.now in
    let d = view c.in-Some.value.now in
    let still_default : c.in_ok-default_due.default_due ≡ stays_due l.default_due (slice_cmp nat_cmp (codes "default") key) = search rules in
    let still_vendors : c.in_ok-vendors_due.vendors_due ≡ stays_due l.vendors_due (slice_cmp nat_cmp (codes "defaultVendors") key) = search rules in
    let one : c.pass.new.groups.items ≡ l.groups.items ++ put_before l.default_due (slice_cmp nat_cmp (codes "default") key) (group_of s (codes "default") None) = search rules in
    let two : c.pass-in-loop-name.new.groups.items ≡ c.pass.new.groups.items ++ put_before l.vendors_due (slice_cmp nat_cmp (codes "defaultVendors") key) (group_of s (codes "defaultVendors") None) = search rules in
    let own : c.push_kept.new.groups.items ≡ c.pass-in-loop-name.new.groups.items ++ option_to_list (if_kept s key d) = search rules in
    one_turn s l.default_due l.vendors_due _ _ key d (members_view c.next.new.self) (members_view l.name-iterator) l.groups.items c.push_kept.new.groups.items _ (ap members_view c.in-Some.ensures.steps) l.invariant still_default still_vendors (cc (one, two, own))

pub returns-clause-made : goal.returns-clause-made
returns-clause-made c =
    let l = c.loop-name in
    let s = c.args.shared in
    let pushed : c.from_vec.result ≡ (l.groups.items ++ (if l.default_due then group_of s (codes "default") None ∷ [] else [])) ++ (if l.vendors_due then group_of s (codes "defaultVendors") None ∷ [] else []) = search rules in
    last_turn s l.default_due l.vendors_due (members_view l.name-iterator) l.groups.items c.from_vec.result _ (ap members_view c.in-None.ensures.steps.0) l.invariant pushed

pub returns-clause-apart : goal.returns-clause-apart
returns-clause-apart c = rw (returns-clause-made c) (given_apart c.args.shared _ c.iter-name-items.ensures.ordered)
