use Rattle.std.proofs.Common.{◌≡◌, Some, false, rules}
use Rattle.serde_json.specs.View.{view, members_view}
use Rattle.serde_json.specs.Find.{as_object}
use Rattle.pack_config.specs.Faults.{above_group, is_false}
use Rattle.pack_config.proofs.Members.{group_fault-object}
use Rattle.pack_config.proofs.check.check_group.Goals as goal

pub returns-clause-bad : goal.returns-clause-bad
returns-clause-bad c =
    let kept : is_false (view c.args.value.now) ≡ false = search rules in
    let seen : as_object (view c.args.value.now) ≡ Some (members_view c.in-Some.members.now.entries) = search rules in
    let named : c.as_str.result.now ≡ above_group c.args.name.now = search rules in
    let e = group_fault-object c.args.name.now (view c.args.value.now) (members_view c.in-Some.members.now.entries) c.as_str.result.now kept seen named in
    rw e c.check_group_members.ensures.bad
