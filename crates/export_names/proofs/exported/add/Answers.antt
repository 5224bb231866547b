use Rattle.std.proofs.Common.{◌≡◌, ◌≢◌, ◌⊎◌, inl, inr, ◌+◌, true, take, take_all, sym, ap, subst, ◌∙◌, arith}
use Rattle.std.specs.Str.{bytes_eq}
use Rattle.std.proofs.lemmas.Bool.{true≢false}
use Rattle.indexmap.specs.IndexSet.{insert_key}
use Rattle.pk_types.specs.Resolving.{default_name}
use Rattle.export_names.specs.Collected.{key_names, HasMore, IsGiven}
use Rattle.export_names.proofs.Collecting.{key_inserted, given_one, given_no_one}
use Rattle.export_names.proofs.exported.add.Goals.{then-with_default+in_ok-insert, then-with_default-via-then-with_default, then-with_default-via-else-with_default+then-not-is_default, else-with_default+else-not-is_default}
use Rattle.export_names.proofs.exported.add.Goals as goal

pub loop-entry-preserved : goal.loop-entry-preserved
loop-entry-preserved c =
    let exports = c.args.exports.now in
    let index = c.loop-entry.entry-index in
    let entry = c.entry-item.result in
    let before = key_names c.args.names.now.keys in
    let keys = c.loop-entry.names.keys in
    elim c.if-with_default.branch [
      | then-with_default+in_ok-insert w ↦
          let counts : (c.args.with_default ≡ true) ⊎ (entry.name ≢ default_name) = elim w.then-with_default.branch [
            | then-with_default-via-then-with_default v ↦ inl v.if-with_default.true
            | then-with_default-via-else-with_default+then-not-is_default v ↦ inr (λ is. true≢false (sym (v.is_default.ensures.1 (c.as_slice-name.ensures ∙ is)) ∙ v.if-not-is_default.true))
          ] in
          given_one exports index entry c.args.with_default c.loop-entry-test.true c.entry-item.is counts before (key_names keys) (key_names c.if-with_default.names.keys) c.loop-entry.invariant
          (ap (λ set. key_names set.keys) w.names-is ∙ ap key_names w.in_ok-insert.ensures.keys ∙ key_inserted keys _ ∙ ap (insert_key bytes_eq (key_names keys)) c.as_slice-name.ensures)
      | else-with_default+else-not-is_default w ↦
          subst (HasMore before (IsGiven (take (index + 1) exports) c.args.with_default)) (sym (ap (λ set. key_names set.keys) w.names-is))
          (given_no_one exports index entry c.args.with_default c.loop-entry-test.true c.entry-item.is w.if-with_default.false
          (sym c.as_slice-name.ensures ∙ w.is_default.ensures.0 w.if-not-is_default.false) before (key_names keys) c.loop-entry.invariant)
    ]

pub returns : goal.returns
returns c = subst (λ l. HasMore (key_names c.args.names.now.keys) (IsGiven l c.args.with_default) (key_names c.loop-entry.names.keys)) (take_all c.loop-entry.entry-index c.args.exports.now (omega (arith, c.loop-entry-test.false))) c.loop-entry.invariant
