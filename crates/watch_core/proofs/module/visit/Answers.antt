use Rattle.std.proofs.Common.{rules, ◌≤◌, length, refl, sym, ap, subst, ◌∙◌}
use Rattle.std.specs.Map.{keys_of}
use Rattle.pk_types.specs.declared.limits.TheConstants.{MAX_FILE_LEN}
use Rattle.pk_base.specs.declared.outside.Read.TheVariants as read
use Rattle.watch_core.specs.Visits.{Visits}
use Rattle.watch_core.proofs.Seeing.{stands_seen, then_looks}
use Rattle.watch_core.proofs.Visiting.{by_unread, by_bytes, short_text, if_ok}
use Rattle.watch_core.proofs.module.visit.Goals as goal

pub returns-in-Absent-clause-value : goal.returns-in-Absent-clause-value
returns-in-Absent-clause-value g c = λ t h there.
    by_unread t c.args.before c.args.path.now _ _ c.in_ok-too_large-in-Absent.field-0 c.read_at.result.now (search rules) there
    (stands_seen _ c.look.new.self t c.in_ok-number.number c.args.path.now c.read_at.result.now (c.in_ok-number.ensures.looks.sees t h) c.in_ok-number.ensures.place c.read_at.ensures.read)
    c.in-Absent.is c.in_ok-too_large-in-Absent.ensures c.in_ok-number.ensures.keys

pub returns-then-text-left-clause-value : goal.returns-then-text-left-clause-value
returns-then-text-left-clause-value g c = λ t h there.
    by_bytes t c.args.before c.args.path.now c.in-Bytes.text c.as_slice-text.result.now _ _ (search rules)
    (stands_seen _ c.look.new.self t c.in_ok-number.number c.args.path.now c.read_at.result.now (c.in_ok-number.ensures.looks.sees t h) c.in_ok-number.ensures.place c.read_at.ensures.read ∙ c.in-Bytes.is)
    c.as_slice-text.ensures c.if-text-left.true c.in_ok-number.ensures.keys

pub read_module-requires : goal.read_module-requires
read_module-requires g c = let short = short_text c.read_at.result.now c.in-Bytes.text c.in-Bytes.is c.read_at.ensures.short in subst (λ text. length text ≤ MAX_FILE_LEN) (sym c.as_slice-text.ensures) short

pub follow-requires : goal.follow-requires
follow-requires g c =
    let short = short_text c.read_at.result.now c.in-Bytes.text c.in-Bytes.is c.read_at.ensures.short in
    (c.as_slice-text.result.now, subst (λ text. length text ≤ MAX_FILE_LEN) (sym c.as_slice-text.ensures) short, refl, c.in_ok-said.ensures)

pub returns-clause-value : goal.returns-clause-value
returns-clause-value g c = if_ok _ _ c.follow.result
    (λ visited value t h there.
    let mid = c.in_ok-number.ensures.looks.sees t h in
    let read = stands_seen _ c.look.new.self t c.in_ok-number.number c.args.path.now c.read_at.result.now mid c.in_ok-number.ensures.place c.read_at.ensures.read ∙ c.in-Bytes.is ∙ ap read.Bytes (sym c.as_slice-text.ensures) in
    subst (λ keys. Visits t c.args.before c.args.path.now keys (keys_of c.follow.new.sights) visited) c.in_ok-number.ensures.keys
    (value t c.as_slice-text.result.now c.args.before mid read c.in_ok-said.ensures refl (search rules)))
    c.follow.ensures.value

pub returns-clause-looks : goal.returns-clause-looks
returns-clause-looks g c = then_looks c.follow.result _ _ _ _ _ _ c.in_ok-number.ensures.looks c.follow.ensures.looks
