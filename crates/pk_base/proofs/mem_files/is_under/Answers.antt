use Rattle.std.proofs.Common.{◌≡◌, ap, arith, ◌∙◌, sym, length, ◌&&◌, false, nat_eq, get_or}
use Rattle.std.specs.List.{starts_with}
use Rattle.std.proofs.lemmas.Grind.{common_steps}
use Rattle.pk_base.proofs.Covers.{beneath, by_start}
use Rattle.pk_base.proofs.mem_files.is_under.Goals as goal

pub returns-then-path-folder-eq47 : goal.returns-then-path-folder-eq47
returns-then-path-folder-eq47 c =
    let folder = c.args.folder.now in
    let path = c.args.path.now in
    by_start folder path c.starts_with.result (sym c.if-is_empty.ensures) (sym c.if-eq.ensures)
    (beneath path folder c.if-path-folder.false ∙ ap (λ n. nat_eq n 47 && starts_with nat_eq path folder) c.if-path-folder-eq47.true ∙ sym c.starts_with.ensures.value)

pub returns-else-path-folder-eq47 : goal.returns-else-path-folder-eq47
returns-else-path-folder-eq47 c =
    let folder = c.args.folder.now in
    let path = c.args.path.now in
    let e : nat_eq (get_or path (length folder) 0) 47 ≡ false = grind (arith, common_steps) in
    by_start folder path (nat_eq (get_or path (length folder) 0) 47) (sym c.if-is_empty.ensures) (sym c.if-eq.ensures)
    (beneath path folder c.if-path-folder.false ∙ ap (λ b. b && starts_with nat_eq path folder) e ∙ sym e)
