use Rattle.std.proofs.Common.{refl, ap, subst, ◌∙◌}
use Rattle.std.proofs.lemmas.Result.{IfOk-weaker}
use Rattle.pk_types.specs.ChunkGroups.{AreAll}
use Rattle.chunk_files.specs.Entries.{IsNeeded, AreNamed, IsEntryText, entry_text}
use Rattle.chunk_files.specs.Pens.{penned}
use Rattle.chunk_files.proofs.entry.put_entry_file.Goals as goal

pub returns : goal.returns
returns c =
    let material = c.args.material.now in
    let hashes = c.args.hashes.now in
    let first = c.group_of-first.result in
    let groups = c.in_ok-groups.groups.items in
    let chunks = c.in_ok-chunks.chunks.items in
    let others = c.in_ok-groups.ensures.groups in
    let named : AreNamed material.plan first groups chunks = record {
      others = others.0;
      groups_are = others.1;
      walked = others.2;
      needed = subst (λ l. AreAll (IsNeeded material.plan l) chunks) c.as_slice.ensures.value c.in_ok-chunks.ensures.needed;
    } in
    let text = entry_text material hashes first groups chunks in
    IfOk-weaker c.put_entry.result _ _ (λ _ put. (
      text,
      subst (λ entry. IsEntryText material hashes entry text) c.group_of-first.ensures.group (groups, chunks, named, refl),
      put ∙ ap (λ l. penned c.args.pen.now (entry_text material hashes first l c.as_slice-3.result.now)) c.as_slice-2.ensures.value
          ∙ ap (λ l. penned c.args.pen.now (entry_text material hashes first groups l)) c.as_slice-3.ensures.value,
    )) c.put_entry.ensures
