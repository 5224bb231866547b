use Rattle.std.proofs.Common.{◌<◌, length, get_or, sym, ap, subst, ◌∙◌}
use Rattle.std.specs.Prelude.{nat_eq, slice_index}
use Rattle.indexmap.specs.IndexSet.{insert_key}
use Rattle.chunk_files.proofs.Requiring.{request_within, one_required, none_required}
use Rattle.chunk_files.proofs.required.required.Goals as goal
use Rattle.chunk_files.proofs.required.required.Goals.{in-Require+in_ok-insert, in_default}

pub bounds-as_slice-request : goal.bounds-as_slice-request
bounds-as_slice-request c =
    let sites = c.as_slice-site-items.ensures in
    let within = subst (λ l. c.loop-site.site-index < length l) sites c.loop-site-test.true in
    let at = c.site-item.is ∙ ap (λ l. get_or l c.loop-site.site-index c.site-item.result) sites in
    subst (λ l. c.in-Require.request < length l) (sym c.as_slice.ensures)
    (request_within c.args.row.now c.loop-site.site-index c.site-item.result c.in-Require.request c.requires within at c.in-Require.is)

pub loop-site-preserved : goal.loop-site-preserved
loop-site-preserved c =
    let sites = c.as_slice-site-items.ensures in
    let within = subst (λ l. c.loop-site.site-index < length l) sites c.loop-site-test.true in
    let at = c.site-item.is ∙ ap (λ l. get_or l c.loop-site.site-index c.site-item.result) sites in
    elim c.match-site.branch [
      | in-Require+in_ok-insert w ↦
          ap (λ set. set.keys) w.modules-is ∙ w.in_ok-insert.ensures.keys
          ∙ ap (λ l. insert_key nat_eq c.loop-site.modules.keys (slice_index l w.in-Require.request)) w.as_slice.ensures
          ∙ ap (λ l. insert_key nat_eq l (slice_index c.args.row.now.targets w.in-Require.request)) c.loop-site.invariant
          ∙ one_required c.args.row.now c.loop-site.site-index c.site-item.result w.in-Require.request within at w.in-Require.is
      | in_default w ↦
          ap (λ set. set.keys) w.modules-is ∙ c.loop-site.invariant
          ∙ none_required c.args.row.now c.loop-site.site-index c.site-item.result within at w.in_default.not-Require
    ]
