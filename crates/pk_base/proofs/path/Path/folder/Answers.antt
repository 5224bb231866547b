use Rattle.std.proofs.Common.{◌≡◌, true, sym, ap, ◌∙◌, take}
use Rattle.std.specs.String.{string_bytes}
use Rattle.pk_base.specs.Paths.{is_path, folder_of}
use Rattle.pk_base.proofs.Joins.{folder_boundary, is_path-folder, folder_text, range_front}
use Rattle.pk_base.proofs.Segments.{is_path_at}
use Rattle.pk_base.proofs.path.Path.folder.Goals as goal

pub range-requires-clause-end_boundary : goal.range-requires-clause-end_boundary
range-requires-clause-end_boundary c =
    rw (← c.as_bytes.ensures.value) (folder_boundary _ _ (rw (← c.as_bytes.ensures.value) at c.as_str-text.utf8) c.folder_len-end.ensures.within c.folder_len-end.ensures.slash)

cut : (c : goal.In_ok-text) → string_bytes c.in_ok-text.text ≡ take c.folder_len-end.result c.as_bytes.result.now
cut c =
    c.in_ok-text.ensures.ok ∙ c.range.ensures.value ∙ range_front c.as_str-text.result.now c.folder_len-end.result ∙ ap (take c.folder_len-end.result) (sym c.as_bytes.ensures.value)

pub invariant_of-result : goal.invariant_of-result
invariant_of-result c =
    let whole : is_path c.as_bytes.result.now ≡ true = is_path_at _ _ (c.as_bytes.ensures.value ∙ c.as_str-text.ensures.value) c.self.invariant in
    is_path_at _ _ (cut c) (is_path-folder _ _ whole c.folder_len-end.ensures.within c.folder_len-end.ensures.slash c.folder_len-end.ensures.segments)

pub returns-clause-text : goal.returns-clause-text
returns-clause-text c =
    cut c ∙ folder_text _ _ c.folder_len-end.ensures.segments ∙ ap folder_of (c.as_bytes.ensures.value ∙ c.as_str-text.ensures.value ∙ c.self.view_is)
