use Rattle.std.proofs.Common.{◌≡◌, true, ap, subst, rules}
use Rattle.std.specs.Str.{is_utf8, IsUtf8}
use Rattle.std.proofs.lemmas.Str.{IsUtf8-string_bytes, IsUtf8-from_is_utf8}
use Rattle.std.proofs.lemmas.Bool.{false_from_ne_true, false≢true}
use Rattle.pk_base.specs.Paths.{is_path}
use Rattle.pk_base.proofs.Joins.{HasSegments, is_path-from_parts, none_from_text, some_from_path}
use Rattle.pk_base.proofs.Segments.{is_path_at}
use Rattle.pk_base.proofs.path.Path.from_written.Goals as goal

made : (c : goal.In-Ok) → is_path c.args.written.items ≡ true
made c =
    let yes : HasSegments c.args.written.items ≡ true = search rules in
    is_path-from_parts _ yes (subst IsUtf8 (ap (λ v. v.items) c.in-Ok.ensures.ok) (IsUtf8-string_bytes c.in-Ok.text))

pub invariant_of-result : goal.invariant_of-result
invariant_of-result c = is_path_at _ _ (ap (λ v. v.items) c.in-Ok.ensures.ok) (made c)

pub returns-in-Ok : goal.returns-in-Ok
returns-in-Ok c = some_from_path _ _ (ap (λ v. v.items) c.in-Ok.ensures.ok) (made c)

pub returns : goal.returns
returns c =
    none_from_text _ (false_from_ne_true (is_utf8 c.args.written.items) (λ t. false≢true (c.in-Err.ensures.succeeds (IsUtf8-from_is_utf8 _ t))))
