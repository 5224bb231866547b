use Rattle.std.proofs.Common.{◌≡◌, sym, subst}
use Rattle.pkg_manifest.specs.Fields.{manifest_of}
use Rattle.es_facts.specs.Answer.{JudgesJson}
use Rattle.es_facts.proofs.Judged.{judged, is_read}
use Rattle.es_facts.proofs.texts.manifest_fault.Goals as goal

pub returns : goal.returns
returns c =
    let text = c.args.bytes.now in
    subst (JudgesJson text) (sym c.err.ensures.value)
    (judged text c.manifest.result (is_read text c.manifest.result (λ read members. read ≡ manifest_of members) c.manifest.ensures.value)
    c.manifest.ensures.is_not_object c.manifest.ensures.is_not_json)
