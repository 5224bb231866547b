use Rattle.std.proofs.Common.{◌≡◌, Option}
use Rattle.pk_types.specs.declared.facts.ImportEntry.{ImportEntry}
use Rattle.es_declares.specs.Found.{IsItemAt}
use Rattle.es_declares.specs.Importing.{entry_of, IsImportBy}
use Rattle.es_declares.proofs.ImportLaws.{entry_is}
use Rattle.std.proofs.lemmas.Result.{IfOk-weaker}
use Rattle.es_declares.proofs.imported.import_at.Goals as goal

pub returns : goal.returns
returns c =
    let source = c.args.outlined.now in
    IfOk-weaker c.entry_of.result (λ (entry : Option ImportEntry). entry ≡ entry_of source c.wanted_at.result c.request_of-request.result)
    (IsItemAt (IsImportBy source c.args.asked.now.requests) c.args.place)
    (λ entry e. entry_is source c.args.place c.args.asked.now.requests c.wanted_at.result c.request_of-request.result entry c.wanted_at.ensures
    (c.request_of-request.ensures source c.requires.enclosing c.requires.asked c.requires.inside) e) c.entry_of.ensures
