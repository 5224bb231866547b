use Rattle.std.proofs.Common.{◌≡◌, Some, Ok, Err, inl, ap, ◌∙◌, sym, rules}
use Rattle.serde_json.specs.View.{view, members_view}
use Rattle.serde_json.specs.Find.{as_object}
use Rattle.pack_config.specs.Config.{settings_of}
use Rattle.pack_config.specs.Reading.{value_of_text}
use Rattle.pack_config.proofs.Answered.{settings_of-good, settings_of-fault, settings_of-not_utf8, told}
use Rattle.pack_config.proofs.read.read_config.Goals as goal

pub returns-in_default-clause-answer : goal.returns-in_default-clause-answer
returns-in_default-clause-answer c = inl (sym (settings_of-not_utf8 c.args.bytes.now c.in_default.ensures.cases.0))

pub returns-in_err-check_top-clause-answer : goal.returns-in_err-check_top-clause-answer
returns-in_err-check_top-clause-answer c =
    let d = view c.in_ok-value.value in
    let ms = members_view c.in-Some.members.now.entries in
    let fault = c.in_err-check_top.field-0.0 in
    let is : value_of_text c.args.bytes.now ≡ Some d = search rules in
    let seen : as_object d ≡ Some ms = search rules in
    let same : c.from_residual-in_err-check_top.result ≡ Err fault = search rules in
    rw same (told (settings_of (Some c.args.bytes.now)) fault (λ other. settings_of-fault c.args.bytes.now d ms fault c.in-Ok.ensures.cases.1 is seen (c.in_err-check_top.ensures.bad other)))

pub returns-clause-answer : goal.returns-clause-answer
returns-clause-answer c =
    let d = view c.in_ok-value.value in
    let ms = members_view c.in-Some.members.now.entries in
    let is : value_of_text c.args.bytes.now ≡ Some d = search rules in
    let seen : as_object d ≡ Some ms = search rules in
    inl (ap Ok c.in_ok-settings.ensures.made ∙ sym (settings_of-good c.args.bytes.now d ms c.in-Ok.ensures.cases.1 is seen c.in_ok-check_top.ensures.good))
