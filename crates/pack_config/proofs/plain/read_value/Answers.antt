use Rattle.std.proofs.Common.{◌≡◌, None, map, true, false, refl, ◌∙◌, rules}
use Rattle.std.specs.List.{list_all}
use Rattle.json.specs.Lex.{tokens}
use Rattle.serde_json.specs.Read.{read}
use Rattle.pack_config.specs.Reading.{plain, is_good}
use Rattle.pack_config.proofs.Answered.{value_of_text-bad, value_of_text-good}
use Rattle.pack_config.proofs.plain.read_value.Goals as goal

pub returns-in_default-clause-refused : goal.returns-in_default-clause-refused
returns-in_default-clause-refused c =
    let bad : list_all is_good (tokens c.args.text.now) ≡ false = search rules in
    λ other. (refl, value_of_text-bad c.args.text.now bad)

pub returns-in-Ok-clause-value : goal.returns-in-Ok-clause-value
returns-in-Ok-clause-value c =
    let good : list_all is_good (tokens c.args.text.now) ≡ true = search rules in
    let same : tokens c.as_str.result.now ≡ map plain (tokens c.args.text.now) = search rules in
    let e = value_of_text-good c.args.text.now c.as_str.result.now good same in
    e ∙ c.in-Ok.ensures.ok

pub returns-clause-refused : goal.returns-clause-refused
returns-clause-refused c =
    let good : list_all is_good (tokens c.args.text.now) ≡ true = search rules in
    let same : tokens c.as_str.result.now ≡ map plain (tokens c.args.text.now) = search rules in
    let e = value_of_text-good c.args.text.now c.as_str.result.now good same in
    let none : read c.as_str.result.now ≡ None = search rules in
    λ other. (refl, e ∙ none)
