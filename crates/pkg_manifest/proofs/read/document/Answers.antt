use Rattle.std.proofs.Common.{◌≡◌, [], Some, None, sym, ap, subst, ◌∙◌, arith}
use Rattle.std.specs.Str.{IsUtf8}
use Rattle.json.specs.Lex.{tokens}
use Rattle.json.specs.Json.{parse_map, value}
use Rattle.json.proofs.Found.{not_found}
use Rattle.pkg_manifest.specs.Grammar.{max_nest, without_mark}
use Rattle.pkg_manifest.specs.Reading.{kept, value_read}
use Rattle.pkg_manifest.proofs.Whole.{whole_found, whole_made, only_value}
use Rattle.pkg_manifest.proofs.read.document.Goals as goal

pub returns-in_err-value-clause-not_json : goal.returns-in_err-value-clause-not_json
returns-in_err-value-clause-not_json c told j stands =
    let text : c.in-Ok.text.now ≡ without_mark c.args.bytes.now = grind arith in
    let begun : c.in_ok-reader.reader ≡ tokens (without_mark c.args.bytes.now) = c.in_ok-reader.ensures.ok ∙ ap tokens text in
    let failed : value max_nest c.in_ok-reader.reader ≡ None = grind arith in
    not_found (j, []) (sym (ap (parse_map kept) (ap (value max_nest) (sym begun) ∙ failed)) ∙ whole_made c.args.bytes.now j stands)

pub returns-then-is_some-clause-not_json : goal.returns-then-is_some-clause-not_json
returns-then-is_some-clause-not_json c told j stands =
    let text : c.in-Ok.text.now ≡ without_mark c.args.bytes.now = grind arith in
    let begun : c.in_ok-reader.reader ≡ tokens (without_mark c.args.bytes.now) = c.in_ok-reader.ensures.ok ∙ ap tokens text in
    let last = only_value c.args.bytes.now c.in_ok-value.value j c.read_value.new.reader (ap (value_read max_nest) (sym begun) ∙ c.in_ok-value.ensures.value) stands in
    let empty : c.read_value.new.reader ≡ [] = last.1 in
    grind arith

pub returns-clause-value : goal.returns-clause-value
returns-clause-value c =
    let text : c.in-Ok.text.now ≡ without_mark c.args.bytes.now = grind arith in
    let begun : c.in_ok-reader.reader ≡ tokens (without_mark c.args.bytes.now) = c.in_ok-reader.ensures.ok ∙ ap tokens text in
    let empty : c.read_value.new.reader ≡ [] = grind arith in
    let utf8 : IsUtf8 (without_mark c.args.bytes.now) = subst IsUtf8 text (grind arith) in
    whole_found c.args.bytes.now c.in_ok-value.value utf8 (ap (value_read max_nest) (sym begun) ∙ c.in_ok-value.ensures.value ∙ ap (λ ts. Some (c.in_ok-value.value, ts)) empty)

pub returns-clause-only : goal.returns-clause-only
returns-clause-only c k stands =
    let text : c.in-Ok.text.now ≡ without_mark c.args.bytes.now = grind arith in
    let begun : c.in_ok-reader.reader ≡ tokens (without_mark c.args.bytes.now) = c.in_ok-reader.ensures.ok ∙ ap tokens text in
    sym (only_value c.args.bytes.now c.in_ok-value.value k c.read_value.new.reader (ap (value_read max_nest) (sym begun) ∙ c.in_ok-value.ensures.value) stands).0
