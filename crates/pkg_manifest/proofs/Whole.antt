-- A whole text: what is read is its only value.
use Rattle.std.proofs.Common.{◌≡◌, ℕ, List, [], Some, sym, ap, subst, ◌∙◌}
use Rattle.std.specs.Str.{IsUtf8}
use Rattle.json.specs.Token.{Token}
use Rattle.json.specs.Lex.{tokens}
use Rattle.json.specs.Json.{value, parse_map}
use Rattle.pkg_manifest.specs.declared.value.Json.{Json}
use Rattle.pkg_manifest.specs.Grammar.{ElementAt, StandsFor, max_nest, without_mark}
use Rattle.pkg_manifest.specs.Reading.{kept, value_read}
use Rattle.pkg_manifest.proofs.Complete.{text_made}
use Rattle.pkg_manifest.proofs.Sound.{some_pair, parse_map_some, text_found}

pub whole_found : (bytes : List ℕ) (j : Json) → IsUtf8 (without_mark bytes) → value_read max_nest (tokens (without_mark bytes)) ≡ Some (j, []) → StandsFor bytes j
whole_found bytes j utf8 e =
    let found = parse_map_some kept (value max_nest (tokens (without_mark bytes))) j [] e in
    record { utf8 = utf8; value = subst (λ k. ElementAt max_nest (without_mark bytes) k []) found.2 (text_found max_nest (without_mark bytes) found.0 found.1) }

pub whole_made : (bytes : List ℕ) (j : Json) → StandsFor bytes j → value_read max_nest (tokens (without_mark bytes)) ≡ Some (j, [])
whole_made bytes j stands =
    let made = text_made max_nest (without_mark bytes) j stands.value in
    ap (parse_map kept) made.1 ∙ ap (λ k. Some (k, [])) made.2

pub only_value : (bytes : List ℕ) (j k : Json) (ts : List Token) → value_read max_nest (tokens (without_mark bytes)) ≡ Some (j, ts) → StandsFor bytes k → (j ≡ k) × (ts ≡ [])
only_value bytes j k ts e stands = some_pair j k ts [] (sym e ∙ whole_made bytes k stands)

pub one_value : (bytes : List ℕ) (j k : Json) → StandsFor bytes j → StandsFor bytes k → j ≡ k
one_value bytes j k one other = (only_value bytes j k [] (whole_made bytes j one) other).0
