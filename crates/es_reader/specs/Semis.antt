-- Where a semicolon may be left out, and where an expression is closed.
use Rattle.std.specs.Prelude.{ℕ, Bool, false, ◌||◌, List, [], ◌∷◌, Option, Some, None, codes, if◌then◌else◌}
use Rattle.es_tree.specs.declared.tokens.Token.{Token}
use Rattle.es_tree.specs.declared.tokens.Goal.TheVariants.{Operator}
use Rattle.es_grammar.specs.declared.places.Ending.{Ending}
use Rattle.es_grammar.specs.declared.places.Stop.{Stop}
use Rattle.es_grammar.specs.Reading.{Bytes, spelled}
use Rattle.es_grammar.specs.Semicolons.{closes, is_fresh}
use Rattle.es_reader.specs.Basics.{◌>>=◌, Reader, is_mark, token}

-- the token that was looked for is there, and is so
abbrev pub holds : (Token → Bool) → Option Token → Bool
holds test None = false
holds test (Some t) = test t

-- a token behind what ended closes it, or doesn't go on
abbrev pub ends : Bytes → List (List ℕ) → Ending → Token → Bool
ends text marks ending t = closes marks t.kind (spelled text t) || is_fresh text ending t

-- an expression is closed by the token behind it
unfoldable pub is_closed : Bytes → Stop → Bool
is_closed text s = holds (ends text (codes ")" ∷ codes "]" ∷ codes "}" ∷ codes ":" ∷ codes ";" ∷ []) s.ending) (token text Operator s.at)

-- a semicolon behind what ended so
unfoldable pub read_semi : Bytes → Stop → Option (Option Token × ℕ)
read_semi text s = token text Operator s.at >>= λ t.
    if is_mark text (codes ";") t then Some (Some t, t.end)
    else (if ends text (codes "}" ∷ []) s.ending t then Some (None, s.at) else None)

abbrev pub free_semi : Bytes → ℕ → Option Token → Option Token × ℕ
free_semi text p None = (None, p)
free_semi text p (Some t) = if is_mark text (codes ";") t then (Some t, t.end) else (None, p)

-- one that may always be left out
unfoldable pub read_free_semi : Bytes → Reader (Option Token)
read_free_semi text p = Some (free_semi text p (token text Operator p))
