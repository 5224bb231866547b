-- The text of a JSON module between the quotes of `JSON.parse('..')`.
use Rattle.std.specs.Prelude.{ℕ, nat_eq, ◌==◌, if◌then◌else◌, List, [], ◌∷◌, drop, map, codes}
use Rattle.std.specs.List.{concat, starts_with}

-- the text without a U+FEFF at its front
abbrev pub without_mark : List ℕ → List ℕ
without_mark bytes = if starts_with nat_eq bytes (239 ∷ 187 ∷ 191 ∷ []) then drop 3 bytes else bytes

-- a byte as it stands between single quotes: `\`, `'` and the ends of lines are written with a `\`
abbrev pub escape_of : ℕ → List ℕ
escape_of byte =
    if byte == 92 then codes "\\\\"
    else if byte == 39 then codes "\\'"
    else if byte == 10 then codes "\\n"
    else if byte == 13 then codes "\\r"
    else byte ∷ []

abbrev pub escaped : List ℕ → List ℕ
escaped bytes = concat (map escape_of bytes)
