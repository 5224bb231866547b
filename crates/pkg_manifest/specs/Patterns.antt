-- Which paths a pattern names: a path and a pattern are segments between `/`.
use Rattle.std.specs.Prelude.{ℕ, List, [], ◌∷◌, Option, Some, None, Bool, ◌&&◌, not, ◌||◌, ◌==◌, nat_eq, nat_le, map, drop, if◌then◌else◌}
use Rattle.std.specs.Str.{bytes_eq}
use Rattle.std.specs.List.{starts_with, ends_with}
use Rattle.pkg_manifest.specs.Fitting.{Part, many, one, fits}

-- a byte from 128 to 191 begins no character in UTF-8
abbrev pub continues : ℕ → Bool
continues c = nat_le 128 c && nat_le c 191

-- what is left behind a character whose first byte stood before
abbrev pub behind_character : List ℕ → List ℕ
behind_character [] = []
behind_character (c ∷ s) = if continues c then behind_character s else c ∷ s

-- `?` takes one character, and another byte itself
abbrev pub byte_step : ℕ → List ℕ → Option (List ℕ)
byte_step c [] = None
byte_step c (d ∷ s) = if c == 63 then Some (behind_character s) else (if c == d then Some s else None)

-- `*` is any run
abbrev pub byte_part : ℕ → Part ℕ
byte_part c = if c == 42 then many else one c

abbrev pub segment_fits : List ℕ → List ℕ → Bool
segment_fits p s = fits byte_step (map byte_part p) s

abbrev pub joined : ℕ → List (List ℕ) → List (List ℕ)
joined c [] = (c ∷ []) ∷ []
joined c (s ∷ ss) = (c ∷ s) ∷ ss

-- the parts between each `/`
abbrev pub segments : List ℕ → List (List ℕ)
segments [] = [] ∷ []
segments (c ∷ s) = if c == 47 then [] ∷ segments s else joined c (segments s)

abbrev pub segment_step : List ℕ → List (List ℕ) → Option (List (List ℕ))
segment_step p [] = None
segment_step p (s ∷ ss) = if segment_fits p s then Some ss else None

-- a segment `**` is any number of segments
abbrev pub segment_part : List ℕ → Part (List ℕ)
segment_part p = if bytes_eq p (42 ∷ 42 ∷ []) then many else one p

-- ---- patterns of a package's files

abbrev pub without_dot : List ℕ → List ℕ
without_dot p = if starts_with nat_eq p (46 ∷ 47 ∷ []) then drop 2 p else p

abbrev pub slash_at_edge : List ℕ → Bool
slash_at_edge p = starts_with nat_eq p (47 ∷ []) || ends_with nat_eq p (47 ∷ [])

-- a pattern of one segment stands in any folder
abbrev pub anywhere : List (List ℕ) → List (Part (List ℕ))
anywhere [] = []
anywhere (p ∷ []) = many ∷ segment_part p ∷ []
anywhere (p ∷ q ∷ ps) = map segment_part (p ∷ q ∷ ps)

-- the pattern without a leading `./` names the path, and no `/` begins or ends it
abbrev pub names_whole : List ℕ → List ℕ → Bool
names_whole p path = not (slash_at_edge p) && fits segment_step (anywhere (segments p)) (segments path)

abbrev pub names : List ℕ → List ℕ → Bool
names p path = names_whole (without_dot p) path

-- one of `{ } [ ] ( ) ! \`
abbrev pub is_special : ℕ → Bool
is_special c = (c == 123) || (c == 125) || (c == 91) || (c == 93) || (c == 40) || (c == 41) || (c == 33) || (c == 92)
