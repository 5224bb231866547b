-- Paths from the root folder, by their written text. The text of the root is empty.
use Rattle.std.specs.Prelude.{ℕ, ◌-◌, ◌<◌, Bool, not, ◌&&◌, ◌||◌, ◌==◌, nat_lt, nat_le, IsTrue, List, [], ◌∷◌, ◌++◌, length, take, drop, slice_index, Option, Some, None, if◌then◌else◌, ◌⊎◌}
use Rattle.std.specs.Option.{option_and_then}
use Rattle.std.specs.List.{list_all, slice_split, join_with_byte, before_first}
use Rattle.std.specs.Str.{bytes_eq, is_utf8, IsValidUpTo}

abbrev pub is_slash : ℕ → Bool
is_slash c = c == 47

-- a control character, or one of the backslash, the double quote and the star
abbrev pub is_forbidden : ℕ → Bool
is_forbidden c = nat_lt c 32 || c == 127 || c == 92 || c == 34 || c == 42

-- empty, `.` or `..`
abbrev pub is_reserved : List ℕ → Bool
is_reserved s = bytes_eq s [] || bytes_eq s (46 ∷ []) || bytes_eq s (46 ∷ 46 ∷ [])

-- the name of a file or a folder: no control character, and none of slash, backslash, double quote and star
abbrev pub is_segment : List ℕ → Bool
is_segment s = not (is_reserved s) && list_all (λ c. not (is_forbidden c) && not (is_slash c)) s

-- the segments of a written path: the parts between its slashes, and none for the root
abbrev pub segments : List ℕ → List (List ℕ)
segments [] = []
segments (c ∷ cs) = slice_split is_slash (c ∷ cs)

-- segments as they are written
abbrev pub written : List (List ℕ) → List ℕ
written = join_with_byte 47

-- the text is a path: UTF-8 of at most 1,024 bytes, made of segments
abbrev pub is_path : List ℕ → Bool
is_path text = nat_le (length text) 1024 && is_utf8 text && list_all is_segment (segments text)

-- a segment begins at the start, and after each slash
abbrev pub begins_segment : List ℕ → ℕ → Bool
begins_segment text p = p == 0 || is_slash (slice_index text (p - 1))

-- the segment that begins at p
abbrev pub segment_at : List ℕ → ℕ → List ℕ
segment_at text p = before_first is_slash (drop p text)

-- a byte that no path holds stands at p
abbrev pub HasForbiddenByte : List ℕ → ℕ → Type 0
HasForbiddenByte text p = (p < length text) × IsTrue (is_forbidden (slice_index text p))

-- a segment that is empty, `.` or `..` begins at p
abbrev pub BeginsReservedSegment : List ℕ → ℕ → Type 0
BeginsReservedSegment text p = IsTrue (begins_segment text p) × IsTrue (is_reserved (segment_at text p))

-- the text breaks the rules of paths at p: by a byte, by a segment, or since what is UTF-8 ends there
abbrev pub Breaks : List ℕ → ℕ → Type 0
Breaks text p = HasForbiddenByte text p ⊎ (BeginsReservedSegment text p ⊎ IsValidUpTo text p)

pub record IsFirstBreak (text : List ℕ) (p : ℕ) : Type 0 where
  pub breaks : Breaks text p
  pub first : (q : ℕ) → q < p → ¬ (Breaks text q)

-- the segments without the last
abbrev pub without_last : List (List ℕ) → List (List ℕ)
without_last parts = take (length parts - 1) parts

-- the folder that a path lies in; the root's is the root
abbrev pub folder_of : List ℕ → List ℕ
folder_of text = written (without_last (segments text))

-- where one part of a relative path leads from a folder: an empty part and `.` stay there, `..` leaves it,
-- which nothing does at the root, and any other part enters
abbrev pub one_step : List (List ℕ) → List ℕ → Option (List (List ℕ))
one_step here part = if bytes_eq part [] || bytes_eq part (46 ∷ []) then Some here
    else (if bytes_eq part (46 ∷ 46 ∷ []) then (if length here == 0 then None else Some (without_last here))
    else Some (here ++ part ∷ []))

-- where the parts lead, one after another
abbrev pub walk : List (List ℕ) → List (List ℕ) → Option (List (List ℕ))
walk here [] = Some here
walk here (part ∷ parts) = option_and_then (λ next. walk next parts) (one_step here part)

-- the text, if it is a path
abbrev pub path_or_none : List ℕ → Option (List ℕ)
path_or_none text = if is_path text then Some text else None

-- the path that a relative text leads to from a folder
abbrev pub joined : List ℕ → List ℕ → Option (List ℕ)
joined folder relative = option_and_then (λ parts. path_or_none (written parts)) (walk (segments folder) (slice_split is_slash relative))
