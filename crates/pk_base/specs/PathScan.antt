-- What a look through a text finds: where it breaks the rules of paths, but for what isn't UTF-8.
use Rattle.std.specs.Prelude.{◌≡◌, ℕ, ◌<◌, Bool, true, false, ◌&&◌, ◌||◌, ◌==◌, nat_lt, List, length, slice_index, ◌≢◌}
use Rattle.pk_base.specs.Paths.{is_forbidden, is_slash, is_reserved, begins_segment, segment_at}

-- a segment that begins before p ends at p
abbrev pub is_end : List ℕ → ℕ → Bool
is_end text p = p == length text || is_slash (slice_index text p)

abbrev pub has_fault : List ℕ → ℕ → Bool
has_fault text p = nat_lt p (length text) && is_forbidden (slice_index text p) || begins_segment text p && is_reserved (segment_at text p)

pub record IsFirstFault (text : List ℕ) (p : ℕ) : Type 0 where
  pub fault : has_fault text p ≡ true
  pub first : (q : ℕ) → q < p → has_fault text q ≡ false

-- no slash begins the text
abbrev pub IsRelative : List ℕ → Type 0
IsRelative text = slice_index text 0 ≢ 47
