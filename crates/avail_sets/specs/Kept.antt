-- Rows of words that a value may keep. Only the model of rows and private clauses cite this.
use Rattle.std.specs.Prelude.{◌≡◌, ◌<◌, ℕ, List, [], true, length, slice_index_or}
use Rattle.avail_sets.specs.Words.{flag_in, words_for}

-- each row has the words that so many flags need, and no flag past them is set
pub record AreKept (modules : ℕ) (rows : List (List ℕ)) : Type 0 where
  pub long : (group : ℕ) → group < length rows → length (slice_index_or rows group []) ≡ words_for modules
  pub past : (group number : ℕ) → flag_in (slice_index_or rows group []) number ≡ true → number < modules
