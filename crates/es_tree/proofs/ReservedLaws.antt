-- `is_reserved` by the kind of program, for proofs that leave the lists of words closed.
use Rattle.std.proofs.Common.{◌≡◌, ℕ, List, refl}
use Rattle.std.specs.Prelude.{◌||◌, bytes_eq}
use Rattle.std.specs.List.{list_any}
use Rattle.std.proofs.lemmas.List.Folds.{list_any-append}
use Rattle.es_tree.specs.declared.tokens.ProgramGoal.TheVariants.{Script, Module}
use Rattle.es_tree.specs.ReservedWords.{words_of_scripts, words_of_modules, is_reserved}

pub is_reserved_in_scripts : (word : List ℕ) → is_reserved word Script ≡ list_any (bytes_eq word) words_of_scripts
unfolding is_reserved
is_reserved_in_scripts word = refl

pub is_reserved_in_modules : (word : List ℕ) → is_reserved word Module ≡ (list_any (bytes_eq word) words_of_scripts || list_any (bytes_eq word) words_of_modules)
unfolding is_reserved
is_reserved_in_modules word = list_any-append (bytes_eq word) words_of_scripts words_of_modules
