-- The characters that begin with a byte beyond ASCII.
use Rattle.std.specs.Prelude.{ℕ, nat_lt, if◌then◌else◌, List}
use Rattle.es_tree.specs.Utf8.{byte, Character, no_character, of_two, of_three, of_four}

abbrev pub wide_character : ℕ → List ℕ → Character
wide_character a rest =
    if nat_lt a 0xE0 then of_two a (byte rest 0)
    else (if nat_lt a 0xF0 then of_three a (byte rest 0) (byte rest 1)
    else (if nat_lt a 0xF8 then of_four a (byte rest 0) (byte rest 1) (byte rest 2) else no_character))
