use Rattle.base_tests.proofs.counted.count_on_a_blank.Given as goal

abbrev pub ghosts-raise_twice : goal.ghosts-raise_twice
ghosts-raise_twice a = record { name = a.blank.name; parts = a.blank.parts }
