use Rattle.tests_logic.proofs.shown.pair_is_shown.Given as goal

abbrev pub ghosts-shown_with : goal.ghosts-shown_with
ghosts-shown_with a = record { name = a.blank.name; parts = a.blank.parts }
