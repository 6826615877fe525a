use Rattle.tests_logic.proofs.shown_units.pair_is_shown.Given as goal

abbrev pub ghosts-goals_shown : goal.ghosts-goals_shown
ghosts-goals_shown a = record { name = a.blank.name; parts = a.blank.parts }
