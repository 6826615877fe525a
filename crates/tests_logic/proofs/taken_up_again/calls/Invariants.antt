use Rattle.tests_logic.proofs.taken_up_again.calls.Given as goal

abbrev pub ghosts-three_calls : goal.ghosts-three_calls
ghosts-three_calls a = record { name = a.blank.name; parts = a.blank.parts }
