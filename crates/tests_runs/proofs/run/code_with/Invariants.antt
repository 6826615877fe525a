use Rattle.tests_runs.proofs.run.code_with.Given as goal

abbrev pub ghosts-run_with : goal.ghosts-run_with
ghosts-run_with a b = record { name = b.blank.name; parts = b.blank.parts }
