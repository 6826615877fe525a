use Rattle.tests_logic.proofs.asking.answer_wanted.Given as goal

abbrev pub ghosts-derive_with : goal.ghosts-derive_with
ghosts-derive_with a = record { name = a.blank.name; parts = a.blank.parts }
