use Rattle.tests_uses.proofs.expanded.tell_by.Given as goal

abbrev pub ghosts-tell_extended : goal.ghosts-tell_extended
ghosts-tell_extended a = record { name = a.blank.name; parts = a.blank.parts }
