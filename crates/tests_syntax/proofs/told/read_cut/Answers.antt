use Rattle.tests_syntax.proofs.told.read_cut.Goals as goal

pub answered-requires-clause-stems : goal.answered-requires-clause-stems
answered-requires-clause-stems c = c.have_stems.ensures c.new.result.items c.if-have_stems.true
