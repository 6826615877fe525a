use Rattle.tests_syntax.proofs.spans.chart_cut.Goals as goal

pub charted-requires-clause-stems : goal.charted-requires-clause-stems
charted-requires-clause-stems c = c.have_stems.ensures c.new.result.items c.if-have_stems.true
