use Rattle.sx_language.proofs.SortedReads.{reads_are_sorted, bodies_are_sorted}
use Rattle.sx_language.proofs.laws.bodies_are_sorted.Goals as goal

pub returns-clause-reads : goal.returns-clause-reads
returns-clause-reads c = reads_are_sorted

pub returns-clause-bodies : goal.returns-clause-bodies
returns-clause-bodies c = bodies_are_sorted
