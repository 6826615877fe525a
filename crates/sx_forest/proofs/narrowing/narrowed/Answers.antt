use Rattle.sx_forest.proofs.narrowing.narrowed.Goals as goal

pub returns-clause-kept : goal.returns-clause-kept
returns-clause-kept c = λ place is. ((c.common.ensures place).0 is).0

pub returns-clause-none : goal.returns-clause-none
returns-clause-none c = λ ts place low is out. c.sources-own.ensures ts place low (λ there. out ((c.common.ensures place).1 (is, there)))
