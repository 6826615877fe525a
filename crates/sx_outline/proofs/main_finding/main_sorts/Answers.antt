use Rattle.sx_outline.proofs.FindLaws.{main_sorts_are}
use Rattle.sx_outline.proofs.main_finding.main_sorts.Goals as goal

pub returns-in-Some-one_name : goal.returns-in-Some-one_name
returns-in-Some-one_name c = main_sorts_are c.args.symbols.now c.count_at.result c.in-Some.environment.now c.in-Some-one_name.signature.now c.count_at.ensures c.if-count_at-ne1.false c.in-Some.ensures c.in-Some-one_name.ensures

pub returns-in-None-one_name : goal.returns-in-None-one_name
returns-in-None-one_name c = λ environment signature h. c.in-None-one_name.ensures signature h.output

pub returns-in-None : goal.returns-in-None
returns-in-None c = λ environment signature h. c.in-None.ensures environment h.input
