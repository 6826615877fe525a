use Rattle.sx_compiling.proofs.planned_unit.unit_work.Goals as goal

pub returns : goal.returns
returns c = c.built_work.ensures
