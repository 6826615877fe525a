use Rattle.sx_term.specs.Term.{tree}
use Rattle.sx_unit.specs.Modules.{module_data}
use Rattle.sx_unit.proofs.ExpandedTypings.{goal_is_shallow}
use Rattle.sx_unit.proofs.compiling.compile_typed.Goals as goal

pub is_lowered-requires-clause-shallow : goal.is_lowered-requires-clause-shallow
is_lowered-requires-clause-shallow c =
    let s = (module_data c.args.given.now).source in
    let t = c.requires.typed in
    goal_is_shallow s c.requires.can.dialect.is _ c.requires.can.dialect.forms t.0
    (tree c.args.body.now.term) c.args.typed t.1 c.requires.can.environment c.requires.good
