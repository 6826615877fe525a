use Rattle.std.proofs.Common.{subst}
use Rattle.sx_outline.specs.Stages.{Stage, IsWhole}
use Rattle.sx_outline.specs.Reading.{stage}
use Rattle.sx_outline.proofs.EndLaws.{left_open, no_line, is_whole}
use Rattle.sx_outline.proofs.finish.finish.Goals as goal

pub returns-in-Some : goal.returns-in-Some
returns-in-Some c = λ s reader whole. left_open s (stage c.args.reader.stage) c.args.number c.in-Some.first c.bad_line.result reader.stage_is c.in-Some.ensures c.bad_line.ensures

pub returns-in-Start : goal.returns-in-Start
returns-in-Start c = λ s reader whole. no_line s c.args.reader.stage c.args.number c.bad_line-in-Start.result reader.stage_is c.in-Start.is c.bad_line-in-Start.ensures

pub returns-in_default : goal.returns-in_default
returns-in_default c = λ s reader whole.
    let w = subst (λ (x : Stage). IsWhole x) reader.stage_is (is_whole c.args.reader.stage c.in_default.not-Start c.in-None.ensures) in
    c.finish_whole.ensures s w (whole w) reader.main_is reader.rules_are
