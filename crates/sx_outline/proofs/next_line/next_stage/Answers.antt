use Rattle.std.proofs.Common.{refl, sym, subst, ◌∙◌}
use Rattle.sx_outline.specs.declared.read_lines.ReadLines.{ReadLines}
use Rattle.sx_outline.specs.declared.stage.Stage.TheVariants as stages
use Rattle.sx_outline.specs.Stages.{State, StepsAt}
use Rattle.sx_outline.specs.Reading.{AddsPlain}
use Rattle.sx_outline.proofs.StepLaws.{started, premised, conclusion_read, body_read, same_read, head_refused}
use Rattle.sx_outline.proofs.next_line.next_stage.Goals as goal

pub returns-in-Ok : goal.returns-in-Ok
returns-in-Ok c = λ known r is same s reader front.
    let k = c.args.kind in
    let name = c.args.name.now in
    let n = c.args.line.number in
    let text = c.args.line.text.now in
    same_read (λ (t : State). StepsAt s.stage k known name s n text t) known r stages.Declarations c.args.read.now (sym same)
    (started k known name r s n text stages.Declarations (is ∙ c.in-Start.is) c.in-Ok.ensures refl reader)

pub returns-in-Err : goal.returns-in-Err
returns-in-Err c = λ known r is same s reader front.
    head_refused c.args.kind known c.args.name.now r s c.args.line.number c.args.line.text.now c.in-Err.e (is ∙ c.in-Start.is) reader c.in-Err.ensures

pub returns-in-Ok-add_plain : goal.returns-in-Ok-add_plain
returns-in-Ok-add_plain c = λ known r is same s reader front.
    body_read c.args.kind known c.args.name.now r s c.args.line.number c.args.line.text.now c.in-Body.begun c.in-Ok-body_line.plain stages.Plains c.add_plain.new.self
    (is ∙ c.in-Body.is) c.in-Ok-body_line.ensures
    (subst (λ (x : ReadLines). AddsPlain x c.in-Ok-body_line.plain c.add_plain.new.self) (sym same) c.in-Ok-add_plain.ensures) refl reader

pub returns-in-Ok-premise_line : goal.returns-in-Ok-premise_line
returns-in-Ok-premise_line c = λ known r is same s reader front.
    let k = c.args.kind in
    let name = c.args.name.now in
    let n = c.args.line.number in
    let text = c.args.line.text.now in
    same_read (λ (t : State). StepsAt s.stage k known name s n text t) known r c.in-Ok-premise_line.next c.args.read.now (sym same)
    (premised k known name r s n text c.in-Premises.begun c.in-Ok-premise_line.next (is ∙ c.in-Premises.is) c.in-Ok-premise_line.ensures reader)

pub returns-in-Ok-conclusion_line : goal.returns-in-Ok-conclusion_line
returns-in-Ok-conclusion_line c = λ known r is same s reader front.
    let k = c.args.kind in
    let name = c.args.name.now in
    let n = c.args.line.number in
    let text = c.args.line.text.now in
    same_read (λ (t : State). StepsAt s.stage k known name s n text t) known r c.in-Ok-conclusion_line.next c.args.read.now (sym same)
    (conclusion_read k known name r s n text c.in-Conclusion.begun c.in-Ok-conclusion_line.next (is ∙ c.in-Conclusion.is) c.in-Ok-conclusion_line.ensures reader)
