use Rattle.sx_core.specs.Reading.{context}
use Rattle.sx_core.specs.declared.keyword.Keyword.TheVariants as word
use Rattle.sx_rules.specs.Views.{goal as goal_of}
use Rattle.sx_core.proofs.PartLaws.{line_fits, line_refused, goal_part, goal_bad}
use Rattle.sx_core.proofs.line_reading.goal_line.Goals as goal

pub returns-in-Ok : goal.returns-in-Ok
returns-in-Ok c =
    let h = c.in-Ok.ensures in
    let w = goal_part (context c.args.found.now) c.args.rest.now (goal_of c.in-Ok.goal) h in (
      record { form = h.form.word; terms = (goal_of c.in-Ok.goal).terms },
      line_fits (context c.args.found.now) word.Goal c.args.text.now c.args.rest.now c.requires.line (record { form = h.form.word; terms = (goal_of c.in-Ok.goal).terms }) w.0,
      w.1,
    )

pub returns-in-Err : goal.returns-in-Err
returns-in-Err c = line_refused (context c.args.found.now) word.Goal c.args.text.now c.args.rest.now c.in-Err.e c.requires.line (goal_bad (context c.args.found.now) c.args.rest.now c.in-Err.e c.in-Err.ensures)
