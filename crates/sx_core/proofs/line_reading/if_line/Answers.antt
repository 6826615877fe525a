use Rattle.sx_core.specs.Reading.{context}
use Rattle.sx_core.specs.declared.keyword.Keyword.TheVariants as word
use Rattle.sx_rules.specs.Views.{judgement}
use Rattle.sx_core.proofs.PartLaws.{line_fits, line_refused, if_part, if_bad}
use Rattle.sx_core.proofs.line_reading.if_line.Goals as goal

pub returns-in-Ok : goal.returns-in-Ok
returns-in-Ok c =
    let h = c.in-Ok.ensures in (
      h.row,
      line_fits (context c.args.found.now) word.If c.args.text.now c.args.rest.now c.requires.line h.row (if_part (context c.args.found.now) c.args.rest.now (judgement c.in-Ok.judgement) h),
      (h.named, h.is),
    )

pub returns-in-Err : goal.returns-in-Err
returns-in-Err c = line_refused (context c.args.found.now) word.If c.args.text.now c.args.rest.now c.in-Err.e c.requires.line (if_bad (context c.args.found.now) c.args.rest.now c.in-Err.e c.in-Err.ensures)
