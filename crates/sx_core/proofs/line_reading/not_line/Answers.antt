use Rattle.sx_core.specs.Reading.{context}
use Rattle.sx_core.specs.declared.keyword.Keyword.TheVariants as word
use Rattle.sx_term.specs.Term.{tree}
use Rattle.sx_core.proofs.PartLaws.{line_fits, line_refused, not_part, not_bad}
use Rattle.sx_core.proofs.line_reading.not_line.Goals as goal

pub returns-in-Ok : goal.returns-in-Ok
returns-in-Ok c =
    line_fits (context c.args.found.now) word.Not c.args.text.now c.args.rest.now c.requires.line (record { left = tree c.in-Ok.left; right = tree c.in-Ok.right }) (not_part (context c.args.found.now) c.args.rest.now (tree c.in-Ok.left) (tree c.in-Ok.right) c.in-Ok.ensures)

pub returns-in-Err : goal.returns-in-Err
returns-in-Err c = line_refused (context c.args.found.now) word.Not c.args.text.now c.args.rest.now c.in-Err.e c.requires.line (not_bad (context c.args.found.now) c.args.rest.now c.in-Err.e c.in-Err.ensures)
