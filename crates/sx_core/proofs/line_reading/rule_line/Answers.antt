use Rattle.std.proofs.Common.{refl}
use Rattle.sx_core.specs.Reading.{context}
use Rattle.sx_core.specs.declared.keyword.Keyword.TheVariants as word
use Rattle.sx_core.proofs.PartLaws.{line_fits, line_refused, rule_part, rule_unnamed, rule_no_names, rule_no_sorts}
use Rattle.sx_core.proofs.line_reading.rule_line.Goals as goal

pub returns-in-Ok-sorts : goal.returns-in-Ok-sorts
returns-in-Ok-sorts c = (
  record { name = c.in-Ok.name; sorts = c.in-Ok-read_names.names.items },
  line_fits (context c.args.found.now) word.Rule c.args.text.now c.args.rest.now c.requires.line (record { name = c.in-Ok.name; sorts = c.in-Ok-read_names.names.items })
      (rule_part (context c.args.found.now) c.args.rest.now c.in-Ok.name c.in-Ok.more.now c.in-Ok-read_names.names.items c.in-Ok-sorts.sorts.items c.in-Ok.ensures c.in-Ok-read_names.ensures (rw c.deref.ensures.value at c.in-Ok-sorts.ensures)),
  refl,
  (rw c.deref.ensures.value at c.in-Ok-sorts.ensures),
)

pub returns-in-Err-sorts : goal.returns-in-Err-sorts
returns-in-Err-sorts c =
    line_refused (context c.args.found.now) word.Rule c.args.text.now c.args.rest.now c.in-Err-sorts.e c.requires.line
    (rule_no_sorts (context c.args.found.now) c.args.rest.now c.in-Ok.name c.in-Ok.more.now c.in-Ok-read_names.names.items c.in-Err-sorts.e c.in-Ok.ensures c.in-Ok-read_names.ensures (rw c.deref.ensures.value at c.in-Err-sorts.ensures))

pub returns-in-Err-read_names : goal.returns-in-Err-read_names
returns-in-Err-read_names c = line_refused (context c.args.found.now) word.Rule c.args.text.now c.args.rest.now c.in-Err-read_names.e c.requires.line (rule_no_names (context c.args.found.now) c.args.rest.now c.in-Ok.name c.in-Ok.more.now c.in-Err-read_names.e c.in-Ok.ensures c.in-Err-read_names.ensures)

pub returns-in-Err : goal.returns-in-Err
returns-in-Err c = line_refused (context c.args.found.now) word.Rule c.args.text.now c.args.rest.now c.in-Err.e c.requires.line (rule_unnamed (context c.args.found.now) c.args.rest.now c.in-Err.e c.in-Err.ensures)
