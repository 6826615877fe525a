use Rattle.std.proofs.Common.{arith}
use Rattle.sx_rules.specs.Sets.{names_in}
use Rattle.sx_verify.proofs.ListLengths.{few_entries}
use Rattle.sx_verify.proofs.list_reading.state_entries.Goals as goal

pub returns-in-Ok-clause-few : goal.returns-in-Ok-clause-few
returns-in-Ok-clause-few c =
    let few = few_entries (names_in c.args.rules.now) c.args.bytes.now c.in-Ok.list.items
    c.in-Ok.ensures.found in
    let short = c.requires.short in
    omega arith
