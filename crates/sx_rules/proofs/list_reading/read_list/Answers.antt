use Rattle.std.proofs.Common.{subst}
use Rattle.sx_lines.specs.Lines.{lines_from}
use Rattle.sx_lines.specs.Reading.{GivesRead}
use Rattle.sx_lines.proofs.ReadLaws.{numbered}
use Rattle.sx_rules.specs.Sets.{shapes_in, forms_in, names_in}
use Rattle.sx_rules.specs.ListRead.{RefusesList}
use Rattle.sx_rules.proofs.Facts.{kept_distinct}
use Rattle.sx_rules.proofs.ListLaws.{AreRuleNames, is_stated, list_again, is_refused}
use Rattle.sx_rules.proofs.list_reading.read_list.Goals as goal

pub returns-clause-found : goal.returns-clause-found
returns-clause-found c = is_stated (names_in c.args.rules.now) (lines_from 1 c.args.bytes.now) c.list.result (numbered 1 c.args.bytes.now) c.list.ensures

pub returns-clause-only : goal.returns-clause-only
returns-clause-only c = λ named list s.
    let rules = c.args.rules.now in
    let names : AreRuleNames (names_in rules) = record { named = named; distinct = kept_distinct (shapes_in rules) (forms_in rules) rules.rules.items rules.good } in
    subst (λ r. GivesRead (λ v. v.items) RefusesList c.list.result r) (list_again (names_in rules) (lines_from 1 c.args.bytes.now) list names s) c.list.ensures

pub returns-clause-refused : goal.returns-clause-refused
returns-clause-refused c = λ named.
    let rules = c.args.rules.now in
    let names : AreRuleNames (names_in rules) = record { named = named; distinct = kept_distinct (shapes_in rules) (forms_in rules) rules.rules.items rules.good } in
    is_refused (names_in rules) (lines_from 1 c.args.bytes.now) c.list.result names (numbered 1 c.args.bytes.now) c.list.ensures
