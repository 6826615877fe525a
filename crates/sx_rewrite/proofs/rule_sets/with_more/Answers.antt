use Rattle.std.proofs.Common.{◌≡◌, ◌++◌, map}
use Rattle.sx_term.specs.Shapes.{shapes}
use Rattle.sx_rules.specs.declared.error.RuleError.{RuleError}
use Rattle.sx_rules.specs.declared.error.RuleError.TheVariants.{Memory}
use Rattle.sx_rules.specs.Good.{IsRuleSetRefused}
use Rattle.sx_rules.specs.Sets.{forms_in, rules_in}
use Rattle.sx_rules.specs.Views.{named}
use Rattle.sx_rules.proofs.Refusals.{not_refused}
use Rattle.sx_rewrite.proofs.rule_sets.with_more.Goals as goal
use Rattle.sx_rewrite.proofs.rule_sets.with_more.Goals.{Start}

-- the rules are good, so that the one refusal is out of memory
memory_alone : (c : Start) (e : RuleError)
    → IsRuleSetRefused (shapes c.args.all.now) (forms_in c.args.set.now) (rules_in c.args.set.now ++ map named c.args.more.items) e
    → e ≡ Memory
memory_alone c e =
    not_refused (shapes c.args.all.now) (forms_in c.args.set.now) (rules_in c.args.set.now ++ map named c.args.more.items) e c.requires.good

pub unreachable-requires-in-Err-TooManyVars : goal.unreachable-requires-in-Err-TooManyVars
unreachable-requires-in-Err-TooManyVars c =
    let e = memory_alone (goal.at.unreachable-requires-in-Err-TooManyVars c).Start c.in-Err-TooManyVars.field-0 c.in-Err-TooManyVars.ensures in
    let f = c.in-Err-TooManyVars.field-0-is in cc

pub unreachable-requires-in-Err-SameRule : goal.unreachable-requires-in-Err-SameRule
unreachable-requires-in-Err-SameRule c =
    let e = memory_alone (goal.at.unreachable-requires-in-Err-SameRule c).Start c.in-Err-SameRule.field-0 c.in-Err-SameRule.ensures in
    let f = c.in-Err-SameRule.field-0-is in cc

pub unreachable-requires-in-Err-SortDiffers : goal.unreachable-requires-in-Err-SortDiffers
unreachable-requires-in-Err-SortDiffers c =
    let e = memory_alone (goal.at.unreachable-requires-in-Err-SortDiffers c).Start c.in-Err-SortDiffers.field-0 c.in-Err-SortDiffers.ensures in
    let f = c.in-Err-SortDiffers.field-0-is in cc

pub unreachable-requires-in-Err-Discipline : goal.unreachable-requires-in-Err-Discipline
unreachable-requires-in-Err-Discipline c =
    let e = memory_alone (goal.at.unreachable-requires-in-Err-Discipline c).Start c.in-Err-Discipline.field-0 c.in-Err-Discipline.ensures in
    let f = c.in-Err-Discipline.field-0-is in cc

pub unreachable-requires-in-Err-NotModed : goal.unreachable-requires-in-Err-NotModed
unreachable-requires-in-Err-NotModed c =
    let e = memory_alone (goal.at.unreachable-requires-in-Err-NotModed c).Start c.in-Err-NotModed.field-0 c.in-Err-NotModed.ensures in
    let f = c.in-Err-NotModed.field-0-is in cc
