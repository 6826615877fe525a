use Rattle.std.proofs.Common.{subst, sym}
use Rattle.std.specs.Prelude.{MatchResult}
use Rattle.sx_core.specs.Machine.{CoreSteps, StepRefused, keyword_of}
use Rattle.sx_core.proofs.StageLaws.{if_refused, not_refused}
use Rattle.sx_core.proofs.reader.Reader.take.Goals as goal

pub returns-in-Head : goal.returns-in-Head
returns-in-Head c =
    subst (λ x. MatchResult c.take_head.result (λ r. CoreSteps c.args.self c.args.number x r) (λ e. StepRefused c.args.self (keyword_of x) e)) (sym c.in-Head.is) (c.take_head.ensures c.args.number)

pub returns-in-Sort : goal.returns-in-Sort
returns-in-Sort c =
    subst (λ x. MatchResult c.take_sort.result (λ r. CoreSteps c.args.self c.args.number x r) (λ e. StepRefused c.args.self (keyword_of x) e)) (sym c.in-Sort.is) (c.take_sort.ensures c.args.number)

pub returns-in-Con : goal.returns-in-Con
returns-in-Con c =
    subst (λ x. MatchResult c.take_con.result (λ r. CoreSteps c.args.self c.args.number x r) (λ e. StepRefused c.args.self (keyword_of x) e)) (sym c.in-Con.is) (c.take_con.ensures c.args.number)

pub returns-in-Form : goal.returns-in-Form
returns-in-Form c =
    subst (λ x. MatchResult c.take_form.result (λ r. CoreSteps c.args.self c.args.number x r) (λ e. StepRefused c.args.self (keyword_of x) e)) (sym c.in-Form.is) (c.take_form.ensures c.args.number)

pub returns-in-If : goal.returns-in-If
returns-in-If c =
    subst (λ x. MatchResult c.take_premise.result (λ r. CoreSteps c.args.self c.args.number x r) (λ e. StepRefused c.args.self (keyword_of x) e)) (sym c.in-If.is) (if_refused c.args.self _ _ c.take_premise.ensures)

pub returns-in-Not : goal.returns-in-Not
returns-in-Not c =
    subst (λ x. MatchResult c.take_premise-in-Not.result (λ r. CoreSteps c.args.self c.args.number x r) (λ e. StepRefused c.args.self (keyword_of x) e)) (sym c.in-Not.is) (not_refused c.args.self _ _ c.take_premise-in-Not.ensures)

pub returns-in-Then : goal.returns-in-Then
returns-in-Then c =
    subst (λ x. MatchResult c.take_then.result (λ r. CoreSteps c.args.self c.args.number x r) (λ e. StepRefused c.args.self (keyword_of x) e)) (sym c.in-Then.is) (c.take_then.ensures c.args.number)

pub returns-in-End : goal.returns-in-End
returns-in-End c =
    subst (λ x. MatchResult c.take_end.result (λ r. CoreSteps c.args.self c.args.number x r) (λ e. StepRefused c.args.self (keyword_of x) e)) (sym c.in-End.is) (c.take_end.ensures c.args.number)

pub returns-in-Goal : goal.returns-in-Goal
returns-in-Goal c =
    subst (λ x. MatchResult c.take_goal.result (λ r. CoreSteps c.args.self c.args.number x r) (λ e. StepRefused c.args.self (keyword_of x) e)) (sym c.in-Goal.is) (c.take_goal.ensures c.args.number)
