use Rattle.std.proofs.Common.{inr}
use Rattle.std.specs.Prelude.{Ok, Err}
use Rattle.sx_rules.specs.Views.{hypotheses}
use Rattle.sx_core.specs.Problem.{problem}
use Rattle.sx_top.proofs.Searching.{told_plain, counted_plain, comes_answer, comes_stop, searches_given, told_terms, counts_answer, counts_stop, counts_short, counts_most}
use Rattle.sx_top.proofs.search.find_first.Goals as goal

pub returns-in-Ok-clause-step : goal.returns-in-Ok-clause-step
returns-in-Ok-clause-step g c =
    let told = told_plain c.args.problem.now (hypotheses c.none-given.result) c.none-given.ensures.none c.args.budget (Ok c.in-Ok.listed) c.in-Ok.ensures.answer in
    (told.0, record { lists = told.2; given = searches_given (problem c.args.problem.now) c.requires c.args.file.now c.args.budget told.0 told.1 }, comes_answer c.args.file.now (problem c.args.problem.now) c.args.budget _ told.0 told.1)

pub returns-in-Ok-clause-tries : goal.returns-in-Ok-clause-tries
returns-in-Ok-clause-tries g c =
    counts_answer (problem c.args.problem.now) c.args.budget c.args.steps.now c.derive_list.new.steps c.in-Ok.listed
    (counted_plain c.args.problem.now (hypotheses c.none-given.result) c.none-given.ensures.none c.args.budget c.args.steps.now c.derive_list.new.steps (Ok c.in-Ok.listed) c.in-Ok.ensures.steps)

pub returns-in-Ok-clause-most : goal.returns-in-Ok-clause-most
returns-in-Ok-clause-most g c =
    counts_most (problem c.args.problem.now) c.args.budget c.args.steps.now c.derive_list.new.steps (Ok c.in-Ok.listed)
    (counted_plain c.args.problem.now (hypotheses c.none-given.result) c.none-given.ensures.none c.args.budget c.args.steps.now c.derive_list.new.steps (Ok c.in-Ok.listed) c.in-Ok.ensures.steps)

pub no_answer-requires : goal.no_answer-requires
no_answer-requires g c =
    told_terms (problem c.args.problem.now) c.requires c.args.budget c.in-Err.error
    (told_plain c.args.problem.now (hypotheses c.none-given.result) c.none-given.ensures.none c.args.budget (Err c.in-Err.error) c.in-Err.ensures.answer)

pub returns-clause-tries : goal.returns-clause-tries
returns-clause-tries g c =
    inr
    (counts_short (problem c.args.problem.now) c.args.budget c.args.steps.now c.derive_list.new.steps (Err c.in-Err.error)
    (counted_plain c.args.problem.now (hypotheses c.none-given.result) c.none-given.ensures.none c.args.budget c.args.steps.now c.derive_list.new.steps (Err c.in-Err.error) c.in-Err.ensures.steps))

pub returns-clause-most : goal.returns-clause-most
returns-clause-most g c =
    counts_most (problem c.args.problem.now) c.args.budget c.args.steps.now c.derive_list.new.steps (Err c.in-Err.error)
    (counted_plain c.args.problem.now (hypotheses c.none-given.result) c.none-given.ensures.none c.args.budget c.args.steps.now c.derive_list.new.steps (Err c.in-Err.error) c.in-Err.ensures.steps)

pub returns-in-Ok-no_answer-clause-step : goal.returns-in-Ok-no_answer-clause-step
returns-in-Ok-no_answer-clause-step g c =
    comes_stop c.args.file.now (problem c.args.problem.now) c.args.budget _ c.in-Err.error c.in-Ok-no_answer.stop
    (told_plain c.args.problem.now (hypotheses c.none-given.result) c.none-given.ensures.none c.args.budget (Err c.in-Err.error) c.in-Err.ensures.answer)
    c.in-Ok-no_answer.ensures

pub returns-in-Ok-no_answer-clause-tries : goal.returns-in-Ok-no_answer-clause-tries
returns-in-Ok-no_answer-clause-tries g c =
    counts_stop (problem c.args.problem.now) c.args.budget c.args.steps.now c.derive_list.new.steps c.args.file.now c.in-Err.error c.in-Ok-no_answer.stop
    (counted_plain c.args.problem.now (hypotheses c.none-given.result) c.none-given.ensures.none c.args.budget c.args.steps.now c.derive_list.new.steps (Err c.in-Err.error) c.in-Err.ensures.steps)
    c.in-Ok-no_answer.ensures

pub returns-in-Ok-no_answer-clause-most : goal.returns-in-Ok-no_answer-clause-most
returns-in-Ok-no_answer-clause-most g c =
    counts_most (problem c.args.problem.now) c.args.budget c.args.steps.now c.derive_list.new.steps (Err c.in-Err.error)
    (counted_plain c.args.problem.now (hypotheses c.none-given.result) c.none-given.ensures.none c.args.budget c.args.steps.now c.derive_list.new.steps (Err c.in-Err.error) c.in-Err.ensures.steps)
