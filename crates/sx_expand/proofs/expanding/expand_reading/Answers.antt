use Rattle.std.proofs.Common.{sym, subst}
use Rattle.std.specs.Prelude.{Ok, Err}
use Rattle.sx_rules.specs.Views.{goal as goal_of}
use Rattle.sx_rewrite.specs.declared.rewrite_error.RewriteError.{RewriteError}
use Rattle.sx_rewrite.proofs.Instanced.{err_is}
use Rattle.sx_expand.specs.Expansions.{IsExpanding}
use Rattle.sx_expand.specs.Readings.{set_by, signature_by, hyps_by}
use Rattle.sx_expand.specs.LoweredLists.{IsListLowered}
use Rattle.sx_expand.proofs.Expansion.{lowered-by, answer-stands, answer-root, list-refused, root-refused, root-expanded}
use Rattle.sx_expand.proofs.expanding.expand_reading.Goals as goal

pub lower_listing-requires-clause-stands : goal.lower_listing-requires-clause-stands
lower_listing-requires-clause-stands c =
    let r = c.requires.listed in (r.0.0, answer-stands c.args.reading.now c.requires.reading (goal_of c.args.goal.now) r.0 r.1, r.1.rewritable.height)

pub returns-in_err-lowered : goal.returns-in_err-lowered
returns-in_err-lowered c = λ answer is.
    let l = c.args.reading.now in
    let g = goal_of c.args.goal.now in
    err_is (IsExpanding (set_by l) (signature_by l).subjects (hyps_by l) answer.0 c.args.budget) c.from_residual.result _ c.from_residual.ensures.1
    (λ e same. list-refused l c.requires.reading g answer is c.args.budget e
    (subst (λ (x : RewriteError). IsListLowered (set_by l) answer.0 c.args.budget (Err x)) (sym same) (lowered-by l c.requires.reading g answer is c.args.budget (Err _) (c.in_err-lowered.ensures answer.0 (answer-stands l c.requires.reading g answer is)))))

pub lowered_root-requires-clause-root : goal.lowered_root-requires-clause-root
lowered_root-requires-clause-root c =
    let r = c.requires.listed in
    let l = c.args.reading.now in
    let g = goal_of c.args.goal.now in
    let lowered = lowered-by l c.requires.reading g r.0 r.1 c.args.budget (Ok c.in_ok-lowered.lowered) (c.in_ok-lowered.ensures r.0.0 (answer-stands l c.requires.reading g r.0 r.1)) in
    (r.1.derives.0, r.0.0, answer-root l c.requires.reading g r.0 r.1 lowered.1)

pub returns-in-Ok : goal.returns-in-Ok
returns-in-Ok c = λ answer is.
    let l = c.args.reading.now in
    let g = goal_of c.args.goal.now in
    let lowered = lowered-by l c.requires.reading g answer is c.args.budget (Ok c.in_ok-lowered.lowered) (c.in_ok-lowered.ensures answer.0 (answer-stands l c.requires.reading g answer is)) in
    root-expanded l c.requires.reading g answer is c.args.budget c.in_ok-lowered.lowered lowered c.in-Ok.judgement (c.in-Ok.ensures is.derives.0 answer.0 (answer-root l c.requires.reading g answer is lowered.1))

pub returns-in-Err : goal.returns-in-Err
returns-in-Err c = λ answer is.
    let l = c.args.reading.now in
    let g = goal_of c.args.goal.now in
    let lowered = lowered-by l c.requires.reading g answer is c.args.budget (Ok c.in_ok-lowered.lowered) (c.in_ok-lowered.ensures answer.0 (answer-stands l c.requires.reading g answer is)) in
    root-refused l c.requires.reading g answer is c.args.budget c.in_ok-lowered.lowered lowered c.in-Err.error (c.in-Err.ensures is.derives.0 answer.0 (answer-root l c.requires.reading g answer is lowered.1))
