use Rattle.std.proofs.Common.{◌≡◌, length, sym, ◌∙◌, subst, arith}
use Rattle.sx_term.specs.Shapes.{shapes}
use Rattle.sx_extension.proofs.Going.{extensions_go_on}
use Rattle.sx_accepting.specs.declared.extended.Extended.{Extended}
use Rattle.sx_accepting.specs.AcceptanceStops.{Refusing, CanTellError}
use Rattle.sx_accepting.specs.ExtendedLanguages.{ExtendedData, base_of, extended_data}
use Rattle.sx_accepting.specs.ExtendedLanguages.{ground_after, CanExtend}
use Rattle.sx_accepting.specs.Extending.{refusing_after}
use Rattle.sx_accepting.proofs.Accepting.{same_refusing, accepts_new, accepts_none}
use Rattle.sx_accepting.proofs.Lasting.{lasts, can_accept}
use Rattle.sx_accepting.proofs.QuietStops.{told_quiet}
use Rattle.sx_accepting.proofs.accepting_next.accept_told.Goals as goal

pub accept-requires-clause-bodies : goal.accept-requires-clause-bodies
accept-requires-clause-bodies g c =
    let was = c.requires.read in
    (can_accept c.args.given.now.language.now c.args.so_far c.args.read c.kept.ensures
    was.can.before was.can.shapes was.fits).bodies

pub refusal-error-requires : goal.refusal-error-requires
refusal-error-requires g c =
    let l = c.args.given.now.language.now in
    let was = c.requires.read in
    let can = can_accept l c.args.so_far c.args.read c.kept.ensures was.can.before was.can.shapes
    was.fits in
    let answer = c.in-Err.ensures.answer in
    let same = same_refusing l c.args.so_far c.args.read c.args.given.now.budgets c.args.name.now
    c.in-Err.refused.set c.deref.result.now c.deref-in-Err.result.now answer.2.1.rules
    (c.deref.ensures.value ∙ c.requires.names) c.deref-in-Err.ensures.value in
    subst (λ (by : Refusing). CanTellError by c.in-Err.refused.error) (sym same)
    (c.refused_extensions_can_be_told.ensures c.args.so_far.accepted c.kept.ensures
    (ground_after l c.args.so_far) was.bytes c.args.read was.can.before was.states
    (sym was.can.before.rule_forms) can c.args.given.now.budgets answer.0
    c.in-Err.refused.error answer.2.0)

pub returns-in-Ok-clause-step : goal.returns-in-Ok-clause-step
returns-in-Ok-clause-step g c =
    let given = c.args.given.now in
    let len = c.len-last.ensures in
    let held = c.args.read.extension.rules.ok in
    let many : c.len-last.result ≡ length c.args.read.extension.rules.items = omega arith in
    accepts_new given.language.now c.args.so_far c.args.read given.budgets c.args.name.now
    c.args.steps.now c.accept.new.steps (shapes c.args.told.shapes) c.requires.shapes
    c.in-Ok.accepted c.len-last.result many c.in-Ok.ensures.answer

pub returns-in-Ok-clause-next : goal.returns-in-Ok-clause-next
returns-in-Ok-clause-next g c =
    let given = c.args.given.now in
    let len = c.len-last.ensures in
    let held = c.args.read.extension.rules.ok in
    let many : c.len-last.result ≡ length c.args.read.extension.rules.items = omega arith in
    let l = given.language.now in
    let was = c.requires.read in
    let made = accepts_new l c.args.so_far c.args.read given.budgets c.args.name.now
    c.args.steps.now c.accept.new.steps (shapes c.args.told.shapes) c.requires.shapes
    c.in-Ok.accepted c.len-last.result many c.in-Ok.ensures.answer in
    λ files can. subst (λ (x : ExtendedData). CanExtend (base_of l) x files) (sym made.1.2)
    (lasts extensions_go_on (base_of l) (extended_data l c.args.so_far) c.args.read was.bytes
    was.states was.fits made.1.0 files can)

pub returns-in-Err-clause-step : goal.returns-in-Err-clause-step
returns-in-Err-clause-step g c =
    let given = c.args.given.now in
    accepts_none given.language.now c.args.so_far c.args.read given.budgets c.args.name.now
    c.args.steps.now c.accept.new.steps (shapes c.args.told.shapes) c.in-Err.refused
    c.refusal-error.result c.deref.result.now c.deref-in-Err.result.now
    (c.deref.ensures.value ∙ c.requires.names) c.deref-in-Err.ensures.value c.in-Err.ensures.answer
    c.refusal-error.ensures.told

pub returns-in-Err-clause-no_fault : goal.returns-in-Err-clause-no_fault
returns-in-Err-clause-no_fault g c =
    told_quiet Extended c.args.name.now (refusing_after c.args.given.now.language.now
    c.args.read.rule_grammar c.in-Err.refused.set c.deref.result.now c.deref-in-Err.result.now)
    c.in-Err.refused.error c.refusal-error.result c.refusal-error.ensures.told
