use Rattle.std.proofs.Common.{◌≡◌, ℕ, ◌+◌, ◌-◌, List, length, map, drop, sym, subst, arith}
use Rattle.std.specs.Prelude.{Result, Err}
use Rattle.sx_notation.specs.Language.{language_data}
use Rattle.sx_rewrite.proofs.Instanced.{err_is}
use Rattle.sx_extension.proofs.Going.{languages_begin}
use Rattle.sx_steps.specs.declared.step_error.StepError.{StepError}
use Rattle.sx_steps.specs.Stop.{Does}
use Rattle.sx_uses.specs.ExtensionFile.{Extension, extension_of}
use Rattle.sx_accepting.specs.declared.extended.Extended.{Extended}
use Rattle.sx_accepting.specs.ExtendedLanguages.{ExtendedData, base_of, extended_data, unextended}
use Rattle.sx_accepting.specs.ExtendedLanguages.{CanExtend, CanExtendBy}
use Rattle.sx_accepting.specs.Extending.{ExtendsLanguage}
use Rattle.sx_accepting.proofs.Begun.{first_can}
use Rattle.sx_accepting.proofs.InOrder.{nothing_extends, LeadsOn, leads_first, leads_next}
use Rattle.sx_accepting.proofs.InOrder.{leads_stop, leads_end, rest_is, none_left, short_at}
use Rattle.sx_accepting.proofs.InOrder.{one_less}
use Rattle.sx_accepting.proofs.growing.extend_language.Goals as goal

pub returns-in_err-so_far-clause-step : goal.returns-in_err-so_far-clause-step
returns-in_err-so_far-clause-step g c =
    let l = c.args.language.now in
    let files = map extension_of c.args.files.now in
    let s = c.args.steps.now in
    let budgets = c.args.budgets in
    err_is (λ (result : Result Extended StepError). Does (extended_data l)
    (ExtendsLanguage (base_of l) budgets files (unextended (language_data l))) result s s)
    c.from_residual.result _ c.from_residual.ensures.1
    (λ e is. subst (λ (e : StepError). Does (extended_data l)
    (ExtendsLanguage (base_of l) budgets files (unextended (language_data l))) (Err e) s s) (sym is)
    (nothing_extends l budgets files (unextended (language_data l)) s))

pub loop-i-init : goal.loop-i-init
loop-i-init g c =
    let l = c.args.language.now in
    let text = c.requires.text.1 in
    let many = length c.args.files.now - 0 in
    let few = c.requires.few in
    record {
      can = subst (λ (x : ExtendedData). CanExtend (base_of l) x many) (sym c.in_ok-so_far.ensures)
          (first_can l c.requires.language languages_begin c.requires.text.0 text.bytes text.states
          text.short many (omega (arith, few)));
      leads = leads_first l c.args.budgets (map extension_of c.args.files.now) c.args.steps.now
          c.in_ok-so_far.so_far c.in_ok-so_far.ensures;
    }

pub extend-requires-clause-can : goal.extend-requires-clause-can
extend-requires-clause-can g c = (length c.args.files.now - c.loop-i.i, c.loop-i.invariant.can)

pub extend-requires-clause-short : goal.extend-requires-clause-short
extend-requires-clause-short g c =
    short_at c.args.files.now c.requires.files c.loop-i.i c.index-files-i.result c.loop-i-test.true
    c.index-files-i.is

pub loop-i-preserved : goal.loop-i-preserved
loop-i-preserved g c =
    let l = c.args.language.now in
    let files = c.args.files.now in
    let file = c.index-files-i.result in
    let leads = subst (λ (rest : List Extension). LeadsOn l c.args.budgets (map extension_of files)
    rest c.args.steps.now c.loop-i.steps c.loop-i.so_far)
    (rest_is files c.loop-i.i file c.loop-i-test.true c.index-files-i.is)
    c.loop-i.invariant.leads in
    record {
      can = one_less l c.loop-i.so_far c.in-Ok.next (length files) c.loop-i.i c.loop-i-test.true
          c.in-Ok.ensures.next c.loop-i.invariant.can;
      leads = leads_next l c.args.budgets (map extension_of files) c.args.steps.now c.loop-i.steps
          c.loop-i.so_far (extension_of file) (map extension_of (drop (c.loop-i.i + 1) files))
          c.extend.new.steps c.in-Ok.next leads c.in-Ok.ensures.step;
    }

pub returns-in-Err-clause-step : goal.returns-in-Err-clause-step
returns-in-Err-clause-step g c =
    let l = c.args.language.now in
    let files = c.args.files.now in
    let file = c.index-files-i.result in
    let leads = subst (λ (rest : List Extension). LeadsOn l c.args.budgets (map extension_of files)
    rest c.args.steps.now c.loop-i.steps c.loop-i.so_far)
    (rest_is files c.loop-i.i file c.loop-i-test.true c.index-files-i.is)
    c.loop-i.invariant.leads in
    leads_stop l c.args.budgets (map extension_of files) c.args.steps.now c.loop-i.steps
    c.loop-i.so_far (extension_of file) (map extension_of (drop (c.loop-i.i + 1) files))
    c.extend.new.steps c.in-Err.e leads c.in-Err.ensures.step

pub returns-clause-step : goal.returns-clause-step
returns-clause-step g c =
    let l = c.args.language.now in
    let files = c.args.files.now in
    let leads = subst (λ (rest : List Extension). LeadsOn l c.args.budgets (map extension_of files)
    rest c.args.steps.now c.loop-i.steps c.loop-i.so_far)
    (none_left files c.loop-i.i c.loop-i-test.false) c.loop-i.invariant.leads in
    leads_end l c.args.budgets (map extension_of files) c.args.steps.now c.loop-i.steps
    c.loop-i.so_far leads

pub returns-clause-can : goal.returns-clause-can
returns-clause-can g c =
    let all = c.loop-i-test.false in
    let none : length c.args.files.now - c.loop-i.i ≡ 0 = omega (arith, all) in
    subst (λ (n : ℕ). CanExtendBy c.args.language.now c.loop-i.so_far n) none
    c.loop-i.invariant.can
