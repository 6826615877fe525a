use Rattle.std.proofs.Common.{ℕ, List, refl, subst, arith}
use Rattle.std.specs.Prelude.{Err}
use Rattle.sx_steps.specs.Steps.{Untried}
use Rattle.sx_steps.specs.Stop.{Does}
use Rattle.sx_steps.proofs.StepsOn.{goes_from, stops_at, untried}
use Rattle.sx_uses.specs.ExtensionFile.{extension_of, extension_file}
use Rattle.sx_accepting.specs.ExtendedLanguages.{base_of, extended_data}
use Rattle.sx_accepting.specs.Extending.{read_data, ReadsAfter, Accepts}
use Rattle.sx_accepting.proofs.growing.extend_by.Goals as goal

pub read_next-requires-clause-before : goal.read_next-requires-clause-before
read_next-requires-clause-before g c = c.requires.can.1.before

pub accept_next-requires : goal.accept_next-requires
accept_next-requires g c = record {
  read = record {
    files = c.requires.can.0;
    can = c.requires.can.1;
    bytes = c.args.file.now.bytes.items;
    states = c.in-Ok.ensures.stated;
    fits = c.in-Ok.ensures.fits;
  };
}

pub returns-in-Ok-clause-step : goal.returns-in-Ok-clause-step
returns-in-Ok-clause-step g c =
    let l = c.args.given.now.language.now in
    let so_far = extended_data l c.args.so_far in
    let file = extension_of c.args.file.now in
    let budgets = c.args.given.now.budgets in
    let steps = c.args.steps.now in
    let read = read_data c.in-Ok.read in
    goes_from (extended_data l) (Untried (ReadsAfter (base_of l) so_far file))
    (Accepts (base_of l) budgets (extension_file file.header.name) so_far) read
    c.accept_next.result steps steps c.accept_next.new.steps
    (0, (c.in-Ok.ensures.step, refl), omega arith)
    (subst (λ (name : List ℕ). Does (extended_data l)
    (Accepts (base_of l) budgets name so_far read) c.accept_next.result steps
    c.accept_next.new.steps) c.requires.name c.accept_next.ensures.step)

pub returns-in-Err-clause-step : goal.returns-in-Err-clause-step
returns-in-Err-clause-step g c =
    let l = c.args.given.now.language.now in
    let so_far = extended_data l c.args.so_far in
    let file = extension_of c.args.file.now in
    let steps = c.args.steps.now in
    stops_at read_data (extended_data l) (Untried (ReadsAfter (base_of l) so_far file))
    (Accepts (base_of l) c.args.given.now.budgets (extension_file file.header.name) so_far)
    c.in-Err.e steps steps
    (untried read_data (ReadsAfter (base_of l) so_far file) (Err c.in-Err.e) steps
    c.in-Err.ensures.step)
