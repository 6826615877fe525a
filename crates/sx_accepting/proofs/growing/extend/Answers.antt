use Rattle.sx_uses.specs.ExtensionFile.{extension_of}
use Rattle.sx_accepting.specs.ExtendedLanguages.{extended_data}
use Rattle.sx_accepting.proofs.InOrder.{extends_nothing}
use Rattle.sx_accepting.proofs.growing.extend.Goals as goal

pub returns-in-Err-clause-step : goal.returns-in-Err-clause-step
returns-in-Err-clause-step g c =
    let l = c.args.given.now.language.now in
    extends_nothing l c.args.given.now.budgets (extension_of c.args.file.now)
    (extended_data l c.args.so_far) c.args.steps.now
