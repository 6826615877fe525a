use Rattle.sx_interface.specs.InterfaceView.{interface_view}
use Rattle.sx_headers.specs.ReadModule.{module_of}
use Rattle.sx_importing.proofs.Results.{stop_of_step}
use Rattle.sx_verify.specs.VerifyModule.{both_written, FitsBase}
use Rattle.sx_verify.specs.WrittenFiles.{written_of}
use Rattle.sx_verify.proofs.written_files.beside.Goals as goal

pub returns-in-Ok-clause-step : goal.returns-in-Ok-clause-step
returns-in-Ok-clause-step c = c.in-Ok.ensures.step

pub returns-in-Ok-clause-good : goal.returns-in-Ok-clause-good
returns-in-Ok-clause-good c = record {
  short = c.requires.short;
  names = c.requires.names;
  fits = c.in-Ok.ensures.fits;
}

pub returns-in-Err-clause-step : goal.returns-in-Err-clause-step
returns-in-Err-clause-step c =
    let it = interface_view c.args.interface in
    let m = module_of c.args.base in
    stop_of_step (λ (done : Unit {0}). both_written it m) written_of
    (FitsBase c.args.asked.now.name.now it m) c.in-Err.e c.in-Err.ensures.step
