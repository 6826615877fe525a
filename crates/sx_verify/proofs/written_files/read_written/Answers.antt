use Rattle.std.proofs.Common.{ℕ, List, subst, ◌∙◌}
use Rattle.std.specs.Prelude.{Ok, Err}
use Rattle.sx_steps.specs.Stop.{Gives}
use Rattle.sx_steps.specs.Unit.{interface_file}
use Rattle.sx_steps.proofs.StepsOn.{goes_next, stops_first}
use Rattle.sx_headers.specs.ReadInterface.{held_interface, ReadsInterface}
use Rattle.sx_verify.specs.VerifyModule.{ReadsBase}
use Rattle.sx_verify.specs.WrittenFiles.{written_of}
use Rattle.sx_verify.proofs.written_files.read_written.Goals as goal

pub returns-in-Ok-clause-step : goal.returns-in-Ok-clause-step
returns-in-Ok-clause-step g c = λ files told.
    let name = c.args.asked.now.name.now in
    let i = held_interface c.in-Ok.held in
    goes_next written_of (ReadsInterface (interface_file name) name files)
    (ReadsBase name files) i c.read_base.result
    (subst (λ (file : List ℕ). ReadsInterface file name files (Ok i)) c.requires.interface
    (c.in-Ok.ensures.step files told))
    (c.read_base.ensures.step files (c.in-Ok.ensures.reads.content ∙ told))

pub returns-in-Err-clause-step : goal.returns-in-Err-clause-step
returns-in-Err-clause-step g c = λ files told.
    let name = c.args.asked.now.name.now in
    stops_first held_interface written_of (ReadsInterface (interface_file name) name files)
    (ReadsBase name files) c.in-Err.e
    (subst (λ (file : List ℕ).
    Gives held_interface (ReadsInterface file name files) (Err c.in-Err.e))
    c.requires.interface (c.in-Err.ensures.step files told))
