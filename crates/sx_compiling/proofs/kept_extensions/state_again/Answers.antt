use Rattle.std.proofs.Common.{refl, sym, ◌∙◌, subst, List, ℕ, ◌≡◌}
use Rattle.std.specs.Prelude.{Some}
use Rattle.sx_outside.specs.Views.{clean_files_of}
use Rattle.sx_uses.specs.ExtensionFile.{extension_of}
use Rattle.sx_compiling.proofs.KeptReads.{gives_file, no_faults}
use Rattle.sx_compiling.proofs.kept_extensions.state_again.Goals as goal

pub returns-in-Ok-clause-step : goal.returns-in-Ok-clause-step
returns-in-Ok-clause-step c = λ files stands.
    let held = clean_files_of c.in-Ok.shelf in
    gives_file extension_of c.args.name.now held files c.read_extension_file-again.result
    (subst (λ (n : List ℕ). held n ≡ Some c.args.bytes.now) c.requires c.in-Ok.ensures
    ∙ sym stands)
    (c.read_extension_file-again.ensures.step held refl)

pub returns-in-Ok-clause-no_fault : goal.returns-in-Ok-clause-no_fault
returns-in-Ok-clause-no_fault c =
    no_faults _ _ _ c.read_extension_file-again.result c.read_extension_file-again.ensures.reads
