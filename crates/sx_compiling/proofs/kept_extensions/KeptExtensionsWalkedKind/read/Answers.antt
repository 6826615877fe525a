use Rattle.std.proofs.Common.{List, ℕ, ◌≡◌, sym, subst}
use Rattle.std.specs.Prelude.{Some, None}
use Rattle.sx_outside.specs.Views.{clean_files_of}
use Rattle.sx_uses.specs.ExtensionFile.{extension_of}
use Rattle.sx_compiling.specs.KeptFiles.{beside}
use Rattle.sx_compiling.proofs.KeptReads.{beside_kept, gives_file, reads_nothing}
use Rattle.sx_compiling.proofs.kept_extensions.KeptExtensionsWalkedKind.read.Goals as goal

pub returns-in-Some-clause-step : goal.returns-in-Some-clause-step
returns-in-Some-clause-step g c = λ files told.
    let kept = clean_files_of c.args.self.now.kept.now in
    c.state_again.ensures.step (beside kept files)
    (beside_kept kept files _ (Some c.in-Some.bytes.now)
    (subst (λ (n : List ℕ). kept n ≡ Some c.in-Some.bytes.now) c.in_ok-file.ensures
    c.in-Some.ensures))

pub returns-in-Some-clause-reads : goal.returns-in-Some-clause-reads
returns-in-Some-clause-reads g c =
    reads_nothing _ _ _ c.state_again.result c.state_again.ensures.no_fault

pub returns-clause-step : goal.returns-clause-step
returns-clause-step g c = λ files told.
    let kept = clean_files_of c.args.self.now.kept.now in
    gives_file extension_of c.args.name.now files (beside kept files) c.read_extension_file.result
    (sym (beside_kept kept files _ None
    (subst (λ (n : List ℕ). kept n ≡ None) c.in_ok-file.ensures c.in-None.ensures)))
    (c.read_extension_file.ensures.step files told)
