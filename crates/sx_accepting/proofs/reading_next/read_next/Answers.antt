use Rattle.std.proofs.Common.{ℕ, List, refl, subst}
use Rattle.sx_extension.specs.Fitting.{FitsAfter}
use Rattle.sx_extension.specs.Grounds.{Ground, ground}
use Rattle.sx_extension.specs.States.{IsExtensionIn}
use Rattle.sx_accepting.proofs.QuietStops.{extension_quiet}
use Rattle.sx_accepting.proofs.reading_next.read_next.Goals as goal

pub returns-in-Ok-clause-step : goal.returns-in-Ok-clause-step
returns-in-Ok-clause-step c =
    let read = c.in-Ok.read in
    let at = ground c.before-before.result in
    record {
      whole = read;
      states = subst (λ (g : Ground). IsExtensionIn g c.args.file.now.bytes.items read)
          c.before-before.ensures (subst (λ (bytes : List ℕ). IsExtensionIn at bytes read)
          c.deref.ensures.value c.in-Ok.ensures.stated);
      fits = subst (λ (g : Ground). FitsAfter g read) c.before-before.ensures c.in-Ok.ensures.fits;
      is = refl;
    }

pub returns-in-Ok-bad_extension-clause-no_fault : goal.returns-in-Ok-bad_extension-clause-no_fault
returns-in-Ok-bad_extension-clause-no_fault c =
    extension_quiet (Unit {0}) c.args.name.now c.in-Err.error c.in-Ok-bad_extension.stop
    c.in-Ok-bad_extension.ensures
