-- Stops of imports that are the same whatever the module's file.
use Rattle.std.proofs.Common.{◌≡◌, ℕ, List, ap, ◌∙◌}
use Rattle.std.specs.Prelude.{Result, Ok, Err, IfOk, Some}
use Rattle.sx_interface.specs.Interfaces.{InterfaceParts}
use Rattle.sx_environment.specs.declared.import_error.ImportError.{ImportError}
use Rattle.sx_steps.specs.declared.stop.Stop.{Stop}
use Rattle.sx_importing.specs.ImportStops.{import_stop}

-- they are so of this file
pub of_file : {E : Type 0} (file : List ℕ) (its : List InterfaceParts) (e d : ImportError)
    (r : Result Stop E) → e ≡ d →
    IfOk r (λ stop. (any : List ℕ) → import_stop any its d ≡ Some stop) →
    IfOk r (λ stop. import_stop file its e ≡ Some stop)
of_file file its e d (Ok stop) is h = ap (import_stop file its) is ∙ h file
of_file file its e d (Err x) is h = tt
