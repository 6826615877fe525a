-- Digests that are compared with those that are kept.
use Rattle.std.proofs.Common.{◌≡◌, ℕ, List, subst}
use Rattle.std.specs.Prelude.{Result, Ok}
use Rattle.sha2.specs.Sha256.{sha256}
use Rattle.sx_interface.specs.Interfaces.{InterfaceParts}
use Rattle.sx_words.specs.declared.closure_defect.Kept.{Kept}
use Rattle.sx_words.specs.declared.closure_defect.Kept.TheVariants.{BaseDigest}
use Rattle.sx_steps.specs.declared.step_error.StepError.{StepError}
use Rattle.sx_steps.specs.Stop.{Gives}
use Rattle.sx_steps.specs.Unit.{base_file, interface_file}
use Rattle.sx_steps.proofs.StepsOn.{goes_next}
use Rattle.sx_headers.specs.ReadModule.{Module}
use Rattle.sx_importing.specs.KeptValues.{KeepsDigest}
use Rattle.sx_importing.proofs.Results.{then_value}
use Rattle.sx_verify.specs.BaseFits.{FitsBeside}
use Rattle.sx_verify.specs.VerifyModule.{both_written, ComparesBase, FitsBase}

-- the same file and the same digest that was found
pub kept_as : (file own : List ℕ) (what : Kept) (kept found due : List ℕ)
    (r : Result (Unit {0}) StepError) → file ≡ own → found ≡ due →
    Gives (λ (done : Unit {0}). done) (KeepsDigest file what kept found) r →
    Gives (λ (done : Unit {0}). done) (KeepsDigest own what kept due) r
kept_as file own what kept found due r same is h =
    subst (λ (x : List ℕ). Gives (λ (done : Unit {0}). done) (KeepsDigest own what kept x) r) is
    (subst (λ (x : List ℕ). Gives (λ (done : Unit {0}). done) (KeepsDigest x what kept found) r)
    same h)

-- the digest of a base file that fits
pub base_kept : (name : List ℕ) (it : InterfaceParts) (m : Module) →
    FitsBeside (base_file name) it m (Ok tt) → (r : Result (Unit {0}) StepError) →
    Gives (λ (done : Unit {0}). done)
    (KeepsDigest (interface_file name) BaseDigest it.base (sha256 m.bytes)) r →
    Gives (λ (done : Unit {0}). both_written it m) (FitsBase name it m) r
base_kept name it m fits r kept =
    goes_next (λ (done : Unit {0}). both_written it m) (FitsBeside (base_file name) it m)
    (λ done. ComparesBase name it m) tt r fits
    (then_value (KeepsDigest (interface_file name) BaseDigest it.base (sha256 m.bytes))
    (both_written it m) r kept)
