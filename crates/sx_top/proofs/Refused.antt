-- Stops of calls below are no faults of reading or writing.
use Rattle.std.proofs.Common.{◌≡◌, ℕ, List, refl}
use Rattle.std.specs.Prelude.{Err, Some}
use Rattle.sx_core.specs.Problem.{Problem}
use Rattle.sx_core.specs.declared.error.CoreFileError.{CoreFileError}
use Rattle.sx_core.specs.declared.error.CoreFileError.TheVariants as core_error
use Rattle.sx_derive.specs.declared.derive_error.DeriveError.{DeriveError}
use Rattle.sx_derive.specs.declared.derive_error.DeriveError.TheVariants as derive_error
use Rattle.sx_steps.specs.declared.stop.Stop.{Stop}
use Rattle.sx_steps.specs.declared.status.Status.TheVariants as statuses
use Rattle.sx_steps.specs.Refusal.{status_of}
use Rattle.sx_steps.specs.Stop.{IsNoFault}
use Rattle.sx_steps.proofs.Quiet.{same_status, rules_refused, refused_quiet, spent_quiet}
use Rattle.sx_top.specs.CoreStops.{variable_name}
use Rattle.sx_top.specs.LowerStops.{core_stop, derive_stop}
use Rattle.sx_steps.specs.declared.step_error.StepError.TheVariants as errors

core_refused : (file : List ℕ) (e : CoreFileError) (stop : Stop) → core_stop file e ≡ Some stop → status_of stop ≡ statuses.Refused
core_refused file core_error.Memory stop is = absurd cc
core_refused file (core_error.NotUtf8 before) stop is = same_status _ stop _ is refl
core_refused file (core_error.Notation line what) stop is = same_status _ stop _ is refl
core_refused file (core_error.TooDeep line depth) stop is = same_status _ stop _ is refl
core_refused file (core_error.Rules e) stop is = rules_refused file variable_name e stop is

-- the stop of a core file's refusal
pub core_quiet : (X : Type 0) (file : List ℕ) (e : CoreFileError) (stop : Stop) → core_stop file e ≡ Some stop → IsNoFault {X = X} (Err (errors.Stopped stop))
core_quiet X file e stop is = refused_quiet X stop (core_refused file e stop is)

-- the stop of a search without an answer
pub search_quiet : (X : Type 0) (file : List ℕ) (p : Problem) (e : DeriveError) (stop : Stop) → derive_stop file p e ≡ Some stop → IsNoFault {X = X} (Err (errors.Stopped stop))
search_quiet X file p derive_error.Memory stop is = absurd cc
search_quiet X file p (derive_error.Underivable blame) stop is = refused_quiet X stop (same_status _ stop _ is refl)
search_quiet X file p (derive_error.BudgetSpent budget) stop is = spent_quiet X stop (same_status _ stop _ is refl)
search_quiet X file p (derive_error.DepthSpent depth) stop is = spent_quiet X stop (same_status _ stop _ is refl)
search_quiet X file p (derive_error.TooDeep depth) stop is = refused_quiet X stop (same_status _ stop _ is refl)
search_quiet X file p (derive_error.TooBig size) stop is = refused_quiet X stop (same_status _ stop _ is refl)
