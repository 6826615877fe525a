-- Stops are no faults of reading or writing.
use Rattle.std.proofs.Common.{◌≡◌, ℕ, List, refl, sym, ap, ◌∙◌}
use Rattle.std.specs.Prelude.{Err, Some}
use Rattle.sx_rules.specs.declared.error.RuleError.{RuleError}
use Rattle.sx_rules.specs.declared.error.RuleError.TheVariants as rule_error
use Rattle.sx_steps.specs.declared.stop.Stop.{Stop}
use Rattle.sx_steps.specs.declared.status.Status.{Status}
use Rattle.sx_steps.specs.declared.status.Status.TheVariants as statuses
use Rattle.sx_steps.specs.Refusal.{status_of}
use Rattle.sx_steps.specs.Stop.{IsNoFault}
use Rattle.sx_steps.specs.Stops.{bad_rules}
use Rattle.sx_steps.specs.declared.step_error.StepError.TheVariants as errors

-- the status of the stop that is there
pub same_status : (s stop : Stop) (status : Status) → Some s ≡ Some stop → status_of s ≡ status → status_of stop ≡ status
same_status s stop status same is = let q : s ≡ stop = cc in sym (ap status_of q) ∙ is

pub rules_refused : (file : List ℕ) (told : ℕ → List ℕ) (e : RuleError) (stop : Stop) → bad_rules file told e ≡ Some stop → status_of stop ≡ statuses.Refused
rules_refused file told rule_error.Memory stop is = absurd cc
rules_refused file told rule_error.TooManyRules stop is = same_status _ stop _ is refl
rules_refused file told (rule_error.SameRule name) stop is = same_status _ stop _ is refl
rules_refused file told (rule_error.TooManyVars name) stop is = same_status _ stop _ is refl
rules_refused file told (rule_error.SortDiffers name) stop is = same_status _ stop _ is refl
rules_refused file told (rule_error.Discipline name part premise) stop is = same_status _ stop _ is refl
rules_refused file told (rule_error.NotModed name variable) stop is = same_status _ stop _ is refl

pub refused_quiet : (X : Type 0) (stop : Stop) → status_of stop ≡ statuses.Refused → IsNoFault {X = X} (Err (errors.Stopped stop))
refused_quiet X stop is = (
  λ fault. let q : statuses.Refused ≡ statuses.ReadFault = sym is ∙ fault in cc,
  λ fault. let q : statuses.Refused ≡ statuses.WriteFault = sym is ∙ fault in cc,
)

pub spent_quiet : (X : Type 0) (stop : Stop) → status_of stop ≡ statuses.Spent → IsNoFault {X = X} (Err (errors.Stopped stop))
spent_quiet X stop is = (
  λ fault. let q : statuses.Spent ≡ statuses.ReadFault = sym is ∙ fault in cc,
  λ fault. let q : statuses.Spent ≡ statuses.WriteFault = sym is ∙ fault in cc,
)
