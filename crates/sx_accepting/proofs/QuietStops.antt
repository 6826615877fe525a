-- Refusals of extensions are no faults of reading or writing.
use Rattle.std.proofs.Common.{◌≡◌, ℕ, List, refl}
use Rattle.std.specs.Prelude.{Err, Some}
use Rattle.sx_token.specs.declared.token_error.TokenError.TheVariants as token_error
use Rattle.sx_grammar.specs.declared.grammar_error.GrammarError.TheVariants as grammar_error
use Rattle.sx_notation.specs.declared.unread.Unread.TheVariants as unread
use Rattle.sx_notation.specs.declared.notation_error.NotationError.{NotationError}
use Rattle.sx_notation.specs.declared.notation_error.NotationError.TheVariants as notation_error
use Rattle.sx_extcheck.specs.declared.accept_error.AcceptError.{AcceptError}
use Rattle.sx_extcheck.specs.declared.accept_error.AcceptError.TheVariants as accept_error
use Rattle.sx_extcheck.specs.declared.rule_refusal.RuleRefusal.TheVariants as rule_defect
use Rattle.sx_extension.specs.declared.plain_defect.PlainDefect.TheVariants as plain_defect
use Rattle.sx_extension.specs.declared.extension_error.ExtensionError.{ExtensionError}
use Rattle.sx_extension.specs.declared.extension_error.ExtensionError.TheVariants
    as extension_error
use Rattle.sx_steps.specs.declared.stop.Stop.{Stop}
use Rattle.sx_steps.specs.declared.status.Status.TheVariants as statuses
use Rattle.sx_steps.specs.declared.step_error.StepError.{StepError}
use Rattle.sx_steps.specs.declared.step_error.StepError.TheVariants as errors
use Rattle.sx_steps.specs.Refusal.{status_of}
use Rattle.sx_steps.specs.Stop.{IsNoFault}
use Rattle.sx_steps.proofs.Quiet.{same_status, rules_refused, refused_quiet, spent_quiet}
use Rattle.sx_accepting.specs.AcceptanceStops.{Refusing, acceptance_stop}
use Rattle.sx_accepting.specs.ExtensionStops.{extension_stop}
use Rattle.sx_accepting.specs.Extending.{IsStopToldBy}
use Rattle.sx_accepting.specs.LanguageStops.{language_stop}

line_refused : (file : List ℕ) (e : NotationError) (stop : Stop) →
    language_stop file e ≡ Some stop → status_of stop ≡ statuses.Refused
line_refused file notation_error.Memory stop is = absurd cc
line_refused file (notation_error.NotUtf8 before) stop is = same_status _ stop _ is refl
line_refused file (notation_error.Notation line what) stop is = same_status _ stop _ is refl
line_refused file (notation_error.Token line token_error.Memory) stop is = absurd cc
line_refused file (notation_error.Token line (token_error.NotUtf8 place)) stop is =
    same_status _ stop _ is refl
line_refused file (notation_error.Token line (token_error.BadToken place)) stop is =
    same_status _ stop _ is refl
line_refused file (notation_error.Token line token_error.TooManyTokens) stop is =
    same_status _ stop _ is refl
line_refused file (notation_error.Token line (token_error.OpenString place)) stop is =
    same_status _ stop _ is refl
line_refused file (notation_error.Grammar grammar_error.Memory) stop is = absurd cc
line_refused file (notation_error.Grammar (grammar_error.BadLiteral text)) stop is =
    same_status _ stop _ is refl
line_refused file (notation_error.Grammar (grammar_error.SameSort name)) stop is =
    same_status _ stop _ is refl
line_refused file (notation_error.Grammar (grammar_error.UnknownSort name)) stop is =
    same_status _ stop _ is refl
line_refused file (notation_error.Grammar (grammar_error.SameLabel label)) stop is =
    same_status _ stop _ is refl
line_refused file (notation_error.Grammar (grammar_error.PlainHasTyped label)) stop is =
    same_status _ stop _ is refl
line_refused file (notation_error.Grammar (grammar_error.NoBrackets sort)) stop is =
    same_status _ stop _ is refl
line_refused file (notation_error.Grammar (grammar_error.Cyclic sort)) stop is =
    same_status _ stop _ is refl
line_refused file (notation_error.Read line unread.TooHard) stop is = same_status _ stop _ is refl
line_refused file (notation_error.Read line (unread.NoReading place)) stop is =
    same_status _ stop _ is refl
line_refused file (notation_error.Read line (unread.TooDeep depth)) stop is =
    same_status _ stop _ is refl
line_refused file (notation_error.Read line (unread.Ambiguous one other)) stop is =
    same_status _ stop _ is refl
line_refused file (notation_error.Rules e unbound) stop is = rules_refused file _ e stop is

extension_refused : (file : List ℕ) (e : ExtensionError) (stop : Stop) →
    extension_stop file e ≡ Some stop → status_of stop ≡ statuses.Refused
extension_refused file extension_error.Memory stop is = absurd cc
extension_refused file (extension_error.Notation e) stop is = line_refused file e stop is
extension_refused file (extension_error.Plain label plain_defect.Twice) stop is =
    same_status _ stop _ is refl
extension_refused file (extension_error.Plain label (plain_defect.UsesLater used)) stop is =
    same_status _ stop _ is refl
extension_refused file (extension_error.Plain label (plain_defect.Drops name)) stop is =
    same_status _ stop _ is refl
extension_refused file (extension_error.Plain label (plain_defect.TooDeep depth)) stop is =
    same_status _ stop _ is refl
extension_refused file (extension_error.Plain label (plain_defect.TooBig size)) stop is =
    same_status _ stop _ is refl
extension_refused file (extension_error.NoPlain label) stop is = same_status _ stop _ is refl
extension_refused file (extension_error.NoBody rule) stop is = same_status _ stop _ is refl
extension_refused file (extension_error.BodySort rule) stop is = same_status _ stop _ is refl
extension_refused file (extension_error.BodyExtended rule) stop is = same_status _ stop _ is refl

-- that an extension is not read is no fault
pub extension_quiet : (X : Type 0) (file : List ℕ) (e : ExtensionError) (stop : Stop) →
    extension_stop file e ≡ Some stop → IsNoFault {X = X} (Err (errors.Stopped stop))
extension_quiet X file e stop is = refused_quiet X stop (extension_refused file e stop is)

acceptance_quiet : (X : Type 0) (file : List ℕ) (by : Refusing) (e : AcceptError) (stop : Stop) →
    acceptance_stop file by e ≡ Some stop → IsNoFault {X = X} (Err (errors.Stopped stop))
acceptance_quiet X file by accept_error.Memory stop is = absurd cc
acceptance_quiet X file by (accept_error.Rule name (rule_defect.Rejected blame)) stop is =
    refused_quiet X stop (same_status _ stop _ is refl)
acceptance_quiet X file by (accept_error.Rule name (rule_defect.BudgetSpent tries)) stop is =
    spent_quiet X stop (same_status _ stop _ is refl)
acceptance_quiet X file by (accept_error.Rule name (rule_defect.DepthSpent depth)) stop is =
    spent_quiet X stop (same_status _ stop _ is refl)
acceptance_quiet X file by (accept_error.Rule name (rule_defect.TooDeep depth)) stop is =
    refused_quiet X stop (same_status _ stop _ is refl)
acceptance_quiet X file by (accept_error.Rule name (rule_defect.TooBig size)) stop is =
    refused_quiet X stop (same_status _ stop _ is refl)
acceptance_quiet X file by (accept_error.Rule name (rule_defect.RewriteSpent nodes)) stop is =
    spent_quiet X stop (same_status _ stop _ is refl)
acceptance_quiet X file by (accept_error.Rule name rule_defect.RewriteDeep) stop is =
    spent_quiet X stop (same_status _ stop _ is refl)

-- that an extension is not accepted is no fault
pub told_quiet : (X : Type 0) (file : List ℕ) (by : Refusing) (e : AcceptError) (why : StepError) →
    IsStopToldBy file by e why → IsNoFault {X = X} (Err why)
told_quiet X file by e errors.Memory told = (λ none. none, λ none. none)
told_quiet X file by e (errors.Stopped stop) told = acceptance_quiet X file by e stop told
