-- What a walk finds is the first derivation, and type errors come only where there is none.
use Rattle.std.specs.Prelude.{ℕ, None}
use Rattle.sx_rules.specs.Modes.{AllModed}
use Rattle.sx_rules.specs.Views.{modes_of}
use Rattle.sx_derive.proofs.Walked.{exhausted_means_none, found_is_first}
use Rattle.sx_typing.specs.Goals.{dialect_rules, goal_with, TypingsAreFirst}
use Rattle.sx_rules.specs.Rules.{no_hypotheses}
use Rattle.sx_typing.specs.declared.module_error.ModuleError.{ModuleError}
use Rattle.sx_typing.specs.declared.module_error.ModuleError.TheVariants as module_error
use Rattle.sx_typing.specs.Refused.{IsBadSource, IsTypingFinal, SourceTypeErrorsAreFinal}
use Rattle.sx_typing.specs.BodySource.{BodySource}

pub typings_are_first : TypingsAreFirst
typings_are_first s tries subject output answer moded typed =
    found_is_first (modes_of s.dialect.language.forms) (dialect_rules s.dialect) no_hypotheses moded
    (goal_with s subject) None tries 1 answer typed.finds

pub source_type_errors_are_final : SourceTypeErrorsAreFinal
source_type_errors_are_final s tries line column text moded (b, ends, why) = (
  b,
  exhausted_means_none (modes_of s.dialect.language.forms) (dialect_rules s.dialect) no_hypotheses moded
      (goal_with s b.subject) None tries 1 ends,
)

-- so it is of each refusal
pub final_if : (s : BodySource) (tries : ℕ) (e : ModuleError) →
    AllModed (modes_of s.dialect.language.forms) (dialect_rules s.dialect) → IsBadSource s tries e →
    IsTypingFinal s e
final_if s tries module_error.Memory moded h = tt
final_if s tries (module_error.Token line column e) moded h = tt
final_if s tries (module_error.Read line column e) moded h = tt
final_if s tries (module_error.TypeError line column text) moded h =
    source_type_errors_are_final s tries line column text moded h
final_if s tries (module_error.BudgetSpent n) moded h = tt
final_if s tries module_error.DepthSpent moded h = tt
final_if s tries (module_error.TooDeep n) moded h = tt
final_if s tries (module_error.TooBig n) moded h = tt
final_if s tries (module_error.RewriteSpent n) moded h = tt
final_if s tries module_error.RewriteDeep moded h = tt
final_if s tries (module_error.Print part defect) moded h = tt
final_if s tries (module_error.Captured word) moded h = tt
