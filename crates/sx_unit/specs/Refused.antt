-- Why a module is not compiled.
use Rattle.std.specs.Prelude.{◌≡◌, ◌⊎◌, ℕ, ◌+◌, ◌≤◌, Result, Ok, Err}
use Rattle.sx_rules.specs.Modes.{AllModed}
use Rattle.sx_rules.specs.Views.{modes_of, subjects_in}
use Rattle.sx_rewrite.specs.declared.rewrite_error.RewriteError.{RewriteError}
use Rattle.sx_rewrite.specs.declared.rewrite_error.RewriteError.TheVariants as rewrite
use Rattle.sx_rewrite.specs.RewrittenView.{IsRewriting}
use Rattle.sx_extcheck.specs.declared.budgets.Budgets.{Budgets}
use Rattle.sx_words.specs.declared.goal_defect.GoalDefect.{GoalDefect}
use Rattle.sx_typing.specs.Goals.{dialect_rules}
use Rattle.sx_rules.specs.Rules.{no_hypotheses}
use Rattle.sx_typing.specs.Refused.{HasTyping, HasWalked, IsBadSource, IsUntyped}
use Rattle.sx_unit.specs.declared.compiled.Compiled.{Compiled}
use Rattle.sx_typing.specs.declared.module_error.ModuleError.{ModuleError}
use Rattle.sx_typing.specs.declared.module_error.ModuleError.TheVariants.{Memory, Token, Read}
use Rattle.sx_typing.specs.declared.module_error.ModuleError.TheVariants.{TypeError, BudgetSpent}
use Rattle.sx_typing.specs.declared.module_error.ModuleError.TheVariants.{DepthSpent, TooDeep}
use Rattle.sx_typing.specs.declared.module_error.ModuleError.TheVariants.{TooBig, RewriteSpent}
use Rattle.sx_typing.specs.declared.module_error.ModuleError.TheVariants.{RewriteDeep, Print}
use Rattle.sx_typing.specs.declared.module_error.ModuleError.TheVariants.{Captured}
use Rattle.sx_unit.specs.Modules.{ModuleData}
use Rattle.sx_unit.specs.Unit.{HasLowering, IsUnitMade}
use Rattle.sx_unit.specs.Written.{IsUnwritten, unit_of}

-- the body is typed, and rewriting its derivation answers this refusal
abbrev pub IsUnlowered : ModuleData → Budgets → RewriteError → Type 0
IsUnlowered m b e = (t : HasTyping m.source b.tries) ×
    IsRewriting m.source.dialect.set (subjects_in m.source.dialect.language.forms) no_hypotheses
    t.answer.0 b.nodes (Err e)

-- the derivation is lowered, and nothing is written of its terms
abbrev pub IsUnmade : ModuleData → Budgets → ModuleError → Type 0
IsUnmade m b e = (l : HasLowering m b) × IsUnwritten m l.terms e

-- each refusal, with the conditions of those before it; out of memory is free. A term of the walk
-- may be too deep or too big, or one of the rewriting.
abbrev pub IsBadModule : ModuleData → Budgets → ModuleError → Type 0
IsBadModule m b Memory = Unit {0}
IsBadModule m b (Token line column e) =
    IsBadSource m.source b.tries (Token line column e)
IsBadModule m b (Read line column u) = IsBadSource m.source b.tries (Read line column u)
IsBadModule m b (TypeError line column text) =
    IsBadSource m.source b.tries (TypeError line column text)
IsBadModule m b (BudgetSpent n) = IsBadSource m.source b.tries (BudgetSpent n)
IsBadModule m b DepthSpent = IsBadSource m.source b.tries DepthSpent
IsBadModule m b (TooDeep n) =
    IsBadSource m.source b.tries (TooDeep n) ⊎ IsUnlowered m b (rewrite.TooDeep n)
IsBadModule m b (TooBig n) =
    IsBadSource m.source b.tries (TooBig n) ⊎ IsUnlowered m b (rewrite.TooBig n)
IsBadModule m b (RewriteSpent n) = IsUnlowered m b (rewrite.RewriteSpent n)
IsBadModule m b RewriteDeep = IsUnlowered m b rewrite.RewriteDeep
IsBadModule m b (Print part defect) = IsUnmade m b (Print part defect)
IsBadModule m b (Captured word) = IsUnmade m b (Captured word)

-- what compiling answers
abbrev pub IsCompiled : ModuleData → Budgets → Result Compiled ModuleError → Type 0
IsCompiled m b (Ok c) = IsUnitMade m b (unit_of c)
IsCompiled m b (Err e) = IsBadModule m b e

-- ---- type errors

-- where the refusal is a type error the source is untyped
abbrev pub IsFinal : ModuleData → ModuleError → Type 0
IsFinal m (TypeError line column text) = IsUntyped m.source
IsFinal m _ = Unit {0}

-- a module is refused for a type error, by rules that can be followed, only where it is untyped
abbrev pub ModuleTypeErrorsAreFinal : Type 0
ModuleTypeErrorsAreFinal =
    (m : ModuleData) (b : Budgets) (line column : ℕ) (text : GoalDefect) →
    AllModed (modes_of m.source.dialect.language.forms) (dialect_rules m.source.dialect) →
    IsBadModule m b (TypeError line column text) → IsUntyped m.source

-- ---- tries

-- the steps rose by the tries of the walk, or by at most as many where memory lacked
abbrev pub IsCounted : ModuleData → Budgets → Result Compiled ModuleError → ℕ → ℕ → Type 0
IsCounted m b (Err Memory) before after = (before ≤ after) × ((after ≡ before) ⊎
    ((made : ℕ) × HasWalked m.source b.tries made × (after ≤ before + made)))
IsCounted m b _ before after =
    (made : ℕ) × HasWalked m.source b.tries made × (after ≡ before + made)
