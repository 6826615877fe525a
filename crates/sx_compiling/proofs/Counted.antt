-- The tries of a module that is compiled.
use Rattle.std.proofs.Common.{◌≡◌, ◌⊎◌, ℕ, List, inl, inr, arith}
use Rattle.std.specs.Prelude.{Ok, Err, Some}
use Rattle.sx_extcheck.specs.declared.budgets.Budgets.{Budgets}
use Rattle.sx_typing.specs.Refused.{HasWalked}
use Rattle.sx_unit.specs.declared.compiled.Compiled.{Compiled}
use Rattle.sx_typing.specs.declared.module_error.ModuleError.{ModuleError}
use Rattle.sx_typing.specs.declared.module_error.ModuleError.TheVariants as errors
use Rattle.sx_unit.specs.Modules.{ModuleData}
use Rattle.sx_unit.specs.Refused.{IsBadModule, IsCounted}
use Rattle.sx_steps.specs.declared.stop.Stop.{Stop}
use Rattle.sx_steps.specs.Stop.{RisesBy, RisesUpTo}
use Rattle.sx_steps.proofs.Ones.{none_some}
use Rattle.sx_compiling.specs.ModuleStops.{module_stop}
use Rattle.sx_compiling.specs.CompileModule.{IsUncompiled}

module _ (m : ModuleData) (b : Budgets) (before after : ℕ) where
  abbrev Walks : ℕ → Type 0
  Walks = HasWalked m.source b.tries

  just : RisesBy Walks before after → (after ≡ before) ⊎ RisesUpTo Walks before after
  just rises = let e = rises.2 in inr (rises.0, rises.1, omega arith, omega arith)

  -- they rose by at most those of the walk
  pub counted_short : (e : ModuleError) → IsCounted m b (Err e) before after →
      (after ≡ before) ⊎ RisesUpTo Walks before after
  counted_short errors.Memory (le, inl same) = inl same
  counted_short errors.Memory (le, inr made) = inr (made.0, made.1, le, made.2)
  counted_short (errors.Token line column e) counted = just counted
  counted_short (errors.Read line column e) counted = just counted
  counted_short (errors.TypeError line column text) counted = just counted
  counted_short (errors.BudgetSpent budget) counted = just counted
  counted_short errors.DepthSpent counted = just counted
  counted_short (errors.TooDeep depth) counted = just counted
  counted_short (errors.TooBig size) counted = just counted
  counted_short (errors.RewriteSpent nodes) counted = just counted
  counted_short errors.RewriteDeep counted = just counted
  counted_short (errors.Print part defect) counted = just counted
  counted_short (errors.Captured word) counted = just counted

  -- they rose by those of the walk, where the module was compiled
  pub counted_unit : (c : Compiled) → IsCounted m b (Ok c) before after →
      RisesBy Walks before after
  counted_unit c counted = counted

  -- and where it was refused
  pub counted_stop : (file : List ℕ) (e : ModuleError) (stop : Stop) →
      module_stop file e ≡ Some stop → IsCounted m b (Err e) before after →
      RisesBy Walks before after
  counted_stop file errors.Memory stop is counted = absurd (none_some stop is)
  counted_stop file (errors.Token line column e) stop is counted = counted
  counted_stop file (errors.Read line column e) stop is counted = counted
  counted_stop file (errors.TypeError line column text) stop is counted = counted
  counted_stop file (errors.BudgetSpent budget) stop is counted = counted
  counted_stop file errors.DepthSpent stop is counted = counted
  counted_stop file (errors.TooDeep depth) stop is counted = counted
  counted_stop file (errors.TooBig size) stop is counted = counted
  counted_stop file (errors.RewriteSpent nodes) stop is counted = counted
  counted_stop file errors.RewriteDeep stop is counted = counted
  counted_stop file (errors.Print part defect) stop is counted = counted
  counted_stop file (errors.Captured word) stop is counted = counted

-- a refusal and its stop
pub uncompiled : (file : List ℕ) (m : ModuleData) (b : Budgets) (e : ModuleError) (stop : Stop) →
    IsBadModule m b e → module_stop file e ≡ Some stop → IsUncompiled file m b stop
uncompiled file m b e stop bad is = record { error = e; refused = bad; is = is }
