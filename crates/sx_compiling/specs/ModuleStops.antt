-- The stops of modules that are not compiled.
use Rattle.std.specs.Prelude.{ℕ, List, Option, Some, None}
use Rattle.sx_typing.specs.declared.module_error.ModuleError.{ModuleError}
use Rattle.sx_typing.specs.declared.module_error.ModuleError.TheVariants as module_error
use Rattle.sx_words.specs.declared.position.Position.TheVariants.{Spot}
use Rattle.sx_words.specs.declared.budget_defect.BudgetDefect.TheVariants as budget_defect
use Rattle.sx_words.specs.declared.goal_defect.GoalDefect.{GoalDefect}
use Rattle.sx_words.specs.declared.refusal.Defect.TheVariants as defect
use Rattle.sx_steps.specs.declared.stop.Stop.{Stop}
use Rattle.sx_steps.specs.Refusal.{about}
use Rattle.sx_steps.specs.Stops.{defect_at, too_deep, too_big, tries_spent, depth_spent}
use Rattle.sx_headers.specs.TextStops.{uncut_text, unread_text}

-- the body has no type
abbrev pub untyped : List ℕ → ℕ → ℕ → GoalDefect → Stop
untyped file line column why = defect_at (Spot line column) file (defect.Goal why)

-- the stop of a module's refusal; out of memory has none
abbrev pub module_stop : List ℕ → ModuleError → Option Stop
module_stop file module_error.Memory = None
module_stop file (module_error.Token line column e) = uncut_text file line column e
module_stop file (module_error.Read line column e) = Some (unread_text file line column e)
module_stop file (module_error.TypeError line column why) = Some (untyped file line column why)
module_stop file (module_error.BudgetSpent budget) = Some (tries_spent file budget)
module_stop file module_error.DepthSpent = Some (depth_spent file)
module_stop file (module_error.TooDeep depth) = Some (too_deep file depth)
module_stop file (module_error.TooBig size) = Some (too_big file size)
module_stop file (module_error.RewriteSpent nodes) =
    Some (about file (defect.Budget (budget_defect.Nodes nodes)))
module_stop file module_error.RewriteDeep =
    Some (about file (defect.Budget budget_defect.RewriteDepth))
module_stop file (module_error.Print part what) = Some (about file (defect.Print part what))
module_stop file (module_error.Captured word) = Some (about file (defect.Captured word))
