-- Stops that are type errors.
use Rattle.sx_words.specs.declared.refusal.Defect.{Defect}
use Rattle.sx_words.specs.declared.refusal.Defect.TheVariants as defect
use Rattle.sx_steps.specs.declared.stop.Stop.{Stop}

-- a goal has no derivation
abbrev pub IsGoalDefect : Defect → Type 0
IsGoalDefect (defect.Goal why) = Unit {0}
IsGoalDefect _ = ⊥

-- the stop is a type error
abbrev pub IsTypeError : Stop → Type 0
IsTypeError stop = IsGoalDefect stop.refusal.defect
