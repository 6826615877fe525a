-- The view of a stuck goal as plain data.
use Rattle.std.specs.Prelude.{map}
use Rattle.sx_term.specs.Term.{tree}
use Rattle.sx_rules.specs.Views.{goal as goal_of}
use Rattle.sx_derive.specs.Stuck.{Reason, no_rule, unequal, mismatch, Blame}
use Rattle.sx_derive.specs.declared.blame.Blame.{Blame as BlameOf}
use Rattle.sx_derive.specs.declared.blame.Cause.{Cause}
use Rattle.sx_derive.specs.declared.blame.Cause.TheVariants.{NoRule, Equal, Mismatch}

-- a cause as plain data
abbrev pub cause_of : Cause → Reason
cause_of NoRule = no_rule
cause_of (Equal rule premise) = unequal rule premise
cause_of (Mismatch by got) = mismatch by (map tree got.items)

-- a stuck goal as plain data
abbrev pub blame_of : BlameOf → Blame
blame_of b = record { goal = goal_of b.goal; path = b.path.steps.items; reason = cause_of b.cause }
