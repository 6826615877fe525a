-- The stops of what the calls below refuse.
use Rattle.std.specs.Prelude.{ℕ, List, Option, Some, None}
use Rattle.sx_core.specs.declared.error.CoreFileError.{CoreFileError}
use Rattle.sx_core.specs.declared.error.CoreFileError.TheVariants as core_error
use Rattle.sx_core.specs.Problem.{Problem}
use Rattle.sx_derive.specs.Blames.{blame_of}
use Rattle.sx_derive.specs.declared.derive_error.DeriveError.{DeriveError}
use Rattle.sx_derive.specs.declared.derive_error.DeriveError.TheVariants as derive_error
use Rattle.sx_steps.specs.declared.stop.Stop.{Stop}
use Rattle.sx_top.specs.CoreStops.{variable_name, underivable}
use Rattle.sx_steps.specs.Stops.{bad_kind_text, not_utf8, bad_line, too_deep, too_big, bad_rules}
use Rattle.sx_steps.specs.Stops.{tries_spent, depth_spent}

-- the stop of a core file's refusal; out of memory has none, and the text of a term that is too
-- deep names no line
abbrev pub core_stop : List ℕ → CoreFileError → Option Stop
core_stop file core_error.Memory = None
core_stop file (core_error.NotUtf8 before) = Some (not_utf8 file before)
core_stop file (core_error.Notation line what) = Some (bad_line file line (bad_kind_text what))
core_stop file (core_error.TooDeep line depth) = Some (too_deep file depth)
core_stop file (core_error.Rules e) = bad_rules file variable_name e

-- the stop of a search without an answer; out of memory has none
abbrev pub derive_stop : List ℕ → Problem → DeriveError → Option Stop
derive_stop file problem derive_error.Memory = None
derive_stop file problem (derive_error.Underivable blame) =
    Some (underivable file problem (blame_of blame))
derive_stop file problem (derive_error.BudgetSpent budget) = Some (tries_spent file budget)
derive_stop file problem (derive_error.DepthSpent depth) = Some (depth_spent file)
derive_stop file problem (derive_error.TooDeep depth) = Some (too_deep file depth)
derive_stop file problem (derive_error.TooBig size) = Some (too_big file size)
