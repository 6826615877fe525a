-- What a substitution answers.
use Rattle.std.specs.Prelude.{◌≡◌, ◌-◌, ◌^◌, ◌<◌, ◌≤◌, min, Result, Ok, Err}
use Rattle.sx_term.specs.declared.term.Term.{Term}
use Rattle.sx_term.specs.declared.term_error.TermError.{TermError}
use Rattle.sx_term.specs.declared.term_error.TermError.TheVariants.{TooDeep, TooBig, Memory}
use Rattle.sx_term.specs.Tree.{Tree, depth_of, size_of}
use Rattle.sx_term.specs.Term.{tree}
use Rattle.sx_term.specs.Limits.{most_depth, most_size}

-- the instance within the limits, or the first limit that it passes
abbrev pub IsInstanceWithin : Tree → Result Term TermError → Type 0
IsInstanceWithin t (Ok made) = (tree made ≡ t) × (depth_of t ≤ most_depth) × (size_of t ≤ most_size)
IsInstanceWithin t (Err (TooDeep depth)) = (most_depth < depth_of t) × (depth ≡ depth_of t)
IsInstanceWithin t (Err (TooBig nodes)) = (depth_of t ≤ most_depth) × (most_size < size_of t) ×
    (nodes ≡ min (size_of t) (2 ^ 64 - 1))
IsInstanceWithin t (Err Memory) = Unit {0}
