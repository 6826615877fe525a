use Rattle.std.proofs.Common.{map, unwrap_or, option_map, []}
use Rattle.sx_term.specs.Term.{tree}
use Rattle.sx_notation.specs.Placed.{shown_term}
use Rattle.sx_notation.proofs.Filling.{Filled}
use Rattle.sx_notation.proofs.content.contents.Given as goal

abbrev pub invariant-loop-place : goal.invariant-loop-place
invariant-loop-place l =
    Filled l.places (map tree l.inputs) (unwrap_or (option_map (λ w. map tree w.now.items) l.outputs) []) l.place-index l.input l.output (map shown_term l.here.items)
