use Rattle.std.proofs.Common.{◌≡◌, drop}
use Rattle.sx_directives.specs.Parts.{parts_of}
use Rattle.sx_outline.proofs.kept.is_dropped.Given as goal

abbrev pub invariant-loop-at : goal.invariant-loop-at
invariant-loop-at l = parts_of (drop l.at l.text) ≡ parts_of l.text
