use Rattle.std.proofs.Common.{Contains, map, take}
use Rattle.sx_grammar.specs.Parts.{line}
use Rattle.sx_grammar.specs.Standing.{labels_in}
use Rattle.sx_grammar.specs.Made.{HasNone}
use Rattle.sx_grammar.proofs.additions.lack_labels.Given as goal

abbrev pub invariant-loop-production : goal.invariant-loop-production
invariant-loop-production l = HasNone (Contains l.known) (take l.production-index (labels_in (map line l.productions)))
