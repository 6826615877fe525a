use Rattle.std.proofs.Common.{◌≡◌, ◌++◌, map, drop}
use Rattle.sx_term.specs.Shapes.{shape}
use Rattle.sx_grammar.specs.Told.{numbered_shape}
use Rattle.sx_grammar.proofs.shaping.cons.Given as goal

abbrev pub invariant-loop-production : goal.invariant-loop-production
invariant-loop-production l = map shape l.out.items ++ map (numbered_shape l.sorts) (drop l.production-index l.productions) ≡ map (numbered_shape l.sorts) l.productions
