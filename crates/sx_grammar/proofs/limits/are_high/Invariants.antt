use Rattle.std.proofs.Common.{◌≡◌, drop}
use Rattle.std.specs.List.{list_any}
use Rattle.sx_grammar.specs.High.{is_high}
use Rattle.sx_grammar.proofs.limits.are_high.Given as goal

abbrev pub invariant-loop-production : goal.invariant-loop-production
invariant-loop-production l = list_any is_high (drop l.production-index l.productions) ≡ list_any is_high l.productions
