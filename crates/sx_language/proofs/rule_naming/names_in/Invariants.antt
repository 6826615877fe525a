use Rattle.std.proofs.Common.{◌≡◌, map, drop}
use Rattle.sx_language.specs.States.{variable_names}
use Rattle.sx_language.proofs.rule_naming.names_in.Given as goal

abbrev pub invariant-loop-i : goal.invariant-loop-i
invariant-loop-i l = variable_names (map (λ x. x.name) (drop l.i l.rules)) (drop l.i l.names) l.name ≡ variable_names (map (λ x. x.name) l.rules) l.names l.name
