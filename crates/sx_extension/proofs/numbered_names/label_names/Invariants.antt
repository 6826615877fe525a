use Rattle.std.proofs.Common.{◌≡◌, take, map}
use Rattle.sx_extension.proofs.numbered_names.label_names.Given as goal

abbrev pub invariant-loop-i : goal.invariant-loop-i
invariant-loop-i l = l.vars ≡ take l.i (map (λ p. p.label) l.productions)
