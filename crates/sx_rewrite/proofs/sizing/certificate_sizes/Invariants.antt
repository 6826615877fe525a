use Rattle.std.proofs.Common.{map, take}
use Rattle.sx_rules.specs.Views.{rule}
use Rattle.sx_rewrite.specs.Stored.{checked_of}
use Rattle.sx_rewrite.specs.Sizes.{AreSizesOf}
use Rattle.sx_rewrite.proofs.sizing.certificate_sizes.Given as goal

abbrev pub invariant-loop-i : goal.invariant-loop-i
invariant-loop-i l = AreSizesOf (take l.i (checked_of (map (λ e. rule e.rule) l.rules) l.flats)) l.sizes.items
