use Rattle.std.proofs.Common.{◌≡◌, ◌++◌, ◌-◌, ◌+◌}
use Rattle.sx_sample.proofs.Bodies.{bindings, head}
use Rattle.sx_sample.proofs.sampling.sample.Given as goal

abbrev pub invariant-loop-bound : goal.invariant-loop-bound
invariant-loop-bound l =
    l.text.items ++ bindings (l.bound + 1) (l.number - l.bound) ≡ head ++ bindings 1 l.number
