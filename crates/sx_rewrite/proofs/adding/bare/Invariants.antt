use Rattle.std.proofs.Common.{◌≡◌, ◌++◌, map}
use Rattle.sx_rules.specs.Views.{named}
use Rattle.sx_rewrite.proofs.adding.bare.Given as goal

abbrev pub invariant-loop-ext : goal.invariant-loop-ext
invariant-loop-ext l = map named l.more.items ++ map (λ e. named e.rule) l.ext-iterator.rest.items ≡ map (λ e. named e.rule) l.fn.rules.items
