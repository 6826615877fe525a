use Rattle.std.proofs.Common.{◌≡◌, length}
use Rattle.std.specs.Prelude.{option_map}
use Rattle.sx_term.specs.Term.{tree}
use Rattle.sx_rules.specs.Views.{named}
use Rattle.sx_extension.proofs.Joined.{IsJoined}
use Rattle.sx_extension.proofs.bodied_rules.with_bodies.Given as goal

abbrev pub invariant-loop-rule : goal.invariant-loop-rule
invariant-loop-rule l = record {
  long : length l.rules.items ≡ length l.bodies.items;
  rules : IsJoined named (λ e. named e.rule) l.rules.items l.joined.items l.fn.rules.items;
  bodies : IsJoined (option_map tree) (λ e. option_map tree e.body) l.bodies.items l.joined.items
      l.fn.bodies.items;
}

abbrev pub decreases-loop-rule : goal.decreases-loop-rule
decreases-loop-rule l = length l.rules.items
