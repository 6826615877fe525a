use Rattle.std.proofs.Common.{◌++◌, ◌∷◌, [], ap, ◌∙◌}
use Rattle.sx_earley.specs.AskSet.{ask_hash}
use Rattle.sx_earley.proofs.Hashed.{hashed_more}
use Rattle.sx_earley.proofs.ask_set.AskSet.push.Goals as goal

pub invariant_of-self-2 : goal.invariant_of-self-2
invariant_of-self-2 c =
    hashed_more ask_hash c.self.inside.asks.items _ c.self.inside.slots _ c.args.ask c.args.hash c.self.invariant c.requires
    (c.push_reserved.ensures.items ∙ ap (λ l. l ++ c.args.ask ∷ []) c.in_ok-reserve.ensures.items) c.in_ok-push.ensures.ok
