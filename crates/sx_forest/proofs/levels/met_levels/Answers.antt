use Rattle.std.proofs.Common.{subst}
use Rattle.sx_earley.specs.Shown.{plain, tokens_of}
use Rattle.sx_forest.specs.Useful.{IsMet}
use Rattle.sx_forest.proofs.levels.met_levels.Goals as goal

pub returns-then-is_met : goal.returns-then-is_met
returns-then-is_met c =
    subst (IsMet (plain c.args.grammar.now) (tokens_of c.args.grammar.now c.args.shown.now) c.args.place) c.deref.ensures.value (c.is_met.ensures c.if-is_met.true)
