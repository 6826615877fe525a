use Rattle.sx_earley.specs.Shown.{plain, tokens_of}
use Rattle.sx_forest.proofs.Using.{met_by_heads}
use Rattle.sx_forest.proofs.wanted.is_met.Goals as goal

pub returns-then-is_met_by_labelled : goal.returns-then-is_met_by_labelled
returns-then-is_met_by_labelled c = λ yes.
    met_by_heads (plain c.args.grammar.now) (tokens_of c.args.grammar.now c.args.shown.now) c.args.place c.args.levels.now
    (c.is_met_by_labelled.ensures c.if-is_met_by_labelled.true) (c.is_met_by_bracketed.ensures yes)
