use Rattle.std.proofs.Common.{below_more, arith}
use Rattle.sx_grammar.specs.Grammar.{part, production_of}
use Rattle.sx_earley.specs.Shown.{plain, tokens_of}
use Rattle.sx_forest.specs.Useful.{IsMetAt}
use Rattle.sx_forest.proofs.Using.{dot_within}
use Rattle.sx_forest.proofs.wanted.is_met_by.Goals as goal

pub loop-dot-preserved : goal.loop-dot-preserved
loop-dot-preserved c =
    below_more (λ k. IsMetAt (plain c.args.grammar.now) (tokens_of c.args.grammar.now c.args.shown.now) c.args.place c.args.levels.now c.args.head k) c.loop-dot.dot
    c.loop-dot.invariant (c.is_met_at.ensures c.if-not-is_met_at.false)

pub returns : goal.returns
returns c = λ _ dot sort least e may.
    let within = dot_within (production_of (plain c.args.grammar.now) c.args.head) dot (part sort least) e in
    c.loop-dot.invariant dot (omega (arith, within, c.loop-dot-test.false, c.symbol_count-dot-end.ensures)) sort least e may
