use Rattle.std.proofs.Common.{◌≡◌, ◌∙◌, ℕ, below_more, length, sym, ap, arith}
use Rattle.std.proofs.lemmas.List.{length-map}
use Rattle.sx_grammar.specs.Grammar.{part}
use Rattle.sx_grammar.specs.Numbered.{production}
use Rattle.sx_grammar.specs.declared.head.Head.TheVariants.{Labelled}
use Rattle.sx_earley.specs.Shown.{plain, literal_texts, tokens_of}
use Rattle.sx_forest.specs.Useful.{IsMetAt}
use Rattle.sx_forest.proofs.Using.{label_there}
use Rattle.sx_forest.proofs.wanted.is_met_by_labelled.Goals as goal

pub loop-label-preserved : goal.loop-label-preserved
loop-label-preserved c =
    below_more (λ k. (dot : ℕ) → IsMetAt (plain c.args.grammar.now) (tokens_of c.args.grammar.now c.args.shown.now) c.args.place c.args.levels.now (Labelled k) dot) c.loop-label.label
    c.loop-label.invariant (c.is_met_by.ensures c.if-not-is_met_by.false)

pub returns : goal.returns
returns c = λ _ label dot sort least e may.
    let g = plain c.args.grammar.now in
    let low = label_there g label dot (part sort least) e in
    let same : length g.productions ≡ length c.productions-label-end.result.now = ap length (sym c.productions-label-end.ensures.same) ∙ length-map c.productions-label-end.result.now (production (literal_texts c.args.grammar.now)) in
    c.loop-label.invariant label (omega arith) dot sort least e may
