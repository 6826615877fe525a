use Rattle.std.proofs.Common.{◌≡◌, ◌∙◌, ℕ, below_more, length, sym, ap, arith}
use Rattle.std.proofs.lemmas.List.{length-map}
use Rattle.sx_grammar.specs.Grammar.{part}
use Rattle.sx_grammar.specs.Parts.{numbered_sort}
use Rattle.sx_grammar.specs.declared.head.Head.TheVariants.{Bracketed}
use Rattle.sx_earley.specs.Shown.{plain, tokens_of}
use Rattle.sx_forest.specs.Useful.{IsMetAt}
use Rattle.sx_forest.proofs.Using.{sort_there}
use Rattle.sx_forest.proofs.wanted.is_met_by_bracketed.Goals as goal

pub loop-sort-preserved : goal.loop-sort-preserved
loop-sort-preserved c =
    below_more (λ k. (dot : ℕ) → IsMetAt (plain c.args.grammar.now) (tokens_of c.args.grammar.now c.args.shown.now) c.args.place c.args.levels.now (Bracketed k) dot) c.loop-sort.sort
    c.loop-sort.invariant (c.is_met_by.ensures c.if-not-is_met_by.false)

pub returns : goal.returns
returns c = λ _ own dot sort least e may.
    let g = plain c.args.grammar.now in
    let low = sort_there g own dot (part sort least) e in
    let same : length g.sorts ≡ length c.parts.result.now.sorts.items = length-map c.args.grammar.now.parts.sorts numbered_sort ∙ ap (λ p. length p.sorts) (sym c.parts.ensures) in
    c.loop-sort.invariant own (omega arith) dot sort least e may
