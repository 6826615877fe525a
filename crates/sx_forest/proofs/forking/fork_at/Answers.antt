use Rattle.std.proofs.Common.{◌-◌, Some, sym, ap, ◌∙◌, length, arith}
use Rattle.std.specs.Option.{option_map}
use Rattle.sx_grammar.specs.Grammar.{production_of}
use Rattle.sx_grammar.specs.Numbered.{symbol}
use Rattle.sx_earley.specs.Shown.{literal_texts}
use Rattle.sx_forest.specs.Tallies.{ways_of}
use Rattle.sx_forest.specs.Rows.{tally_at}
use Rattle.sx_forest.specs.Forests.{grammar_in}
use Rattle.sx_forest.proofs.Stepwise.{symbol_there, next_row}
use Rattle.sx_forest.proofs.Branching.{more_over_literal, more_over_token, fork_found, goes_over}
use Rattle.sx_forest.proofs.forking.fork_at.Goals as goal

pub returns-in-Literal-clause-on : goal.returns-in-Literal-clause-on
returns-in-Literal-clause-on c = λ none more.
    more_over_literal c.args.forest c.requires.forest c.args.opened.now c.requires.opened c.args.dot c.args.place c.args.step c.in-Literal.is c.requires.at c.requires.step more

pub returns-in-Token-clause-on : goal.returns-in-Token-clause-on
returns-in-Token-clause-on c = λ none more.
    more_over_token c.args.forest c.requires.forest c.args.opened.now c.requires.opened c.args.dot c.args.place c.args.step c.in-Token.is c.requires.at c.requires.step more

pub returns-in-Some-Part-clause-fork : goal.returns-in-Some-Part-clause-fork
returns-in-Some-Part-clause-fork c =
    let F = c.args.forest in let g = grammar_in F in let o = c.args.opened.now in
    let row = next_row g o c.args.dot c.symbol_count-count.result (ways_of c.row_of-next.result.now) c.symbol_count-count.ensures (c.row_of-next.ensures ∙ ap (λ rs. tally_at rs (c.symbol_count-count.result - c.args.dot - 1)) c.deref.ensures.value) in
    let is = sym (symbol_there (production_of g o.head) c.args.dot) ∙ (sym c.symbol_of.ensures.is ∙ ap (λ x. option_map (symbol (literal_texts F.grammar.now)) x) (c.in-Some-Part.is ∙ ap Some c.in-Some-Part.field-0-is)) in
    fork_found F c.requires.forest o c.requires.opened c.args.dot c.args.place _ c.in-Some-Part.sort c.in-Some-Part.least _ c.args.step (ways_of c.row_of-next.result.now) c.from-entries.result.now c.fork_of.result
    is c.in-Part.is c.requires.step row c.from-entries.ensures c.fork_of.ensures

pub returns-in-Some-Part-clause-on : goal.returns-in-Some-Part-clause-on
returns-in-Some-Part-clause-on c =
    let F = c.args.forest in let g = grammar_in F in let o = c.args.opened.now in
    let row = next_row g o c.args.dot c.symbol_count-count.result (ways_of c.row_of-next.result.now) c.symbol_count-count.ensures (c.row_of-next.ensures ∙ ap (λ rs. tally_at rs (c.symbol_count-count.result - c.args.dot - 1)) c.deref.ensures.value) in
    let is = sym (symbol_there (production_of g o.head) c.args.dot) ∙ (sym c.symbol_of.ensures.is ∙ ap (λ x. option_map (symbol (literal_texts F.grammar.now)) x) (c.in-Some-Part.is ∙ ap Some c.in-Some-Part.field-0-is)) in
    goes_over F c.requires.forest o c.requires.opened c.args.dot c.args.place _ c.in-Some-Part.sort c.in-Some-Part.least _ c.args.step (ways_of c.row_of-next.result.now) c.from-entries.result.now c.fork_of.result
    is c.in-Part.is c.requires.at c.requires.step row c.from-entries.ensures c.fork_of.ensures

pub row_of-next-requires : goal.row_of-next-requires
row_of-next-requires c =
    let long = c.requires.opened.rows.are.long in
    let count = c.symbol_count-count.ensures in
    let rows = ap length c.deref.ensures.value in
    omega arith
