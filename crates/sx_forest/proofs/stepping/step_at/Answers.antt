use Rattle.std.proofs.Common.{◌-◌, Some, sym, subst, ap, ◌∙◌}
use Rattle.std.specs.Option.{option_map}
use Rattle.sx_grammar.specs.Grammar.{production_of}
use Rattle.sx_grammar.specs.Numbered.{symbol}
use Rattle.sx_earley.specs.Shown.{literal_texts}
use Rattle.sx_forest.specs.Tallies.{ways_of}
use Rattle.sx_forest.specs.Rows.{tally_at, AreSorted}
use Rattle.sx_forest.specs.Forests.{grammar_in, tokens_in, lists_in, symbols_of}
use Rattle.sx_forest.proofs.Stepwise.{symbol_there, next_row, no_symbol, usable_as, step_literal, step_token, step_part, some_usable}
use Rattle.sx_forest.proofs.stepping.step_at.Goals as goal

pub unreachable-requires : goal.unreachable-requires
unreachable-requires c =
    let F = c.args.forest in let f = c.requires.forest in let g = grammar_in F in let o = c.args.opened.now in
    let row = next_row g o c.args.dot c.symbol_count-count.result (ways_of c.row_of-next.result.now) c.symbol_count-count.ensures (c.row_of-next.ensures ∙ ap (λ rs. tally_at rs (c.symbol_count-count.result - c.args.dot - 1)) c.deref.ensures.value) in
    let is = sym (symbol_there (production_of g o.head) c.args.dot) ∙ (sym c.symbol_of.ensures.is ∙ ap (λ x. option_map (symbol (literal_texts F.grammar.now)) x) (c.in-Some-Part.is ∙ ap Some c.in-Some-Part.field-0-is)) in
    some_usable g (tokens_in F) F.start f.levels f.ranked.0 f.ranked.1 (lists_in F) f.full o c.requires.opened c.args.dot c.args.place c.in-Some-Part.sort c.in-Some-Part.least is c.requires.at
    (usable_as g c.in-Some-Part.sort c.in-Some-Part.least 0 row c.from-entries.ensures c.in-None-first_usable.is c.first_usable.ensures)

pub unreachable-requires-in-None : goal.unreachable-requires-in-None
unreachable-requires-in-None c =
    let g = grammar_in c.args.forest in let o = c.args.opened.now in
    no_symbol (symbols_of g o.head) c.args.dot c.requires.within
    (sym (symbol_there (production_of g o.head) c.args.dot) ∙ (sym c.symbol_of.ensures.is ∙ ap (λ x. option_map (symbol (literal_texts c.args.forest.grammar.now)) x) c.in-None.is))

pub returns-in-Some-Lit : goal.returns-in-Some-Lit
returns-in-Some-Lit c =
    let F = c.args.forest in let f = c.requires.forest in let g = grammar_in F in let o = c.args.opened.now in
    step_literal g (tokens_in F) F.start f.levels f.ranked.0 f.ranked.1 (lists_in F) f.full o c.requires.opened c.args.dot c.args.place _
    (sym (symbol_there (production_of g o.head) c.args.dot) ∙ (sym c.symbol_of.ensures.is ∙ ap (λ x. option_map (symbol (literal_texts F.grammar.now)) x) (c.in-Some-Lit.is ∙ ap Some c.in-Some-Lit.field-0-is))) c.requires.at

pub returns-in-Some-Lex : goal.returns-in-Some-Lex
returns-in-Some-Lex c =
    let F = c.args.forest in let f = c.requires.forest in let g = grammar_in F in let o = c.args.opened.now in
    step_token g (tokens_in F) F.start f.levels f.ranked.0 f.ranked.1 (lists_in F) f.full o c.requires.opened c.args.dot c.args.place _
    (sym (symbol_there (production_of g o.head) c.args.dot) ∙ (sym c.symbol_of.ensures.is ∙ ap (λ x. option_map (symbol (literal_texts F.grammar.now)) x) (c.in-Some-Lex.is ∙ ap Some c.in-Some-Lex.field-0-is))) c.requires.at

pub returns-in-Some : goal.returns-in-Some
returns-in-Some c =
    let F = c.args.forest in let f = c.requires.forest in let g = grammar_in F in let o = c.args.opened.now in
    let row = next_row g o c.args.dot c.symbol_count-count.result (ways_of c.row_of-next.result.now) c.symbol_count-count.ensures (c.row_of-next.ensures ∙ ap (λ rs. tally_at rs (c.symbol_count-count.result - c.args.dot - 1)) c.deref.ensures.value) in
    let is = sym (symbol_there (production_of g o.head) c.args.dot) ∙ (sym c.symbol_of.ensures.is ∙ ap (λ x. option_map (symbol (literal_texts F.grammar.now)) x) (c.in-Some-Part.is ∙ ap Some c.in-Some-Part.field-0-is)) in
    step_part g (tokens_in F) F.start f.levels f.ranked.0 f.ranked.1 (lists_in F) f.full o c.requires.opened c.args.dot c.args.place c.in-Some-Part.sort c.in-Some-Part.least _ _ is c.requires.at
    (usable_as g c.in-Some-Part.sort c.in-Some-Part.least 0 row c.from-entries.ensures c.in-Some.is c.first_usable.ensures)

pub first_usable-requires : goal.first_usable-requires
first_usable-requires c = record { sorted = subst AreSorted (sym c.from-entries.ensures) (c.requires.forest.full.table.sorted c.args.place) }
