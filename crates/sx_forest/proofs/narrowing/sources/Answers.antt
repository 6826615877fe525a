use Rattle.std.proofs.Common.{◌≡◌, Some, option_map, sym, subst, ap, ◌∙◌}
use Rattle.sx_grammar.specs.Numbered.{symbol}
use Rattle.sx_grammar.specs.Tally.{no_way}
use Rattle.sx_grammar.specs.declared.numbered.NumberedSymbol.TheVariants.{Lit, Lex, Part}
use Rattle.sx_earley.specs.Shown.{plain, literal_texts}
use Rattle.sx_forest.specs.Tallies.{ways_of}
use Rattle.sx_forest.specs.Rows.{IsNextRow, entries_at}
use Rattle.sx_forest.proofs.Leading.{no_sum, no_literal, no_lexical}
use Rattle.sx_forest.proofs.narrowing.sources.Goals as goal

pub returns-in-Some-Part : goal.returns-in-Some-Part
returns-in-Some-Part c = λ ts place low out.
    let g = c.args.grammar.now in let entries = entries_at c.args.table.now.lists.items place in let next = ways_of c.args.next.now in
    let some : c.args.expected ≡ Some c.in-Some-Part.field-0 = c.in-Some-Part.is in
    let inner = rw some at c.in-Some-Part.field-0-is in
    let e : c.args.expected ≡ Some (Part c.in-Some-Part.sort c.in-Some-Part.least) = some ∙ ap Some inner in
    subst (λ o. IsNextRow (plain g) ts entries (option_map (symbol (literal_texts g)) o) place next no_way) (sym e)
    (no_sum (plain g) c.in-Some-Part.sort c.in-Some-Part.least next entries
    (λ i x at fits. c.before_part.ensures place i x at fits out))

pub returns-in-Some-Lit : goal.returns-in-Some-Lit
returns-in-Some-Lit c = λ ts place low out.
    let g = c.args.grammar.now in let entries = entries_at c.args.table.now.lists.items place in let next = ways_of c.args.next.now in
    let some : c.args.expected ≡ Some c.in-Some-Lit.field-0 = c.in-Some-Lit.is in
    let inner = rw some at c.in-Some-Lit.field-0-is in
    let e : c.args.expected ≡ Some (Lit c.in-Some-Lit.field-0-0) = some ∙ ap Some inner in
    subst (λ o. IsNextRow (plain g) ts entries (option_map (symbol (literal_texts g)) o) place next no_way) (sym e)
    (no_literal (plain g) ts entries _ place next (c.before_token.ensures place low out))

pub returns-in-Some-Lex : goal.returns-in-Some-Lex
returns-in-Some-Lex c = λ ts place low out.
    let g = c.args.grammar.now in let entries = entries_at c.args.table.now.lists.items place in let next = ways_of c.args.next.now in
    let some : c.args.expected ≡ Some c.in-Some-Lex.field-0 = c.in-Some-Lex.is in
    let inner = rw some at c.in-Some-Lex.field-0-is in
    let e : c.args.expected ≡ Some (Lex c.in-Some-Lex.field-0-0) = some ∙ ap Some inner in
    subst (λ o. IsNextRow (plain g) ts entries (option_map (symbol (literal_texts g)) o) place next no_way) (sym e)
    (no_lexical (plain g) ts entries c.in-Some-Lex.field-0-0 place next (c.before_token-in-Some-Lex.ensures place low out))
