use Rattle.std.proofs.Common.{List, Option, ℕ, ◌≡◌, suc, Some, option_map, sym, subst, ap, ◌∙◌, arith}
use Rattle.sx_grammar.specs.Grammar.{Token}
use Rattle.sx_grammar.specs.Tables.{GrammarData}
use Rattle.sx_grammar.specs.Numbered.{symbol}
use Rattle.sx_grammar.specs.declared.numbered.NumberedSymbol.{NumberedSymbol}
use Rattle.sx_grammar.specs.declared.numbered.NumberedSymbol.TheVariants.{Lit, Lex, Part}
use Rattle.sx_earley.specs.Shown.{plain, literal_texts}
use Rattle.sx_forest.specs.declared.entry.Entry.{Entry}
use Rattle.sx_forest.specs.Rows.{LeadsNext, IsIn, entries_at}
use Rattle.sx_forest.proofs.spreading.spread.Goals as goal

-- where what is expected leads is where the symbol that it is leads
leads_over : (d : GrammarData) (ts : List Token) (entries : List Entry) (place end : ℕ) {o p : Option NumberedSymbol} → o ≡ p → LeadsNext (plain d) ts entries (option_map (symbol (literal_texts d)) o) place end → LeadsNext (plain d) ts entries (option_map (symbol (literal_texts d)) p) place end
leads_over d ts entries place end e leads = subst (λ o. LeadsNext (plain d) ts entries (option_map (symbol (literal_texts d)) o) place end) e leads

pub returns-in-Some-Part : goal.returns-in-Some-Part
returns-in-Some-Part c = λ ts place end is leads high.
    let g = c.args.grammar.now in let entries = entries_at c.args.table.now.lists.items place in
    let some : c.args.expected ≡ Some c.in-Some-Part.field-0 = c.in-Some-Part.is in
    let inner = rw some at c.in-Some-Part.field-0-is in
    let e : c.args.expected ≡ Some (Part c.in-Some-Part.sort c.in-Some-Part.least) = some ∙ ap Some inner in
    let over = leads_over g ts entries place end e leads in
    let there = c.over_part.ensures place over.0 over.1 is over.2 over.3 in
    (c.clipped.ensures.same end (omega arith) high).0 (subst (λ p. IsIn c.over_part.result p) over.4 there)

pub returns-in-Some-Lit : goal.returns-in-Some-Lit
returns-in-Some-Lit c = λ ts place end is leads high.
    let g = c.args.grammar.now in let entries = entries_at c.args.table.now.lists.items place in
    let some : c.args.expected ≡ Some c.in-Some-Lit.field-0 = c.in-Some-Lit.is in
    let inner = rw some at c.in-Some-Lit.field-0-is in
    let e : c.args.expected ≡ Some (Lit c.in-Some-Lit.field-0-0) = some ∙ ap Some inner in
    let over = leads_over g ts entries place end e leads in
    let after : end ≡ suc place = over.1 in
    subst (λ p. IsIn c.after_token.result p) (sym after) (c.after_token.ensures place is (omega (arith, after, high)))

pub returns-in-Some-Lex : goal.returns-in-Some-Lex
returns-in-Some-Lex c = λ ts place end is leads high.
    let g = c.args.grammar.now in let entries = entries_at c.args.table.now.lists.items place in
    let some : c.args.expected ≡ Some c.in-Some-Lex.field-0 = c.in-Some-Lex.is in
    let inner = rw some at c.in-Some-Lex.field-0-is in
    let e : c.args.expected ≡ Some (Lex c.in-Some-Lex.field-0-0) = some ∙ ap Some inner in
    let over = leads_over g ts entries place end e leads in
    let after : end ≡ suc place = over.1 in
    subst (λ p. IsIn c.after_token-in-Some-Lex.result p) (sym after) (c.after_token-in-Some-Lex.ensures place is (omega (arith, after, high)))
