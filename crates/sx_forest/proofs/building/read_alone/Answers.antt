use Rattle.std.proofs.Common.{◌≡◌, ◌∙◌, ◌++◌, ◌∷◌, [], option_map, Some, sym, subst, ap, arith}
use Rattle.sx_grammar.specs.Grammar.{production_of}
use Rattle.sx_grammar.specs.Numbered.{symbol}
use Rattle.sx_grammar.specs.Reading.{done, ◌▸◌, ReadsAll}
use Rattle.sx_earley.specs.Shown.{literal_texts}
use Rattle.sx_forest.specs.Readings.{plain_reading, plain_readings}
use Rattle.sx_forest.specs.Rows.{symbol_count}
use Rattle.sx_forest.specs.Forests.{grammar_in, tokens_in, symbols_of}
use Rattle.sx_forest.proofs.Singles.{lone_symbol, literal_alone, token_alone}
use Rattle.sx_forest.proofs.building.read_alone.Goals as goal

pub returns-in-Some-Lit-clause-yes : goal.returns-in-Some-Lit-clause-yes
returns-in-Some-Lit-clause-yes c = λ is to span.
    let F = c.args.forest in let g = grammar_in F in let ts = tokens_in F in let from = c.args.from in
    let one : symbol_count (production_of g c.args.head) ≡ 1 = (let h = c.symbol_count.ensures in let f = c.if-symbol_count-ne1.false in omega arith) in
    let lone = lone_symbol g c.args.head _ one (sym c.symbol_of.ensures.is ∙ ap (λ x. option_map (symbol (literal_texts F.grammar.now)) x) (c.in-Some-Lit.is ∙ ap Some c.in-Some-Lit.field-0-is)) in
    let none = ap plain_readings c.requires.none in
    subst (λ ks. ReadsAll g ts (symbols_of g c.args.head) from to ks) (sym none) (literal_alone g ts F.start c.args.head from to span _ lone)

pub returns-in_ok-push-in-Some-Lex-clause-yes : goal.returns-in_ok-push-in-Some-Lex-clause-yes
returns-in_ok-push-in-Some-Lex-clause-yes c = λ is to span.
    let F = c.args.forest in let g = grammar_in F in let ts = tokens_in F in let from = c.args.from in let r = c.token_reading.result in
    let one : symbol_count (production_of g c.args.head) ≡ 1 = (let h = c.symbol_count.ensures in let f = c.if-symbol_count-ne1.false in omega arith) in
    let lone = lone_symbol g c.args.head _ one (sym c.symbol_of.ensures.is ∙ ap (λ x. option_map (symbol (literal_texts F.grammar.now)) x) (c.in-Some-Lex.is ∙ ap Some c.in-Some-Lex.field-0-is)) in
    let kids : plain_readings c.push.new.self.items ≡ plain_reading r ▸ done = ap plain_readings (c.in_ok-push-in-Some-Lex.ensures.items ∙ ap (λ l. l ++ r ∷ []) c.requires.none) in
    subst (λ ks. ReadsAll g ts (symbols_of g c.args.head) from to ks) (sym kids)
    (token_alone g ts F.start c.args.head from to span _ (plain_reading r) lone (c.token_reading.ensures F.grammar.now _))
