use Rattle.std.proofs.Common.{◌∙◌, ◌++◌, ◌<◌, ◌↔◌, IsTrue, ap, map, length, sym, subst}
use Rattle.sx_grammar.specs.Parts.{line, parts}
use Rattle.sx_grammar.specs.Extended.{GrammarGrows, blank}
use Rattle.sx_grammar.specs.Tables.{GrammarData}
use Rattle.sx_grammar.proofs.Behind.{pairs_behind}
use Rattle.sx_grammar.proofs.numbered_behind.numbered_behind.Goals as goal

pub returns-in-Ok-clause-pairs : goal.returns-in-Ok-clause-pairs
returns-in-Ok-clause-pairs c =
    let p = parts c.base.inside.parts in
    let more = map line c.args.more.now in
    let whole = parts c.args.from.now in
    let grows = subst (λ (d : GrammarData). GrammarGrows d.parts more whole) (sym c.base.view_is) c.requires.behind in
    let wider = subst (λ (d : GrammarData). IsTrue c.has_more.result ↔ (length d.parts.sorts < length whole.sorts)) (sym c.base.view_is) c.has_more.ensures in
    pairs_behind p more whole grows c.base.inside.literals.items c.args.literals.now c.base.inside.brackets.items c.in-Ok.brackets.items c.has_more.result c.base.invariant.has_texts c.requires.literals
    c.base.invariant.has_brackets wider (c.in-Ok.ensures ∙ ap (λ l. l ++ blank c.has_more.result) c.deref.ensures.value)
