use Rattle.std.proofs.Common.{◌≡◌, ◌≤◌, ◌∙◌, ◌++◌, None, sym, subst, ap, length, map, arith}
use Rattle.std.proofs.lemmas.List.{length-append}
use Rattle.sx_grammar.specs.Parts.{Parts, parts, line}
use Rattle.sx_grammar.specs.Made.{IsGrammar}
use Rattle.sx_grammar.specs.Extended.{extended}
use Rattle.sx_grammar.specs.Tables.{GrammarData}
use Rattle.sx_grammar.proofs.Widening.{extended_is}
use Rattle.sx_grammar.proofs.grammar.Grammar.extend.Goals as goal

pub tables_behind-requires-clause-behind : goal.tables_behind-requires-clause-behind
tables_behind-requires-clause-behind c =
    let more = map line c.args.more.items in
    (None, more, c.in_ok-parts.ensures ∙ ap (λ (d : GrammarData). extended d.parts more) c.base.view_is ∙ extended_is c.args.base.now.parts more)

pub of-requires : goal.of-requires
of-requires c =
    let own = (parts c.base.inside.parts).productions in
    let more = map line c.args.more.items in
    let room : c.base.inside.base ≤ length (own ++ more) = omega (arith, c.base.invariant.based, length-append own more) in
    c.in-Ok.ensures.tables c.base.inside.base (subst (λ (p : Parts). c.base.inside.base ≤ length p.productions) (sym c.in_ok-parts.ensures) room)

pub returns-in-Ok : goal.returns-in-Ok
returns-in-Ok c =
    let own = (parts c.base.inside.parts).productions in
    let more = map line c.args.more.items in
    let all : parts c.in_ok-parts.parts ≡ extended c.args.base.now.parts more = c.in_ok-parts.ensures ∙ ap (λ (d : GrammarData). extended d.parts more) c.base.view_is in
    let room : c.base.inside.base ≤ length (own ++ more) = omega (arith, c.base.invariant.based, length-append own more) in
    let tabled = c.in-Ok.ensures.tables c.base.inside.base (subst (λ (p : Parts). c.base.inside.base ≤ length p.productions) (sym c.in_ok-parts.ensures) room) in
    (c.of.ensures ∙ (λ i. record { parts = all i; base = (c.base.view_is i).base }), subst IsGrammar all tabled.is_grammar)
