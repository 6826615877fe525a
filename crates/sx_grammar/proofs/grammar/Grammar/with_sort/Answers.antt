use Rattle.std.proofs.Common.{◌≡◌, ◌∙◌, Some, subst, ap, length, map, arith}
use Rattle.std.proofs.lemmas.List.{length-map}
use Rattle.sx_grammar.specs.Parts.{Parts, parts, line}
use Rattle.sx_grammar.specs.Made.{IsGrammar}
use Rattle.sx_grammar.specs.Extended.{widened}
use Rattle.sx_grammar.specs.Tables.{GrammarData}
use Rattle.sx_grammar.proofs.grammar.Grammar.with_sort.Goals as goal

pub tables_behind-requires-clause-behind : goal.tables_behind-requires-clause-behind
tables_behind-requires-clause-behind c =
    let more = map line c.args.more.items in
    (Some c.args.sort, more, c.in_ok-parts.ensures ∙ ap (λ (d : GrammarData). widened d.parts c.args.sort more) c.base.view_is)

pub of-requires : goal.of-requires
of-requires c =
    let lines = c.in_ok-parts.parts.productions.items in
    let all : c.len-count.result ≡ length (map line lines) = omega (arith, c.len-count.ensures, length-map lines line) in
    c.in-Ok.ensures.tables c.len-count.result (omega (arith, all))

pub returns-in-Ok : goal.returns-in-Ok
returns-in-Ok c =
    let more = map line c.args.more.items in
    let lines = c.in_ok-parts.parts.productions.items in
    let count : c.len-count.result ≡ length (map line lines) = omega (arith, c.len-count.ensures, length-map lines line) in
    let all : parts c.in_ok-parts.parts ≡ widened c.args.base.now.parts c.args.sort more = c.in_ok-parts.ensures ∙ ap (λ (d : GrammarData). widened d.parts c.args.sort more) c.base.view_is in
    (c.of.ensures ∙ (λ i. record { parts = all i; base = (count ∙ ap (λ (p : Parts). length p.productions) all) i }), subst IsGrammar all (c.in-Ok.ensures.tables c.len-count.result (omega (arith, count))).is_grammar)
