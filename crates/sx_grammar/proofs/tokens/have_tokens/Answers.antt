use Rattle.std.proofs.Common.{◌∙◌, ap, sym, map, arith}
use Rattle.std.specs.List.{list_any}
use Rattle.std.proofs.lemmas.Bool.{false≢true}
use Rattle.std.proofs.lemmas.List.{length-map}
use Rattle.sx_grammar.specs.Parts.{line}
use Rattle.sx_grammar.specs.Extended.{is_token, LacksTokens}
use Rattle.sx_grammar.proofs.FirstLaws.{none_more, none_all}
use Rattle.sx_grammar.proofs.MixedLaws.{line_at}
use Rattle.sx_grammar.proofs.tokens.have_tokens.Goals as goal

pub loop-production-preserved : goal.loop-production-preserved
loop-production-preserved c =
    let ps = c.args.productions.now in
    let n = c.loop-production.production-index in
    let q = c.production-item.result in
    none_more LacksTokens (map line ps) n (line q) (line_at ps n q c.loop-production-test.true c.production-item.is) c.loop-production.invariant
    (λ lacks. false≢true (sym lacks ∙ ap (list_any is_token) (sym c.deref.ensures.value) ∙ sym c.has_token.ensures ∙ c.if-not-has_token.false))

pub returns : goal.returns
returns c = λ _. none_all LacksTokens (map line c.args.productions.now) c.loop-production.production-index (omega (arith, length-map c.args.productions.now line, c.loop-production-test.false)) c.loop-production.invariant
