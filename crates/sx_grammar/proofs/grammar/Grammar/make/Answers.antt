use Rattle.std.proofs.Common.{◌≡◌, ◌∙◌, length, map, arith}
use Rattle.std.proofs.lemmas.List.{length-map}
use Rattle.sx_grammar.specs.Parts.{parts, line}
use Rattle.sx_grammar.proofs.grammar.Grammar.make.Goals as goal

pub of-requires : goal.of-requires
of-requires c =
    let lines = c.args.from.productions.items in
    let all : c.len-base.result ≡ length (map line lines) = omega (arith, c.len-base.ensures, length-map lines line) in
    c.in-Ok.ensures.tables c.len-base.result (omega (arith, all))

pub returns-in-Ok : goal.returns-in-Ok
returns-in-Ok c =
    let lines = c.args.from.productions.items in
    let all : c.len-base.result ≡ length (map line lines) = omega (arith, c.len-base.ensures, length-map lines line) in
    (c.of.ensures ∙ (λ i. record { parts = parts c.args.from; base = all i }), (c.in-Ok.ensures.tables c.len-base.result (omega (arith, all))).is_grammar)
