use Rattle.std.proofs.Common.{List, ℕ, [], ◌∷◌, ◌++◌, ap, ◌∙◌, sym}
use Rattle.std.proofs.lemmas.List.{drop_all}
use Rattle.std.proofs.lemmas.Slice.Eq.{bytes_eq-Decides}
use Rattle.sx_lines.specs.Words.{after}
use Rattle.sx_token.specs.declared.token.Token.{Token}
use Rattle.sx_unit.specs.Known.{behind_blanks}
use Rattle.sx_unit.proofs.Spelling.{one_more}
use Rattle.sx_unit.proofs.known_reading.goes_on.Goals as goal

pub loop-token-preserved : goal.loop-token-preserved
loop-token-preserved c = λ e.
    let text = ap (λ (l : List ℕ). after l c.in-Some.more.now) (sym c.bytes.ensures.value)
    ∙ sym c.in-Some-after.ensures in
    c.loop-token.invariant (one_more c.args.tokens.now c.loop-token.token-index c.token-item.result
    c.loop-token.rest.now c.in-Some.more.now c.in-Some-after.next.now (10 ∷ [])
    c.loop-token-test.true c.token-item.is (sym c.in-Some.ensures) text e)

pub returns : goal.returns
returns c = λ is.
    let line = (bytes_eq-Decides c.loop-token.rest.now (10 ∷ [])).0 (sym c.eq.ensures ∙ is) in
    let none = drop_all c.loop-token.token-index c.args.tokens.now c.loop-token-test.false in
    c.loop-token.invariant
    (line ∙ ap (λ (ts : List Token). behind_blanks ts ++ 10 ∷ []) (sym none))
