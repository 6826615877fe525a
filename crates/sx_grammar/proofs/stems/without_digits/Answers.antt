use Rattle.std.proofs.Common.{◌≡◌, ◌∙◌, sym, true, false}
use Rattle.std.specs.Char.{is_ascii_digit}
use Rattle.sx_grammar.proofs.StemLaws.{digit_out, no_digit}
use Rattle.sx_grammar.proofs.stems.without_digits.Goals as goal

pub loop-last-preserved : goal.loop-last-preserved
loop-last-preserved c =
    let digit : is_ascii_digit c.in-Some.last.now ≡ true = sym c.is_ascii_digit.ensures.value ∙ c.if-is_ascii_digit.true in
    sym (digit_out c.loop-last.rest.now c.in-Some.front.now c.in-Some.last.now c.in-Some.ensures.cases.0 digit) ∙ c.loop-last.invariant

pub returns-else-is_ascii_digit : goal.returns-else-is_ascii_digit
returns-else-is_ascii_digit c =
    let digit : is_ascii_digit c.in-Some.last.now ≡ false = sym c.is_ascii_digit.ensures.value ∙ c.if-is_ascii_digit.false in
    sym (no_digit c.loop-last.rest.now c.in-Some.front.now c.in-Some.last.now c.in-Some.ensures.cases.0 digit) ∙ c.loop-last.invariant
