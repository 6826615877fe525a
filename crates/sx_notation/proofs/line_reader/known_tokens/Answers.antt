use Rattle.std.proofs.Common.{sym, subst}
use Rattle.sx_notation.specs.ReadText.{IsUncut}
use Rattle.sx_notation.proofs.TextReading.{err_if}
use Rattle.sx_notation.proofs.line_reader.known_tokens.Goals as goal

pub returns-in_err-tokens-clause-refused : goal.returns-in_err-tokens-clause-refused
returns-in_err-tokens-clause-refused c =
    let P = IsUncut c.args.by.now.parts c.args.by.now.stems c.args.line.now c.args.number in
    err_if c.from_residual.result _ P c.from_residual.ensures.1 (λ e is. subst P (sym is) (c.in_err-tokens.ensures.refused c.args.by.now.stems))
