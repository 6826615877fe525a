use Rattle.std.proofs.Common.{List, Contains, inr, refl, sym, subst}
use Rattle.std.specs.List.{AllByRecursion}
use Rattle.sx_term.specs.declared.sort.Sort.{Sort}
use Rattle.sx_token.specs.declared.token.Token.{Token}
use Rattle.sx_notation.specs.declared.notation_error.NotationError.{NotationError}
use Rattle.sx_notation.specs.ReadAmong.{IsNamed, IsRefusedAmong}
use Rattle.sx_notation.proofs.TextReading.{err_if}
use Rattle.sx_notation.proofs.AmongNames.{uncut_among}
use Rattle.sx_notation.proofs.line_reader.named_tokens.Goals as goal

pub returns-in_err-tokens-clause-refused : goal.returns-in_err-tokens-clause-refused
returns-in_err-tokens-clause-refused c =
    let p = c.args.by.now.parts in
    let stems = c.args.by.now.stems in
    let P : NotationError → Type 0 = λ e. (sort : Sort) → IsRefusedAmong p stems sort c.args.line.now c.args.names.now c.args.number e in
    err_if c.from_residual.result _ P c.from_residual.ensures.1
    (λ e is. subst P (sym is) (λ sort. uncut_among p stems sort c.args.line.now c.args.names.now c.args.number _ c.in_err-tokens.ensures.refused))

pub returns-in-Ok-true-clause-named : goal.returns-in-Ok-true-clause-named
returns-in-Ok-true-clause-named c = (
  c.in_ok-tokens.ensures.known,
  subst (AllByRecursion (IsNamed c.args.names.now)) c.deref.ensures.value (c.in-Ok-true.ensures.named c.in-Ok-true.field-0-test).0,
)

pub returns-in-Ok-false-clause-refused : goal.returns-in-Ok-false-clause-refused
returns-in-Ok-false-clause-refused c =
    let x = c.in-Ok-false.ensures.not c.in-Ok-false.field-0-test in
    let there = subst (λ (ts : List Token). Contains ts x.0) c.deref.ensures.value x.1 in
    λ sort. (refl, refl, (c.in_ok-tokens.tokens.items, x.0, c.in_ok-tokens.ensures.known.0, there, inr x.2))
