use Rattle.std.proofs.Common.{◌∙◌, sym, ap, subst}
use Rattle.sx_term.specs.Cutting.{AreDistinct}
use Rattle.sx_grammar.specs.Parts.{parts, names, texts}
use Rattle.sx_grammar.specs.Numbering.{IsNumberedAs}
use Rattle.sx_grammar.specs.Made.{IsFirstAgain}
use Rattle.sx_grammar.proofs.checks.good_sorts.Goals as goal

pub returns-in-Distinct-clause-good : goal.returns-in-Distinct-clause-good
returns-in-Distinct-clause-good c =
    let known = subst (IsNumberedAs (texts c.deref.result.now)) c.in-Distinct.is c.in_ok-known.ensures in
    (c.requires, subst AreDistinct (ap texts c.deref.ensures.value ∙ c.in_ok-list.ensures) known.0)

pub returns-in_ok-copy-in-Again-clause-refused : goal.returns-in_ok-copy-in-Again-clause-refused
returns-in_ok-copy-in-Again-clause-refused c =
    let again = subst (IsNumberedAs (texts c.deref.result.now)) c.in-Again.is c.in_ok-known.ensures in
    (c.requires, subst (IsFirstAgain (names (parts c.args.from.now))) (sym c.in_ok-copy-in-Again.ensures) (subst (λ l. IsFirstAgain l c.in-Again.name.now) (ap texts c.deref.ensures.value ∙ c.in_ok-list.ensures) again))
