use Rattle.std.proofs.Common.{length, subst}
use Rattle.sx_term.specs.Term.{tree}
use Rattle.sx_term.specs.Sorts.{HasSort}
use Rattle.sx_print.proofs.Sorting.{printable_terms}
use Rattle.tests_syntax.proofs.prints.written.Goals as goal

pub print-requires-clause-printable : goal.print-requires-clause-printable
print-requires-clause-printable c =
    printable_terms c.args.grammar.now.parts c.args.sorts.now (length c.args.vars.now) (tree c.args.term.now) c.args.of
    (subst (λ s. HasSort s c.args.sorts.now (tree c.args.term.now) c.args.of) c.in_ok-shapes.ensures (c.fits-fits.ensures.0 c.if-fits.true))
    c.requires.named
