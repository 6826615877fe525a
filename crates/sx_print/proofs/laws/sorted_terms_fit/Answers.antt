use Rattle.sx_print.proofs.Sorting.{sorted_terms, printable_terms}
use Rattle.sx_print.proofs.laws.sorted_terms_fit.Goals as goal

pub returns-clause-fit : goal.returns-clause-fit
returns-clause-fit c = sorted_terms

pub returns-clause-printable : goal.returns-clause-printable
returns-clause-printable c = printable_terms
