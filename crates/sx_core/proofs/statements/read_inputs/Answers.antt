use Rattle.std.proofs.Common.{sym, ◌∙◌, map, length}
use Rattle.std.proofs.lemmas.Bool.{false≢true}
use Rattle.sx_term.specs.Term.{tree}
use Rattle.sx_term.specs.Shapes.{shapes}
use Rattle.sx_core.proofs.StatementLaws.{inputs_unsorted, inputs_no_row}
use Rattle.sx_core.proofs.statements.read_inputs.Goals as goal

pub returns-then-not-terms_fit : goal.returns-then-not-terms_fit
returns-then-not-terms_fit c =
    inputs_unsorted (shapes c.args.all.now) c.args.sorts.now c.args.text.now (length c.args.sorts.now) (map tree c.in-Ok.terms.items) c.in-Ok.ensures
    (λ h. false≢true (sym c.if-not-terms_fit.true ∙ (rw c.deref.ensures.value at c.terms_fit.ensures).1 h))

pub returns-else-not-terms_fit : goal.returns-else-not-terms_fit
returns-else-not-terms_fit c = record {
  row = c.in-Ok.ensures;
  sorted = (rw c.deref.ensures.value at c.terms_fit.ensures).0 c.if-not-terms_fit.false;
}

pub returns-in-Err : goal.returns-in-Err
returns-in-Err c = inputs_no_row (shapes c.args.all.now) c.args.sorts.now c.args.text.now c.in-Err.e c.in-Err.ensures
