use Rattle.std.proofs.Common.{sym, subst, refl}
use Rattle.sx_lines.specs.Left.{left}
use Rattle.sx_interface.specs.declared.error.HeaderError.{HeaderError}
use Rattle.sx_interface.specs.Reading.{RefusesHeader}
use Rattle.sx_interface.specs.Interfaces.{signatures_of}
use Rattle.sx_interface.proofs.PassedOn.{passed_on, stops}
use Rattle.sx_interface.proofs.interface_rows.read_signatures.Goals as goal

pub returns-in_err-rest-clause-lines : goal.returns-in_err-rest-clause-lines
unfolding signatures_of
returns-in_err-rest-clause-lines c =
    let refused = c.in_err-rest.ensures.line in
    passed_on _ _ c.from_residual.result _ c.from_residual.ensures.1 (λ e is. subst (λ (y : HeaderError). RefusesHeader y (signatures_of c.args.version (left c.args.rest))) (sym is) (stops _ _ _ refused))

pub returns-in_err-signature-clause-lines : goal.returns-in_err-signature-clause-lines
unfolding signatures_of
returns-in_err-signature-clause-lines c =
    let signed = c.in_ok-rest.ensures.line in
    let refused = c.in_err-signature.ensures.line in
    passed_on _ _ c.from_residual-in_err-signature.result _ c.from_residual-in_err-signature.ensures.1 (λ e is. subst (λ (y : HeaderError). RefusesHeader y (signatures_of c.args.version (left c.args.rest))) (sym is) (rw signed (stops _ _ _ refused)))

pub returns-in_err-stated-clause-lines : goal.returns-in_err-stated-clause-lines
unfolding signatures_of
returns-in_err-stated-clause-lines c =
    let signed = c.in_ok-rest.ensures.line in
    let signature = c.in_ok-signature.ensures.line in
    let refused = c.in_err-stated.ensures.line in
    passed_on _ _ c.from_residual-in_err-stated.result _ c.from_residual-in_err-stated.ensures.1 (λ e is. subst (λ (y : HeaderError). RefusesHeader y (signatures_of c.args.version (left c.args.rest))) (sym is) (rw (signed, signature) (stops _ _ _ refused)))

pub returns-in_err-end-clause-lines : goal.returns-in_err-end-clause-lines
unfolding signatures_of
returns-in_err-end-clause-lines c =
    let signed = c.in_ok-rest.ensures.line in
    let signature = c.in_ok-signature.ensures.line in
    let stated = c.in_ok-stated.ensures.line in
    let refused = c.in_err-end.ensures in
    passed_on _ _ c.from_residual-in_err-end.result _ c.from_residual-in_err-end.ensures.1 (λ e is. subst (λ (y : HeaderError). RefusesHeader y (signatures_of c.args.version (left c.args.rest))) (sym is) (rw (signed, signature, stated) (stops _ _ _ refused)))

pub returns-clause-lines : goal.returns-clause-lines
unfolding signatures_of
returns-clause-lines c =
    let signed = c.in_ok-rest.ensures.line in
    let signature = c.in_ok-signature.ensures.line in
    let stated = c.in_ok-stated.ensures.line in
    let end = c.in_ok-end.ensures in
    rw (signed, signature, stated, end) refl
