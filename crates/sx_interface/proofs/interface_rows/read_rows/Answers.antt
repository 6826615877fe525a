use Rattle.std.proofs.Common.{sym, subst, refl}
use Rattle.sx_lines.specs.Lines.{lines_from}
use Rattle.sx_interface.specs.declared.error.HeaderError.{HeaderError}
use Rattle.sx_interface.specs.Reading.{RefusesHeader}
use Rattle.sx_interface.specs.Interfaces.{interface_of}
use Rattle.sx_interface.proofs.PassedOn.{passed_on, stops}
use Rattle.sx_interface.proofs.interface_rows.read_rows.Goals as goal

pub returns-in_err-front-clause-rows : goal.returns-in_err-front-clause-rows
unfolding interface_of
returns-in_err-front-clause-rows c =
    let refused = c.in_err-front.ensures.rows in
    passed_on _ _ c.from_residual.result _ c.from_residual.ensures.1 (λ e is. subst (λ (y : HeaderError). RefusesHeader y (interface_of c.args.name.now (lines_from 1 c.args.bytes.now))) (sym is) (stops _ _ _ refused))

pub returns-in_err-rest-clause-rows : goal.returns-in_err-rest-clause-rows
unfolding interface_of
returns-in_err-rest-clause-rows c =
    let front = c.in_ok-front.ensures.rows in
    let refused = c.in_err-rest.ensures.rows in
    passed_on _ _ c.from_residual-in_err-rest.result _ c.from_residual-in_err-rest.ensures.1 (λ e is. subst (λ (y : HeaderError). RefusesHeader y (interface_of c.args.name.now (lines_from 1 c.args.bytes.now))) (sym is) (rw (front) (stops _ _ _ refused)))

pub returns-in_err-signatures-clause-rows : goal.returns-in_err-signatures-clause-rows
unfolding interface_of
returns-in_err-signatures-clause-rows c =
    let front = c.in_ok-front.ensures.rows in
    let imports = c.in_ok-rest.ensures.rows in
    let refused = c.in_err-signatures.ensures.lines in
    passed_on _ _ c.from_residual-in_err-signatures.result _ c.from_residual-in_err-signatures.ensures.1 (λ e is. subst (λ (y : HeaderError). RefusesHeader y (interface_of c.args.name.now (lines_from 1 c.args.bytes.now))) (sym is) (rw (front, imports) (stops _ _ _ refused)))

pub returns-clause-rows : goal.returns-clause-rows
unfolding interface_of
returns-clause-rows c =
    let front = c.in_ok-front.ensures.rows in
    let imports = c.in_ok-rest.ensures.rows in
    let signatures = c.in_ok-signatures.ensures.lines in
    rw (front, imports, signatures) refl
