use Rattle.std.proofs.Common.{sym, subst, refl}
use Rattle.sx_lines.specs.Lines.{lines_from}
use Rattle.sx_lines.specs.Reading.{kept}
use Rattle.sx_interface.specs.declared.error.HeaderError.{HeaderError}
use Rattle.sx_interface.specs.Headers.{header_of}
use Rattle.sx_interface.specs.Reading.{RefusesHeader}
use Rattle.sx_interface.proofs.PassedOn.{passed_on, stops}
use Rattle.sx_interface.proofs.headers.read_rows.Goals as goal

pub returns-in_err-rest-clause-rows : goal.returns-in_err-rest-clause-rows
unfolding header_of
returns-in_err-rest-clause-rows c =
    let line = rw c.all.ensures.lines at c.in_err-rest.ensures in
    let refused = rw c.bytes.ensures.value at line in
    passed_on _ _ c.from_residual.result _ c.from_residual.ensures.1 (λ e is. subst (λ (y : HeaderError). RefusesHeader y (header_of c.args.name.now (kept (lines_from 1 c.args.bytes.now)))) (sym is) (stops _ _ _ refused))

pub returns-in_err-language-clause-rows : goal.returns-in_err-language-clause-rows
unfolding header_of
returns-in_err-language-clause-rows c =
    let line = rw c.all.ensures.lines at c.in_ok-rest.ensures in
    let rest = rw c.bytes.ensures.value at line in
    let refused = c.in_err-language.ensures.row in
    passed_on _ _ c.from_residual-in_err-language.result _ c.from_residual-in_err-language.ensures.1 (λ e is. subst (λ (y : HeaderError). RefusesHeader y (header_of c.args.name.now (kept (lines_from 1 c.args.bytes.now)))) (sym is) (rw rest (stops _ _ _ refused)))

pub returns-in_err-rest-2-clause-rows : goal.returns-in_err-rest-2-clause-rows
unfolding header_of
returns-in_err-rest-2-clause-rows c =
    let line = rw c.all.ensures.lines at c.in_ok-rest.ensures in
    let rest = rw c.bytes.ensures.value at line in
    let language = c.in_ok-language.ensures.row in
    let refused = c.in_err-rest-2.ensures in
    passed_on _ _ c.from_residual-in_err-rest-2.result _ c.from_residual-in_err-rest-2.ensures.1 (λ e is. subst (λ (y : HeaderError). RefusesHeader y (header_of c.args.name.now (kept (lines_from 1 c.args.bytes.now)))) (sym is) (rw (rest, language) (stops _ _ _ refused)))

pub returns-in_err-rest-3-clause-rows : goal.returns-in_err-rest-3-clause-rows
unfolding header_of
returns-in_err-rest-3-clause-rows c =
    let line = rw c.all.ensures.lines at c.in_ok-rest.ensures in
    let rest = rw c.bytes.ensures.value at line in
    let language = c.in_ok-language.ensures.row in
    let uses = c.in_ok-rest-2.ensures in
    let refused = c.in_err-rest-3.ensures in
    passed_on _ _ c.from_residual-in_err-rest-3.result _ c.from_residual-in_err-rest-3.ensures.1 (λ e is. subst (λ (y : HeaderError). RefusesHeader y (header_of c.args.name.now (kept (lines_from 1 c.args.bytes.now)))) (sym is) (rw (rest, language, uses) (stops _ _ _ refused)))

pub returns-in_err-body-clause-rows : goal.returns-in_err-body-clause-rows
unfolding header_of
returns-in_err-body-clause-rows c =
    let line = rw c.all.ensures.lines at c.in_ok-rest.ensures in
    let rest = rw c.bytes.ensures.value at line in
    let language = c.in_ok-language.ensures.row in
    let uses = c.in_ok-rest-2.ensures in
    let imports = c.in_ok-rest-3.ensures in
    let refused = c.in_err-body.ensures in
    passed_on _ _ c.from_residual-in_err-body.result _ c.from_residual-in_err-body.ensures.1 (λ e is. subst (λ (y : HeaderError). RefusesHeader y (header_of c.args.name.now (kept (lines_from 1 c.args.bytes.now)))) (sym is) (rw (rest, language, uses, imports) (stops _ _ _ refused)))

pub returns-clause-rows : goal.returns-clause-rows
unfolding header_of
returns-clause-rows c =
    let line = rw c.all.ensures.lines at c.in_ok-rest.ensures in
    let rest = rw c.bytes.ensures.value at line in
    let language = c.in_ok-language.ensures.row in
    let uses = c.in_ok-rest-2.ensures in
    let imports = c.in_ok-rest-3.ensures in
    let body = c.in_ok-body.ensures in
    rw (rest, language, uses, imports, body) refl
