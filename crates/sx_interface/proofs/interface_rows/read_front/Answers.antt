use Rattle.std.proofs.Common.{◌≡◌, ◌++◌, ℕ, codes, Result, Ok, sym, subst, refl}
use Rattle.std.specs.Result.{IsErrAnd}
use Rattle.sx_lines.specs.Lines.{lines_from}
use Rattle.sx_lines.specs.Left.{left}
use Rattle.sx_lines.specs.Reading.{the_line, next_line, GivesRead}
use Rattle.sx_interface.specs.declared.error.HeaderError.{HeaderError}
use Rattle.sx_interface.specs.Reading.{RefusesHeader}
use Rattle.sx_interface.specs.Interfaces.{version_of, interface_front}
use Rattle.sx_interface.proofs.PassedOn.{passed_on, stops}
use Rattle.sx_interface.proofs.interface_rows.read_front.Goals as goal
use Rattle.sx_interface.proofs.interface_rows.read_front.Goals.{In_ok-rest}

-- an error that is passed on as it is
passed : {X Y : Type 0} (view : X → Y) (read : Result Y ℕ) (r : Result X HeaderError) (e : HeaderError) → IsErrAnd r (λ y. y ≡ e) → RefusesHeader e read → GivesRead view RefusesHeader r read
passed view read r e h refused = passed_on _ _ _ _ h (λ y is. subst (λ (x : HeaderError). RefusesHeader x read) (sym is) refused)

-- the rows before the language are read
rows_read : (c : In_ok-rest) → (next_line version_of (lines_from 1 c.args.bytes.now) ≡ Ok (c.in_ok-version.version, left c.in_ok-version.rest)) × (the_line (codes "module " ++ c.args.name.now) (left c.in_ok-version.rest) ≡ Ok (left c.in_ok-rest.rest))
rows_read c = (rw c.all.ensures.lines at c.in_ok-version.ensures.line, rw c.bytes.ensures.value at c.in_ok-rest.ensures.line)

pub returns-in_err-version-clause-rows : goal.returns-in_err-version-clause-rows
unfolding interface_front
returns-in_err-version-clause-rows c =
    let refused = rw c.all.ensures.lines at c.in_err-version.ensures.line in
    passed _ _ _ _ c.from_residual.ensures.1 (stops _ _ _ refused)

pub returns-in_err-rest-clause-rows : goal.returns-in_err-rest-clause-rows
unfolding interface_front
returns-in_err-rest-clause-rows c =
    let version = rw c.all.ensures.lines at c.in_ok-version.ensures.line in
    let refused = rw c.bytes.ensures.value at c.in_err-rest.ensures.line in
    passed _ _ _ _ c.from_residual-in_err-rest.ensures.1 (rw version (stops _ _ _ refused))

pub returns-in_err-language-clause-rows : goal.returns-in_err-language-clause-rows
unfolding interface_front
returns-in_err-language-clause-rows c =
    let rows = rows_read (goal.at.returns-in_err-language-clause-rows c).In_ok-rest in
    let refused = c.in_err-language.ensures.line in
    passed _ _ _ _ c.from_residual-in_err-language.ensures.1 (rw (rows.0, rows.1) (stops _ _ _ refused))

pub returns-in_err-rest-2-clause-rows : goal.returns-in_err-rest-2-clause-rows
unfolding interface_front
returns-in_err-rest-2-clause-rows c =
    let rows = rows_read (goal.at.returns-in_err-rest-2-clause-rows c).In_ok-rest in
    let language = c.in_ok-language.ensures.line in
    let refused = c.in_err-rest-2.ensures.rows in
    passed _ _ _ _ c.from_residual-in_err-rest-2.ensures.1 (rw (rows.0, rows.1, language) (stops _ _ _ refused))

pub returns-in_err-base_digest-clause-rows : goal.returns-in_err-base_digest-clause-rows
unfolding interface_front
returns-in_err-base_digest-clause-rows c =
    let rows = rows_read (goal.at.returns-in_err-base_digest-clause-rows c).In_ok-rest in
    let language = c.in_ok-language.ensures.line in
    let uses = c.in_ok-rest-2.ensures.rows in
    let refused = c.in_err-base_digest.ensures.line in
    passed _ _ _ _ c.from_residual-in_err-base_digest.ensures.1 (rw (rows.0, rows.1, language, uses) (stops _ _ _ refused))

pub returns-clause-rows : goal.returns-clause-rows
unfolding interface_front
returns-clause-rows c =
    let rows = rows_read (goal.at.returns-clause-rows c).In_ok-rest in
    let language = c.in_ok-language.ensures.line in
    let uses = c.in_ok-rest-2.ensures.rows in
    let base = c.in_ok-base_digest.ensures.line in
    rw (rows.0, rows.1, language, uses, base) refl
