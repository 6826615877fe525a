use Rattle.std.proofs.Common.{◌∙◌, ap, subst, ◌≡◌}
use Rattle.std.specs.Prelude.{slice_get, Some, Contains}
use Rattle.sx_core.specs.Statements.{known_in}
use Rattle.sx_core.proofs.StatementLaws.{form_read, form_none}
use Rattle.sx_core.proofs.statements.read_form.Goals as goal

pub returns-in-Some : goal.returns-in-Some
returns-in-Some c =
    form_read (known_in c.args.table.now) c.args.text.now c.in-Ok.name c.in-Ok.rest.now c.in-Some.form c.in-Ok.ensures
    (subst (λ names. slice_get names c.in-Some.form ≡ Some c.in-Ok.name) c.requires.names (c.in-Some.ensures.exact ∙ ap Some c.bytes.ensures.value))

pub returns-in-Ok : goal.returns-in-Ok
returns-in-Ok c =
    form_none (known_in c.args.table.now) c.args.text.now c.in-Ok.name c.in-Ok.rest.now c.in-Ok.ensures
    (subst (λ names. Contains names c.in-Ok.name → ⊥) c.requires.names (rw c.bytes.ensures.value at c.in-None.ensures.exact))
