use Rattle.std.proofs.Common.{refl, sym, ap, ◌∙◌, List, ℕ, ◌++◌, ◌∷◌, []}
use Rattle.std.proofs.lemmas.Bool.{false≢true}
use Rattle.sx_core.specs.Rows.{sort_row}
use Rattle.sx_core.proofs.FindLaws.{finds_new, finds_taken, found_row, rows_pushed}
use Rattle.sx_core.proofs.sort_reading.find_sort.Goals as goal

pub returns-then-has : goal.returns-then-has
returns-then-has c =
    finds_taken c.args.table.now c.args.table.now c.args.text.now (sort_row c.in-Some.row) c.requires
    (found_row c.args.text.now c.in_ok-row.field-0 c.in-Some.row c.in-Some.is c.in_ok-row.ensures)
    ((rw c.bytes.ensures.value at c.has.ensures).0 c.if-has.true) refl

pub returns-in_ok-push-in-Some-2 : goal.returns-in_ok-push-in-Some-2
returns-in_ok-push-in-Some-2 c =
    finds_new c.args.table.now (record { names = c.push.new.self; rows = c.push-in-Some.new.self }) c.args.text.now (sort_row c.in-Some.row) c.requires
    (found_row c.args.text.now c.in_ok-row.field-0 c.in-Some.row c.in-Some.is c.in_ok-row.ensures)
    (λ h. false≢true (sym c.if-has.false ∙ (rw c.bytes.ensures.value at c.has.ensures).1 h))
    (rows_pushed c.args.table.now.rows.items c.push-in-Some.new.self.items c.in-Some.row c.in_ok-push-in-Some-2.ensures.items)
    (c.in_ok-push-in-Some.ensures ∙ ap (λ (z : List ℕ). c.args.table.now.names ++ z ∷ []) c.bytes-in-Some.ensures.value)
