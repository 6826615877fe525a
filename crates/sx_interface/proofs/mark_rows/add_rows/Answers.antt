use Rattle.std.proofs.Common.{sym, ◌∙◌}
use Rattle.std.proofs.lemmas.List.{map_push}
use Rattle.sx_interface.specs.declared.interfaces.ImportMark.{ImportMark}
use Rattle.sx_interface.specs.Interfaces.{MarkData, mark_after}
use Rattle.sx_interface.specs.InterfaceView.{marks_view, import_view}
use Rattle.sx_interface.proofs.NameLaws.{has_is, keys_have}
use Rattle.sx_interface.proofs.RowLaws.{one_row, row_twice, rows_end, rows_over}
use Rattle.sx_interface.proofs.MarkLaws.{marks_view_push, named}
use Rattle.sx_interface.proofs.mark_rows.add_rows.Goals as goal

pub returns-then-has-clause-rows : goal.returns-then-has-clause-rows
returns-then-has-clause-rows c =
    let found = rw c.rows.invariant.0 at (has_is c.rows.seen c.in-Some.name.now c.has.result c.has.ensures ∙ c.if-has.true) in
    let seen = sym (keys_have (λ (m : MarkData). m.name) (marks_view c.rows.marks.items) c.in-Some.name.now) ∙ found in
    row_twice (λ (m : MarkData). m.name) (mark_after c.args.front.now) (marks_view c.rows.marks.items) _ _ c.rows.invariant.1 _ _ _ _ (import_view (c.in-Some.name, c.in-Some.digest)) c.in-Ok.ensures.first c.in-Some.ensures.value seen

pub returns-in-None-clause-rows : goal.returns-in-None-clause-rows
returns-in-None-clause-rows c = rows_end (λ (m : MarkData). m.name) (mark_after c.args.front.now) (marks_view c.rows.marks.items) _ _ c.rows.invariant.1 _ _ _ _ c.in-Ok.ensures.first c.in-None.ensures.value

pub rows-preserved : goal.rows-preserved
rows-preserved c =
    let found = rw c.rows.invariant.0 at (has_is c.rows.seen c.in-Some.name.now c.has.result c.has.ensures ∙ c.if-has.false) in
    let fresh = sym (keys_have (λ (m : MarkData). m.name) (marks_view c.rows.marks.items) c.in-Some.name.now) ∙ found in
    let mark : MarkData = import_view (c.in-Some.name, c.in-Some.digest) in
    let next = one_row (λ (m : MarkData). m.name) (mark_after c.args.front.now) (marks_view c.rows.marks.items) _ _ c.rows.invariant.1 _ _ _ _ mark c.in-Ok.ensures.first c.in-Some.ensures.value fresh in
    let item : ImportMark = record { name = c.in_ok-name-in-Some.name; digest = c.in-Some.digest } in
    let made = marks_view_push c.rows.marks.items item mark (named c.in_ok-name-in-Some.name c.in-Some.name.now c.in-Some.digest.bytes c.in_ok-name-in-Some.ensures) in
    let names = map_push (λ (m : MarkData). m.name) (marks_view c.rows.marks.items) mark in
    let added = rw c.rows.invariant.0 at c.in_ok-push-in-Some.ensures in
    rw c.in_ok-push-in-Some-2.ensures.items (rw made (added ∙ sym names), rw made next, λ u. (c.in-Ok.ensures.utf8 (c.rows.invariant.2 u)).1)

pub returns-clause-rows : goal.returns-clause-rows
returns-clause-rows c = rows_over (λ (m : MarkData). m.name) (mark_after c.args.front.now) (marks_view c.rows.marks.items) _ _ c.rows.invariant.1 _ c.in_default.ensures.first
