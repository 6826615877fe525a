use Rattle.std.proofs.Common.{◌≡◌, true, false, ◌∙◌}
use Rattle.sx_lines.specs.Rows.{name_after, has_key}
use Rattle.sx_interface.proofs.NameLaws.{has_is}
use Rattle.sx_interface.proofs.RowLaws.{one_row, row_twice, rows_end, rows_over}
use Rattle.sx_interface.proofs.rows.add_rows.Goals as goal

pub returns-then-has : goal.returns-then-has
returns-then-has c =
    let found = has_is c.rows.seen c.in-Some.name.now c.has.result c.has.ensures ∙ c.if-has.true in
    let seen : has_key (λ x. x) c.rows.names.items c.in-Some.name.now ≡ true = rw c.rows.invariant.0 at found in
    row_twice (λ x. x) (name_after c.args.front.now) c.rows.names.items _ _ c.rows.invariant.1 _ _ _ _ c.in-Some.name.now c.in-Ok.ensures.first c.in-Some.ensures.value seen

pub returns-in-None : goal.returns-in-None
returns-in-None c = rows_end (λ x. x) (name_after c.args.front.now) c.rows.names.items _ _ c.rows.invariant.1 _ _ _ _ c.in-Ok.ensures.first c.in-None.ensures.value

pub rows-preserved : goal.rows-preserved
rows-preserved c =
    let found = has_is c.rows.seen c.in-Some.name.now c.has.result c.has.ensures ∙ c.if-has.false in
    let fresh : has_key (λ x. x) c.rows.names.items c.in-Some.name.now ≡ false = rw c.rows.invariant.0 at found in
    let next = one_row (λ x. x) (name_after c.args.front.now) c.rows.names.items _ _ c.rows.invariant.1 _ _ _ _ c.in-Some.name.now c.in-Ok.ensures.first c.in-Some.ensures.value fresh in
    let added = rw c.rows.invariant.0 at c.in_ok-push-in-Some.ensures in
    rw (c.in_ok-push-in-Some-2.ensures.items, c.in_ok-name_text-in-Some.ensures) (added, next)

pub returns : goal.returns
returns c = rows_over (λ x. x) (name_after c.args.front.now) c.rows.names.items _ _ c.rows.invariant.1 _ c.in_default.ensures.first
