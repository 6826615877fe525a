use Rattle.std.proofs.Common.{◌≡◌, ◌-◌, [], subst, sym, ap, ◌∙◌, length, arith}
use Rattle.sx_earley.specs.Chart.{next_symbol}
use Rattle.sx_earley.specs.Shown.{plain}
use Rattle.sx_forest.specs.declared.kept.Kept.{Kept}
use Rattle.sx_forest.specs.Rows.{tally_at, stretch_at}
use Rattle.sx_forest.specs.KeptRows.{symbols_by, front_of, IsLonger}
use Rattle.sx_forest.proofs.Wider.{basis_tokens, AreWideTo, none_of_length, wide_none, wide_on, wide_all}
use Rattle.sx_forest.proofs.widening.wider_rows.Goals as goal

pub loop-row-init : goal.loop-row-init
loop-row-init c =
    let g = plain c.args.basis.grammar.now in let ts = basis_tokens c.args.basis in let lists = c.args.basis.table.now.lists.items in
    let kept = c.args.kept.now in let count = symbols_by g kept.head in let rows = c.args.rows.items in
    subst (λ w. AreWideTo g ts lists kept.head count kept.to kept.stretches.items c.args.stretches.now rows w c.into_iter-row-iterator.result.rest.items) (sym c.new-wide.ensures.items)
    (subst (λ r. AreWideTo g ts lists kept.head count kept.to kept.stretches.items c.args.stretches.now rows [] r) (sym c.into_iter-row-iterator.ensures.into_iter_gives.0)
    (wide_none g ts lists kept.head count kept.to kept.stretches.items c.args.stretches.now rows))

pub loop-row-preserved : goal.loop-row-preserved
loop-row-preserved c =
    let g = plain c.args.basis.grammar.now in let ts = basis_tokens c.args.basis in let lists = c.args.basis.table.now.lists.items in
    let head = c.args.kept.now.head in let count = symbols_by g head in let olds = c.args.kept.now.stretches.items in let news = c.args.stretches.now in
    let kept : Kept = record { head = head; to = c.args.kept.now.to; stretches = c.args.kept.now.stretches; rows = c.args.rows } in
    let x = c.in-Some.row in let r = c.in_ok-own.own in let wide = c.loop-row.wide.items in
    wide_on g ts lists kept c.requires.kept news c.requires.wider wide c.loop-row.row-iterator.rest.items c.push.new.self.items c.next.new.self.rest.items x r c.loop-row.invariant c.in-Some.ensures.steps.0
    c.in_ok-push.ensures.items (λ e. c.in_ok-own.ensures.first (ap length c.deref.ensures.value ∙ e))
    (λ n at. subst (λ w. IsLonger g ts lists (next_symbol g head (count - n - 1)) (tally_at w n) (front_of (stretch_at olds (count - n - 1)) (stretch_at news (count - n - 1))) x r) c.deref.ensures.value
    (c.in_ok-own.ensures.more n (ap length c.deref.ensures.value ∙ at)))

pub returns : goal.returns
returns c =
    let g = plain c.args.basis.grammar.now in let ts = basis_tokens c.args.basis in let lists = c.args.basis.table.now.lists.items in
    let head = c.args.kept.now.head in let count = symbols_by g head in
    let kept : Kept = record { head = head; to = c.args.kept.now.to; stretches = c.args.kept.now.stretches; rows = c.args.rows } in
    let none = c.in-None.ensures.steps.0 in let filled = c.loop-row.row-iterator.rest.ok in
    let done : c.loop-row.row-iterator.rest.items ≡ [] = none_of_length c.loop-row.row-iterator.rest.items (omega (arith, none, filled)) in
    wide_all g ts lists kept c.requires.kept c.args.stretches.now c.requires.wider c.loop-row.wide.items
    (subst (λ l. AreWideTo g ts lists head count kept.to kept.stretches.items c.args.stretches.now c.args.rows.items c.loop-row.wide.items l) done c.loop-row.invariant)
