use Rattle.std.proofs.Common.{◌++◌, List, ap, arith, ◌∙◌}
use Rattle.sx_rules.specs.EntryView.{entries}
use Rattle.sx_rules.specs.declared.entry.Entry.{Entry as EntryOf}
use Rattle.sx_expand.specs.Listed.{set_in}
use Rattle.sx_expand.specs.LoweredOrders.{lowered_order}
use Rattle.sx_expand.proofs.list_lowering.lower_listing.Goals as goal

pub emit-requires-clause-stands : goal.emit-requires-clause-stands
emit-requires-clause-stands c = let r = c.requires.stands in (r.0, r.1)

pub returns-in_ok-emit-in-Some : goal.returns-in_ok-emit-in-Some
returns-in_ok-emit-in-Some c = λ p h.
    let e = c.in-Some.ensures p h in
    let b = c.if-size-gt-MOST_HEIGHT.false in
    let s = e.2 in (
      e.0,
      omega (arith, b, s),
      e.3,
      c.in_ok-emit-in-Some.ensures p h ∙ ap (λ (xs : List EntryOf). entries xs ++ lowered_order (set_in c.args.listing.now) p) c.new-into.ensures.items,
    )
