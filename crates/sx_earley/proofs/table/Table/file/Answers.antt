use Rattle.std.proofs.Common.{◌≡◌, ◌∙◌, refl, ap, sym, subst, cond, Some, ◌++◌, ◌∷◌, []}
use Rattle.std.specs.Option.{option_copied_mut, IsSome}
use Rattle.std.specs.HashMap.{get_by}
use Rattle.sx_earley.specs.Table.{same_slot, sort_row_in}
use Rattle.sx_earley.proofs.Filing.{filed_rows, filed_row}
use Rattle.sx_earley.proofs.table.Table.file.Goals as goal

pub returns-in-Some-clause-rows : goal.returns-in-Some-clause-rows
returns-in-Some-clause-rows g c =
    let at : get_by (same_slot c.args.slot) c.args.self.now.rows ≡ Some c.in-Some.row.now = sym c.in-Some.ensures.value in
    filed_rows (λ s. get_by (same_slot s) c.args.self.now.rows) (λ s. get_by (same_slot s) (c.get_mut.follows.lender c.push.new.self)) c.args.slot c.push.new.self c.args.element
    (c.in_ok-push.ensures.items ∙ ap (λ o. sort_row_in o ++ c.args.element ∷ []) (sym at))
    ((c.get_mut.follows.holds c.push.new.self).3 (subst IsSome (sym at) refl)).0

pub returns-in-Some-clause-row : goal.returns-in-Some-clause-row
returns-in-Some-clause-row g c =
    let at : get_by (same_slot c.args.slot) c.args.self.now.rows ≡ Some c.in-Some.row.now = sym c.in-Some.ensures.value in
    filed_row (λ s. get_by (same_slot s) c.args.self.now.rows) (λ s. get_by (same_slot s) (c.get_mut.follows.lender c.push.new.self)) c.args.slot c.push.new.self c.args.element
    (c.in_ok-push.ensures.items ∙ ap (λ o. sort_row_in o ++ c.args.element ∷ []) (sym at))
    ((c.get_mut.follows.holds c.push.new.self).3 (subst IsSome (sym at) refl)).0

pub returns-clause-rows : goal.returns-clause-rows
returns-clause-rows g c =
    filed_rows (λ s. get_by (same_slot s) c.args.self.now.rows) (λ s. get_by (same_slot s) c.insert.new.self) c.args.slot c.push-2.new.self c.args.element
    (c.in_ok-push-2.ensures.items ∙ ap (λ l. l ++ c.args.element ∷ []) (c.new-row.ensures.items ∙ sym (ap sort_row_in (sym c.get_mut.ensures.value ∙ ap (λ o. option_copied_mut o) c.in_default.is))))
    (λ q. c.in_ok-insert.ensures.updates.0 q ∙ ap (λ m. cond (same_slot c.args.slot q) (Some c.push-2.new.self) (get_by (same_slot q) m)) c.get_mut.follows.holds-at-none)

pub returns-clause-row : goal.returns-clause-row
returns-clause-row g c =
    filed_row (λ s. get_by (same_slot s) c.args.self.now.rows) (λ s. get_by (same_slot s) c.insert.new.self) c.args.slot c.push-2.new.self c.args.element
    (c.in_ok-push-2.ensures.items ∙ ap (λ l. l ++ c.args.element ∷ []) (c.new-row.ensures.items ∙ sym (ap sort_row_in (sym c.get_mut.ensures.value ∙ ap (λ o. option_copied_mut o) c.in_default.is))))
    (λ q. c.in_ok-insert.ensures.updates.0 q ∙ ap (λ m. cond (same_slot c.args.slot q) (Some c.push-2.new.self) (get_by (same_slot q) m)) c.get_mut.follows.holds-at-none)
