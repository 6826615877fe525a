use Rattle.std.proofs.Common.{map, true, false, refl}
use Rattle.sx_term.specs.Term.{tree}
use Rattle.sx_arena.specs.Places.{selected}
use Rattle.sx_arena.specs.Views.{set_modes, judgement_of}
use Rattle.sx_arena.proofs.Placed.{held_as}
use Rattle.sx_arena.proofs.EnteredRows.{fact_in}
use Rattle.sx_arena.proofs.input.enter_fact.Goals as goal

pub returns : goal.returns
returns c =
    fact_in (set_modes c.args.rules.now) _ _ _ (judgement_of c.args.it.now) (record { form = c.args.it.now.form; inputs = c.in_ok-inputs.inputs; outputs = c.in_ok-outputs.outputs }) refl
    (held_as _ _ _ _ _ (λ i. selected false (c.roles.ensures i) (map tree (c.deref.ensures.value i))) c.in_ok-inputs.ensures)
    (held_as _ _ _ _ _ (λ i. selected true (c.roles-2.ensures i) (map tree (c.deref-2.ensures.value i))) c.in_ok-outputs.ensures)
