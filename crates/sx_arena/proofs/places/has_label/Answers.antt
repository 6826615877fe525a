use Rattle.std.proofs.Common.{refl, sym, subst}
use Rattle.std.specs.Prelude.{IsTrue, ◌↔◌, nat_eq}
use Rattle.sx_term.specs.Tree.{Tree}
use Rattle.sx_arena.specs.Arena.{trees}
use Rattle.sx_arena.specs.Places.{HasLabel}
use Rattle.sx_arena.proofs.Keyed.{node_labelled}
use Rattle.sx_arena.proofs.places.has_label.Goals as goal

pub returns-in-Node : goal.returns-in-Node
returns-in-Node c = subst (λ (t : Tree). IsTrue (nat_eq c.args.label c.in-Node.other) ↔ HasLabel c.args.label t) (sym c.cell.ensures.tree) (node_labelled (trees c.args.arena.now) c.args.label c.in-Node.other _ _ _ c.in-Node.is refl)
