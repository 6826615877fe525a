use Rattle.std.proofs.Common.{take, sym, ap, ◌∙◌}
use Rattle.std.proofs.lemmas.List.{take-map}
use Rattle.sx_slots.specs.Mixed.{folded}
use Rattle.sx_arena.specs.declared.arena.Cell.{Cell}
use Rattle.sx_arena.specs.Hashed.{hash_of}
use Rattle.sx_arena.specs.Found.{hashes_of}
use Rattle.sx_arena.proofs.cells.Cells.truncate.Goals as goal

pub invariant_of-self : goal.invariant_of-self
invariant_of-self c =
    c.truncate.ensures ∙ ap (take c.args.many) c.self.invariant ∙ take-map (λ (k : Cell). folded (hash_of k.shape)) c.args.many c.self.inside.cells.items ∙ ap hashes_of (sym c.truncate-2.ensures.items)
