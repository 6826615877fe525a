use Rattle.std.proofs.Common.{◌↔◌, drop}
use Rattle.sx_term.specs.Shapes.{shapes}
use Rattle.sx_term.proofs.Kids.{trees}
use Rattle.sx_extension.specs.OwnSyntax.{HaveOwn}
use Rattle.sx_extension.proofs.own_syntax.OwnSyntax.+stands_in.Given as goal

abbrev pub invariant-loop-kid : goal.invariant-loop-kid
invariant-loop-kid l =
    HaveOwn (shapes l.self.shapes.now) l.self.first (trees (drop l.kid-index l.kid-items))
    ↔ HaveOwn (shapes l.self.shapes.now) l.self.first (trees l.kid-items)
