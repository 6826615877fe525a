use Rattle.std.proofs.Common.{arith, ap}
use Rattle.sx_rules.specs.Derivations.{height_of}
use Rattle.sx_rules.specs.ProofView.{proof, boxed}
use Rattle.sx_rewrite.proofs.Grafted.{height-grafted}
use Rattle.sx_rewrite.proofs.grafting.graft.Goals as goal

pub filled-requires-clause-shallow : goal.filled-requires-clause-shallow
filled-requires-clause-shallow c =
    let h = height-grafted (boxed c.args.kids.items) (proof c.args.body.value) in
    let e = ap (λ p. height_of (proof p)) c.replace-whole.ensures.value in
    let f = ap (λ p. height_of (proof p)) c.deref_mut.ensures.value in
    let s = c.requires.shallow in omega arith
