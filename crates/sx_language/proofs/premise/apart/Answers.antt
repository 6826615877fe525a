use Rattle.std.proofs.Common.{map, refl, ap}
use Rattle.sx_term.specs.Term.{tree}
use Rattle.sx_language.proofs.Saying.{two_kids}
use Rattle.sx_language.proofs.premise.apart.Goals as goal

pub returns : goal.returns
returns c = (
  tree c.in-Some-pop.left,
  tree c.in-Some.right,
  ap (map tree) (two_kids c.args.kids.items c.pop.new.self.items c.pop-in-Some.new.self.items c.in-Some-pop.left c.in-Some.right c.in-Some.ensures.items c.in-Some-pop.ensures.items c.requires),
  refl,
)
