use Rattle.std.proofs.Common.{[], ap, sym}
use Rattle.sx_term.specs.Tree.{depth_of}
use Rattle.sx_environment.proofs.Nodes.{node_tree}
use Rattle.sx_environment.proofs.building.empty.Goals as goal

pub invariant_of-result : goal.invariant_of-result
invariant_of-result c = record {
  deep = sym
      (ap depth_of (node_tree c.args.given.now.dialect.language.now.main.empty c.new.result []
      c.new.ensures.items));
}

pub returns : goal.returns
returns c = node_tree c.args.given.now.dialect.language.now.main.empty c.new.result []
    c.new.ensures.items
