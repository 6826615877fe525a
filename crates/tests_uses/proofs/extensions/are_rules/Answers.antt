use Rattle.std.proofs.Common.{◌≤◌}
use Rattle.std.specs.Prelude.{IfSome}
use Rattle.sx_term.specs.Tree.{depth_of}
use Rattle.sx_rewrite.specs.ExtensionView.{ext_rule}
use Rattle.tests_uses.proofs.FirstExtension.{at_each}
use Rattle.tests_uses.proofs.extensions.are_rules.Goals as goal

pub is_rule-requires : goal.is_rule-requires
is_rule-requires c =
    at_each (λ e. IfSome e.body (λ t. depth_of t ≤ 1000)) ext_rule c.args.found.now c.loop-i.i
    c.index-found-i.result c.loop-i-test.true c.index-found-i.is c.requires
