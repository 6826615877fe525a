use Rattle.sx_arena.proofs.Ruled.{rule_found, rule_missing}
use Rattle.sx_arena.proofs.set.rule_at.Goals as goal

pub unreachable-requires : goal.unreachable-requires
unreachable-requires c = rule_missing _ _ c.in-None.ensures c.requires

pub returns : goal.returns
returns c = rule_found c.args.set.now.rules.items c.args.number c.in-Some.rule.now c.in-Some.ensures
