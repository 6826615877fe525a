use Rattle.std.proofs.Common.{refl}
use Rattle.sx_term.specs.declared.term.Term.{Node}
use Rattle.sx_arena.specs.Arena.{trees}
use Rattle.sx_arena.specs.Binds.{envs, env_at}
use Rattle.sx_arena.proofs.Patterns.{ok_weaker}
use Rattle.sx_arena.proofs.Exporting.{value_found, value_none}
use Rattle.sx_arena.proofs.output.value.Goals as goal

pub returns-in-Some : goal.returns-in-Some
returns-in-Some c =
    let ts = trees c.args.arena.now in
    ok_weaker _ _ (λ t h. value_found ts (env_at (envs ts c.args.binds.now) c.args.env) c.args.variable c.in-Some.index t (c.in-Some.ensures ts c.requires.binds) h) c.export.result c.export.ensures

pub returns-in-None : goal.returns-in-None
returns-in-None c =
    let ts = trees c.args.arena.now in
    value_none ts (env_at (envs ts c.args.binds.now) c.args.env) c.args.variable (Node 0 c.new.result) c.new.result (c.in-None.ensures ts c.requires.binds) c.new.ensures.items refl
