use Rattle.std.proofs.Common.{refl, sym, ap, ◌∙◌, arith, Some}
use Rattle.sx_term.specs.declared.term.Term.{Var}
use Rattle.sx_arena.specs.Arena.{trees, tree_at}
use Rattle.sx_arena.specs.Binds.{envs, env_at}
use Rattle.sx_arena.proofs.Arenas.{distinct}
use Rattle.sx_arena.proofs.BindChains.{binds_one}
use Rattle.sx_arena.proofs.Patterns.{variable_bound, variable_other, variable_new}
use Rattle.sx_arena.proofs.pattern.fit_variable.Goals as goal

pub returns-then-bound-term-clause-fit : goal.returns-then-bound-term-clause-fit
returns-then-bound-term-clause-fit c =
    let f = c.in-Some.ensures (trees c.args.arena.now) c.requires.binds in
    (c.requires.env, variable_bound (Var c.args.variable) c.args.variable (tree_at (trees c.args.arena.now) c.args.term) _ (env_at (envs (trees c.args.arena.now) c.args.binds.now) c.args.env) refl f.1 (ap (tree_at (trees c.args.arena.now)) c.if-bound-term.true))

pub returns-else-bound-term-clause-fit : goal.returns-else-bound-term-clause-fit
returns-else-bound-term-clause-fit c =
    let f = c.in-Some.ensures (trees c.args.arena.now) c.requires.binds in
    variable_other (Var c.args.variable) c.args.variable (tree_at (trees c.args.arena.now) c.args.term) _ (env_at (envs (trees c.args.arena.now) c.args.binds.now) c.args.env) refl f.1 (λ q. c.if-bound-term.false (distinct _ c.requires.arena _ _ f.0 c.requires.within q))

pub returns-in_ok-push-in-None-clause-grows : goal.returns-in_ok-push-in-None-clause-grows
returns-in_ok-push-in-None-clause-grows c =
    let o = binds_one _ _ _ _ c.requires.binds c.requires.within c.requires.env c.in_ok-push-in-None.ensures.items in
    o.0

pub returns-in_ok-push-in-None-clause-fit : goal.returns-in_ok-push-in-None-clause-fit
returns-in_ok-push-in-None-clause-fit c =
    let f = c.in-None.ensures (trees c.args.arena.now) c.requires.binds in
    let o = binds_one (trees c.args.arena.now) c.args.binds.now c.push.new.self (record { variable = c.args.variable; term = c.args.term; before = c.args.env }) c.requires.binds c.requires.within c.requires.env c.in_ok-push-in-None.ensures.items in
    let z = c.in_ok-push-in-None.ensures.chain in
    let y = o.2 in
    ((omega arith), variable_new (Var c.args.variable) c.args.variable (tree_at (trees c.args.arena.now) c.args.term) (env_at (envs (trees c.args.arena.now) c.args.binds.now) c.args.env) refl f ∙ ap Some (sym (ap (env_at (envs (trees c.args.arena.now) c.push.new.self)) z ∙ o.1)))
