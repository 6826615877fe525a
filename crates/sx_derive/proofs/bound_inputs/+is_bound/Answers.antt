use Rattle.std.proofs.Common.{rules, ◌∙◌, sym}
use Rattle.sx_term.specs.declared.term.Term.TheViews.{the_lemmas}
use Rattle.sx_term.proofs.Kids.{depth_of-kid}
use Rattle.sx_arena.specs.Binds.{envs, env_at}
use Rattle.sx_derive.proofs.Bound.{kids_more, kids_end, node_bound, var_bound, and_true, and_false}
use Rattle.sx_derive.proofs.bound_inputs.+is_bound.Goals as goal

pub is_bound-requires : goal.is_bound-requires
is_bound-requires t c =
    let k = depth_of-kid _ _ _ _ _ _ c.in-Node.is c.deref-kid-items.ensures.value c.loop-kid-test.true c.kid-item.is in
    search (rules, the_lemmas)

pub loop-kid-preserved : goal.loop-kid-preserved
loop-kid-preserved t c = λ ts b.
    sym (and_true _ _ (sym (c.is_bound.ensures ts b) ∙ c.if-not-is_bound.false))
    ∙ sym (kids_more (env_at (envs ts c.args.binds.now) c.args.env) c.deref-kid-items.result.now c.loop-kid.kid-index _ c.loop-kid-test.true c.kid-item.is)
    ∙ c.loop-kid.invariant ts b

pub returns-then-not-is_bound : goal.returns-then-not-is_bound
returns-then-not-is_bound t c = λ ts b.
    sym (and_false _ _ (sym (c.is_bound.ensures ts b) ∙ c.if-not-is_bound.true))
    ∙ sym (kids_more (env_at (envs ts c.args.binds.now) c.args.env) c.deref-kid-items.result.now c.loop-kid.kid-index _ c.loop-kid-test.true c.kid-item.is)
    ∙ c.loop-kid.invariant ts b
    ∙ sym (node_bound (env_at (envs ts c.args.binds.now) c.args.env) c.args.term.now _ _ _ c.in-Node.is c.deref-kid-items.ensures.value)

pub returns-after-loop-kid : goal.returns-after-loop-kid
returns-after-loop-kid t c = λ ts b.
    sym (kids_end (env_at (envs ts c.args.binds.now) c.args.env) c.deref-kid-items.result.now c.loop-kid.kid-index c.loop-kid-test.false)
    ∙ c.loop-kid.invariant ts b
    ∙ sym (node_bound (env_at (envs ts c.args.binds.now) c.args.env) c.args.term.now _ _ _ c.in-Node.is c.deref-kid-items.ensures.value)

pub returns-in-Var : goal.returns-in-Var
returns-in-Var t c = λ ts b.
    var_bound ts (env_at (envs ts c.args.binds.now) c.args.env) c.args.term.now c.in-Var.variable c.find.result c.is_some.result c.in-Var.is (c.find.ensures ts b) c.is_some.ensures
