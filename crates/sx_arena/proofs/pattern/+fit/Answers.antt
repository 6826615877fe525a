use Rattle.std.proofs.Common.{rules, arith, ℕ, refl, sym, ◌≡◌, ◌∙◌, length, ◌<◌, subst, IfOk}
use Rattle.sx_term.specs.declared.term.Term.{Term}
use Rattle.sx_term.specs.declared.term.Term.TheViews.{the_lemmas}
use Rattle.sx_term.specs.Term.{tree}
use Rattle.sx_term.proofs.Kids.{depth_of-kid}
use Rattle.sx_arena.specs.Arena.{trees, tree_at}
use Rattle.sx_arena.specs.Matching.{match}
use Rattle.sx_arena.specs.Binds.{envs, env_at, IsChainFit}
use Rattle.sx_arena.proofs.Arenas.{below_at}
use Rattle.sx_arena.proofs.BindChains.{binds_same, binds_then}
use Rattle.sx_arena.proofs.Patterns.{nodes_fit, kids_of_branch, lengths_fit, fitting_more, fitting_none, fitting_end, same_lengths, other_lengths, other_is}
use Rattle.sx_arena.proofs.pattern.+fit.Goals as goal
use Rattle.sx_arena.proofs.pattern.+fit.Goals.{In-loop-i}

-- the pattern and the term have as many kids, and at this place each has one
kids_here : (t : ℕ) (c : In-loop-i t) → (length c.in-Node.kids.items ≡ length c.in-Node-shape.others.items) × (c.loop-i.i < length c.in-Node.kids.items) × (c.loop-i.i < length c.in-Node-shape.others.items)
kids_here t c =
    let e = same_lengths c.in-Node.kids c.in-Node-shape.others _ _ c.len.ensures c.len-in-Node-shape.ensures.value c.if-len.false in
    let a = c.loop-i-test.true in
    let b = c.len-i-end.ensures in
    let k = c.in-Node.kids.ok in
    (e, omega arith, omega arith)

pub loop-i-init : goal.loop-i-init
loop-i-init t c = record { grows = binds_same _ _ c.requires.binds; within = c.requires.env; same = refl }

pub fit-requires : goal.fit-requires
fit-requires t c =
    let h = kids_here t (goal.at.fit-requires t c).In-loop-i in
    let k = depth_of-kid _ _ _ _ _ _ c.in-Node.is refl h.1 c.index.ensures in
    let w = below_at _ _ (kids_of_branch _ _ _ _ c.in-Node-shape.is c.cell.ensures.cell.kids) c.loop-i.i _ h.2 (other_is _ _ c.loop-i.i c.deref.ensures h.2) in
    let g = c.loop-i.invariant.grows.binds in
    let v = c.loop-i.invariant.within in
    search (rules, the_lemmas)

pub returns-in-None-clause-grows : goal.returns-in-None-clause-grows
returns-in-None-clause-grows t c = binds_then _ _ _ _ c.loop-i.invariant.grows c.in_ok-next-in-Node-shape.ensures.grows

pub returns-in-None-clause-fit : goal.returns-in-None-clause-fit
returns-in-None-clause-fit t c =
    let h = kids_here t (goal.at.returns-in-None-clause-fit t c).In-loop-i in
    nodes_fit _ _ _ _ _ _ _ _ _ c.in-Node.is c.cell.ensures.tree c.in-Node-shape.is c.if-label-other_label.false
    ∙ fitting_none _ _ _ _ _ _ _ _ _ _ c.loop-i.invariant h.1 h.0 c.index.ensures (other_is _ _ c.loop-i.i c.deref.ensures h.2) (rw c.in-None.is at c.in_ok-next-in-Node-shape.ensures.fit)

pub loop-i-preserved : goal.loop-i-preserved
loop-i-preserved t c =
    let h = kids_here t (goal.at.loop-i-preserved t c).In-loop-i in
    fitting_more _ _ _ _ _ _ _ _ _ _ _ _ c.loop-i.invariant h.1 h.0 c.index.ensures (other_is _ _ c.loop-i.i c.deref.ensures h.2) c.in_ok-next-in-Node-shape.ensures.grows (rw c.in-Some.is at c.in_ok-next-in-Node-shape.ensures.fit)

pub returns-after-loop-i-clause-grows : goal.returns-after-loop-i-clause-grows
returns-after-loop-i-clause-grows t c = c.loop-i.invariant.grows

pub returns-after-loop-i-clause-fit : goal.returns-after-loop-i-clause-fit
returns-after-loop-i-clause-fit t c =
    let e = same_lengths c.in-Node.kids c.in-Node-shape.others _ _ c.len.ensures c.len-in-Node-shape.ensures.value c.if-len.false in (
      c.loop-i.invariant.within,
      nodes_fit _ _ _ _ _ _ _ _ _ c.in-Node.is c.cell.ensures.tree c.in-Node-shape.is c.if-label-other_label.false
          ∙ fitting_end _ _ _ _ _ _ _ _ c.loop-i.invariant (let a = c.loop-i-test.false in let b = c.len-i-end.ensures in let k = c.in-Node.kids.ok in omega arith) e,
    )

pub returns-then-len-clause-fit : goal.returns-then-len-clause-fit
returns-then-len-clause-fit t c =
    nodes_fit _ _ _ _ _ _ _ _ _ c.in-Node.is c.cell.ensures.tree c.in-Node-shape.is c.if-label-other_label.false
    ∙ lengths_fit (trees c.args.arena.now) c.in-Node.kids.items c.in-Node-shape.others.items _ (other_lengths c.in-Node.kids c.in-Node-shape.others _ _ c.len.ensures c.len-in-Node-shape.ensures.value c.if-len.true)

pub returns-in-Var-clause-fit : goal.returns-in-Var-clause-fit
returns-in-Var-clause-fit t c =
    subst (λ (p : Term). IfOk c.fit_variable.result (λ r. IsChainFit (trees c.args.arena.now) c.fit_variable.new.binds (match (tree p) (tree_at (trees c.args.arena.now) c.args.term) (env_at (envs (trees c.args.arena.now) c.args.binds.now) c.args.env)) r))
    (sym c.in-Var.is) c.fit_variable.ensures.fit
