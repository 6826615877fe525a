use Rattle.std.proofs.Common.{◌≡◌, ◌+◌, ◌<◌, ◌≤◌, length, map, sym, ap, ◌∙◌, subst, arith, rules, IfOk}
use Rattle.sx_term.specs.Tree.{Tree, node, forest, depth_of, greatest_depth}
use Rattle.sx_term.specs.Term.{tree}
use Rattle.sx_term.proofs.Kids.{tree-at_node, greatest_depth-at}
use Rattle.sx_rules.specs.Instances.{instance}
use Rattle.sx_arena.specs.Matching.{filled}
use Rattle.sx_arena.specs.Arena.{trees, IsHeld}
use Rattle.sx_arena.specs.Binds.{envs, env_at}
use Rattle.sx_arena.proofs.Patterns.{making_none, making_one, making_two, making_more, making_all, node_made, ok_weaker}
use Rattle.sx_arena.proofs.pattern.+making.Goals as goal

pub made_each-loop-pattern-init : goal.made_each-loop-pattern-init
made_each-loop-pattern-init t c = making_none _ _ _ _ _ c.requires.arena c.requires.binds c.in_ok-parts.ensures.items

pub made_each-found_or_made-requires : goal.made_each-found_or_made-requires
made_each-found_or_made-requires t c =
    let k = greatest_depth-at _ _ _ c.loop-pattern-test.true c.pattern-item.is in
    let d = c.requires.depth in
    (search rules, (omega arith, (c.loop-pattern.invariant.arena, (c.loop-pattern.invariant.binds, c.requires.env))))

pub made_each-loop-pattern-preserved : goal.made_each-loop-pattern-preserved
made_each-loop-pattern-preserved t c = making_more _ _ _ _ _ _ _ _ _ _ _ c.loop-pattern.invariant c.in_ok-found_or_made.ensures c.in_ok-push.ensures.items c.loop-pattern-test.true c.pattern-item.is

pub made_each-returns : goal.made_each-returns
made_each-returns t c = making_all _ _ _ _ _ _ _ c.loop-pattern.invariant c.loop-pattern-test.false

pub made_node-found_or_made-requires : goal.made_node-found_or_made-requires
made_node-found_or_made-requires t c =
    let l : 0 < length c.args.kids.now = (let a = c.in-len1.len_at_least in omega arith) in
    let k = greatest_depth-at _ _ _ l c.only-item.is in
    let d = c.requires.depth in
    (search rules, (omega arith, (c.requires.arena, (c.requires.binds, c.requires.env))))

pub made_node-returns-in_ok-part-in-len1 : goal.made_node-returns-in_ok-part-in-len1
made_node-returns-in_ok-part-in-len1 t c =
    let l : 0 < length c.args.kids.now = (let a = c.in-len1.len_at_least in omega arith) in
    let e : length c.args.kids.now ≤ 1 = (let a = c.in-len1.len_below in omega arith) in
    let m = making_one c.args.arena.now c.found_or_made.new.arena c.args.binds.now c.args.env c.in_ok-part-in-len1.part c.args.kids.now c.only-item.result c.requires.arena c.requires.binds c.in_ok-part-in-len1.ensures l c.only-item.is in
    ok_weaker _ _ (node_made _ _ _ _ _ _ _ (making_all _ _ _ _ _ _ _ m e)) c.node_of_one.result c.node_of_one.ensures

pub made_node-found_or_made-requires-in-len2 : goal.made_node-found_or_made-requires-in-len2
made_node-found_or_made-requires-in-len2 t c =
    let l : 0 < length c.args.kids.now = (let a = c.in-len2.len_at_least in omega arith) in
    let k = greatest_depth-at _ _ _ l c.left-item.is in
    let d = c.requires.depth in
    (search rules, (omega arith, (c.requires.arena, (c.requires.binds, c.requires.env))))

pub made_node-found_or_made-requires-in-len2-2 : goal.made_node-found_or_made-requires-in-len2-2
made_node-found_or_made-requires-in-len2-2 t c =
    let f : 0 < length c.args.kids.now = (let a = c.in-len2.len_at_least in omega arith) in
    let m = making_one c.args.arena.now c.found_or_made-in-len2.new.arena c.args.binds.now c.args.env c.in_ok-first-in-len2.first c.args.kids.now c.left-item.result c.requires.arena c.requires.binds c.in_ok-first-in-len2.ensures f c.left-item.is in
    let l : 1 < length c.args.kids.now = (let a = c.in-len2.len_at_least in omega arith) in
    let k = greatest_depth-at _ _ _ l c.right-item.is in
    let d = c.requires.depth in
    (search rules, (omega arith, (m.arena, (m.binds, c.requires.env))))

pub made_node-returns-in_ok-second-in-len2 : goal.made_node-returns-in_ok-second-in-len2
made_node-returns-in_ok-second-in-len2 t c =
    let f : 0 < length c.args.kids.now = (let a = c.in-len2.len_at_least in omega arith) in
    let m = making_one c.args.arena.now c.found_or_made-in-len2.new.arena c.args.binds.now c.args.env c.in_ok-first-in-len2.first c.args.kids.now c.left-item.result c.requires.arena c.requires.binds c.in_ok-first-in-len2.ensures f c.left-item.is in
    let l : 1 < length c.args.kids.now = (let a = c.in-len2.len_at_least in omega arith) in
    let n = making_two _ _ _ c.args.binds.now c.args.env _ _ _ _ m c.in_ok-second-in-len2.ensures l c.right-item.is in
    let e : length c.args.kids.now ≤ 2 = (let a = c.in-len2.len_below in omega arith) in
    ok_weaker _ _ (node_made _ _ _ _ _ _ _ (making_all _ _ _ _ _ _ _ n e)) c.node_of_two.result c.node_of_two.ensures

pub made_node-made_many-requires : goal.made_node-made_many-requires
made_node-made_many-requires t c = (search rules, (c.requires.depth, (c.requires.arena, (c.requires.binds, c.requires.env))))

pub made_many-made_each-requires : goal.made_many-made_each-requires
made_many-made_each-requires t c = (search rules, (c.requires.depth, (c.requires.arena, (c.requires.binds, c.requires.env))))

pub made_many-returns : goal.made_many-returns
made_many-returns t c =
    ok_weaker _ _ (node_made _ _ _ _ _ _ _ c.in_ok-parts.ensures) c.node_of_list.result c.node_of_list.ensures

pub found_or_made-made_node-requires : goal.found_or_made-made_node-requires
found_or_made-made_node-requires t c =
    let e : tree c.args.pattern.now ≡ node c.in-Node.label (forest (map tree c.as_slice.result.now)) =
    tree-at_node c.args.pattern.now c.in-Node.label c.in-Node.kids c.in-Node.is ∙ ap (λ xs. node c.in-Node.label (forest (map tree xs))) (sym c.as_slice.ensures.value) in
    let k : depth_of (tree c.args.pattern.now) ≡ greatest_depth (forest (map tree c.as_slice.result.now)) + 1 = ap depth_of e in
    let d = c.requires.depth in
    (search rules, (omega arith, (c.requires.arena, (c.requires.binds, c.requires.env))))

pub found_or_made-returns-in-Node : goal.found_or_made-returns-in-Node
found_or_made-returns-in-Node t c =
    let e : tree c.args.pattern.now ≡ node c.in-Node.label (forest (map tree c.as_slice.result.now)) =
    tree-at_node c.args.pattern.now c.in-Node.label c.in-Node.kids c.in-Node.is ∙ ap (λ xs. node c.in-Node.label (forest (map tree xs))) (sym c.as_slice.ensures.value) in
    subst (λ (x : Tree). IfOk c.made_node.result (λ i. IsHeld c.args.arena.now c.made_node.new.arena i (instance (filled (env_at (envs (trees c.args.arena.now) c.args.binds.now) c.args.env)) x))) (sym e) c.made_node.ensures
