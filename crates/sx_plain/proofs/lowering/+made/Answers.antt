use Rattle.std.proofs.Common.{ap, arith, rules, map, ◌≤◌, ◌<◌}
use Rattle.sx_term.specs.declared.term.Term.TheViews.{the_lemmas}
use Rattle.sx_term.specs.declared.term.Term.{Term}
use Rattle.sx_term.specs.Term.{tree}
use Rattle.sx_term.specs.Tree.{depth_of, greatest_depth, forest, listed}
use Rattle.sx_term.specs.Instances.{bound_by}
use Rattle.sx_term.proofs.Kids.{trees, greatest_depth-kids, greatest_depth-at}
use Rattle.sx_plain.specs.Plain.{images}
use Rattle.sx_plain.specs.Views.{table_of}
use Rattle.sx_plain.proofs.Gathered.{images_made, instances_made, node_image, body_image, node_instance, part_image, no_part, made-is}
use Rattle.sx_plain.proofs.lowering.+made.Goals as goal

pub filled-filled_node-requires : goal.filled-filled_node-requires
filled-filled_node-requires t c =
    let k = greatest_depth-kids _ _ _ _ c.in-Node.is c.deref.ensures.value in
    let s = c.requires.shallow in
    let p = c.requires.parts in
    let g : greatest_depth (forest (map tree c.deref.result.now)) < 1000 = omega arith in
    search (rules, the_lemmas)

pub filled-made-requires : goal.filled-made-requires
filled-made-requires t c =
    let a = greatest_depth-at _ _ _ c.if-i-parts.true c.index-parts-i.is in
    let e = ap (λ (x : Term). depth_of (tree x)) c.in-Var.is in
    let p = c.requires.parts in
    let d : depth_of (tree c.index-parts-i.result) ≤ 1000 = omega arith in
    search (rules, the_lemmas)

pub filled-returns-then-i-parts : goal.filled-returns-then-i-parts
filled-returns-then-i-parts t c = made-is _ _ _ c.made.ensures (part_image (table_of c.args.table.now) _ _ _ _ c.in-Var.is c.if-i-parts.true c.index-parts-i.is)

pub filled-returns-in-Node : goal.filled-returns-in-Node
filled-returns-in-Node t c =
    made-is _ _ _ c.filled_node.ensures (node_instance (bound_by (listed (images (table_of c.args.table.now) (trees c.args.parts.now)))) _ _ _ _ c.in-Node.is c.deref.ensures.value)

pub filled-returns-else-i-parts : goal.filled-returns-else-i-parts
filled-returns-else-i-parts t c = no_part (table_of c.args.table.now) _ _ _ _ c.new.ensures.items c.in-Var.is c.if-i-parts.false

pub filled_node-filled-requires : goal.filled_node-filled-requires
filled_node-filled-requires t c =
    let a = greatest_depth-at _ _ _ c.loop-i-test.true c.index-kids-i.is in
    let s = c.requires.shallow in
    let p = c.requires.parts in
    let d : depth_of (tree c.index-kids-i.result) ≤ 1000 = omega arith in
    search (rules, the_lemmas)

pub filled_node-returns : goal.filled_node-returns
filled_node-returns t c =
    instances_made (bound_by (listed (images (table_of c.args.table.now) (trees c.args.parts.now)))) _ _ _ _ c.loop-i.invariant c.loop-i-test.false

pub made-filled-requires : goal.made-filled-requires
made-filled-requires t c =
    let k = greatest_depth-kids _ _ _ _ c.in-Node.is c.deref.ensures.value in
    let s = c.requires in
    let f = c.in-Some.entry.now.shallow in
    let g : greatest_depth (forest (map tree c.deref.result.now)) < 1000 = omega arith in
    search (rules, the_lemmas)

pub made-made_node-requires : goal.made-made_node-requires
made-made_node-requires t c =
    let k = greatest_depth-kids _ _ _ _ c.in-Node.is c.deref-in-None.ensures.value in
    let s = c.requires in
    let g : greatest_depth (forest (map tree c.deref-in-None.result.now)) < 1000 = omega arith in
    search (rules, the_lemmas)

pub made-returns-in-Some : goal.made-returns-in-Some
made-returns-in-Some t c = made-is _ _ _ c.filled.ensures (body_image (table_of c.args.table.now) _ _ _ _ _ c.in-Node.is c.deref.ensures.value c.in-Some.ensures)

pub made-returns-in-None : goal.made-returns-in-None
made-returns-in-None t c = made-is _ _ _ c.made_node.ensures (node_image (table_of c.args.table.now) _ _ _ _ c.in-Node.is c.deref-in-None.ensures.value c.in-None.ensures)

pub made_node-made-requires : goal.made_node-made-requires
made_node-made-requires t c =
    let a = greatest_depth-at _ _ _ c.loop-i-test.true c.index-kids-i.is in
    let s = c.requires in
    let d : depth_of (tree c.index-kids-i.result) ≤ 1000 = omega arith in
    search (rules, the_lemmas)

pub made_node-returns : goal.made_node-returns
made_node-returns t c = images_made (table_of c.args.table.now) _ _ _ _ c.loop-i.invariant c.loop-i-test.false
