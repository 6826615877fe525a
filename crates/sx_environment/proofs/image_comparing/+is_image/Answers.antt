use Rattle.std.proofs.Common.{arith, rules, ◌<◌, length}
use Rattle.sx_term.specs.declared.term.Term.TheViews.{the_lemmas}
use Rattle.sx_term.specs.declared.term.Term.{Term}
use Rattle.sx_term.specs.Term.{tree}
use Rattle.sx_term.specs.Tree.{listed}
use Rattle.sx_term.specs.Instances.{instance, bound_by}
use Rattle.sx_term.proofs.Kids.{trees}
use Rattle.sx_plain.specs.Plain.{image, images}
use Rattle.sx_plain.specs.Views.{table_of}
use Rattle.sx_plain.proofs.Gathered.{node_image, node_instance, part_image}
use Rattle.sx_environment.proofs.Comparing.{differ_at}
use Rattle.sx_environment.proofs.ImageNodes.{told_of, image_by_flat, same_images}
use Rattle.sx_environment.proofs.ImageNodes.{same_instances, past_parts, kids_within, item_within}
use Rattle.sx_environment.proofs.image_comparing.+is_image.Goals as goal

pub is_image-is_filled-requires : goal.is_image-is_filled-requires
is_image-is_filled-requires t c =
    let k = kids_within _ _ _ _ c.in-Node.is c.deref.ensures.value c.requires.shallow in
    let f = c.in-Some.ensures.depth in
    let less = k.less in
    let within = k.within in
    search (rules, the_lemmas)

pub is_image-is_node_image-requires : goal.is_image-is_node_image-requires
is_image-is_node_image-requires t c =
    let k = kids_within _ _ _ _ c.in-Node.is c.deref-in-None.ensures.value c.requires.shallow in
    let less = k.less in
    let within = k.within in
    search (rules, the_lemmas)

pub is_image-returns-in-Some : goal.is_image-returns-in-Some
is_image-returns-in-Some t c =
    told_of _ _ _ (image_by_flat (table_of c.args.table.now) _ _ _ _ _ c.in-Node.is
    c.deref.ensures.value c.in-Some.ensures.value) c.is_filled.ensures

pub is_image-returns-in-None : goal.is_image-returns-in-None
is_image-returns-in-None t c =
    told_of _ _ _ (node_image (table_of c.args.table.now) _ _ _ _ c.in-Node.is
    c.deref-in-None.ensures.value c.in-None.ensures.value) c.is_node_image.ensures

pub is_node_image-are_images-requires : goal.is_node_image-are_images-requires
is_node_image-are_images-requires t c =
    let k = kids_within _ _ _ _ c.in-Node.is c.deref.ensures.value c.requires.other in
    let within = k.within in
    search (rules, the_lemmas)

pub is_node_image-returns-then-label-other_label :
    goal.is_node_image-returns-then-label-other_label
is_node_image-returns-then-label-other_label t c =
    same_images (table_of c.args.table.now) _ _ _ _ _ _ c.in-Node.is c.deref.ensures.value
    c.if-label-other_label.true c.are_images.ensures

pub are_images-is_image-requires : goal.are_images-is_image-requires
are_images-is_image-requires t c =
    let h : c.loop-i.i < length c.args.others.now =
    omega (arith, c.loop-i-test.true, c.loop-i.invariant.long) in
    let a = item_within _ _ _ c.loop-i-test.true c.index-terms-i.is c.requires.shallow in
    let b = item_within _ _ _ h c.index-others-i.is c.requires.others in
    let less = a.less in
    let within = a.within in
    let other_within = b.within in
    search (rules, the_lemmas)

pub are_images-returns-then-not-is_image : goal.are_images-returns-then-not-is_image
are_images-returns-then-not-is_image t c =
    differ_at (λ (x : Term). image (table_of c.args.table.now) (tree x)) tree c.args.terms.now
    c.args.others.now c.loop-i.i c.index-terms-i.result c.index-others-i.result
    c.loop-i-test.true c.loop-i.invariant.long c.index-terms-i.is c.index-others-i.is
    c.if-not-is_image.ensures

pub is_filled-is_filled_node-requires : goal.is_filled-is_filled_node-requires
is_filled-is_filled_node-requires t c =
    let k = kids_within _ _ _ _ c.in-Node.is c.deref.ensures.value c.requires.shallow in
    let p = c.requires.parts in
    let o = c.requires.other in
    let less = k.less in
    let within = k.within in
    search (rules, the_lemmas)

pub is_filled-returns-in-Node : goal.is_filled-returns-in-Node
is_filled-returns-in-Node t c =
    told_of _ _ _ (node_instance
    (bound_by (listed (images (table_of c.args.table.now) (trees c.args.parts.now)))) _ _ _ _
    c.in-Node.is c.deref.ensures.value) c.is_filled_node.ensures

pub is_filled-is_image-requires : goal.is_filled-is_image-requires
is_filled-is_image-requires t c =
    let a = item_within _ _ _ c.if-i-parts.true c.index-parts-i.is c.requires.parts in
    let o = c.requires.other in
    let less = a.less in
    let within = a.within in
    search (rules, the_lemmas)

pub is_filled-returns-then-i-parts : goal.is_filled-returns-then-i-parts
is_filled-returns-then-i-parts t c =
    told_of _ _ _ (part_image (table_of c.args.table.now) _ _ _ _ c.in-Var.is c.if-i-parts.true
    c.index-parts-i.is) c.is_image.ensures

pub is_filled-returns-else-i-parts : goal.is_filled-returns-else-i-parts
is_filled-returns-else-i-parts t c =
    told_of _ _ _ (past_parts (table_of c.args.table.now) _ _ _ c.in-Var.is c.if-i-parts.false)
    c.is_bare_node.ensures

pub is_filled_node-are_filled-requires : goal.is_filled_node-are_filled-requires
is_filled_node-are_filled-requires t c =
    let k = kids_within _ _ _ _ c.in-Node.is c.deref.ensures.value c.requires.other in
    let within = k.within in
    search (rules, the_lemmas)

pub is_filled_node-returns-then-label-other_label :
    goal.is_filled_node-returns-then-label-other_label
is_filled_node-returns-then-label-other_label t c =
    same_instances
    (bound_by (listed (images (table_of c.args.table.now) (trees c.args.parts.now)))) _ _ _ _ _ _
    c.in-Node.is c.deref.ensures.value c.if-label-other_label.true c.are_filled.ensures

pub are_filled-is_filled-requires : goal.are_filled-is_filled-requires
are_filled-is_filled-requires t c =
    let h : c.loop-i.i < length c.args.others.now =
    omega (arith, c.loop-i-test.true, c.loop-i.invariant.long) in
    let a = item_within _ _ _ c.loop-i-test.true c.index-flats-i.is c.requires.shallow in
    let b = item_within _ _ _ h c.index-others-i.is c.requires.others in
    let p = c.requires.parts in
    let less = a.less in
    let within = a.within in
    let other_within = b.within in
    search (rules, the_lemmas)

pub are_filled-returns-then-not-is_filled : goal.are_filled-returns-then-not-is_filled
are_filled-returns-then-not-is_filled t c =
    differ_at (λ (x : Term). instance
    (bound_by (listed (images (table_of c.args.table.now) (trees c.args.parts.now)))) (tree x)) tree
    c.args.flats.now c.args.others.now c.loop-i.i c.index-flats-i.result c.index-others-i.result
    c.loop-i-test.true c.loop-i.invariant.long c.index-flats-i.is c.index-others-i.is
    c.if-not-is_filled.ensures
