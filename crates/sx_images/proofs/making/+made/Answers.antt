use Rattle.std.proofs.Common.{rules, refl, sym, ap, ◌∙◌, List, Option, Some, ℕ}
use Rattle.sx_plain.specs.Views.{table_of}
use Rattle.sx_arena.specs.Arena.{trees, tree_at}
use Rattle.sx_arena.proofs.Patterns.{ok_weaker}
use Rattle.sx_images.specs.Images.{noted_at}
use Rattle.sx_images.specs.Nodes.{IsNodeAt}
use Rattle.sx_images.proofs.KidImages.{making_more, node_is, kid_within, by_node, by_body, noted_held, made_more, known_after}
use Rattle.sx_images.proofs.making.+made.Goals as goal
use Rattle.sx_images.proofs.making.+made.Goals.{new_image-In-Some}

-- the term is the node that is read
node_read : (t : ℕ) (c : new_image-In-Some t) → IsNodeAt (trees c.args.arena.now) (tree_at (trees c.args.arena.now) c.args.term) (Some c.in-Some.node)
node_read t c = node_is (table_of c.args.table.now) _ _ _ _ c.in_ok-node.ensures c.in-Some.is

pub made-returns-in-Some-clause-image : goal.made-returns-in-Some-clause-image
made-returns-in-Some-clause-image t c =
    noted_held (table_of c.args.table.now) _ _ _ _ c.requires.arena c.requires.known (sym c.in-Some.is ∙ c.noted.ensures ∙ ap (λ (ns : List (Option ℕ)). noted_at ns c.args.term) c.deref.ensures.value)

pub made-returns-clause-known : goal.made-returns-clause-known
made-returns-clause-known t c =
    made_more (table_of c.args.table.now) c.args.arena.now c.new_image.new.arena c.new_image.new.notes.items c.note.new.notes.items c.args.term c.in_ok-image.image
    c.in_ok-image.ensures.known c.requires.within c.in_ok-image.ensures.image c.in_ok-note.ensures

pub new_image-made-requires : goal.new_image-made-requires
new_image-made-requires t c =
    let n = node_read t (goal.at.new_image-made-requires t c).In-Some in
    let k = kid_within (table_of c.args.table.now) (trees c.args.arena.now) c.loop-kid.arena (tree_at (trees c.args.arena.now) c.args.term) c.in-Some.node _ c.loop-kid.kid-index _
    c.loop-kid.invariant.extends n c.deref-kid-items.ensures.value c.loop-kid-test.true refl in
    let w = k.0 in
    let l = k.1 in
    let a = c.loop-kid.invariant.arena in
    let i = c.loop-kid.invariant.known in
    let s = c.requires.shallow in
    let d = c.decreases in
    search rules

pub new_image-loop-kid-preserved : goal.new_image-loop-kid-preserved
new_image-loop-kid-preserved t c =
    let n = node_read t (goal.at.new_image-loop-kid-preserved t c).In-Some in
    making_more (table_of c.args.table.now) (trees c.args.arena.now) c.loop-kid.arena c.made.new.arena c.loop-kid.notes.items c.made.new.notes.items _ _ _ c.loop-kid.kid-index _ _
    c.loop-kid.invariant c.in_ok-made-in-Some.ensures.known c.in_ok-made-in-Some.ensures.image (tree_at (trees c.args.arena.now) c.args.term) c.in-Some.node n c.deref-kid-items.ensures.value c.in_ok-push-in-Some.ensures.items c.loop-kid-test.true refl

pub new_image-returns-in-Some-flat-clause-known : goal.new_image-returns-in-Some-flat-clause-known
new_image-returns-in-Some-flat-clause-known t c = known_after (table_of c.args.table.now) c.loop-kid.arena c.filled.new.arena _ _ c.filled.result c.filled.ensures c.loop-kid.invariant.known

pub new_image-returns-in-Some-flat-clause-image : goal.new_image-returns-in-Some-flat-clause-image
new_image-returns-in-Some-flat-clause-image t c =
    let n = node_read t (goal.at.new_image-returns-in-Some-flat-clause-image t c).In-Some in
    ok_weaker _ _ (λ j h. by_body (table_of c.args.table.now) c.args.arena.now c.loop-kid.arena c.filled.new.arena _ _ _ _ _ c.in-Some.node _ c.loop-kid.invariant c.loop-kid-test.false c.deref-kid-items.ensures.value n
    c.in-Some-flat.ensures.value _ c.deref.ensures.value j h) c.filled.result c.filled.ensures

pub new_image-returns-in-Some-clause-known : goal.new_image-returns-in-Some-clause-known
new_image-returns-in-Some-clause-known t c = known_after (table_of c.args.table.now) c.loop-kid.arena c.node.new.self _ _ c.node.result c.node.ensures c.loop-kid.invariant.known

pub new_image-returns-in-Some-clause-image : goal.new_image-returns-in-Some-clause-image
new_image-returns-in-Some-clause-image t c =
    let n = node_read t (goal.at.new_image-returns-in-Some-clause-image t c).In-Some in
    ok_weaker _ _ (λ j h. by_node (table_of c.args.table.now) c.args.arena.now c.loop-kid.arena c.node.new.self _ _ _ _ _ c.in-Some.node c.loop-kid.invariant c.loop-kid-test.false c.deref-kid-items.ensures.value n
    c.in-None-flat.ensures.value j h) c.node.result c.node.ensures
