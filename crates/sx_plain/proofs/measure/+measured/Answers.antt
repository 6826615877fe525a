use Rattle.std.proofs.Common.{ap, arith, rules, sym, map, drop, get_or, length, max, ◌≡◌, ◌≤◌, ◌<◌, ◌+◌, ◌*◌, ◌∙◌, List, ℕ, None}
use Rattle.sx_term.specs.declared.term.Term.TheViews.{the_lemmas}
use Rattle.sx_term.specs.Term.{tree}
use Rattle.sx_term.specs.Tree.{depth_of, size_of, greatest_depth, forest}
use Rattle.sx_term.proofs.Kids.{greatest_depth-kids, greatest_depth-at}
use Rattle.sx_plain.specs.declared.part_use.PartUse.{PartUse}
use Rattle.sx_plain.specs.Plain.{image}
use Rattle.sx_plain.specs.Measures.{image_depths, image_sizes}
use Rattle.sx_plain.specs.Uses.{used_size}
use Rattle.sx_plain.specs.Views.{table_of}
use Rattle.sx_plain.proofs.Measured.{sat, depth_found, size_found, images-positive, length-depths, length-sizes, depth-at, size-at, greatest-step, total-step, part-sat}
use Rattle.sx_plain.proofs.UseLaws.{near-at, used_depth-step, used_size-step, used_depth-end, used_size-end}
use Rattle.sx_plain.proofs.Gathered.{fit-kids, fits-kids, parts-are}
use Rattle.sx_plain.proofs.Kept.{kept_near, kept_depths, kept_sizes}
use Rattle.sx_plain.proofs.measure.+measured.Goals as goal

pub body_measure-image_measure-measure-requires : goal.body_measure-image_measure-measure-requires
body_measure-image_measure-measure-requires t c =
    let f = fits-kids (table_of c.args.table.now) _ _ _ c.requires.fit c.loop-i-test.true c.index-parts-i.is in
    let s = c.requires.shallow in
    let d : depth_of (tree c.index-parts-i.result) ≤ 1000 = omega (arith, greatest_depth-at _ _ _ c.loop-i-test.true c.index-parts-i.is) in
    search (rules, the_lemmas)

pub body_measure-overflow_add-part : goal.body_measure-overflow_add-part
body_measure-overflow_add-part t c =
    let a = greatest_depth-at _ _ _ c.loop-i-test.true c.index-parts-i.is in
    let s = c.requires.shallow in
    let m = c.image_measure-measure.ensures.small in
    let l : c.loop-i.i < length c.args.entry.now.uses.items = (let i = c.loop-i-test.true in let n = c.requires.many in let k = c.args.entry.now.many in omega arith) in
    let g = c.use_at-part.ensures ∙ ap (λ (us : List PartUse). get_or us c.loop-i.i c.use_at-part.result) c.deref.ensures.value in
    let n = near-at _ _ _ l g (kept_near _ _ _ _ c.args.entry.now.measured) in
    grind arith

pub body_measure-loop-i-preserved : goal.body_measure-loop-i-preserved
body_measure-loop-i-preserved t c =
    let table = table_of c.args.table.now in
    let us = c.args.entry.now.uses.items in
    let u = c.use_at-part.result in
    let a = greatest_depth-at _ _ _ c.loop-i-test.true c.index-parts-i.is in
    let l : c.loop-i.i < length c.args.entry.now.uses.items = (let i = c.loop-i-test.true in let n = c.requires.many in let k = c.args.entry.now.many in omega arith) in
    let g = c.use_at-part.ensures ∙ ap (λ (us : List PartUse). get_or us c.loop-i.i c.use_at-part.result) c.deref.ensures.value in
    let n = near-at _ _ _ l g (kept_near _ _ _ _ c.args.entry.now.measured) in
    let e = c.image_measure-measure.ensures in
    let ld : length (image_depths table (map tree c.args.parts.now)) ≡ length us = length-depths table c.args.parts.now ∙ c.requires.many ∙ sym c.args.entry.now.many in
    let ls : length (image_sizes table (map tree c.args.parts.now)) ≡ length us = length-sizes table c.args.parts.now ∙ c.requires.many ∙ sym c.args.entry.now.many in
    let rest = used_size (drop (c.loop-i.i + 1) us) (drop (c.loop-i.i + 1) (image_sizes table (map tree c.args.parts.now))) in
    let sd = used_depth-step us _ _ u _ l ld g (depth-at table _ _ _ c.loop-i-test.true c.index-parts-i.is) in
    let ss = used_size-step us _ _ u _ l ls g (size-at table _ _ _ c.loop-i-test.true c.index-parts-i.is) in
    let m = c.max-depth.ensures in
    let v = c.loop-i.invariant in
    let vd = v.depth in
    let vs = v.small in
    let ed = e.depth in
    let es = e.small in
    let w = c.with_part-size.type_inv in
    record {
      depth = omega arith;
      small = omega arith;
      size = ap (λ (r : ℕ). sat (r + rest)) (c.with_part-size.ensures ∙ ap (λ (x : ℕ). sat (c.loop-i.size + sat (u.times * x))) e.size)
          ∙ part-sat c.loop-i.size u.times (size_of (image table (tree c.index-parts-i.result))) rest
          ∙ ap (λ (x : ℕ). sat (c.loop-i.size + x)) (sym ss) ∙ v.size;
      fits = omega arith;
    }

pub body_measure-returns-clause-depth : goal.body_measure-returns-clause-depth
body_measure-returns-clause-depth t c =
    let table = table_of c.args.table.now in
    let us = c.args.entry.now.uses.items in
    let ld : length (image_depths table (map tree c.args.parts.now)) ≡ length us = length-depths table c.args.parts.now ∙ c.requires.many ∙ sym c.args.entry.now.many in
    let l : length us ≤ c.loop-i.i = (let i = c.loop-i-test.false in let n = c.requires.many in let k = c.args.entry.now.many in omega arith) in
    let z = used_depth-end us (image_depths table (map tree c.args.parts.now)) c.loop-i.i l in
    let k = kept_depths _ _ _ us (image_depths table (map tree c.args.parts.now)) c.args.entry.now.measured ld (images-positive table (map tree c.args.parts.now)) in
    let v = c.loop-i.invariant.depth in
    omega arith

pub body_measure-returns-clause-size : goal.body_measure-returns-clause-size
body_measure-returns-clause-size t c =
    let table = table_of c.args.table.now in
    let us = c.args.entry.now.uses.items in
    let ls : length (image_sizes table (map tree c.args.parts.now)) ≡ length us = length-sizes table c.args.parts.now ∙ c.requires.many ∙ sym c.args.entry.now.many in
    let l : length us ≤ c.loop-i.i = (let i = c.loop-i-test.false in let n = c.requires.many in let k = c.args.entry.now.many in omega arith) in
    let z = used_size-end us (image_sizes table (map tree c.args.parts.now)) c.loop-i.i l in
    let k = kept_sizes _ _ _ us (image_sizes table (map tree c.args.parts.now)) c.args.entry.now.measured ls in
    let v = c.loop-i.invariant.size in
    let f = c.loop-i.invariant.fits in
    omega arith

pub image_measure-body_measure-requires : goal.image_measure-body_measure-requires
image_measure-body_measure-requires t c =
    let k = greatest_depth-kids _ _ _ _ c.in-Node.is c.deref.ensures.value in
    let f = fit-kids (table_of c.args.table.now) _ _ _ _ c.requires.fits c.in-Node.is c.deref.ensures.value in
    let p = parts-are (table_of c.args.table.now) _ _ _ _ _ c.requires.fits c.in-Node.is c.deref.ensures.value c.in-Some.ensures in
    let s = c.requires.shallow in
    let d : greatest_depth (forest (map tree c.deref.result.now)) < 1000 = omega arith in
    search (rules, the_lemmas)

pub image_measure-node_measure-requires : goal.image_measure-node_measure-requires
image_measure-node_measure-requires t c =
    let k = greatest_depth-kids _ _ _ _ c.in-Node.is c.deref-in-None.ensures.value in
    let f = fit-kids (table_of c.args.table.now) _ _ _ _ c.requires.fits c.in-Node.is c.deref-in-None.ensures.value in
    let s = c.requires.shallow in
    let d : greatest_depth (forest (map tree c.deref-in-None.result.now)) < 1000 = omega arith in
    search (rules, the_lemmas)

pub image_measure-returns-in-Some-clause-depth : goal.image_measure-returns-in-Some-clause-depth
image_measure-returns-in-Some-clause-depth t c =
    c.body_measure.ensures.depth ∙ depth_found (table_of c.args.table.now) _ _ _ _ _ c.in-Node.is c.deref.ensures.value c.in-Some.ensures

pub image_measure-returns-in-Some-clause-small : goal.image_measure-returns-in-Some-clause-small
image_measure-returns-in-Some-clause-small t c =
    let k = greatest_depth-kids _ _ _ _ c.in-Node.is c.deref.ensures.value in
    let s = c.body_measure.ensures.small in
    omega arith

pub image_measure-returns-in-Some-clause-size : goal.image_measure-returns-in-Some-clause-size
image_measure-returns-in-Some-clause-size t c =
    c.body_measure.ensures.size ∙ ap sat (size_found (table_of c.args.table.now) _ _ _ _ _ c.in-Node.is c.deref.ensures.value c.in-Some.ensures)

pub image_measure-returns-in-None-clause-depth : goal.image_measure-returns-in-None-clause-depth
image_measure-returns-in-None-clause-depth t c =
    c.node_measure.ensures.depth ∙ depth_found (table_of c.args.table.now) _ _ _ _ None c.in-Node.is c.deref-in-None.ensures.value c.in-None.ensures

pub image_measure-returns-in-None-clause-small : goal.image_measure-returns-in-None-clause-small
image_measure-returns-in-None-clause-small t c =
    let k = greatest_depth-kids _ _ _ _ c.in-Node.is c.deref-in-None.ensures.value in
    let s = c.node_measure.ensures.small in
    omega arith

pub image_measure-returns-in-None-clause-size : goal.image_measure-returns-in-None-clause-size
image_measure-returns-in-None-clause-size t c =
    c.node_measure.ensures.size ∙ ap sat (size_found (table_of c.args.table.now) _ _ _ _ None c.in-Node.is c.deref-in-None.ensures.value c.in-None.ensures)

pub node_measure-image_measure-measure-requires : goal.node_measure-image_measure-measure-requires
node_measure-image_measure-measure-requires t c =
    let a = greatest_depth-at _ _ _ c.loop-i-test.true c.index-kids-i.is in
    let f = fits-kids (table_of c.args.table.now) _ _ _ c.requires.fit c.loop-i-test.true c.index-kids-i.is in
    let s = c.requires.shallow in
    let d : depth_of (tree c.index-kids-i.result) ≤ 1000 = omega arith in
    search (rules, the_lemmas)

pub node_measure-loop-i-preserved : goal.node_measure-loop-i-preserved
node_measure-loop-i-preserved t c =
    let table = table_of c.args.table.now in
    let a = greatest_depth-at _ _ _ c.loop-i-test.true c.index-kids-i.is in
    let ed = c.image_measure-measure.ensures.depth in
    let es = c.image_measure-measure.ensures.small in
    let ez = c.image_measure-measure.ensures.size in
    let l = c.loop-i-test.true in
    let ld = length-depths table c.args.kids.now in
    let ls = length-sizes table c.args.kids.now in
    let sd = greatest-step (image_depths table (map tree c.args.kids.now)) _ _ (omega arith) (depth-at table _ _ _ l c.index-kids-i.is) in
    let ss = total-step (image_sizes table (map tree c.args.kids.now)) _ _ (omega arith) (size-at table _ _ _ l c.index-kids-i.is) in
    let m : c.max-depth.result ≡ max c.loop-i.depth c.image_measure-measure.result.depth = c.max-depth.ensures in
    let w = c.saturating_add-size.ensures in
    let vd = c.loop-i.invariant.depth in
    let vs = c.loop-i.invariant.small in
    let vz = c.loop-i.invariant.size in
    record {
      depth = omega arith;
      small = omega arith;
      size = omega arith;
      fits = omega arith;
    }
