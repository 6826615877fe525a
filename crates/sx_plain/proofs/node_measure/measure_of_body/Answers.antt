use Rattle.std.proofs.Common.{ap, arith, sym, drop, get_or, length, ◌≡◌, ◌≤◌, ◌<◌, ◌+◌, ◌∙◌, List, ℕ}
use Rattle.sx_plain.specs.declared.part_use.PartUse.{PartUse}
use Rattle.sx_plain.specs.PartMeasures.{depths_of, sizes_of}
use Rattle.sx_plain.specs.Uses.{used_size}
use Rattle.sx_plain.proofs.Measured.{sat}
use Rattle.sx_plain.proofs.UseLaws.{near-at, used_depth-step, used_size-step, used_depth-end, used_size-end}
use Rattle.sx_plain.proofs.PartLaws.{depth-part, size-part, part-within, many-depths, many-sizes, part-once}
use Rattle.sx_plain.proofs.Kept.{kept_near, kept_depths, kept_sizes}
use Rattle.sx_plain.proofs.node_measure.measure_of_body.Goals as goal

pub overflow_add-part : goal.overflow_add-part
overflow_add-part c =
    let s = c.requires.shallow in
    let m = part-within _ _ _ c.loop-i-test.true c.measure_at-measure.ensures in
    let l : c.loop-i.i < length c.args.entry.now.uses.items = (let i = c.loop-i-test.true in let n = c.requires.many in let k = c.args.entry.now.many in omega arith) in
    let g = c.use_at-part.ensures ∙ ap (λ (us : List PartUse). get_or us c.loop-i.i c.use_at-part.result) c.deref.ensures.value in
    let n = near-at _ _ _ l g (kept_near _ _ _ _ c.args.entry.now.measured) in
    grind arith

pub loop-i-preserved : goal.loop-i-preserved
loop-i-preserved c =
    let us = c.args.entry.now.uses.items in
    let u = c.use_at-part.result in
    let p = c.measure_at-measure.result in
    let l : c.loop-i.i < length c.args.entry.now.uses.items = (let i = c.loop-i-test.true in let n = c.requires.many in let k = c.args.entry.now.many in omega arith) in
    let g = c.use_at-part.ensures ∙ ap (λ (us : List PartUse). get_or us c.loop-i.i c.use_at-part.result) c.deref.ensures.value in
    let n = near-at _ _ _ l g (kept_near _ _ _ _ c.args.entry.now.measured) in
    let w = part-within _ _ _ c.loop-i-test.true c.measure_at-measure.ensures in
    let ld : length (depths_of c.args.parts.now) ≡ length us = many-depths c.args.parts.now ∙ c.requires.many ∙ sym c.args.entry.now.many in
    let ls : length (sizes_of c.args.parts.now) ≡ length us = many-sizes c.args.parts.now ∙ c.requires.many ∙ sym c.args.entry.now.many in
    let rest = used_size (drop (c.loop-i.i + 1) us) (drop (c.loop-i.i + 1) (sizes_of c.args.parts.now)) in
    let sd = used_depth-step us _ _ u _ l ld g (depth-part _ _ _ c.loop-i-test.true c.measure_at-measure.ensures) in
    let ss = used_size-step us _ _ u _ l ls g (size-part _ _ _ c.loop-i-test.true c.measure_at-measure.ensures) in
    let m = c.max-depth.ensures in
    let v = c.loop-i.invariant in
    let vd = v.depth in
    let vs = v.small in
    let t = c.with_part-size.type_inv in
    record {
      depth = omega arith;
      small = omega arith;
      size = ap (λ (r : ℕ). sat (r + rest)) c.with_part-size.ensures ∙ part-once c.loop-i.size u.times p.size rest ∙ ap (λ (x : ℕ). sat (c.loop-i.size + x)) (sym ss) ∙ v.size;
      fits = omega arith;
    }

pub returns-clause-depth : goal.returns-clause-depth
returns-clause-depth c =
    let us = c.args.entry.now.uses.items in
    let ld : length (depths_of c.args.parts.now) ≡ length us = many-depths c.args.parts.now ∙ c.requires.many ∙ sym c.args.entry.now.many in
    let l : length us ≤ c.loop-i.i = (let i = c.loop-i-test.false in let n = c.requires.many in let k = c.args.entry.now.many in omega arith) in
    let z = used_depth-end us (depths_of c.args.parts.now) c.loop-i.i l in
    let k = kept_depths _ _ _ us (depths_of c.args.parts.now) c.args.entry.now.measured ld c.requires.positive in
    let v = c.loop-i.invariant.depth in
    omega arith

pub returns-clause-size : goal.returns-clause-size
returns-clause-size c =
    let us = c.args.entry.now.uses.items in
    let ls : length (sizes_of c.args.parts.now) ≡ length us = many-sizes c.args.parts.now ∙ c.requires.many ∙ sym c.args.entry.now.many in
    let l : length us ≤ c.loop-i.i = (let i = c.loop-i-test.false in let n = c.requires.many in let k = c.args.entry.now.many in omega arith) in
    let z = used_size-end us (sizes_of c.args.parts.now) c.loop-i.i l in
    let k = kept_sizes _ _ _ us (sizes_of c.args.parts.now) c.args.entry.now.measured ls in
    let v = c.loop-i.invariant.size in
    let f = c.loop-i.invariant.fits in
    omega arith
