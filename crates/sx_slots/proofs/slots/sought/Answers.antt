use Rattle.std.proofs.Common.{◌-◌, refl, arith}
use Rattle.sx_slots.proofs.Linking.{seeking_first, seeking_past}
use Rattle.sx_slots.proofs.slots.sought.Goals as goal

pub loop-here-init : goal.loop-here-init
loop-here-init c = record {
  within = c.requires.from;
  seeking = λ n k lasts few linked from. seeking_first n c.args.hashes.now k c.args.hash c.args.from from;
}

pub loop-here-preserved : goal.loop-here-preserved
loop-here-preserved c = record {
  within = (let b = c.requires.back (c.loop-here.here - 1) (let t = c.loop-here-test.true in let w = c.loop-here.invariant.within in omega arith) in let w = c.loop-here.invariant.within in omega arith);
  seeking = λ n k lasts few linked from.
      seeking_past n c.args.hashes.now c.args.links.now lasts k c.args.hash c.loop-here.here _ linked few c.loop-here-test.true (c.loop-here.invariant.seeking n k lasts few linked from) c.if-hashes-here.false refl;
}

pub returns-then-hashes-here : goal.returns-then-hashes-here
returns-then-hashes-here c = λ n k lasts few linked from.
    let s = c.loop-here.invariant.seeking n k lasts few linked from in
    let t = c.loop-here-test.true in
    ((let w = s.within in omega arith), c.if-hashes-here.true, λ i a b e. s.none_past i (omega arith) b e)

pub returns : goal.returns
returns c = λ n k lasts few linked from i b e. (c.loop-here.invariant.seeking n k lasts few linked from).none_past i (let f = c.loop-here-test.false in omega arith) b e
