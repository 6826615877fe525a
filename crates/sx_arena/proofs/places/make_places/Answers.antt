use Rattle.std.proofs.Common.{◌∙◌, sym}
use Rattle.sx_arena.proofs.Placed.{is_same, is_other, get_at, shallow_at, forming_none, forming_skip, forming_more, forming_end}
use Rattle.sx_arena.proofs.places.make_places.Goals as goal

pub loop-i-init : goal.loop-i-init
loop-i-init c = forming_none _ _ _ _ _ _ _ c.requires.arena c.requires.binds c.new-parts.ensures.items

pub loop-i-preserved-then-is_output-outputs : goal.loop-i-preserved-then-is_output-outputs
loop-i-preserved-then-is_output-outputs c =
    let p = get_at c.args.side.now.places.now c.loop-i.i c.loop-i-test.true in
    forming_skip _ _ _ _ _ _ _ _ _ p.0 c.loop-i.invariant c.loop-i-test.true p.1 (λ q. is_other _ _ c.if-is_output-outputs.true (c.is_output.ensures ∙ q))

pub made-requires-clause-depth : goal.made-requires-clause-depth
made-requires-clause-depth c = shallow_at _ c.requires.shallow c.loop-i.i _ c.loop-i-test.true c.index-places-i.is

pub loop-i-preserved : goal.loop-i-preserved
loop-i-preserved c =
    forming_more _ _ _ _ _ _ _ _ _ _ _ _ _ c.loop-i.invariant c.loop-i-test.true c.index-places-i.is (sym c.is_output.ensures ∙ is_same _ _ c.if-is_output-outputs.false) c.in_ok-made.ensures c.in_ok-push.ensures.items

pub returns : goal.returns
returns c = forming_end _ _ _ _ _ _ _ _ _ c.loop-i.invariant c.loop-i-test.false
