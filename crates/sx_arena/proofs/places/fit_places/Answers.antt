use Rattle.std.proofs.Common.{◌∙◌, sym, get_or}
use Rattle.std.proofs.lemmas.List.{get_or_default}
use Rattle.sx_arena.proofs.Arenas.{below_zero}
use Rattle.sx_arena.proofs.Placed.{is_same, is_other, get_at, shallow_at, placing_skip, placing_more, placing_clash, placing_few, placing_many, placing_end}
use Rattle.sx_arena.proofs.places.fit_places.Goals as goal

pub loop-i-preserved-then-is_output-outputs : goal.loop-i-preserved-then-is_output-outputs
loop-i-preserved-then-is_output-outputs c =
    let p = get_at c.args.side.now.places.now c.loop-i.i c.loop-i-test.true in
    placing_skip _ _ _ _ _ _ _ _ _ _ _ p.0 c.loop-i.invariant c.loop-i-test.true p.1 (λ q. is_other _ _ c.if-is_output-outputs.true (c.is_output.ensures ∙ q))

pub returns-then-taken-terms-clause-fit : goal.returns-then-taken-terms-clause-fit
returns-then-taken-terms-clause-fit c =
    let p = get_at c.args.side.now.places.now c.loop-i.i c.loop-i-test.true in
    placing_few _ _ _ _ _ _ _ _ _ _ _ p.0 c.loop-i.invariant c.loop-i-test.true p.1 (sym c.is_output.ensures ∙ is_same _ _ c.if-is_output-outputs.false) c.if-taken-terms.true

pub fit-requires-clause-depth : goal.fit-requires-clause-depth
fit-requires-clause-depth c = shallow_at _ c.requires.shallow c.loop-i.i _ c.loop-i-test.true c.index-places-i.is

pub fit-requires-clause-within : goal.fit-requires-clause-within
fit-requires-clause-within c = below_zero _ _ c.requires.terms c.loop-i.taken c.if-taken-terms.false

pub returns-in-None-clause-fit : goal.returns-in-None-clause-fit
returns-in-None-clause-fit c =
    placing_clash _ _ _ _ _ _ _ _ _ _ _ _ _ c.loop-i.invariant c.loop-i-test.true c.index-places-i.is (sym c.is_output.ensures ∙ is_same _ _ c.if-is_output-outputs.false) c.if-taken-terms.false
    (get_or_default c.args.terms.now c.loop-i.taken 0 (get_or c.args.terms.now c.loop-i.taken 0) c.if-taken-terms.false) (rw c.in-None.is at c.in_ok-next.ensures.fit)

pub loop-i-preserved : goal.loop-i-preserved
loop-i-preserved c =
    placing_more _ _ _ _ _ _ _ _ _ _ _ _ _ _ _ c.loop-i.invariant c.loop-i-test.true c.index-places-i.is (sym c.is_output.ensures ∙ is_same _ _ c.if-is_output-outputs.false) c.if-taken-terms.false
    (get_or_default c.args.terms.now c.loop-i.taken 0 (get_or c.args.terms.now c.loop-i.taken 0) c.if-taken-terms.false) c.in_ok-next.ensures.grows (rw c.in-Some.is at c.in_ok-next.ensures.fit)

pub returns-then-taken-terms-2-clause-fit : goal.returns-then-taken-terms-2-clause-fit
returns-then-taken-terms-2-clause-fit c = placing_many _ _ _ _ _ _ _ _ _ _ _ c.loop-i.invariant c.loop-i-test.false c.if-taken-terms-2.true

pub returns-clause-fit : goal.returns-clause-fit
returns-clause-fit c = (c.loop-i.invariant.within, placing_end _ _ _ _ _ _ _ _ _ _ _ c.loop-i.invariant c.loop-i-test.false c.if-taken-terms-2.false)
