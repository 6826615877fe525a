use Rattle.std.proofs.Common.{◌∙◌, sym, ap, get_or}
use Rattle.std.proofs.lemmas.List.{get_or_default}
use Rattle.sx_arena.specs.Arena.{trees, shape_tree}
use Rattle.sx_arena.proofs.Arenas.{distinct}
use Rattle.sx_arena.proofs.Parted.{parting_more, apart_straight, apart_crossed, apart_end, lexemes_equal, lexemes_differ}
use Rattle.sx_arena.proofs.pairs.apart.Goals as goal

pub returns-then-pairs_up : goal.returns-then-pairs_up
returns-then-pairs_up c =
    sym (apart_straight _ (distinct _ c.requires.arena) _ c.requires.pairs c.loop-pair.pair-index _ _ (get_or c.args.pairs.now c.loop-pair.pair-index (record { first = 0; second = 0 })) _ c.loop-pair-test.true
    (get_or_default c.args.pairs.now c.loop-pair.pair-index _ _ c.loop-pair-test.true) c.requires.first c.requires.second c.pairs_up.ensures c.if-pairs_up.true c.loop-pair.invariant)

pub returns-then-pairs_up-2 : goal.returns-then-pairs_up-2
returns-then-pairs_up-2 c =
    sym (apart_crossed _ (distinct _ c.requires.arena) _ c.requires.pairs c.loop-pair.pair-index _ _ (get_or c.args.pairs.now c.loop-pair.pair-index (record { first = 0; second = 0 })) _ c.loop-pair-test.true
    (get_or_default c.args.pairs.now c.loop-pair.pair-index _ _ c.loop-pair-test.true) c.requires.first c.requires.second c.pairs_up-in-loop-pair.ensures c.if-pairs_up-2.true c.loop-pair.invariant)

pub loop-pair-preserved : goal.loop-pair-preserved
loop-pair-preserved c =
    parting_more _ (distinct _ c.requires.arena) _ c.requires.pairs c.loop-pair.pair-index _ _ (get_or c.args.pairs.now c.loop-pair.pair-index (record { first = 0; second = 0 })) _ _ c.loop-pair-test.true
    (get_or_default c.args.pairs.now c.loop-pair.pair-index _ _ c.loop-pair-test.true) c.requires.first c.requires.second c.pairs_up.ensures c.if-pairs_up.false c.pairs_up-in-loop-pair.ensures c.if-pairs_up-2.false c.loop-pair.invariant

pub returns-then-first-second : goal.returns-then-first-second
returns-then-first-second c =
    sym (apart_end (trees c.args.arena.now) c.args.pairs.now c.loop-pair.pair-index c.args.first c.args.second c.loop-pair-test.false c.loop-pair.invariant ∙ lexemes_equal _ _ _ c.if-first-second.true)

pub returns-in-Lex-shape : goal.returns-in-Lex-shape
returns-in-Lex-shape c =
    let ts = trees c.args.arena.now in
    sym (apart_end ts c.args.pairs.now c.loop-pair.pair-index c.args.first c.args.second c.loop-pair-test.false c.loop-pair.invariant
    ∙ lexemes_differ ts (distinct _ c.requires.arena) _ _ c.requires.first c.requires.second c.if-first-second.false _ _ c.cell.ensures.tree c.cell-in-Lex.ensures.tree _ _ _ _ (ap (shape_tree ts) c.in-Lex.is) (ap (shape_tree ts) c.in-Lex-shape.is))
