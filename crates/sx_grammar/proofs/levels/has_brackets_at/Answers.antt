use Rattle.std.proofs.Common.{refl, sym, ◌∙◌, length, get_or, ◌<◌, arith}
use Rattle.std.proofs.lemmas.Bool.{false≢true}
use Rattle.std.proofs.lemmas.Option.{slice_get_read}
use Rattle.sx_grammar.specs.Parts.{parts}
use Rattle.sx_grammar.specs.Made.{LacksBrackets}
use Rattle.sx_grammar.proofs.FirstLaws.{none_more, none_all, first_here}
use Rattle.sx_grammar.proofs.LevelLaws.{lacks_is, read_here}
use Rattle.sx_grammar.proofs.levels.has_brackets_at.Goals as goal

pub returns-then-lacks_brackets-clause-refused : goal.returns-then-lacks_brackets-clause-refused
returns-then-lacks_brackets-clause-refused c =
    let p = parts c.args.from.now in
    let s = c.index-sort.result.now in
    let lt : c.loop-i.i < length c.args.from.now.sorts.items = omega (arith, c.loop-i-test.true, c.len-i-end.ensures) in
    let at = slice_get_read c.args.from.now.sorts.items (length c.args.from.now.sorts.items) c.loop-i.i s refl lt c.index-sort.ensures in
    let a = get_or c.args.asked.now c.loop-i.i 0 in
    let l = get_or c.args.least.now c.loop-i.i 0 in
    let in_asked : c.loop-i.i < length c.args.asked.now = omega (arith, lt, c.requires.asked_size) in
    let in_least : c.loop-i.i < length c.args.least.now = omega (arith, lt, c.requires.least_size) in
    let is = lacks_is p c.requires.levels.0 c.loop-i.i s c.args.asked.now c.args.least.now a l c.requires.sorts.0.0 c.requires.levels.1 at c.requires.levels.2 c.requires.levels.3
    (read_here c.args.asked.now c.loop-i.i 0 0 in_asked) (read_here c.args.least.now c.loop-i.i 255 0 in_least) c.lacks_brackets.ensures.range in
    (c.requires.sorts, (s, first_here (LacksBrackets p) p.sorts c.loop-i.i s at c.loop-i.invariant (is.0 (c.lacks_brackets.ensures.is.0 c.if-lacks_brackets.true)), sym c.in_ok-copy.ensures))

pub loop-i-preserved : goal.loop-i-preserved
loop-i-preserved c =
    let p = parts c.args.from.now in
    let s = c.index-sort.result.now in
    let lt : c.loop-i.i < length c.args.from.now.sorts.items = omega (arith, c.loop-i-test.true, c.len-i-end.ensures) in
    let at = slice_get_read c.args.from.now.sorts.items (length c.args.from.now.sorts.items) c.loop-i.i s refl lt c.index-sort.ensures in
    let a = get_or c.args.asked.now c.loop-i.i 0 in
    let l = get_or c.args.least.now c.loop-i.i 0 in
    let in_asked : c.loop-i.i < length c.args.asked.now = omega (arith, lt, c.requires.asked_size) in
    let in_least : c.loop-i.i < length c.args.least.now = omega (arith, lt, c.requires.least_size) in
    let is = lacks_is p c.requires.levels.0 c.loop-i.i s c.args.asked.now c.args.least.now a l c.requires.sorts.0.0 c.requires.levels.1 at c.requires.levels.2 c.requires.levels.3
    (read_here c.args.asked.now c.loop-i.i 0 0 in_asked) (read_here c.args.least.now c.loop-i.i 255 0 in_least) c.lacks_brackets.ensures.range in
    none_more (LacksBrackets p) p.sorts c.loop-i.i s at c.loop-i.invariant (λ lacks. false≢true (sym c.if-lacks_brackets.false ∙ c.lacks_brackets.ensures.is.1 (is.1 lacks)))

pub returns-clause-good : goal.returns-clause-good
returns-clause-good c =
    let p = parts c.args.from.now in
    (c.requires.sorts, none_all (LacksBrackets p) p.sorts c.loop-i.i (omega (arith, c.loop-i-test.false, c.len-i-end.ensures)) c.loop-i.invariant)
