use Rattle.std.proofs.Common.{arith, subst, sym}
use Rattle.sx_grammar.specs.Levels.{AreGreatest, AreLeast}
use Rattle.sx_grammar.specs.Parts.{parts}
use Rattle.sx_grammar.proofs.LevelLaws.{parts_below, sorts_below}
use Rattle.sx_grammar.proofs.levels.has_brackets.Goals as goal

pub greatest_levels-requires : goal.greatest_levels-requires
greatest_levels-requires c = parts_below (parts c.args.from.now) c.args.productions.now c.len.result c.requires.sorts.0.0 c.requires.numbered (omega (arith, c.len.ensures))

pub least_levels-requires : goal.least_levels-requires
least_levels-requires c = sorts_below (parts c.args.from.now) c.args.productions.now c.len-2.result c.requires.sorts.0.0 c.requires.numbered (omega (arith, c.len-2.ensures))

pub has_brackets_at-requires-clause-levels : goal.has_brackets_at-requires-clause-levels
has_brackets_at-requires-clause-levels c =
    let ps = c.args.productions.now in
    (ps, c.requires.numbered, subst (AreGreatest ps) (sym c.deref.ensures.value) c.in_ok-asked.ensures.greatest, subst (AreLeast ps) (sym c.deref-in-Ok.ensures.value) c.in-Ok.ensures.least)
