use Rattle.std.proofs.Common.{rules, ◌∙◌, sym}
use Rattle.sx_plain.specs.Views.{table_of}
use Rattle.sx_plain.proofs.BareLaws.{bare_here, bare_below, is_there, bare_in, bare_after, none_below}
use Rattle.sx_term.specs.declared.term.Term.TheViews.{the_lemmas}
use Rattle.sx_term.proofs.Kids.{depth_of-kid}
use Rattle.sx_plain.proofs.bare.+has_bare.Goals as goal

pub has_bare-requires : goal.has_bare-requires
has_bare-requires t c =
    let k = depth_of-kid _ _ _ _ _ _ c.in-Node.is c.deref-kid-items.ensures.value c.loop-kid-test.true c.kid-item.is in
    search (rules, the_lemmas)

pub loop-kid-preserved : goal.loop-kid-preserved
loop-kid-preserved t c = bare_after (table_of c.args.table.now) _ _ _ c.loop-kid.invariant c.loop-kid-test.true c.kid-item.is (sym c.has_bare.ensures ∙ c.if-has_bare.false)

pub returns-then-is_some : goal.returns-then-is_some
returns-then-is_some t c =
    bare_here (table_of c.args.table.now) c.args.term.now _ _ _ _ c.in-Node.is c.deref.ensures.value c.bare_kid.ensures
    (is_there _ c.bare_kid.result _ (sym c.is_some.ensures ∙ c.if-is_some.true))

pub returns-then-has_bare : goal.returns-then-has_bare
returns-then-has_bare t c =
    bare_below (table_of c.args.table.now) c.args.term.now _ _ _ _ _ _ c.in-Node.is c.deref.ensures.value c.deref-kid-items.ensures.value c.bare_kid.ensures
    (is_there _ c.bare_kid.result _ (sym c.is_some.ensures ∙ c.if-is_some.false))
    (bare_in (table_of c.args.table.now) _ _ _ c.loop-kid.invariant c.loop-kid-test.true c.kid-item.is (sym c.has_bare.ensures ∙ c.if-has_bare.true))

pub returns-after-loop-kid : goal.returns-after-loop-kid
returns-after-loop-kid t c =
    bare_below (table_of c.args.table.now) c.args.term.now _ _ _ _ _ _ c.in-Node.is c.deref.ensures.value c.deref-kid-items.ensures.value c.bare_kid.ensures
    (is_there _ c.bare_kid.result _ (sym c.is_some.ensures ∙ c.if-is_some.false))
    (none_below (table_of c.args.table.now) _ _ c.loop-kid.invariant c.loop-kid-test.false)
