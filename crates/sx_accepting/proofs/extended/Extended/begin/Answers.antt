use Rattle.std.proofs.Common.{sym, subst}
use Rattle.sx_term.specs.Untyped.{PlainHaveNoTyped}
use Rattle.sx_rules.specs.Sets.{forms_in}
use Rattle.sx_extension.proofs.FitShapes.{have_no_typed}
use Rattle.sx_accepting.proofs.Begun.{sorts_for, begins}
use Rattle.sx_accepting.proofs.extended.Extended.begin.Goals as goal

pub none-requires-clause-no_typed : goal.none-requires-clause-no_typed
none-requires-clause-no_typed c =
    subst PlainHaveNoTyped (sym c.requires.shapes)
    (have_no_typed c.args.language.now.grammar.parts c.facts.ensures.grammar)

pub none-requires-clause-forms : goal.none-requires-clause-forms
none-requires-clause-forms c = sorts_for (forms_in c.args.language.now.rules) c.requires.fit

pub returns : goal.returns
returns c =
    let made = c.in_ok-accepted.ensures in
    begins c.args.language.now c.requires c.in_ok-accepted.accepted made.set made.rules.0
    made.rules.1 made.shapes.0 made.shapes.1 made.forms
