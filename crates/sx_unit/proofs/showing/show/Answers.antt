use Rattle.sx_term.specs.Term.{tree}
use Rattle.sx_unit.proofs.Shown.{shown_is}
use Rattle.sx_unit.proofs.showing.show.Goals as goal

pub returns : goal.returns
returns c = shown_is c.args.grammar.now.parts (tree c.args.term.now) _ _ _ c.new-vars.ensures
    c.new-shown.ensures.items c.in_ok-print.ensures.text c.in_ok-print.ensures.utf8
