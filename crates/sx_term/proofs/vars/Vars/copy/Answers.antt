use Rattle.std.proofs.Common.{◌∙◌, sym}
use Rattle.sx_term.proofs.VarCopies.{copied_more, take_end}
use Rattle.sx_term.proofs.vars.Vars.copy.Goals as goal

pub loop-name-preserved : goal.loop-name-preserved
loop-name-preserved c =
    copied_more c.args.self.now c.loop-name.copies c.add_copy.new.self c.loop-name.number c.in-Some.name.now c.in-Ok.field-0 c.in-Some.ensures.distinct c.loop-name.invariant (sym c.in-Some.ensures.value)
    c.in-Ok.ensures.ok

pub returns : goal.returns
returns c = c.loop-name.invariant ∙ take_end c.args.self.now c.loop-name.number (sym c.in_default.ensures.value)
