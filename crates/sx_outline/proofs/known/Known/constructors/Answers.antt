use Rattle.sx_outline.proofs.known.Known.constructors.Goals as goal

pub returns-in-None-add_of : goal.returns-in-None-add_of
returns-in-None-add_of c = λ empty add h. c.in-None-add_of.ensures add h.add_is

pub returns-in-None : goal.returns-in-None
returns-in-None c = λ empty add h. c.in-None.ensures empty h.empty_is
