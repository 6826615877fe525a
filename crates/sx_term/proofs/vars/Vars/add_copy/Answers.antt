use Rattle.sx_term.proofs.vars.Vars.add_copy.Goals as goal

pub returns-in_err-copy-clause-distinct : goal.returns-in_err-copy-clause-distinct
returns-in_err-copy-clause-distinct c = c.facts.ensures
