use Rattle.std.proofs.Common.{◌∙◌, ap, take}
use Rattle.sx_forest.proofs.Naming.{front_cut}
use Rattle.sx_forest.proofs.stripping.strip.Goals as goal

pub returns-in-Err-clause-err : goal.returns-in-Err-clause-err
returns-in-Err-clause-err c =
    front_cut c.args.vars.now _ c.strip_into.new.vars c.cut.new.self c.in-Err.ensures.err
    (c.cut.ensures ∙ ap (λ n. take n c.strip_into.new.vars) c.count-count.ensures)
