use Rattle.std.proofs.Common.{length, ap, subst, arith}
use Rattle.sx_term.specs.Vars.{IsAdded}
use Rattle.sx_term.proofs.VarLemmas.{IsAdded-insert_key, length-insert_key, AreDistinct-from_IsDistinct}
use Rattle.sx_term.proofs.vars.Vars.add.Goals as goal

pub returns-in_err-number-clause-distinct : goal.returns-in_err-number-clause-distinct
returns-in_err-number-clause-distinct c = AreDistinct-from_IsDistinct _ c.in_err-number.ensures.unique

pub returns-clause-ok : goal.returns-clause-ok
returns-clause-ok c =
    let e = c.in_ok-number.ensures in
    subst (λ old. IsAdded old c.insert_full.new.self.keys c.args.name c.in_ok-number.number) c.self.view_is
    (IsAdded-insert_key c.self.inside.names.keys _ c.args.name _ e.stored.0 e.keys e.stored.1 e.stored.2)

pub returns-clause-grows : goal.returns-clause-grows
returns-clause-grows c =
    let m = length-insert_key c.self.inside.names.keys _ c.args.name c.in_ok-number.ensures.keys in
    let e = ap length c.self.view_is in
    omega arith

pub returns-clause-distinct : goal.returns-clause-distinct
returns-clause-distinct c = AreDistinct-from_IsDistinct _ c.in_ok-number.ensures.unique
