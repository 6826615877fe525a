use Rattle.std.proofs.Common.{sym, ◌∙◌}
use Rattle.sx_term.proofs.ShapeLaws.{same_con, other_con}
use Rattle.sx_term.proofs.con.Con.same.Goals as goal

pub returns-then-eq : goal.returns-then-eq
returns-then-eq c = same_con c.args.self.now c.args.other.now c.eq-then-eq.result (sym c.eq.ensures ∙ c.if-eq.true) c.eq-then-eq.ensures

pub returns-else-eq : goal.returns-else-eq
returns-else-eq c = other_con c.args.self.now c.args.other.now c.eq.result c.if-eq.false c.eq.ensures
