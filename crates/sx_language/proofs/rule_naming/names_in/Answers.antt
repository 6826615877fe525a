use Rattle.std.proofs.Common.{◌∙◌, sym, arith}
use Rattle.sx_language.proofs.FirstNamed.{name_past}
use Rattle.sx_language.proofs.rule_naming.names_in.Goals as goal

pub loop-i-preserved : goal.loop-i-preserved
loop-i-preserved c =
    name_past c.args.rules.now c.args.names.now c.loop-i.i c.index-rules-i.result c.args.name.now (omega arith) c.index-rules-i.is (sym c.eq.ensures ∙ c.if-eq.false) c.loop-i.invariant
