use Rattle.std.proofs.Common.{refl, arith}
use Rattle.sx_grammar.specs.declared.production.Production.{Production}
use Rattle.sx_extension.proofs.NamesCopied.{one_label}
use Rattle.sx_extension.proofs.numbered_names.label_names.Goals as goal

pub loop-i-preserved : goal.loop-i-preserved
loop-i-preserved c =
    one_label (λ (p : Production). p.label) c.args.productions.now c.loop-i.vars c.add_copy.new.self c.loop-i.i c.index-productions-i.result c.index-productions-i.result.label c.in_ok-add_copy.field-0 c.requires.once
    c.loop-i.invariant (omega arith) c.index-productions-i.is refl c.in_ok-add_copy.ensures.ok
