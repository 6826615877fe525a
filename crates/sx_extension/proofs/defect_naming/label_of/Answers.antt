use Rattle.sx_grammar.specs.Parts.{labels}
use Rattle.sx_extension.proofs.Naming.{label_told, label_copied}
use Rattle.sx_extension.proofs.defect_naming.label_of.Goals as goal

pub returns : goal.returns
returns c =
    label_copied (labels c.args.grammar.now.parts) c.args.label c.index.result.now.label c.copy.result
    (label_told c.parts.result.now c.args.grammar.now.parts c.args.label c.index.result.now c.parts.ensures c.requires c.index.ensures) c.copy.ensures
