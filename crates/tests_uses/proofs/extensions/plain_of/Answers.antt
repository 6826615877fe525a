use Rattle.std.proofs.Common.{length, ap, ◌∙◌, sym}
use Rattle.std.proofs.lemmas.List.{length-map}
use Rattle.sx_grammar.specs.Parts.{Parts, line}
use Rattle.tests_uses.proofs.extensions.plain_of.Goals as goal

pub returns-clause-base : goal.returns-clause-base
returns-clause-base c =
    c.new.ensures.base ∙ c.len.ensures ∙ c.parts.result.now.productions.ok.0
    ∙ sym (length-map c.parts.result.now.productions.items line)
    ∙ ap (λ (p : Parts). length p.productions) c.parts.ensures
