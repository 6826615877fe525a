use Rattle.std.proofs.Common.{List, ◌∙◌, sym, subst}
use Rattle.sx_term.specs.Cutting.{AreDistinct as AreOnce}
use Rattle.sx_grammar.specs.Grammar.{Text}
use Rattle.sx_extension.proofs.PlainsRead.{labels_are}
use Rattle.sx_extension.proofs.plain_reading.read_plains.Goals as goal

pub label_names-requires-clause-once : goal.label_names-requires-clause-once
label_names-requires-clause-once c =
    subst (λ (ns : List Text). AreOnce ns) (sym (labels_are c.parts.result.now c.args.grammar.now.parts c.deref.result.now c.parts.ensures c.deref.ensures.value)) c.facts.ensures.grammar.0.0.0.1

pub read_each-read-requires-clause-known : goal.read_each-read-requires-clause-known
read_each-read-requires-clause-known c = c.in_ok-known.ensures ∙ labels_are c.parts.result.now c.args.grammar.now.parts c.deref.result.now c.parts.ensures c.deref.ensures.value
