use Rattle.std.proofs.Common.{◌≡◌, sym, ap, ◌∙◌}
use Rattle.sx_directives.specs.Parts.{parts_of}
use Rattle.sx_grammar.specs.Parts.{texts}
use Rattle.sx_directives.proofs.reading.read_row.Goals as goal

pub returns : goal.returns
returns c =
    let same : parts_of c.args.line.now ≡ texts c.deref.result.now =
    sym c.in_ok-parts.ensures ∙ ap texts (sym c.deref.ensures.value) in
    λ has. c.in-None.ensures has.0 has.1 (sym same ∙ has.2)
