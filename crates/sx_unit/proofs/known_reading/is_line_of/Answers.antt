use Rattle.std.proofs.Common.{List, ℕ, [], ◌∷◌, ap, ◌∙◌, sym}
use Rattle.std.proofs.lemmas.List.{nil_from_length}
use Rattle.std.proofs.lemmas.Slice.Eq.{bytes_eq-Decides}
use Rattle.sx_lines.specs.Words.{after}
use Rattle.sx_unit.specs.Known.{token_line}
use Rattle.sx_unit.proofs.Spelling.{whole_line}
use Rattle.sx_unit.proofs.known_reading.is_line_of.Goals as goal

pub returns-in-Some-after : goal.returns-in-Some-after
returns-in-Some-after c = λ is.
    let text = ap (λ (l : List ℕ). after l c.args.line.now) (sym c.bytes.ensures.value)
    ∙ sym c.in-Some-after.ensures in
    whole_line c.args.tokens.now c.in-Some.first.now c.in-Some.others.now c.args.line.now
    c.in-Some-after.rest.now c.in-Some.ensures.cases.0 text (c.goes_on.ensures is)

pub returns-in_default : goal.returns-in_default
returns-in_default c = λ is.
    (bytes_eq-Decides c.args.line.now (10 ∷ [])).0 (sym c.eq.ensures ∙ is)
    ∙ ap token_line (sym (nil_from_length c.args.tokens.now c.in_default.ensures.cases))
