use Rattle.std.proofs.Common.{◌≡◌, Some, None, sym, ◌∙◌}
use Rattle.std.proofs.lemmas.Bool.{false≢true}
use Rattle.sx_grammar.specs.Parts.{line, labels}
use Rattle.sx_outline.specs.Declarations.{declared_parts}
use Rattle.sx_outline.specs.Fitting.{parts_of_symbols}
use Rattle.sx_outline.specs.View.{known}
use Rattle.sx_outline.proofs.PlaceLaws.{first_at, found_first}
use Rattle.sx_outline.proofs.FindLaws.{constructor_is, constructor_none, constructor_line, line_found}
use Rattle.sx_outline.proofs.known.Known.constructor.Goals as goal

pub returns-then-same : goal.returns-then-same
returns-then-same c =
    let k = c.args.self.now in
    let p = c.index.result.now in
    let found : first_at c.args.label.now (labels (declared_parts (known k))) ≡ Some c.in-Some.place = found_first (labels (declared_parts (known k))) k.tables.labels c.args.label.now c.place.result k.tabled.labels_found c.place.ensures ∙ c.in-Some.is in
    (parts_of_symbols p.symbols.items, constructor_is (known k) c.args.label.now c.args.sort.now c.in-Some.place (line p) found (line_found k.rows.productions.items c.args.label.now c.in-Some.place p found c.index.ensures) (c.same.ensures.0 c.if-same.true))

pub returns-else-same : goal.returns-else-same
returns-else-same c = λ number kids h.
    let k = c.args.self.now in
    let p = c.index.result.now in
    let found : first_at c.args.label.now (labels (declared_parts (known k))) ≡ Some c.in-Some.place = found_first (labels (declared_parts (known k))) k.tables.labels c.args.label.now c.place.result k.tabled.labels_found c.place.ensures ∙ c.in-Some.is in
    false≢true (sym c.if-same.false ∙ c.same.ensures.1 (constructor_line (known k) c.args.label.now c.args.sort.now c.in-Some.place number (line p) kids found (line_found k.rows.productions.items c.args.label.now c.in-Some.place p found c.index.ensures) h).1)

pub returns-in-None : goal.returns-in-None
returns-in-None c =
    let k = c.args.self.now in
    let none : first_at c.args.label.now (labels (declared_parts (known k))) ≡ None = found_first (labels (declared_parts (known k))) k.tables.labels c.args.label.now c.place.result k.tabled.labels_found c.place.ensures ∙ c.in-None.is in
    constructor_none (known k) c.args.label.now c.args.sort.now none
