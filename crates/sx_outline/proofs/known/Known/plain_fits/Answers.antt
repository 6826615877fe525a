use Rattle.std.proofs.Common.{◌≡◌, IsTrue, ◌↔◌, Some, None, refl, ◌∙◌}
use Rattle.sx_grammar.specs.Parts.{line, labels}
use Rattle.sx_outline.specs.Declarations.{declared_parts}
use Rattle.sx_outline.specs.Fitting.{ArePartNames, IsPlain, NamesFit, parts_of_symbols}
use Rattle.sx_lines.specs.Distinct.{AreTextsDistinct}
use Rattle.sx_outline.specs.View.{known}
use Rattle.sx_outline.proofs.PlaceLaws.{first_at, found_first}
use Rattle.sx_outline.proofs.FindLaws.{line_found, ok_map, parts_are, parts_none, production_found}
use Rattle.sx_outline.proofs.known.Known.plain_fits.Goals as goal

pub returns-in-Some : goal.returns-in-Some
returns-in-Some c =
    let k = c.args.self.now in
    let p = c.index.result.now in
    let label = c.args.plain.now.label in
    let names = c.args.plain.now.names.items in
    let found : first_at label (labels (declared_parts (known k))) ≡ Some c.in-Some.place = found_first (labels (declared_parts (known k))) k.tables.labels label c.place.result k.tabled.labels_found c.place.ensures ∙ c.in-Some.is in
    ok_map c.parts_fit.result (λ b. IsTrue b ↔ (IsPlain (known k) p.sort × AreTextsDistinct names × NamesFit (known k) names (parts_of_symbols p.symbols.items))) (λ b. IsTrue b ↔ ArePartNames (known k) label names)
    (λ b h. parts_are (known k) label names (line p) b
    (production_found (known k) label c.in-Some.place (line p) found (line_found k.rows.productions.items label c.in-Some.place p found c.index.ensures)) h) c.parts_fit.ensures

pub returns-in-None : goal.returns-in-None
returns-in-None c =
    let k = c.args.self.now in
    let label = c.args.plain.now.label in
    let none : first_at label (labels (declared_parts (known k))) ≡ None = found_first (labels (declared_parts (known k))) k.tables.labels label c.place.result k.tabled.labels_found c.place.ensures ∙ c.in-None.is in
    parts_none (known k) label c.args.plain.now.names.items _ none refl
