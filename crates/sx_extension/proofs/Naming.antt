-- The labels of productions by their numbers.
use Rattle.std.proofs.Common.{◌≡◌, ℕ, ◌<◌, List, length, get_or, Some, Ok, Err, refl, ap, ◌∙◌, sym, arith}
use Rattle.std.specs.Prelude.{slice_get, option_map, Result, IfOk}
use Rattle.std.proofs.lemmas.List.{length-map}
use Rattle.std.proofs.lemmas.Option.{slice_get-map, slice_get_read}
use Rattle.sx_grammar.specs.declared.grammar_parts.GrammarParts.{GrammarParts}
use Rattle.sx_grammar.specs.declared.production.Production.{Production}
use Rattle.sx_grammar.specs.Grammar.{Text}
use Rattle.sx_grammar.specs.Parts.{Line, Parts, line, labels, parts}

-- the label of the production with the number
pub label_told : (from : GrammarParts) (p : Parts) (i : ℕ) (x : Production) → parts from ≡ p → i < length p.productions → x ≡ get_or from.productions.items i x → slice_get (labels p) i ≡ Some x.label
label_told from p i x same low is =
    let within : i < length from.productions.items = omega (arith, low, ap (λ (y : Parts). length y.productions) same, length-map from.productions.items line) in
    let here : slice_get from.productions.items i ≡ Some x = slice_get_read from.productions.items (length from.productions.items) i x refl within is in
    let row : slice_get (parts from).productions i ≡ Some (line x) = slice_get-map line from.productions.items i ∙ ap (option_map line) here in
    ap (λ (y : Parts). slice_get (labels y) i) (sym same) ∙ slice_get-map (λ (l : Line). l.label) (parts from).productions i ∙ ap (option_map (λ (l : Line). l.label)) row

-- so it is of a copy of it
pub label_copied : {E : Type 0} (labels : List Text) (i : ℕ) (label : Text) (copy : Result Text E) → slice_get labels i ≡ Some label → IfOk copy (λ t. t ≡ label) → IfOk copy (λ t. slice_get labels i ≡ Some t)
label_copied labels i label (Ok t) at is = at ∙ ap (λ (x : Text). Some x) (sym is)
label_copied labels i label (Err e) at is = tt
