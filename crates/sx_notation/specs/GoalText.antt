-- The text of a goal.
use Rattle.std.specs.Prelude.{ℕ, ◌+◌, ◌-◌, Bool, true, false, List, [], ◌∷◌, Option, Some, None}
use Rattle.std.specs.Prelude.{map, length, slice_get, drop, unwrap_or, codes}
use Rattle.sx_term.specs.Tree.{Tree}
use Rattle.sx_grammar.specs.Grammar.{Text, Symbol, Production, Grammar, Token}
use Rattle.sx_grammar.specs.Parts.{Parts, numbered}
use Rattle.sx_grammar.specs.Print.{Printer, literal_token, print_symbols, print}
use Rattle.sx_print.specs.Printed.{text_of}
use Rattle.sx_rules.specs.Views.{FormData, modes_of}
use Rattle.sx_rules.specs.Modes.{Goal}

-- what stands at the places, of which a list says which are outputs: the inputs and the outputs in
-- order, or nothing where none is left
abbrev pub contents : {X : Type 0} → List Bool → (inputs outputs : List X) → List (Option X)
contents [] inputs outputs = []
contents (false ∷ outs) inputs outputs = slice_get inputs 0 ∷ contents outs (drop 1 inputs) outputs
contents (true ∷ outs) inputs outputs = slice_get outputs 0 ∷ contents outs inputs (drop 1 outputs)

-- a term is printed for its place, and nothing as `_`
abbrev pub printer : Grammar → List Text → Option Tree → Printer
printer g names None = λ place least. literal_token (codes "_") ∷ []
printer g names (Some t) = print g names t

-- the symbols of the production, if there is one
abbrev pub production_symbols : Option Production → List Symbol
production_symbols None = []
production_symbols (Some r) = r.symbols

-- the label of a form in a rule grammar, whose last productions are one for each form, in order,
-- and three for `!=`
abbrev pub form_label : (productions forms form : ℕ) → ℕ
form_label productions forms form = (productions - (forms + 3)) + form

-- the symbols of the goal's form, with its inputs in their places, and its outputs as they were got
-- or as `_`
abbrev pub goal_tokens : Parts → List Text → List FormData → Goal → Option (List Tree) → List Token
goal_tokens p names forms goal got =
    print_symbols (production_symbols (slice_get (numbered p).productions
    (form_label (length p.productions) (length forms) goal.form)))
    (map (printer (numbered p) names)
    (contents (modes_of forms goal.form) goal.terms (unwrap_or got [])))

-- the tokens' texts with one blank between them
abbrev pub goal_text : Parts → List Text → List FormData → Goal → Option (List Tree) → List ℕ
goal_text p names forms goal got = text_of (goal_tokens p names forms goal got)
