-- The distinct texts of a list.
use Rattle.std.specs.Prelude.{not, List, [], ◌∷◌, filter}
use Rattle.std.specs.Str.{bytes_eq}
use Rattle.sx_grammar.specs.Grammar.{Text}

-- each text once, where it first stands
abbrev pub distinct : List Text → List Text
distinct [] = []
distinct (x ∷ xs) = x ∷ filter (λ y. not (bytes_eq x y)) (distinct xs)
