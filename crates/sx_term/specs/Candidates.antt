-- The view of the candidates of a matching as bindings.
use Rattle.std.specs.Prelude.{ℕ, List, map}
use Rattle.sx_term.specs.declared.candidate.Candidate.{Candidate}
use Rattle.sx_term.specs.Tree.{Tree}
use Rattle.sx_term.specs.Term.{tree}

-- the variable and what it would be bound to
abbrev pub candidate : Candidate → ℕ × Tree
candidate c = (c.variable, tree c.part.now)

-- the candidates, in the order in which they were found
abbrev pub candidates : List Candidate → List (ℕ × Tree)
candidates cs = map candidate cs
