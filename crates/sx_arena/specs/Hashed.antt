-- Numbers of shapes, by which cells are found.
use Rattle.std.specs.Prelude.{ℕ, ◌&&◌, Bool, false, List, [], ◌∷◌, nat_eq}
use Rattle.std.specs.Prelude.{string_bytes}
use Rattle.std.specs.Cmp.Lexicographic.{pointwise}
use Rattle.sx_slots.specs.Mixed.{mixed_with}
use Rattle.sx_arena.specs.declared.shape.Shape.{Shape}
use Rattle.sx_arena.specs.declared.shape.Shape.TheVariants.{Node, Lex, Var}

-- one number of a first one and others
abbrev pub mixed : ℕ → List ℕ → ℕ
mixed first [] = first
mixed first (number ∷ numbers) = mixed (mixed_with first number) numbers

-- one number of a node's label and kids, of a lexeme's text, or of a variable
abbrev pub hash_of : Shape → ℕ
hash_of (Node label kids) = mixed label kids.items
hash_of (Lex kind text) = mixed 0 (string_bytes text)
hash_of (Var variable) = variable

-- whether a shape is a node with this label and these kids
abbrev pub is_node_of : ℕ → List ℕ → Shape → Bool
is_node_of label kids (Node other others) = nat_eq label other && pointwise nat_eq kids others.items
is_node_of label kids (Lex kind text) = false
is_node_of label kids (Var variable) = false
