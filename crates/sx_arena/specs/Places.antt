-- The places of a judgement that are inputs, or those that are outputs.
use Rattle.std.specs.Prelude.{◌≡◌, ℕ, ◌-◌, ◌^◌, Bool, true, false, List, map, length, min, Option}
use Rattle.std.specs.Prelude.{Some, None, [], ◌∷◌}
use Rattle.sx_term.specs.Tree.{Tree, node, lexeme, hole}
use Rattle.sx_term.specs.Term.{tree}
use Rattle.sx_rules.specs.Modes.{inputs, outputs}
use Rattle.sx_arena.specs.Matching.{Assignment, match_all}
use Rattle.sx_arena.specs.Limits.{Cause, too_deep, too_big}
use Rattle.sx_arena.specs.declared.arena.Arena.{Arena}
use Rattle.sx_arena.specs.declared.places.Limit.{Limit}
use Rattle.sx_arena.specs.declared.places.Limit.TheVariants.{TooDeep, TooBig}
use Rattle.sx_arena.specs.declared.side.Side.{Side}
use Rattle.sx_arena.specs.Arena.{trees, tree_at, IsArena, AreBelow, Extends}
use Rattle.sx_rules.specs.SubjectTerms.{output_mask}

-- the outputs, or else the inputs
abbrev pub selected : {X : Type 0} → Bool → List Bool → List X → List X
selected false mask xs = inputs mask xs
selected true mask xs = outputs mask xs

-- the terms of a side
abbrev pub patterns_of : Side → List Tree
patterns_of s = selected s.outputs (output_mask s.roles.now) (map tree s.places.now)

-- the arena goes on from the other, and has the terms at the numbers
pub record AreHeld (old new : Arena) (is : List ℕ) (ts : List Tree) : Type 0 where
  pub arena : IsArena new
  pub extends : Extends (trees old) (trees new)
  pub within : AreBelow (length (trees new)) is
  pub are : map (tree_at (trees new)) is ≡ ts

-- the limit that is passed, with the depth or the size, or the greatest number where it is more
abbrev pub IsLimit : Option Cause → Option Limit → Type 0
IsLimit c None = c ≡ None
IsLimit c (Some (TooDeep n)) = (depth : ℕ) × (c ≡ Some (too_deep depth)) ×
    (n ≡ min depth (2 ^ 64 - 1))
IsLimit c (Some (TooBig n)) = (size : ℕ) × (c ≡ Some (too_big size)) × (n ≡ min size (2 ^ 64 - 1))

-- the term is a node with the label
abbrev pub HasLabel : ℕ → Tree → Type 0
HasLabel label (node other kids) = label ≡ other
HasLabel label (lexeme kind text) = ⊥
HasLabel label (hole v) = ⊥

-- the first of the patterns that is a node has the label of the term at its place; where none is,
-- there are no fewer terms than patterns
abbrev pub FirstLabelFits : List Tree → List Tree → Type 0
FirstLabelFits [] ts = Unit {0}
FirstLabelFits (p ∷ ps) [] = ⊥
FirstLabelFits (node label kids ∷ ps) (t ∷ ts) = HasLabel label t
FirstLabelFits (lexeme kind text ∷ ps) (t ∷ ts) = FirstLabelFits ps ts
FirstLabelFits (hole v ∷ ps) (t ∷ ts) = FirstLabelFits ps ts

-- the patterns match the terms under no bindings
abbrev pub NeverFit : List Tree → List Tree → Type 0
NeverFit ps ts = (env : Assignment) → match_all ps ts env ≡ None
