-- Hypotheses by the numbers of their terms.
use Rattle.std.specs.Prelude.{◌≡◌, List, [], ◌∷◌, map, length}
use Rattle.sx_term.specs.Tree.{Tree}
use Rattle.sx_rules.specs.Rules.{Judgement}
use Rattle.sx_rules.specs.Modes.{Modes, inputs_of, outputs_of}
use Rattle.sx_arena.specs.declared.fact.Fact.{Fact}
use Rattle.sx_arena.specs.Arena.{tree_at, AreBelow}

-- the judgement by its numbers
pub record IsFact (modes : Modes) (ts : List Tree) (j : Judgement) (f : Fact) : Type 0 where
  pub form : f.form ≡ j.form
  pub inputs_below : AreBelow (length ts) f.inputs.items
  pub outputs_below : AreBelow (length ts) f.outputs.items
  pub inputs : map (tree_at ts) f.inputs.items ≡ inputs_of modes j
  pub outputs : map (tree_at ts) f.outputs.items ≡ outputs_of modes j

abbrev pub AreFacts : Modes → List Tree → List Judgement → List Fact → Type 0
AreFacts modes ts [] [] = Unit {0}
AreFacts modes ts (j ∷ js) (f ∷ fs) = IsFact modes ts j f × AreFacts modes ts js fs
AreFacts modes ts _ _ = ⊥
