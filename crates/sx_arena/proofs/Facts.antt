-- Hypotheses as the arena grows.
use Rattle.std.proofs.Common.{List, [], ◌∷◌, length, ◌∙◌}
use Rattle.sx_term.specs.Tree.{Tree}
use Rattle.sx_rules.specs.Rules.{Judgement}
use Rattle.sx_rules.specs.Modes.{Modes}
use Rattle.sx_arena.specs.declared.fact.Fact.{Fact}
use Rattle.sx_arena.specs.Grown.{Extends}
use Rattle.sx_arena.specs.Facts.{IsFact, AreFacts}
use Rattle.sx_arena.proofs.Growing.{extends-length}
use Rattle.sx_arena.proofs.Arenas.{maps_same, below_more}

-- more terms change no hypothesis
pub fact_stays : (modes : Modes) (ts us : List Tree) → Extends ts us → (j : Judgement) (f : Fact) → IsFact modes ts j f → IsFact modes us j f
fact_stays modes ts us x j f h = record {
  form = h.form;
  inputs_below = below_more (length ts) (length us) (extends-length ts us x) f.inputs.items h.inputs_below;
  outputs_below = below_more (length ts) (length us) (extends-length ts us x) f.outputs.items h.outputs_below;
  inputs = maps_same ts us x f.inputs.items h.inputs_below ∙ h.inputs;
  outputs = maps_same ts us x f.outputs.items h.outputs_below ∙ h.outputs;
}

pub facts_stay : (modes : Modes) (ts us : List Tree) → Extends ts us → (js : List Judgement) (fs : List Fact) → AreFacts modes ts js fs → AreFacts modes us js fs
facts_stay modes ts us x [] [] a = tt
facts_stay modes ts us x [] (f ∷ fs) a = absurd a
facts_stay modes ts us x (j ∷ js) [] a = absurd a
facts_stay modes ts us x (j ∷ js) (f ∷ fs) a = (fact_stays modes ts us x j f a.0, facts_stay modes ts us x js fs a.1)
