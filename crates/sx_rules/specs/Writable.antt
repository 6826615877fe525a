-- Terms of rules and judgements that have core texts.
use Rattle.std.specs.Prelude.{List, [], ◌∷◌}
use Rattle.sx_term.specs.Tree.{Tree}
use Rattle.sx_term.specs.Core.{HasCore}
use Rattle.sx_rules.specs.Rules.{Judgement, Premise, holds, apart, Rule}

-- each of the terms has a core text
abbrev pub HaveTexts : List Tree → Type 0
HaveTexts [] = Unit {0}
HaveTexts (t ∷ ts) = HasCore t × HaveTexts ts

-- so have the terms of each judgement
abbrev pub JudgementsHaveTexts : List Judgement → Type 0
JudgementsHaveTexts [] = Unit {0}
JudgementsHaveTexts (j ∷ js) = HaveTexts j.places × JudgementsHaveTexts js

-- so have the terms of each judgement among premises
abbrev pub PremisesHaveTexts : List Premise → Type 0
PremisesHaveTexts [] = Unit {0}
PremisesHaveTexts (holds j ∷ ps) = HaveTexts j.places × PremisesHaveTexts ps
PremisesHaveTexts (apart s t ∷ ps) = PremisesHaveTexts ps

-- so have the terms of each rule's judgements
abbrev pub RulesHaveTexts : List Rule → Type 0
RulesHaveTexts [] = Unit {0}
RulesHaveTexts (r ∷ rs) = (PremisesHaveTexts r.premises × HaveTexts r.conclusion.places) ×
    RulesHaveTexts rs
