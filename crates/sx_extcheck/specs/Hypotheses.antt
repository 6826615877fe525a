-- The plain premises of a rule, as hypotheses.
use Rattle.std.specs.Prelude.{List, ◌++◌, map}
use Rattle.sx_rules.specs.Rules.{Premise, Hypotheses, judgements_of}
use Rattle.sx_plain.specs.Plain.{Table}
use Rattle.sx_rewrite.specs.Flat.{flat_pairs}
use Rattle.sx_rewrite.specs.PlainRules.{image_judgement}

-- the premises with plain images in all their places, as hypotheses; they are the flat premises,
-- where the subject of each is a variable
abbrev pub plain_given : Table → List Premise → Hypotheses
plain_given table ps = record {
  judgements = map (image_judgement table) (judgements_of ps);
  pairs = flat_pairs table ps;
}

-- these hypotheses, and then those
abbrev pub both_given : Hypotheses → Hypotheses → Hypotheses
both_given g h = record { judgements = g.judgements ++ h.judgements; pairs = g.pairs ++ h.pairs }
