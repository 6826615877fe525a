-- The terms of a rule that are measured before it is checked.
use Rattle.std.specs.Prelude.{
  ◌≤◌,
  Bool,
  true,
  false,
  List,
  [],
  ◌∷◌,
  ◌++◌,
  Option,
  Some,
  None,
  map,
  option_map,
}
use Rattle.std.specs.List.{AllByRecursion}
use Rattle.sx_term.specs.Tree.{Tree, depth_of}
use Rattle.sx_rules.specs.Rules.{Premise, holds, apart}
use Rattle.sx_rules.specs.Modes.{Modes, inputs, outputs}
use Rattle.sx_rules.specs.Discipline.{subjects_of}
use Rattle.sx_rules.specs.Typed.{others_of}
use Rattle.sx_plain.specs.Plain.{Table, image}
use Rattle.sx_plain.specs.Tables.{FitsTable}
use Rattle.sx_rewrite.specs.Accepted.{ExtRule}
use Rattle.sx_rewrite.specs.PlainRules.{image_judgement, image_premise}
use Rattle.sx_term.specs.Limits.{most_depth}

-- the terms of the premises in order: the places of each judgement, and both sides where two
-- terms are to be apart
abbrev pub premise_terms : List Premise → List Tree
premise_terms [] = []
premise_terms (holds j ∷ ps) = j.places ++ premise_terms ps
premise_terms (apart t u ∷ ps) = t ∷ u ∷ premise_terms ps

-- the term, where there is one
abbrev pub listed_term : Option Tree → List Tree
listed_term None = []
listed_term (Some t) = t ∷ []

-- The measured terms, in order: those of the plain rule's premises, the places of its conclusion
-- that are no subjects, the body with plain images, and the subject of the plain rule. The plain
-- premises are the flat ones, since the subject of a premise is a variable.
abbrev pub flat_terms : Table → Modes → ExtRule → List Tree
flat_terms table subjects ext =
    premise_terms (map (image_premise table) ext.rule.premises)
    ++ (others_of subjects (image_judgement table ext.rule.conclusion)
    ++ (listed_term (option_map (image table) ext.body)
    ++ subjects_of subjects (image_judgement table ext.rule.conclusion)))

-- the term is no deeper than 1,000, and each of its nodes has as many parts as the table asks for
abbrev pub CanMeasure : Table → Tree → Type 0
CanMeasure table t = (depth_of t ≤ most_depth) × FitsTable table t

-- so it is of the terms of the premise
abbrev pub PremiseCanMeasure : Table → Premise → Type 0
PremiseCanMeasure table (holds j) = AllByRecursion (CanMeasure table) j.places
PremiseCanMeasure table (apart t u) = CanMeasure table t × CanMeasure table u

-- and of all terms of the rule and of its body
pub record RuleCanMeasure (table : Table) (ext : ExtRule) : Type 0 where
  pub premises : AllByRecursion (PremiseCanMeasure table) ext.rule.premises
  pub conclusion : AllByRecursion (CanMeasure table) ext.rule.conclusion.places
  pub body : AllByRecursion (CanMeasure table) (listed_term ext.body)

-- the terms at the subject places, or those at the others
abbrev pub picked : Bool → List Bool → List Tree → List Tree
picked true marks ts = outputs marks ts
picked false marks ts = inputs marks ts
