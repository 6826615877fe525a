-- Terms that are put for variables, as the code holds them.
use Rattle.std.specs.Prelude.{◌≡◌, List, [], map, Option, Some, None}
use Rattle.sx_term.specs.Tree.{Tree}
use Rattle.sx_term.specs.Term.{tree}
use Rattle.sx_term.specs.Instances.{bound_by}
use Rattle.sx_rules.specs.Rules.{Rule, judgement_instance}
use Rattle.sx_rewrite.specs.declared.put_terms.PutTerms.{PutTerms}
use Rattle.sx_rewrite.specs.Puts.{AreMeasuresOf, AreMadeOf}

-- these are put: each is measured, and made where it passes no limit
abbrev pub ArePut : List Tree → PutTerms → Type 0
ArePut more p = AreMeasuresOf more p.measures.items × AreMadeOf more (map tree p.terms.items)

-- these are put: each is measured and made
abbrev pub ArePutsMade : List Tree → PutTerms → Type 0
ArePutsMade ts p = AreMeasuresOf ts p.measures.items × (map tree p.terms.items ≡ ts)

-- the places of the conclusion of a node by the rule, or none where there is no rule
abbrev pub conclusion_terms : Option Rule → List Tree → List Tree
conclusion_terms None binds = []
conclusion_terms (Some rule) binds = (judgement_instance (bound_by binds) rule.conclusion).places
