-- Rules and what belongs to them as plain data.
use Rattle.std.specs.Prelude.{ℕ, List, [], map, slice_get, slice_index_or, Option, Some, None}
use Rattle.sx_term.specs.Tree.{Tree}
use Rattle.sx_term.specs.declared.term.Term.{Term}
use Rattle.sx_term.specs.Term.{tree}
pub use Rattle.sx_term.specs.Roles.{is_out, is_sub}
use Rattle.sx_rules.specs.declared.rule.Place.{Place}
use Rattle.sx_rules.specs.declared.rule.Form.{Form}
use Rattle.sx_rules.specs.declared.rule.Judgement.{Judgement as JudgementOf}
use Rattle.sx_rules.specs.declared.rule.Goal.{Goal as GoalOf}
use Rattle.sx_rules.specs.declared.rule.Premise.{Premise as PremiseOf}
use Rattle.sx_rules.specs.declared.rule.Premise.TheVariants.{Holds, Apart}
use Rattle.sx_rules.specs.declared.rule.Rule.{Rule as RuleOf}
use Rattle.sx_rules.specs.declared.rule.Hyps.{Hyps}
use Rattle.sx_rules.specs.Rules.{Judgement, Premise, holds, apart, Rule, Hypotheses}
use Rattle.sx_rules.specs.Modes.{Modes, Goal}
use Rattle.sx_rules.specs.Sorts.{FormSorts}

-- a judgement, a goal, a premise and a rule as plain data
abbrev pub judgement : JudgementOf → Judgement
judgement j = record { form = j.form; places = map tree j.places.items }

abbrev pub goal : GoalOf → Goal
goal g = record { form = g.form; terms = map tree g.inputs.items }

abbrev pub premise : PremiseOf → Premise
premise (Holds j) = holds (judgement j)
premise (Apart s t) = apart (tree s) (tree t)

abbrev pub rule : RuleOf → Rule
rule r = record {
  sorts = r.vars.items;
  premises = map premise r.premises.items;
  conclusion = judgement r.conclusion;
}

-- a pair of terms, and hypotheses
abbrev pub pair : Term × Term → Tree × Tree
pair p = (tree p.0, tree p.1)

abbrev pub hypotheses : Hyps → Hypotheses
hypotheses h = record { judgements = map judgement h.holds.items; pairs = map pair h.apart.items }

-- a form as plain data
pub record FormData : Type 0 where
  pub name : List ℕ
  pub places : List Place

-- the view of a form, and of forms
abbrev pub form : Form → FormData
form f = record { name = f.name; places = f.places.items }

abbrev pub forms : List Form → List FormData
forms fs = map form fs

-- a rule with its name
pub record NamedRule : Type 0 where
  pub name : List ℕ
  pub rule : Rule

-- the view of a rule with its name
abbrev pub named : RuleOf → NamedRule
named r = record { name = r.name; rule = rule r }

-- the name of the rule with a number; empty where there is no such rule
abbrev pub rule_name : List NamedRule → ℕ → List ℕ
rule_name rules number = slice_index_or (map (λ r. r.name) rules) number []

-- the places of a form, or none
abbrev pub places_or_none : Option FormData → List Place
places_or_none None = []
places_or_none (Some f) = f.places

-- the places of the form with a number; none where there is no such form
abbrev pub places_at : List FormData → ℕ → List Place
places_at fs n = places_or_none (slice_get fs n)

-- which places are outputs, which are subjects, and the sorts of the places
abbrev pub modes_of : List FormData → Modes
modes_of fs n = map (λ p. is_out p.role) (places_at fs n)

abbrev pub subjects_in : List FormData → Modes
subjects_in fs n = map (λ p. is_sub p.role) (places_at fs n)

abbrev pub sorts_of : List FormData → FormSorts
sorts_of fs n = map (λ p. p.sort) (places_at fs n)
