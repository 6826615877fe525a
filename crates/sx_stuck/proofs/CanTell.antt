-- Stuck goals that are well sorted can be told.
use Rattle.std.proofs.Common.{List, [], length, sym, subst}
use Rattle.std.specs.Prelude.{unwrap_or}
use Rattle.sx_term.specs.Sorts.{Shape}
use Rattle.sx_term.specs.declared.sort.Sort.{Sort}
use Rattle.sx_grammar.specs.Parts.{Parts, numbered}
use Rattle.sx_grammar.specs.Told.{shapes_of}
use Rattle.sx_rules.specs.Deep.{AreShallow}
use Rattle.sx_rules.specs.Modes.{outputs}
use Rattle.sx_rules.specs.Views.{FormData, modes_of, sorts_of}
use Rattle.sx_derive.specs.BlameTerms.{got_in}
use Rattle.sx_derive.specs.Stuck.{Reason, no_rule, unequal, mismatch}
use Rattle.sx_notation.specs.Forms.{HasForms, GoalFits}
use Rattle.sx_notation.specs.RuleLaws.{MayHaveSorts}
use Rattle.sx_notation.specs.RuleParts.{rule_parts}
use Rattle.sx_notation.proofs.RuleGrammars.{forms_follow, sorted_goals_fit}
use Rattle.sx_stuck.specs.StuckGoals.{GotIsSorted}
use Rattle.sx_stuck.specs.StuckText.{shown_got}
use Rattle.sx_stuck.specs.ToldGoals.{SortedBlamesCanBeTold}

-- the outputs that are shown are well sorted and no deeper than 1,000
got_sorted : (shapes : List Shape) (vars : List Sort) (reason : Reason) (sorts : List Sort) → GotIsSorted shapes vars reason sorts → MayHaveSorts shapes vars (shown_got reason) sorts
got_sorted shapes vars no_rule sorts h = tt
got_sorted shapes vars (unequal rule premise) sorts h = tt
got_sorted shapes vars (mismatch by got) sorts h = h

got_shallow : (reason : Reason) → AreShallow (got_in reason) → AreShallow (unwrap_or (shown_got reason) [])
got_shallow no_rule h = tt
got_shallow (unequal rule premise) h = tt
got_shallow (mismatch by got) h = h

pub sorted_blames_can_be_told : SortedBlamesCanBeTold
sorted_blames_can_be_told p t vars blame grammar r named b shallow = record {
  follow = subst (λ (q : Parts). HasForms q t.forms) (sym r.read_by) (subst (λ (known : List FormData). HasForms (rule_parts p r.lines) known) (sym r.forms) (forms_follow p r.lines r.known));
  fits = subst (λ (q : Parts). GoalFits (numbered q) (length t.names) t.forms blame.goal (shown_got blame.reason)) (sym r.read_by)
      (sorted_goals_fit p r.lines t.forms b.form vars (length t.names) blame.goal (shown_got blame.reason) grammar named b.is b.sorted
      (got_sorted (shapes_of p) vars blame.reason (outputs (modes_of t.forms blame.goal.form) (sorts_of t.forms blame.goal.form)) b.got));
  inputs = shallow.0;
  outputs = got_shallow blame.reason shallow.1;
}
