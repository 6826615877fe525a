-- The stop of a rule that is refused.
use Rattle.std.proofs.Common.{◌≡◌, Some, refl, sym, ap, ◌∙◌}
use Rattle.sx_grammar.specs.Grammar.{Text}
use Rattle.sx_words.specs.declared.position.Position.TheVariants as place
use Rattle.sx_words.specs.declared.refusal.Defect.{Defect}
use Rattle.sx_words.specs.declared.refusal.Defect.TheVariants as defect
use Rattle.sx_steps.specs.Stops.{defect_at}
use Rattle.sx_extcheck.specs.Agree.{DefectData, unsound, other, defect_as_data}
use Rattle.sx_extcheck.specs.declared.rule_refusal.RuleRefusal.{RuleRefusal}
use Rattle.sx_extcheck.specs.declared.rule_refusal.RuleRefusal.TheVariants.{Rejected, BudgetSpent}
use Rattle.sx_extcheck.specs.declared.rule_refusal.RuleRefusal.TheVariants.{DepthSpent, TooDeep}
use Rattle.sx_extcheck.specs.declared.rule_refusal.RuleRefusal.TheVariants.{TooBig, RewriteSpent}
use Rattle.sx_extcheck.specs.declared.rule_refusal.RuleRefusal.TheVariants.{RewriteDeep}
use Rattle.sx_stuck.specs.StuckText.{stuck_text}
use Rattle.sx_accepting.specs.AcceptanceStops.{Refusing, telling_for, defect_of}
use Rattle.sx_accepting.specs.Refusals.{RefusedRulesStopAlike}

-- the defect by plain data
abbrev by_data : Refusing → Text → DefectData → Defect
by_data r name (unsound b) = defect.Goal (stuck_text (telling_for r name) b.goal b.reason)
by_data r name (other what) = defect_of r name what

is_by_data : (r : Refusing) (name : Text) (what : RuleRefusal) →
    defect_of r name what ≡ by_data r name (defect_as_data what)
is_by_data r name (Rejected b) = refl
is_by_data r name (BudgetSpent n) = refl
is_by_data r name (DepthSpent n) = refl
is_by_data r name (TooDeep n) = refl
is_by_data r name (TooBig n) = refl
is_by_data r name (RewriteSpent n) = refl
is_by_data r name RewriteDeep = refl

pub refused_rules_stop_alike : RefusedRulesStopAlike
refused_rules_stop_alike file r name one two same =
    ap (λ (what : Defect). Some (defect_at (place.Rule name) file what))
    (is_by_data r name one ∙ ap (by_data r name) same ∙ sym (is_by_data r name two))
