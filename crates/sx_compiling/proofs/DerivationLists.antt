-- The list of a unit is that of a derivation by the rules of the language.
use Rattle.std.proofs.Common.{◌≡◌, List, [], ◌∷◌, map, refl, ap, ◌∙◌, subst, arith}
use Rattle.std.specs.Prelude.{None}
use Rattle.sx_grammar.specs.Told.{shapes_of}
use Rattle.sx_rules.specs.declared.rule.Rule.{Rule as RuleOf}
use Rattle.sx_rules.specs.declared.rule_set.RuleSet.{RuleSet}
use Rattle.sx_rules.specs.Derivations.{Proof, Derives}
use Rattle.sx_rules.specs.First.{IsFirst}
use Rattle.sx_rules.specs.Modes.{AllModed}
use Rattle.sx_rules.specs.Rules.{Rule}
use Rattle.sx_rules.specs.Sets.{bare_rules_in, rules_in}
use Rattle.sx_rules.specs.Views.{modes_of, named, rule}
use Rattle.sx_rules.proofs.Refusals.{good_moded}
use Rattle.sx_rewrite.specs.Rewriting.{Rewritten}
use Rattle.sx_rewrite.specs.Stored.{signature_of}
use Rattle.sx_rewrite.proofs.Counted.{lowered_are_counted}
use Rattle.sx_rewrite.proofs.Lowerings.{lowered_are_derivations}
use Rattle.sx_audit.specs.Preorder.{IsDerivationList}
use Rattle.sx_extcheck.specs.declared.budgets.Budgets.{Budgets}
use Rattle.sx_typing.specs.Dialects.{DialectData, IsDialect}
use Rattle.sx_typing.specs.Goals.{dialect_rules, goal_with}
use Rattle.sx_typing.specs.Outcomes.{nameless}
use Rattle.sx_rules.specs.Rules.{no_hypotheses}
use Rattle.sx_typing.specs.Refused.{HasTyping}
use Rattle.sx_typing.proofs.Walks.{typings_are_first}
use Rattle.sx_unit.specs.Modules.{ModuleData}
use Rattle.sx_unit.specs.Unit.{IsUnitMade}
use Rattle.sx_unit.specs.Written.{UnitData}

module _ (m : ModuleData) (is : IsDialect m.source.dialect) (b : Budgets) (u : UnitData)
    (made : IsUnitMade m b u) where
  abbrev d : DialectData
  d = m.source.dialect

  abbrev typing : HasTyping m.source b.tries
  typing = made.lowering.typing

  abbrev low : Rewritten
  low = made.lowering.lowered

  moded : AllModed (modes_of d.language.forms) (dialect_rules d)
  moded = good_moded (shapes_of d.parts) d.language.forms [] d.rules is.rule_set.1

  first : IsFirst (modes_of d.language.forms) (dialect_rules d) no_hypotheses
      (goal_with m.source typing.body.subject) None typing.answer
  first =
      typings_are_first m.source b.tries typing.body.subject typing.output typing.answer moded
      typing.typed

  derived : Derives d.set.base no_hypotheses low.judgement low.proof
  derived =
      (lowered_are_derivations (signature_of d.language.forms) (shapes_of d.language.parts)
      (shapes_of d.parts) d.set is.accepted no_hypotheses (tt, tt) typing.answer.0 low.proof
      first.derives.0 low.judgement
      (subst (λ (rules : List Rule). Derives rules no_hypotheses first.derives.0 typing.answer.0)
      is.rules_are first.derives.3) made.lowering.rewriting.0).0

  -- by the rules without their names
  listed : IsDerivationList (nameless d.language.rules) u.list low.proof
  listed =
      let counted = lowered_are_counted (signature_of d.language.forms) d.set no_hypotheses
      typing.answer.0 low.proof low.judgement made.lowering.rewriting.0 in
      let height = counted.1 in
      let low_enough = made.lowering.rewriting.2.1 in
      record {
        judgement = low.judgement;
        derives = subst (λ (rules : List Rule). Derives rules no_hypotheses low.judgement
            low.proof) is.base derived;
        order = made.written.list;
        height = omega (arith, height, low_enough);
      }

  bare_same : (rs : List RuleOf) → nameless (map named rs) ≡ map rule rs
  bare_same [] = refl
  bare_same (r ∷ rs) = ap (λ (xs : List Rule). rule r ∷ xs) (bare_same rs)

  -- so it is by those of a rule set with these rules
  pub list_derives : (set : RuleSet) → d.language.rules ≡ rules_in set →
      (p : Proof) × IsDerivationList (bare_rules_in set) u.list p
  list_derives set same = (
    low.proof,
    subst (λ (rules : List Rule). IsDerivationList rules u.list low.proof)
        (ap nameless same ∙ bare_same set.rules.items) listed,
  )
