-- The plain rules of an accepted set with an extension after it.
use Rattle.std.proofs.Common.{◌≡◌, List, ◌++◌, map, sym, subst}
use Rattle.sx_term.specs.Sorts.{Shape}
use Rattle.sx_rules.specs.Rules.{Rule}
use Rattle.sx_rules.specs.Sorts.{RulesAreSorted}
use Rattle.sx_rules.specs.declared.rule.Rule.{Rule as RuleOf}
use Rattle.sx_rules.specs.Views.{FormData, NamedRule, subjects_in, sorts_of, named, rule}
use Rattle.sx_rules.specs.Good.{IsRuleSet}
use Rattle.sx_plain.specs.Plain.{Table}
use Rattle.sx_rewrite.specs.declared.ext_rule.ExtRule.{ExtRule as ExtRuleOf}
use Rattle.sx_rewrite.specs.Accepted.{ExtRule, Accepted, extended_rules, IsAccepted}
use Rattle.sx_rewrite.specs.PlainRules.{plain_named}
use Rattle.sx_rewrite.specs.Extensions.{FitsRules}
use Rattle.sx_rewrite.specs.Stored.{signature_of}
use Rattle.sx_rewrite.proofs.Growing.{longer}
use Rattle.sx_rewrite.proofs.PlainGood.{plain-set, plain-grown}

module _ (base shapes all : List Shape) (forms own plain_forms : List FormData) (a : Accepted) (other : Table) (exts : List ExtRule) (rs : List RuleOf) (es : List ExtRuleOf) (ps : List NamedRule)
    (ok : IsAccepted (signature_of forms) base shapes a) (x : FitsRules (signature_of forms) base shapes all a.table other exts) (rules_are : map rule rs ≡ extended_rules a)
    (plain_are : ps ≡ map (plain_named a.table) (map named rs)) where
  pub plain-added : ps ++ map (λ e. plain_named other (named e.rule)) es ≡ map (plain_named other) (map named rs ++ map (λ e. named e.rule) es)
  plain-added =
      plain-grown shapes (sorts_of forms) (subjects_in forms) a.table other x.goes_on.keeps ps rs es (subst (λ (y : List Rule). RulesAreSorted shapes (sorts_of forms) y) (sym rules_are) ok.sorted) plain_are

  pub plain-added-good : own ≡ forms → plain_forms ≡ forms → IsRuleSet all own (map named rs ++ map (λ e. named e.rule) es) → IsRuleSet all plain_forms (ps ++ map (λ e. plain_named other (named e.rule)) es)
  plain-added-good forms_are plain_forms_are good =
      let first = longer (signature_of forms) base shapes all a other ok x.goes_on in
      let named_good = subst (λ (y : List FormData). IsRuleSet all y (map named rs ++ map (λ e. named e.rule) es)) forms_are good in
      let plain_good = plain-set base all forms other first.begins first.no_typed ok.fits ok.typed first.desugars (map named rs ++ map (λ e. named e.rule) es) named_good in
      let moved = subst (λ (y : List NamedRule). IsRuleSet all forms y) (sym plain-added) plain_good in
      subst (λ (y : List FormData). IsRuleSet all y (ps ++ map (λ e. plain_named other (named e.rule)) es)) (sym plain_forms_are) moved
