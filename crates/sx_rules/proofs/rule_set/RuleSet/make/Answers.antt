use Rattle.std.proofs.Common.{◌≤◌, List, [], length, map, sym, subst, refl, Err, arith}
use Rattle.std.proofs.lemmas.List.{length-map}
use Rattle.sx_rules.specs.declared.error.RuleError.{RuleError}
use Rattle.sx_rules.specs.declared.error.RuleError.TheVariants.{Memory, TooManyRules, TooManyVars}
use Rattle.sx_rules.specs.declared.error.RuleError.TheVariants.{SameRule, SortDiffers, Discipline}
use Rattle.sx_rules.specs.declared.error.RuleError.TheVariants.{NotModed}
use Rattle.sx_rules.specs.declared.rule.Rule.{Rule}
use Rattle.sx_rules.specs.declared.rule.Form.{Form}
use Rattle.sx_term.specs.Shapes.{shapes}
use Rattle.sx_term.specs.Sorts.{Shape}
use Rattle.sx_rules.specs.Deep.{RulesAreShallow}
use Rattle.sx_rules.specs.Good.{AreChecked, AllGood, IsRuleSetRefused}
use Rattle.sx_rules.specs.Views.{FormData, NamedRule, forms, named, rule}
use Rattle.sx_rules.proofs.rule_set.RuleSet.make.Goals as goal

-- what is refused of rules that are not too many
refused_so : (all : List Shape) (known : List FormData) (rs : List NamedRule) (e : RuleError) → length rs ≤ 4096 → AreChecked all known [] rs (Err e) → IsRuleSetRefused all known rs e
refused_so all known rs Memory few h = h
refused_so all known rs TooManyRules few h = absurd h
refused_so all known rs (TooManyVars name) few h = (few, h)
refused_so all known rs (SameRule name) few h = (few, h)
refused_so all known rs (SortDiffers name) few h = (few, h)
refused_so all known rs (Discipline name part premise) few h = (few, h)
refused_so all known rs (NotModed name variable) few h = (few, h)

pub returns-then-len-gt-MOST_RULES : goal.returns-then-len-gt-MOST_RULES
returns-then-len-gt-MOST_RULES c = omega (arith, c.if-len-gt-MOST_RULES.true, c.len.ensures, length-map c.args.rules.items named)

pub checked_names-requires : goal.checked_names-requires
checked_names-requires c = subst (λ (rs : List Rule). RulesAreShallow (map rule rs)) (sym c.deref-2.ensures.value) c.requires

pub returns-in-Err : goal.returns-in-Err
returns-in-Err c =
    let all = shapes c.args.all.now in
    let few : length (map named c.args.rules.items) ≤ 4096 = omega (arith, c.if-len-gt-MOST_RULES.false, c.len.ensures, length-map c.args.rules.items named) in
    let over = subst (λ (fs : List Form). AreChecked all (forms fs) [] (map named c.deref-2.result.now) (Err c.in-Err.e)) c.deref.ensures.value c.in-Err.ensures.refused in
    refused_so all (forms c.args.known.items) (map named c.args.rules.items) c.in-Err.e few
    (subst (λ (rs : List Rule). AreChecked all (forms c.args.known.items) [] (map named rs) (Err c.in-Err.e)) c.deref-2.ensures.value over)

pub returns : goal.returns
returns c =
    let all = shapes c.args.all.now in
    let few : length (map named c.args.rules.items) ≤ 4096 = omega (arith, c.if-len-gt-MOST_RULES.false, c.len.ensures, length-map c.args.rules.items named) in
    let over = subst (λ (fs : List Form). AllGood all (forms fs) [] (map named c.deref-2.result.now)) c.deref.ensures.value c.in-Ok.ensures.good.0 in
    let good = subst (λ (rs : List Rule). AllGood all (forms c.args.known.items) [] (map named rs)) c.deref-2.ensures.value over in
    (c.in-Ok-copy.ensures, refl, refl, (few, good))
