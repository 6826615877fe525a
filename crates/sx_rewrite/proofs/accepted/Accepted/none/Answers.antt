use Rattle.std.proofs.Common.{List, map, sym, ap, ◌∙◌, subst}
use Rattle.sx_term.specs.Sorts.{Shape}
use Rattle.sx_term.specs.Untyped.{PlainHaveNoTyped}
use Rattle.sx_rules.specs.Sets.{shapes_in, forms_in, bare_rules_in}
use Rattle.sx_rules.specs.Views.{FormData, NamedRule, subjects_in, sorts_of}
use Rattle.sx_plain.specs.Views.{table_of}
use Rattle.sx_rewrite.specs.Extensions.{without_extensions}
use Rattle.sx_rewrite.specs.PlainRules.{plain_named}
use Rattle.sx_rewrite.specs.Kinds.{HaveSortsFor}
use Rattle.sx_rewrite.proofs.Begun.{begins-as, begins-sound, begins-held, same-bare}
use Rattle.sx_rewrite.proofs.PlainGood.{none-stay}
use Rattle.sx_rewrite.proofs.SizedSets.{sizes-none}
use Rattle.sx_rewrite.proofs.accepted.Accepted.none.Goals as goal

pub invariant_of-result-clause-held : goal.invariant_of-result-clause-held
invariant_of-result-clause-held c =
    let own = c.in_ok-own.own in
    let own_is = c.in_ok-own.ensures in
    let rules = c.in-Ok.field-0.rules in
    let rules_are = c.in-Ok.ensures.rules in
    ∣ begins-held (shapes_in own) (shapes_in rules) (forms_in own) (forms_in rules) own.rules.items rules.rules.items (table_of c.new.result) c.new-in-Ok.result.items
    (rules_are.0 ∙ sym own_is.0) (rules_are.1 ∙ sym own_is.1) (rules_are.2 ∙ sym own_is.2) c.new.ensures.none c.new-in-Ok.ensures.items c.facts-2.ensures.good
    (subst (λ (x : List Shape). PlainHaveNoTyped x) (sym own_is.0) c.requires.no_typed) (subst (λ (x : List FormData). HaveSortsFor x) (sym own_is.1) c.requires.forms) ∣₁

pub invariant_of-result-clause-sound : goal.invariant_of-result-clause-sound
invariant_of-result-clause-sound c =
    let own = c.in_ok-own.own in
    begins-sound (subjects_in (forms_in own)) _ (bare_rules_in own) (bare_rules_in c.in-Ok.field-0.rules) (table_of c.new.result) c.new-in-Ok.result.items c.new.ensures.none c.new-in-Ok.ensures.items

pub invariant_of-result-clause-plain_are : goal.invariant_of-result-clause-plain_are
invariant_of-result-clause-plain_are c =
    let base = c.args.base.now in
    let table = table_of c.new.result in
    let rules_are = c.in-Ok.ensures.rules in
    let plain_are = c.in-Ok.ensures.plain in
    let stay = none-stay table c.new.ensures.none (shapes_in base) (sorts_of (forms_in base)) base.rules.items c.facts.ensures.sorted in
    ∣ record {
      shapes_are = plain_are.0 ∙ sym rules_are.0;
      forms_are = plain_are.1 ∙ sym c.in_ok-own.ensures.1;
      rules_are = plain_are.2 ∙ sym stay ∙ ap (λ (x : List NamedRule). map (plain_named table) x) (sym rules_are.2);
    } ∣₁

pub invariant_of-result-clause-sized : goal.invariant_of-result-clause-sized
invariant_of-result-clause-sized c = ∣ sizes-none _ _ _ c.new-in-Ok.ensures.items c.new-in-Ok-2.ensures.items ∣₁

pub returns-in-Ok-clause-set : goal.returns-in-Ok-clause-set
returns-in-Ok-clause-set c =
    let own = c.in_ok-own.own in
    begins-as (bare_rules_in own) (bare_rules_in c.in-Ok.field-0.rules) (table_of c.new.result) c.new-in-Ok.result.items c.new.ensures.none c.new-in-Ok.ensures.items
    ∙ ap without_extensions (same-bare own.rules.items c.args.base.now.rules.items c.in_ok-own.ensures.2)
