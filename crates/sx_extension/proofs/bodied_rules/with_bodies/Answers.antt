use Rattle.std.proofs.Common.{refl, arith}
use Rattle.std.specs.Prelude.{option_map, IsSome}
use Rattle.sx_term.specs.Term.{tree}
use Rattle.sx_rules.specs.Views.{named}
use Rattle.sx_extension.proofs.Joined.{joins_more, joined_all, last_of, lose_one, none_left}
use Rattle.sx_extension.proofs.Joined.{as_empty}
use Rattle.sx_extension.proofs.bodied_rules.with_bodies.Goals as goal

pub loop-rule-preserved : goal.loop-rule-preserved
loop-rule-preserved c =
    let rules = c.loop-rule.rules.items in
    let bodies = c.loop-rule.bodies.items in
    let here = c.in-Some.rule in
    let body = c.flatten-body.result in
    let more = c.in-Some.ensures.variant.0 refl in
    let there : IsSome c.pop-in-Some.result = c.pop-in-Some.ensures.variant.1
    (omega (arith, more, c.loop-rule.invariant.long)) in
    let lost = last_of bodies c.pop-in-Some.new.self.items c.pop-in-Some.result body
    c.pop-in-Some.ensures.items there c.flatten-body.ensures in
    record {
      long = lose_one rules c.pop.new.self.items here bodies c.pop-in-Some.new.self.items body
          c.in-Some.ensures.items lost c.loop-rule.invariant.long;
      rules = joins_more named (λ e. named e.rule) rules c.pop.new.self.items c.args.rules.items
          here c.loop-rule.joined.items c.push.new.self.items (record { rule = here; body = body })
          c.in-Some.ensures.items c.in_ok-push.ensures.items refl c.loop-rule.invariant.rules;
      bodies = joins_more (option_map tree) (λ e. option_map tree e.body) bodies
          c.pop-in-Some.new.self.items c.args.bodies.items body c.loop-rule.joined.items
          c.push.new.self.items (record { rule = here; body = body }) lost
          c.in_ok-push.ensures.items refl c.loop-rule.invariant.bodies;
    }

pub returns-clause-rules : goal.returns-clause-rules
returns-clause-rules c =
    let none = none_left c.loop-rule.rules.items c.pop.result _ (omega arith) c.pop.ensures.variant
    c.in_default.not-Some in
    joined_all named (λ e. named e.rule) c.loop-rule.rules.items c.args.rules.items
    c.loop-rule.joined.items c.reverse.new.self.items none c.reverse.ensures.items
    c.loop-rule.invariant.rules

pub returns-clause-bodies : goal.returns-clause-bodies
returns-clause-bodies c =
    let none = none_left c.loop-rule.rules.items c.pop.result _ (omega arith) c.pop.ensures.variant
    c.in_default.not-Some in
    joined_all (option_map tree) (λ e. option_map tree e.body) c.loop-rule.bodies.items
    c.args.bodies.items c.loop-rule.joined.items c.reverse.new.self.items
    (as_empty c.loop-rule.rules.items c.loop-rule.bodies.items c.loop-rule.invariant.long none)
    c.reverse.ensures.items c.loop-rule.invariant.bodies
