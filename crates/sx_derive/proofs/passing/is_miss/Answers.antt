use Rattle.std.proofs.Common.{◌≡◌, ◌+◌, length, map, Some, sym, ap, ◌∙◌, arith, subst}
use Rattle.std.specs.Prelude.{slice_get}
use Rattle.sx_rules.specs.Modes.{inputs}
use Rattle.sx_arena.specs.Arena.{tree_at}
use Rattle.sx_arena.specs.Places.{NeverFit}
use Rattle.sx_arena.specs.Views.{rules_of, set_modes, rule_of}
use Rattle.sx_derive.specs.Store.{store_trees}
use Rattle.sx_arena.proofs.Ruled.{rule_found}
use Rattle.sx_derive.proofs.Passed.{got_less, given_missed, rule_missed}
use Rattle.sx_derive.proofs.Tasked.{facts_length}
use Rattle.sx_derive.proofs.passing.is_miss.Goals as goal
use Rattle.sx_derive.proofs.passing.is_miss.Goals.{After-is_other_rule}

pub returns-then-next-given-clause-nothing : goal.returns-then-next-given-clause-nothing
returns-then-next-given-clause-nothing c = λ e js a.
    given_missed (set_modes c.args.given.now.rules.now) (rules_of c.args.given.now.rules.now) c.args.given.now.pairs.now c.args.store.now c.args.task.now c.args.next js c.args.given.now.facts.now c.requires.store c.requires.terms a c.if-next-given.true c.index-given-next.result
    (c.is_other_fact.ensures e)

-- the rule with the number
found : (c : After-is_other_rule) → slice_get (rules_of c.args.given.now.rules.now) c.in-Ok.number ≡ Some (rule_of c.in-Some.rule.now)
found c = rule_found c.args.given.now.rules.now.rules.items c.in-Ok.number c.in-Some.rule.now c.in-Some.ensures

pub returns-in-Some-clause-there : goal.returns-in-Some-clause-there
returns-in-Some-clause-there c = λ e.
    let l = got_less (rules_of c.args.given.now.rules.now) c.in-Ok.number (rule_of c.in-Some.rule.now) (found c) in
    let z = c.if-next-given.false in
    let n = c.in-Ok.ensures in
    omega arith

pub returns-in-Some-clause-nothing : goal.returns-in-Some-clause-nothing
returns-in-Some-clause-nothing c = λ e js a.
    let k = facts_length (set_modes c.args.given.now.rules.now) (store_trees c.args.store.now) js c.args.given.now.facts.now a in
    let z = c.if-next-given.false in
    let m = c.in-Ok.ensures in
    let n : c.args.next ≡ length js + c.in-Ok.number = omega arith in
    rule_missed (set_modes c.args.given.now.rules.now) (rules_of c.args.given.now.rules.now) c.args.given.now.pairs.now c.args.store.now c.args.task.now c.args.next js c.in-Ok.number (rule_of c.in-Some.rule.now) n (found c)
    (λ f. subst (λ mask. NeverFit (inputs mask (rule_of c.in-Some.rule.now).conclusion.places) (map (tree_at (store_trees c.args.store.now)) c.args.task.now.terms.items))
    (c.requires.places ∙ ap (set_modes c.args.given.now.rules.now) (sym f)) (c.is_other_rule.ensures e f))
