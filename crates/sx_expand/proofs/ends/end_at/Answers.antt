use Rattle.std.proofs.Common.{◌<◌, length, arith, ap, ◌∙◌}
use Rattle.sx_rules.specs.Sets.{bare_rules_in}
use Rattle.sx_rewrite.specs.AcceptedView.{accepted}
use Rattle.sx_expand.proofs.EndsAt.{listed-within, given-end, no-rule, node-at}
use Rattle.sx_expand.proofs.ends.end_at.Goals as goal
use Rattle.sx_expand.proofs.ends.end_at.Goals.{Start}

-- the entry is in the list
entry_is_there : (c : Start) → c.args.at < length c.args.list.now
entry_is_there c = listed-within (accepted c.args.set.now) c.args.list.now c.args.at c.requires.listed.0 c.requires.listed.1

pub entry_at-requires : goal.entry_at-requires
entry_at-requires c = entry_is_there (goal.at.entry_at-requires c).Start

pub overflow_add-at : goal.overflow_add-at
overflow_add-at c = let w = entry_is_there (goal.at.overflow_add-at c).Start in omega arith

pub after_kids-requires : goal.after_kids-requires
after_kids-requires c =
    let n = node-at (accepted c.args.set.now) c.args.list.now c.args.at c.entry_at.result c.in-Rule.number c.entry_at.ensures c.in-Rule.is c.rules.result.now.rules.items (ap bare_rules_in c.rules.ensures ∙ c.facts.ensures.rules)
    c.in-Some.rule.now c.in-Some.ensures c.deref.result.now c.deref.ensures.value c.args.ends.now c.requires.ends c.requires.listed.0 c.requires.listed.1 in
    (n.sizes, n.many, n.steps)

pub overflow_add-result : goal.overflow_add-result
overflow_add-result c = let w = entry_is_there (goal.at.overflow_add-result c).Start in omega arith

pub overflow_add-result-in-Given : goal.overflow_add-result-in-Given
overflow_add-result-in-Given c = let w = entry_is_there (goal.at.overflow_add-result-in-Given c).Start in omega arith

pub returns-in-Some : goal.returns-in-Some
returns-in-Some c p h =
    let n = node-at (accepted c.args.set.now) c.args.list.now c.args.at c.entry_at.result c.in-Rule.number c.entry_at.ensures c.in-Rule.is c.rules.result.now.rules.items (ap bare_rules_in c.rules.ensures ∙ c.facts.ensures.rules)
    c.in-Some.rule.now c.in-Some.ensures c.deref.result.now c.deref.ensures.value c.args.ends.now c.requires.ends p h in
    c.after_kids.ensures n.sizes n.many n.steps ∙ n.end

pub returns-in-None : goal.returns-in-None
returns-in-None c p h = absurd (no-rule (accepted c.args.set.now) c.args.list.now c.args.at c.entry_at.result c.in-Rule.number c.entry_at.ensures c.in-Rule.is c.rules.result.now.rules.items (ap bare_rules_in c.rules.ensures ∙ c.facts.ensures.rules) c.in-None.ensures p h)

pub returns-in-Given : goal.returns-in-Given
returns-in-Given c p h = given-end (accepted c.args.set.now) c.args.list.now c.args.at c.entry_at.result _ c.entry_at.ensures c.in-Given.is p h
