use Rattle.sx_rules.specs.EntryView.{entries}
use Rattle.sx_rules.specs.ProofView.{proof}
use Rattle.sx_rules.specs.Views.{goal as goal_of}
use Rattle.tests_uses.proofs.FromHeld.{held-near, held-given, held-good, held-listed, held-boxed}
use Rattle.tests_uses.proofs.opened.compare.Goals as goal

pub expand_open-expanded-requires-clause-given : goal.expand_open-expanded-requires-clause-given
expand_open-expanded-requires-clause-given c = held-given c.args.set.now c.args.given.now c.requires.held

pub rewrite_open-rewritten-requires-clause-given : goal.rewrite_open-rewritten-requires-clause-given
rewrite_open-rewritten-requires-clause-given c = held-good c.args.set.now c.args.given.now c.requires.held

pub is_certified-requires-clause-given : goal.is_certified-requires-clause-given
is_certified-requires-clause-given c = held-near c.args.set.now.base c.args.given.now c.requires.held

pub is_certified-requires-clause-places : goal.is_certified-requires-clause-places
is_certified-requires-clause-places c =
    let r = c.requires.listed in
    (held-listed c.args.set.now c.facts.ensures.accepted c.args.given.now c.requires.held (goal_of c.args.asked.goal.now) c.requires.sorted (entries c.args.list.now) (proof c.args.proof.now, r.0) r.1 c.args.asked.nodes
    c.expand_open-expanded.result c.in-Ok.one c.in-Ok.is (c.expand_open-expanded.ensures (proof c.args.proof.now, r.0) r.1)).0

pub is_certified-requires-clause-listed : goal.is_certified-requires-clause-listed
is_certified-requires-clause-listed c =
    let r = c.requires.listed in
    (held-listed c.args.set.now c.facts.ensures.accepted c.args.given.now c.requires.held (goal_of c.args.asked.goal.now) c.requires.sorted (entries c.args.list.now) (proof c.args.proof.now, r.0) r.1 c.args.asked.nodes
    c.expand_open-expanded.result c.in-Ok.one c.in-Ok.is (c.expand_open-expanded.ensures (proof c.args.proof.now, r.0) r.1)).1

pub is_certified-requires-clause-boxed : goal.is_certified-requires-clause-boxed
is_certified-requires-clause-boxed c =
    let r = c.requires.listed in
    (held-boxed c.args.set.now c.facts.ensures.accepted c.args.given.now c.requires.held (goal_of c.args.asked.goal.now) c.requires.sorted (entries c.args.list.now) (proof c.args.proof.now, r.0) r.1 c.args.asked.nodes
    c.rewrite_open-rewritten.result c.in-Ok-rewritten.other c.in-Ok-rewritten.is c.rewrite_open-rewritten.ensures).2

pub both-requires-clause-one : goal.both-requires-clause-one
both-requires-clause-one c =
    let r = c.requires.listed in
    (held-listed c.args.set.now c.facts.ensures.accepted c.args.given.now c.requires.held (goal_of c.args.asked.goal.now) c.requires.sorted (entries c.args.list.now) (proof c.args.proof.now, r.0) r.1 c.args.asked.nodes
    c.expand_open-expanded.result c.in-Ok.one c.in-Ok.is (c.expand_open-expanded.ensures (proof c.args.proof.now, r.0) r.1)).0

pub both-requires-clause-other : goal.both-requires-clause-other
both-requires-clause-other c =
    let r = c.requires.listed in
    (held-boxed c.args.set.now c.facts.ensures.accepted c.args.given.now c.requires.held (goal_of c.args.asked.goal.now) c.requires.sorted (entries c.args.list.now) (proof c.args.proof.now, r.0) r.1 c.args.asked.nodes
    c.rewrite_open-rewritten.result c.in-Ok-rewritten.other c.in-Ok-rewritten.is c.rewrite_open-rewritten.ensures).0

pub both-requires-clause-height : goal.both-requires-clause-height
both-requires-clause-height c =
    let r = c.requires.listed in
    (held-boxed c.args.set.now c.facts.ensures.accepted c.args.given.now c.requires.held (goal_of c.args.asked.goal.now) c.requires.sorted (entries c.args.list.now) (proof c.args.proof.now, r.0) r.1 c.args.asked.nodes
    c.rewrite_open-rewritten.result c.in-Ok-rewritten.other c.in-Ok-rewritten.is c.rewrite_open-rewritten.ensures).1
