use Rattle.sx_rules.specs.Views.{goal as goal_of}
use Rattle.tests_uses.proofs.FromHeld.{held-few, held-near, open-answers}
use Rattle.tests_uses.proofs.opened.tell.Goals as goal

pub derive_list-listed-requires-clause-few : goal.derive_list-listed-requires-clause-few
derive_list-listed-requires-clause-few g c = held-few c.args.set.now.base c.args.given.now c.requires.held

pub derive_list-listed-requires-clause-holds : goal.derive_list-listed-requires-clause-holds
derive_list-listed-requires-clause-holds g c = held-near c.args.set.now.base c.args.given.now c.requires.held

pub derive-derived-requires-clause-few : goal.derive-derived-requires-clause-few
derive-derived-requires-clause-few g c = held-few c.args.set.now.base c.args.given.now c.requires.held

pub derive-derived-requires-clause-holds : goal.derive-derived-requires-clause-holds
derive-derived-requires-clause-holds g c = held-near c.args.set.now.base c.args.given.now c.requires.held

pub compare-requires-clause-listed : goal.compare-requires-clause-listed
compare-requires-clause-listed g c =
    open-answers c.args.set.now c.facts.ensures.accepted c.facts.ensures.plain_rules c.facts.ensures.plain.forms_are c.plain_rules-rules.result.now c.plain_rules-rules.ensures c.args.given.now c.requires.held
    (goal_of c.args.asked.goal.now) c.requires.shallow c.requires.sorted 1000 c.derive_list-listed.result c.derive-derived.result c.in-Ok.listed c.in-Ok-derived.derived c.deref.result.now c.deref-in-Ok-derived.result.now
    c.in-Ok.is c.in-Ok-derived.is c.deref.ensures.value c.deref-in-Ok-derived.ensures c.derive_list-listed.ensures.first c.derive-derived.ensures.answer
