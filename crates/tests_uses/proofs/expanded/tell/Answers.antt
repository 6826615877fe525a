use Rattle.sx_rules.specs.Views.{goal as goal_of}
use Rattle.tests_uses.proofs.Compared.{answers-found}
use Rattle.tests_uses.proofs.expanded.tell.Goals as goal

pub compare-requires-clause-listed : goal.compare-requires-clause-listed
compare-requires-clause-listed g c =
    answers-found c.args.set.now c.facts.ensures.accepted c.facts.ensures.rules c.facts.ensures.forms c.rules-rules.result.now c.rules-rules.ensures c.no_hypotheses-none.result c.no_hypotheses-none.ensures.holds c.no_hypotheses-none.ensures.apart
    (goal_of c.args.asked.goal.now) c.requires.shallow c.requires.sorted 1000 c.derive_list-listed.result c.derive-derived.result c.in-Ok.listed c.in-Ok-derived.derived c.deref.result.now c.deref-in-Ok-derived.result.now
    c.in-Ok.is c.in-Ok-derived.is c.deref.ensures.value c.deref-in-Ok-derived.ensures c.derive_list-listed.ensures.first c.derive-derived.ensures.answer
