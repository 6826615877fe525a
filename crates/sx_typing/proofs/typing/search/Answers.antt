use Rattle.std.proofs.Common.{None}
use Rattle.sx_term.specs.Term.{tree}
use Rattle.sx_rules.specs.Sets.{forms_in}
use Rattle.sx_rules.specs.Views.{goal as goal_of, modes_of, subjects_in}
use Rattle.sx_derive.specs.Deriving.{AreCounted}
use Rattle.sx_derive.specs.Listing.{IsListed}
use Rattle.sx_derive.specs.Search.{tries_of}
use Rattle.sx_derive.specs.Walk.{events}
use Rattle.sx_typing.specs.Goals.{goal_with as goal_for}
use Rattle.sx_typing.specs.Outcomes.{nameless}
use Rattle.sx_rules.specs.Rules.{no_hypotheses}
use Rattle.sx_typing.specs.BodySource.{source_of}
use Rattle.sx_typing.proofs.TypedBodies.{by_rules}
use Rattle.sx_typing.proofs.typing.search.Goals as goal

pub returns-clause-answer : goal.returns-clause-answer
returns-clause-answer g c =
    let d = c.args.source.now.dialect in
    let result = c.find_derivation.result in
    by_rules
    (λ fs rules x. IsListed (modes_of fs) (subjects_in fs) (nameless rules) no_hypotheses x None
    c.args.tries result)
    c.rules-rules.result.now d.accepted.now.rules (forms_in d.language.now.rules)
    (goal_of c.args.goal.now) (goal_for (source_of c.args.source.now) (tree c.args.body.now.term))
    c.rules-rules.ensures c.requires.can.dialect.forms c.requires.goal
    c.find_derivation.ensures.answer

pub returns-clause-steps : goal.returns-clause-steps
returns-clause-steps g c =
    let d = c.args.source.now.dialect in
    by_rules
    (λ fs rules x. AreCounted
    (tries_of None c.args.tries (events (modes_of fs) (nameless rules) no_hypotheses x 1))
    c.args.steps.now c.find_derivation.new.steps c.find_derivation.result)
    c.rules-rules.result.now d.accepted.now.rules (forms_in d.language.now.rules)
    (goal_of c.args.goal.now) (goal_for (source_of c.args.source.now) (tree c.args.body.now.term))
    c.rules-rules.ensures c.requires.can.dialect.forms c.requires.goal
    c.find_derivation.ensures.steps
