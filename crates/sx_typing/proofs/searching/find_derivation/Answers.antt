use Rattle.std.proofs.Common.{None, List, sym, subst}
use Rattle.sx_rules.specs.Rules.{Rule, Hypotheses}
use Rattle.sx_rules.specs.Sets.{forms_in}
use Rattle.sx_rules.specs.Views.{goal as goal_of, modes_of, subjects_in}
use Rattle.sx_arena.specs.Views.{rules_of}
use Rattle.sx_derive.specs.Deriving.{AreCounted}
use Rattle.sx_derive.specs.Listing.{IsListed}
use Rattle.sx_derive.specs.Search.{tries_of}
use Rattle.sx_derive.specs.Walk.{events}
use Rattle.sx_rules.specs.Rules.{no_hypotheses}
use Rattle.sx_typing.proofs.MainGoals.{bare_is}
use Rattle.sx_typing.proofs.searching.find_derivation.Goals as goal

pub returns-clause-answer : goal.returns-clause-answer
returns-clause-answer g c =
    let set = c.args.rules.now in
    let modes = modes_of (forms_in set) in
    let subjects = subjects_in (forms_in set) in
    subst (λ (rs : List Rule). IsListed modes subjects rs no_hypotheses (goal_of c.args.goal.now)
    None c.args.tries c.derive_list.result) (sym (bare_is set))
    (subst (λ (h : Hypotheses). IsListed modes subjects (rules_of set) h (goal_of c.args.goal.now)
    None c.args.tries c.derive_list.result)
    c.none-given.ensures.none c.derive_list.ensures.answer)

pub returns-clause-steps : goal.returns-clause-steps
returns-clause-steps g c =
    let set = c.args.rules.now in
    let modes = modes_of (forms_in set) in
    subst (λ (rs : List Rule). AreCounted
    (tries_of None c.args.tries (events modes rs no_hypotheses (goal_of c.args.goal.now) 1))
    c.args.steps.now c.derive_list.new.steps c.derive_list.result) (sym (bare_is set))
    (subst (λ (h : Hypotheses). AreCounted
    (tries_of None c.args.tries (events modes (rules_of set) h (goal_of c.args.goal.now) 1))
    c.args.steps.now c.derive_list.new.steps c.derive_list.result)
    c.none-given.ensures.none c.derive_list.ensures.steps)
