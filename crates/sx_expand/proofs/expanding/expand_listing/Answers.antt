use Rattle.std.proofs.Common.{sym, subst}
use Rattle.sx_rules.specs.Views.{goal as goal_of}
use Rattle.sx_expand.specs.Listed.{signature_in, entries_in}
use Rattle.sx_expand.specs.Readings.{AreGiven}
use Rattle.sx_expand.proofs.Expansion.{listed-as, expanding-as}
use Rattle.sx_expand.proofs.Givens.{none-given}
use Rattle.sx_expand.proofs.OwnRules.{extended-set, extended-rules}
use Rattle.sx_expand.proofs.expanding.expand_listing.Goals as goal

pub expand_reading-answer-requires-clause-reading :
    goal.expand_reading-answer-requires-clause-reading
expand_reading-answer-requires-clause-reading c =
    let set = c.args.listing.now.set.now in
    let facts = c.facts.ensures in
    record {
      ends = c.requires.ends;
      rules =
          extended-rules set c.rules.result.now c.rules.ensures facts.accepted facts.rules
          facts.forms;
      given = subst (AreGiven set) (sym c.none-none.ensures.none) (none-given set);
    }

pub expand_reading-answer-requires-clause-listed :
    goal.expand_reading-answer-requires-clause-listed
expand_reading-answer-requires-clause-listed c =
    let l = c.args.listing.now in
    let same = extended-set l.set.now c.rules.result.now c.rules.ensures in
    let none = c.none-none.ensures.none in
    let r = c.requires.listed in
    (r.0, listed-as (sym same) (sym none) (goal_of c.args.goal.now) (entries_in l) r.0 r.1)

pub returns : goal.returns
returns c = λ answer is.
    let l = c.args.listing.now in
    let same = extended-set l.set.now c.rules.result.now c.rules.ensures in
    let none = c.none-none.ensures.none in
    let g = goal_of c.args.goal.now in
    let own = listed-as (sym same) (sym none) g (entries_in l) answer is in
    expanding-as same none (signature_in l).subjects answer.0 c.args.budget
    c.expand_reading-answer.result
    (c.expand_reading-answer.ensures answer own)
