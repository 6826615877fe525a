use Rattle.sx_rules.specs.EntryView.{entries}
use Rattle.sx_rules.specs.Views.{goal as goal_of, hypotheses}
use Rattle.sx_rewrite.specs.AcceptedView.{accepted, signature}
use Rattle.sx_rewrite.specs.PlainRules.{plain_of}
use Rattle.sx_expand.proofs.Expansion.{answer-fits}
use Rattle.sx_expand.proofs.OwnRules.{plain-counts}
use Rattle.sx_expand.proofs.expanding.expand_open.Goals as goal

pub ends_of-requires : goal.ends_of-requires
ends_of-requires c =
    let r = c.requires.listed in
    let a = accepted c.args.set.now in
    let fit = answer-fits (signature c.args.set.now) (plain_of a) (hypotheses c.args.given.now)
    (goal_of c.args.goal.now) (entries c.args.list.now) r.0 r.1 in
    (r.0.0, (plain-counts a r.0.0).fit fit, r.1.list_is)
