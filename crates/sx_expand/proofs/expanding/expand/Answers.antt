use Rattle.sx_rules.specs.EntryView.{entries}
use Rattle.sx_rules.specs.Rules.{no_hypotheses}
use Rattle.sx_rules.specs.Views.{goal as goal_of}
use Rattle.sx_rewrite.specs.AcceptedView.{accepted, signature}
use Rattle.sx_expand.proofs.Expansion.{answer-fits}
use Rattle.sx_expand.proofs.expanding.expand.Goals as goal

pub ends_of-requires : goal.ends_of-requires
ends_of-requires c =
    let r = c.requires.listed in
    (r.0.0, answer-fits (signature c.args.set.now) (accepted c.args.set.now) no_hypotheses (goal_of c.args.goal.now) (entries c.args.list.now) r.0 r.1, r.1.list_is)
