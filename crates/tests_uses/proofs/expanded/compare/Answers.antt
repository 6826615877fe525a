use Rattle.std.proofs.Common.{subst}
use Rattle.std.specs.Prelude.{Result}
use Rattle.sx_rules.specs.EntryView.{entries}
use Rattle.sx_rules.specs.ProofView.{proof}
use Rattle.sx_rules.specs.Rules.{no_hypotheses}
use Rattle.sx_rules.specs.Sets.{shapes_in}
use Rattle.sx_rules.specs.Views.{goal as goal_of}
use Rattle.sx_rewrite.specs.declared.lowered.Lowered.{Lowered}
use Rattle.sx_rewrite.specs.declared.rewrite_error.RewriteError.{RewriteError}
use Rattle.sx_rewrite.specs.AcceptedView.{accepted, signature}
use Rattle.sx_rewrite.specs.RewrittenView.{IsRewriting}
use Rattle.sx_expand.specs.declared.expanded.Expanded.{Expanded}
use Rattle.sx_expand.specs.Expansions.{IsExpanding}
use Rattle.tests_uses.proofs.Compared.{list-shallow, boxed-shallow}
use Rattle.tests_uses.proofs.expanded.compare.Goals as goal

pub rewrite-rewritten-requires : goal.rewrite-rewritten-requires
rewrite-rewritten-requires c = c.requires.listed.1.rewritable

pub both-requires-clause-one : goal.both-requires-clause-one
both-requires-clause-one c =
    let s = c.args.set.now in
    let r = c.requires.listed in
    list-shallow (signature s) (shapes_in s.base) (shapes_in s.rules) (accepted s) c.facts.ensures.accepted (goal_of c.args.asked.goal.now) c.requires.sorted (entries c.args.list.now) (proof c.args.proof.now, r.0) r.1 c.args.asked.nodes c.in-Ok.one
    (subst (λ (x : Result Expanded RewriteError). IsExpanding (accepted s) (signature s).subjects no_hypotheses (proof c.args.proof.now) c.args.asked.nodes x) c.in-Ok.is (c.expand-expanded.ensures (proof c.args.proof.now, r.0) r.1))

pub both-requires-clause-other : goal.both-requires-clause-other
both-requires-clause-other c =
    let s = c.args.set.now in
    let r = c.requires.listed in
    (boxed-shallow (signature s) (shapes_in s.base) (shapes_in s.rules) (accepted s) c.facts.ensures.accepted (goal_of c.args.asked.goal.now) c.requires.sorted (entries c.args.list.now) (proof c.args.proof.now, r.0) r.1 c.args.asked.nodes c.in-Ok-rewritten.other
    (subst (λ (x : Result Lowered RewriteError). IsRewriting (accepted s) (signature s).subjects no_hypotheses (proof c.args.proof.now) c.args.asked.nodes x) c.in-Ok-rewritten.is c.rewrite-rewritten.ensures)).0

pub both-requires-clause-height : goal.both-requires-clause-height
both-requires-clause-height c =
    let s = c.args.set.now in
    let r = c.requires.listed in
    (boxed-shallow (signature s) (shapes_in s.base) (shapes_in s.rules) (accepted s) c.facts.ensures.accepted (goal_of c.args.asked.goal.now) c.requires.sorted (entries c.args.list.now) (proof c.args.proof.now, r.0) r.1 c.args.asked.nodes c.in-Ok-rewritten.other
    (subst (λ (x : Result Lowered RewriteError). IsRewriting (accepted s) (signature s).subjects no_hypotheses (proof c.args.proof.now) c.args.asked.nodes x) c.in-Ok-rewritten.is c.rewrite-rewritten.ensures)).1
