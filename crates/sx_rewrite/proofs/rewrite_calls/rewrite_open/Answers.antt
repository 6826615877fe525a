use Rattle.std.proofs.Common.{sym, subst}
use Rattle.sx_rules.specs.ProofView.{proof}
use Rattle.sx_rules.specs.Views.{hypotheses}
use Rattle.sx_rewrite.specs.declared.source.Source.{Source}
use Rattle.sx_rewrite.specs.Accepted.{Accepted}
use Rattle.sx_rewrite.specs.AcceptedView.{signature}
use Rattle.sx_rewrite.specs.Rewrites.{CanRewrite}
use Rattle.sx_rewrite.specs.RewrittenView.{IsRewriting}
use Rattle.sx_rewrite.proofs.Sources.{plain-set, plain-source, plain-counts}
use Rattle.sx_rewrite.proofs.rewrite_calls.rewrite_open.Goals as goal
use Rattle.sx_rewrite.proofs.rewrite_calls.rewrite_open.Goals.{After-plain_rules}

-- the set with the rules that were made of it and what is given
abbrev source_of : After-plain_rules → Source
source_of c = record { set = c.args.set; rules = c.plain_rules.result; given = c.args.given }

pub rewrite_by-requires-clause-source : goal.rewrite_by-requires-clause-source
rewrite_by-requires-clause-source c =
    let s = source_of (goal.at.rewrite_by-requires-clause-source c).After-plain_rules in
    plain-source s c.plain_rules.ensures c.facts.ensures.plain c.facts.ensures.accepted c.facts.ensures.plain_rules c.requires.given

pub rewrite_by-requires-clause-counts : goal.rewrite_by-requires-clause-counts
rewrite_by-requires-clause-counts c =
    let s = source_of (goal.at.rewrite_by-requires-clause-counts c).After-plain_rules in
    plain-counts s c.plain_rules.ensures c.facts.ensures.plain

pub rewrite_by-requires-clause-derived : goal.rewrite_by-requires-clause-derived
rewrite_by-requires-clause-derived c =
    let s = source_of (goal.at.rewrite_by-requires-clause-derived c).After-plain_rules in
    subst (λ (a : Accepted). CanRewrite a (hypotheses c.args.given.now) (proof c.args.proof.now)) (sym (plain-set s c.plain_rules.ensures c.facts.ensures.plain)) c.requires.derived

pub returns : goal.returns
returns c =
    let s = source_of (goal.at.returns c).After-plain_rules in
    subst (λ (a : Accepted). IsRewriting a (signature c.args.set.now).subjects (hypotheses c.args.given.now) (proof c.args.proof.now) c.args.budget c.rewrite_by.result) (plain-set s c.plain_rules.ensures c.facts.ensures.plain) c.rewrite_by.ensures
