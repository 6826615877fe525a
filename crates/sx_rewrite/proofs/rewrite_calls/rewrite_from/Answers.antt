use Rattle.std.proofs.Common.{sym, subst}
use Rattle.sx_rules.specs.ProofView.{proof}
use Rattle.sx_rules.specs.Views.{hypotheses}
use Rattle.sx_rewrite.specs.declared.source.Source.{Source}
use Rattle.sx_rewrite.specs.Accepted.{Accepted}
use Rattle.sx_rewrite.specs.AcceptedView.{signature}
use Rattle.sx_rewrite.specs.Rewrites.{CanRewrite}
use Rattle.sx_rewrite.specs.RewrittenView.{IsRewriting}
use Rattle.sx_rewrite.proofs.Sources.{extended-set, extended-source, extended-counts}
use Rattle.sx_rewrite.proofs.rewrite_calls.rewrite_from.Goals as goal
use Rattle.sx_rewrite.proofs.rewrite_calls.rewrite_from.Goals.{After-rules}

-- the set with the rules that were made of it and what is given
abbrev source_of : After-rules → Source
source_of c = record { set = c.args.set; rules = c.rules.result; given = c.args.given }

pub rewrite_by-requires-clause-source : goal.rewrite_by-requires-clause-source
rewrite_by-requires-clause-source c =
    let s = source_of (goal.at.rewrite_by-requires-clause-source c).After-rules in
    extended-source s c.rules.ensures c.facts.ensures.accepted c.facts.ensures.rules c.requires.given

pub rewrite_by-requires-clause-counts : goal.rewrite_by-requires-clause-counts
rewrite_by-requires-clause-counts c =
    let s = source_of (goal.at.rewrite_by-requires-clause-counts c).After-rules in
    extended-counts s c.rules.ensures

pub rewrite_by-requires-clause-derived : goal.rewrite_by-requires-clause-derived
rewrite_by-requires-clause-derived c =
    let s = source_of (goal.at.rewrite_by-requires-clause-derived c).After-rules in
    subst (λ (a : Accepted). CanRewrite a (hypotheses c.args.given.now) (proof c.args.proof.now)) (sym (extended-set s c.rules.ensures)) c.requires.derived

pub returns : goal.returns
returns c =
    let s = source_of (goal.at.returns c).After-rules in
    subst (λ (a : Accepted). IsRewriting a (signature c.args.set.now).subjects (hypotheses c.args.given.now) (proof c.args.proof.now) c.args.budget c.rewrite_by.result) (extended-set s c.rules.ensures) c.rewrite_by.ensures
