use Rattle.sx_term.specs.Term.{tree}
use Rattle.sx_term.specs.Bound.{bindings}
use Rattle.sx_term.specs.Candidates.{candidates}
use Rattle.sx_term.proofs.Lookups.{lookup-append_some}
use Rattle.sx_term.proofs.CandidateLemmas.{lookup-candidate, lookup-other, lookup-no_candidate}
use Rattle.sx_term.proofs.matching.known.Goals as goal

pub returns-in-Some-clause-value : goal.returns-in-Some-clause-value
returns-in-Some-clause-value c = lookup-append_some (bindings c.args.bound.now) (candidates c.args.parts.now) c.args.variable (tree c.in-Some.binding.now.term) c.in-Some.ensures

pub loop-candidate-preserved : goal.loop-candidate-preserved
loop-candidate-preserved c =
    let i = c.loop-candidate.invariant in
    record {
      unbound = i.unbound;
      same = lookup-other c.args.parts.now c.loop-candidate.candidate-index c.args.variable _ i.same c.loop-candidate-test.true c.candidate-item.is c.if-candidate-variable.false;
    }

pub returns-then-candidate-variable-clause-value : goal.returns-then-candidate-variable-clause-value
returns-then-candidate-variable-clause-value c =
    let i = c.loop-candidate.invariant in
    lookup-candidate (bindings c.args.bound.now) c.args.parts.now c.loop-candidate.candidate-index c.args.variable _ i.unbound i.same c.loop-candidate-test.true c.candidate-item.is c.if-candidate-variable.true

pub returns-clause-value : goal.returns-clause-value
returns-clause-value c =
    let i = c.loop-candidate.invariant in
    lookup-no_candidate (bindings c.args.bound.now) c.args.parts.now c.loop-candidate.candidate-index c.args.variable i.unbound i.same c.loop-candidate-test.false
