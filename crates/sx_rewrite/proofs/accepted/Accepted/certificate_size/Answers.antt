use Rattle.std.proofs.Common.{◌<◌, ◌≤◌, ◌-◌, length, arith}
use Rattle.sx_rewrite.specs.Stored.{stored_at}
use Rattle.sx_rewrite.specs.AcceptedView.{accepted, signature}
use Rattle.sx_rewrite.specs.Sizes.{IsSizeIn}
use Rattle.sx_rewrite.proofs.SizedSets.{no-size-before, no-size-past, size-at, size-small, size-only}
use Rattle.sx_rewrite.proofs.accepted.Accepted.certificate_size.Goals as goal

found : (c : goal.After-index) → IsSizeIn (stored_at (accepted c.args.self.now) c.args.rule) c.index.result.now
found c =
    let a = c.args.self.now in
    let l : c.args.rule - a.first < length a.sizes.items = (let t = c.if-place-len.true in let n = c.len.ensures in omega arith) in
    size-at (accepted a) a.sizes.items a.first c.args.rule a.counted a.sized c.index.result.now c.if-rule-self.false l c.index.ensures

pub returns-then-rule-self-clause-value : goal.returns-then-rule-self-clause-value
returns-then-rule-self-clause-value c =
    let a = c.args.self.now in
    no-size-before (accepted a) a.sizes.items a.first c.args.rule a.counted a.sized c.if-rule-self.true

pub returns-then-rule-self-clause-only : goal.returns-then-rule-self-clause-only
returns-then-rule-self-clause-only c = size-only (signature c.args.self.now) _ _ (accepted c.args.self.now) c.facts.ensures.accepted c.args.rule

pub returns-then-place-len-clause-value : goal.returns-then-place-len-clause-value
returns-then-place-len-clause-value c = found c

pub returns-then-place-len-clause-small : goal.returns-then-place-len-clause-small
returns-then-place-len-clause-small c = size-small (stored_at (accepted c.args.self.now) c.args.rule) c.index.result.now (found c)

pub returns-then-place-len-clause-only : goal.returns-then-place-len-clause-only
returns-then-place-len-clause-only c = size-only (signature c.args.self.now) _ _ (accepted c.args.self.now) c.facts.ensures.accepted c.args.rule

pub returns-clause-value : goal.returns-clause-value
returns-clause-value c =
    let a = c.args.self.now in
    let l : length a.sizes.items ≤ c.args.rule - a.first = (let t = c.if-place-len.false in let n = c.len.ensures in omega arith) in
    no-size-past (accepted a) a.sizes.items a.first c.args.rule a.counted a.sized c.if-rule-self.false l

pub returns-clause-only : goal.returns-clause-only
returns-clause-only c = size-only (signature c.args.self.now) _ _ (accepted c.args.self.now) c.facts.ensures.accepted c.args.rule
