use Rattle.std.proofs.Common.{◌<◌, ◌≤◌, length, arith, get_or, ◌≡◌, List, subst}
use Rattle.sx_rewrite.specs.declared.given_use.GivenUse.{GivenUse}
use Rattle.sx_rewrite.specs.Stored.{stored_at}
use Rattle.sx_rewrite.specs.AcceptedView.{accepted}
use Rattle.sx_rewrite.proofs.Needs.{needed-kept, needed-past, past-false}
use Rattle.sx_rewrite.proofs.accepted.Accepted.is_needed.Goals as goal

pub returns-then-kid-len : goal.returns-then-kid-len
returns-then-kid-len c =
    let size = c.in-Some.size.now in
    let l : c.args.kid < length size.uses.items = (let t = c.if-kid-len.true in let n = c.len.ensures in omega (arith, t, n)) in
    needed-kept (stored_at (accepted c.args.self.now) c.args.rule) size c.args.kid c.use_at.result c.in-Some.ensures.value l
    (subst (λ (us : List GivenUse). c.use_at.result ≡ get_or us c.args.kid c.use_at.result) c.deref.ensures.value c.use_at.ensures)

pub returns-else-kid-len : goal.returns-else-kid-len
returns-else-kid-len c =
    let size = c.in-Some.size.now in
    let l : length size.uses.items ≤ c.args.kid = (let t = c.if-kid-len.false in let n = c.len.ensures in omega (arith, t, n)) in
    past-false c.args.kid c.len.result _ c.if-kid-len.false (needed-past (stored_at (accepted c.args.self.now) c.args.rule) size c.args.kid c.in-Some.ensures.value c.in-Some.ensures.only l)
