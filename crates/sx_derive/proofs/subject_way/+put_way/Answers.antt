use Rattle.std.proofs.Common.{false, sym, subst, ◌<◌, ◌≤◌, length, refl, arith}
use Rattle.sx_term.proofs.Kids.{depth_of-kid}
use Rattle.sx_term.specs.declared.term.Term.{Term}
use Rattle.sx_term.specs.Term.{tree}
use Rattle.sx_derive.specs.Stuck.{stuck_place_in}
use Rattle.sx_derive.specs.Ways.{IsWay}
use Rattle.sx_derive.proofs.Waying.{way_found, way_none}
use Rattle.sx_derive.proofs.subject_way.+put_way.Goals as goal

pub put_way-requires : goal.put_way-requires
put_way-requires t c =
    let l : c.loop-i.i < length c.in-Node.kids.items = (let a = c.loop-i-test.true in let b = c.len-i-end.ensures in let d = c.in-Node.kids.ok in omega arith) in
    let k = depth_of-kid _ _ _ _ _ _ c.in-Node.is refl l c.index.ensures in
    (omega (arith, k, c.decreases), omega (arith, k, c.requires))

pub returns-then-branch : goal.returns-then-branch
returns-then-branch t c =
    let l : c.loop-i.i < length c.in-Node.kids.items = (let a = c.loop-i-test.true in let b = c.len-i-end.ensures in let d = c.in-Node.kids.ok in omega arith) in
    way_found c.args.variable c.args.term.now _ c.in-Node.kids c.in-Node.is _ _ c.loop-i.invariant.0 c.loop-i.i c.loop-i.invariant.1 c.index.result.now _ _ _ l c.index.ensures c.in_ok-push-in-Node.ensures.items c.in_ok-put_way-in-Node.ensures c.if-branch.true

pub returns-after-loop-i : goal.returns-after-loop-i
returns-after-loop-i t c =
    let l : length c.in-Node.kids.items ≤ c.loop-i.i = (let a = c.loop-i-test.false in let b = c.len-i-end.ensures in let d = c.in-Node.kids.ok in omega arith) in
    way_none c.args.variable c.args.term.now _ c.in-Node.kids c.in-Node.is _ _ c.loop-i.invariant.0 c.loop-i.i c.loop-i.invariant.1 l

pub loop-i-init : goal.loop-i-init
loop-i-init t c = (refl, refl)

pub returns-in-Lex : goal.returns-in-Lex
returns-in-Lex t c =
    let way = c.args.path.now.items in
    subst (λ (x : Term). IsWay way way (stuck_place_in c.args.variable (tree x)) false) (sym c.in-Lex.is) (refl, refl)
