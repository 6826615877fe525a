use Rattle.std.proofs.Common.{arith, ap, sym, ◌∙◌, ◌≡◌, ◌-◌, ◌<◌, Box, get_or, length, refl}
use Rattle.std.specs.declared.alloc.Global.{Global}
use Rattle.std.proofs.lemmas.List.{get_or-set_same}
use Rattle.sx_rules.specs.declared.proof.Proof.{Proof as ProofOf}
use Rattle.sx_rewrite.proofs.Taking.{kid-found, kid-found-ok, kid-low, kid-shallow, take-moved}
use Rattle.sx_rewrite.proofs.placed_kids.take_kid.Goals as goal

pub copy_proof-requires-clause-height : goal.copy_proof-requires-clause-height
copy_proof-requires-clause-height c = kid-low _ _ _ _ c.requires.within c.index-kids-number.is (c.deref.ensures ∙ sym (ap (λ (b : Box ProofOf Global). b.value) c.index-kids-number.is)) c.requires.height

pub copy_proof-requires-clause-binds : goal.copy_proof-requires-clause-binds
copy_proof-requires-clause-binds c = kid-shallow _ _ _ _ c.requires.within c.index-kids-number.is (c.deref.ensures ∙ sym (ap (λ (b : Box ProofOf Global). b.value) c.index-kids-number.is)) c.requires.binds

pub returns-then-left-number-gt0-clause-kid : goal.returns-then-left-number-gt0-clause-kid
returns-then-left-number-gt0-clause-kid c =
    kid-found-ok c.copy_proof.result c.args.kids.now c.args.number _ _ c.requires.within c.index-kids-number.is (c.deref.ensures ∙ sym (ap (λ (b : Box ProofOf Global). b.value) c.index-kids-number.is)) c.copy_proof.ensures

pub returns-clause-taken : goal.returns-clause-taken
returns-clause-taken c =
    let m = c.requires.many in
    let w = c.requires.within in
    let within : c.args.number < length c.args.left.now = omega (arith, m, w) in
    let n = get_or c.args.left.now c.args.number 0 - 1 in
    let s = get_or-set_same c.args.left.now c.args.number n 0 within in
    let f = c.if-left-number-gt0.false in
    let none : n ≡ 0 = omega (arith, s, f) in
    take-moved c.args.number c.args.left.now c.args.kids.now n within c.requires.some refl c.requires.height c.requires.binds _ 0 c.replace-kid.ensures.after none

pub returns-clause-kid : goal.returns-clause-kid
returns-clause-kid c =
    kid-found c.args.kids.now c.args.number c.index-kids-number-2.result _ c.requires.within c.index-kids-number-2.is
    (c.in_ok-new.ensures.ok ∙ c.replace-kid.ensures.value ∙ c.deref_mut.ensures.value ∙ sym (ap (λ (b : Box ProofOf Global). b.value) c.index-kids-number-2.is))
