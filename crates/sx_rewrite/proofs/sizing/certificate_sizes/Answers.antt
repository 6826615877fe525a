use Rattle.std.proofs.Common.{ap, sym, ◌∙◌}
use Rattle.sx_rewrite.specs.declared.flat.Flat.{Flat}
use Rattle.sx_rewrite.specs.declared.ext_rule.ExtRule.{ExtRule}
use Rattle.sx_rewrite.proofs.ShallowFlats.{shallow-at}
use Rattle.sx_rewrite.proofs.SizedSets.{size-made, sizes-on, sizes-all}
use Rattle.sx_rewrite.proofs.sizing.certificate_sizes.Goals as goal

pub loop-i-preserved : goal.loop-i-preserved
loop-i-preserved c =
    let f = c.index-flats-i.result in
    let e = c.in_ok-certificate_size.ensures in
    let l = shallow-at c.args.flats.now c.loop-i.i f ∣ c.requires.shallow ∣₁ c.loop-i-test.true c.index-flats-i.is in
    let made = size-made c.index-rules-i.result f _ _ c.in_ok-certificate_size.field-0 (c.deref-in-loop-i.ensures ∙ sym (ap (λ (x : Flat). x.proof.value) c.index-flats-i.is)) (c.deref.ensures.value ∙ sym (ap (λ (x : ExtRule). x.rule.premises.items) c.index-rules-i.is)) l.1 e.nodes e.height e.many e.uses in
    sizes-on c.args.rules.now c.args.flats.now c.loop-i.i c.index-rules-i.result f c.loop-i.sizes.items c.push.new.self.items c.in_ok-certificate_size.field-0
    c.loop-i-test.true c.requires.many c.index-rules-i.is c.index-flats-i.is made c.in_ok-push.ensures.items c.loop-i.invariant

pub returns : goal.returns
returns c = sizes-all c.args.rules.now c.args.flats.now c.loop-i.i c.loop-i.sizes.items c.loop-i-test.false c.requires.many c.loop-i.invariant
