use Rattle.std.proofs.Common.{◌++◌, ap, sym, subst, arith, length, map}
use Rattle.sx_term.specs.Term.{tree}
use Rattle.sx_rules.specs.Deep.{AreShallow}
use Rattle.sx_core.specs.TermsText.{terms_text, HaveCores}
use Rattle.sx_core.proofs.TermsLaws.{cores_more, many_more, not_nil, shallow_more, text_more, only_on, deep_on, row_refused, row_over}
use Rattle.sx_core.proofs.terms_row.read_terms.Goals as goal

pub loop-i-init : goal.loop-i-init
loop-i-init c =
    let e = c.new-found.ensures.items in
    record {
      many = ap length e;
      cores = subst (λ xs. HaveCores (map tree xs)) (sym e) tt;
      shallow = subst (λ xs. AreShallow (map tree xs)) (sym e) tt;
      text = sym (ap (λ xs. terms_text (map tree xs) ++ c.args.rest.now) e);
      only = λ ts l h q. (ts, omega (arith, l), h, q, λ a. a);
      deep = λ d h. (c.args.count, omega arith, h);
    }

pub loop-i-preserved : goal.loop-i-preserved
loop-i-preserved c =
    let a = c.in-Ok.ensures in
    let b = c.in_ok-push-in-Ok.ensures.items in
    let v = c.loop-i.invariant in
    record {
      many = many_more c.loop-i.found.items c.push.new.self.items c.in-Ok.term c.loop-i.i b v.many;
      cores = cores_more c.loop-i.found.items c.push.new.self.items c.in-Ok.term b v.cores a.0;
      shallow = shallow_more c.loop-i.found.items c.push.new.self.items c.in-Ok.term b v.shallow a.1;
      text = text_more c.loop-i.found.items c.push.new.self.items c.in-Ok.term b c.args.rest.now c.loop-i.left.now c.in-Ok.after.now v.text a.2;
      only = only_on c.args.rest.now c.args.count c.loop-i.left.now c.in-Ok.after.now c.loop-i.i (tree c.in-Ok.term) c.loop-i-test.true a v.only;
      deep = deep_on c.args.rest.now c.args.count c.loop-i.left.now c.in-Ok.after.now c.loop-i.i (tree c.in-Ok.term) a v.deep;
    }

pub returns-in-Err : goal.returns-in-Err
returns-in-Err c =
    row_refused c.args.rest.now c.args.count c.loop-i.left.now c.loop-i.i c.loop-i.found.items c.in-Err.e c.loop-i-test.true c.loop-i.invariant.many c.loop-i.invariant.cores c.loop-i.invariant.shallow c.loop-i.invariant.text c.loop-i.invariant.only c.loop-i.invariant.deep c.in-Err.ensures

pub returns : goal.returns
returns c = row_over c.args.rest.now c.args.count c.loop-i.left.now c.loop-i.i c.loop-i-test.false (not_nil c.loop-i.left.now c.if-is_empty.ensures) c.loop-i.invariant.only c.loop-i.invariant.deep
