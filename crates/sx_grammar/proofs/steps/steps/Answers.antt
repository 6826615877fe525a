use Rattle.std.proofs.Common.{length, refl, sym, subst, ap, ℕ, arith, length-append, ◌∷◌, []}
use Rattle.std.specs.Prelude.{Contains}
use Rattle.std.proofs.lemmas.Option.{slice_get_read, slice_get_within}
use Rattle.sx_grammar.specs.Cycles.{list_at}
use Rattle.sx_grammar.proofs.Stepping.{steps_more, none_push}
use Rattle.sx_grammar.proofs.steps.steps.Goals as goal

pub loop-preserved : goal.loop-preserved
loop-preserved c =
    let items = c.in_ok-push.ensures.items in
    record {
      same = omega (arith, ap length items, length-append c.loop.lists.items (c.new.result ∷ []), c.loop.invariant.same);
      none = subst (λ lists. (p x : ℕ) → Contains (list_at lists p) x → ⊥) (sym items) (none_push c.loop.lists.items c.new.result c.new.ensures.items c.loop.invariant.none);
    }

pub loop-production-init : goal.loop-production-init
loop-production-init c = record {
  same = omega (arith, c.loop.invariant.same, c.loop.auto.counter-end, c.loop-test.false);
  only = λ sort other has. absurd (c.loop.invariant.none sort other has);
  all = λ label p other lt. absurd (omega (arith, lt));
}

pub add_steps-requires : goal.add_steps-requires
add_steps-requires c =
    let ps = c.args.productions.now in
    let at = slice_get_read ps (length ps) c.loop-production.production-index c.production-item.result refl c.loop-production-test.true c.production-item.is in
    let low = c.requires c.loop-production.production-index c.production-item.result at in
    omega (arith, low, c.loop-production.invariant.same)

pub loop-production-preserved : goal.loop-production-preserved
loop-production-preserved c =
    let ps = c.args.productions.now in
    let n = c.loop-production.production-index in
    let q = c.production-item.result in
    let at = slice_get_read ps (length ps) n q refl c.loop-production-test.true c.production-item.is in
    let done = c.in_ok-add_steps.ensures in
    steps_more c.args.marks.now ps c.args.sorts n c.loop-production.lists.items c.add_steps.new.steps.items q c.loop-production.invariant at done.same done.kept done.only done.all

pub returns-clause-all : goal.returns-clause-all
returns-clause-all c = λ sort other has.
    let ps = c.args.productions.now in
    subst (λ s. Contains (list_at c.loop-production.lists.items s) other) has.3
    (c.loop-production.invariant.all has.0 has.1 other (let within = slice_get_within ps has.0 has.1 has.2 in omega (arith, within, c.loop-production-test.false)) has.2 has.4)
