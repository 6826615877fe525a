use Rattle.sx_derive.proofs.Walking.{gone_first, gone_ends, gone_stands, gone_more, takes_less}
use Rattle.sx_derive.proofs.walk.go_on.Goals as goal

pub loop-store-init : goal.loop-store-init
loop-store-init c = record {
  gone = λ first js budget es b h. gone_first c.args.given.now first c.args.store.now js c.args.wanted.now budget c.args.tries.now es c.args.tasks.now.items c.args.ending h;
}

pub run-requires-clause-stands : goal.run-requires-clause-stands
run-requires-clause-stands c =
    let r = c.requires.came in
    let u = c.is_unwanted.ensures.0 c.loop-store-test.true in (
      r.0,
      r.1,
      gone_stands c.args.given.now r.0 c.loop-store.store r.1 c.args.wanted.now r.2 c.loop-store.tries r.3 c.loop-store.tasks.items c.loop-store.ending r.4 (c.loop-store.invariant.gone r.0 r.1 r.2 r.3 r.4 r.5) u,
    )

pub loop-store-preserved : goal.loop-store-preserved
loop-store-preserved c =
    let u = c.is_unwanted.ensures.0 c.loop-store-test.true in
    record {
      gone = λ first js budget es b h.
          let w = c.loop-store.invariant.gone first js budget es b h in
          let s = gone_stands c.args.given.now first c.loop-store.store js c.args.wanted.now budget c.loop-store.tries es c.loop-store.tasks.items c.loop-store.ending b w u in
          gone_more c.args.given.now first c.loop-store.store js c.args.wanted.now budget c.loop-store.tries es c.loop-store.tasks.items c.loop-store.ending b w u c.run.new.store c.run.new.tries c.run.new.tasks.items c.in_ok-ending.ending (c.in_ok-ending.ensures.run first js s);
    }

pub loop-store-smaller : goal.loop-store-smaller
loop-store-smaller c = takes_less c.args.wanted.now c.loop-store.ending c.in_ok-ending.ending c.loop-store.tries c.run.new.tries (c.is_unwanted.ensures.0 c.loop-store-test.true) c.in_ok-ending.ensures.fewer

pub returns : goal.returns
returns c = λ first js budget es b h.
    gone_ends c.args.given.now first c.loop-store.store js c.args.wanted.now budget c.loop-store.tries es c.loop-store.tasks.items c.loop-store.ending b (c.loop-store.invariant.gone first js budget es b h) (λ x. let q = c.is_unwanted.ensures.1 x in let f = c.loop-store-test.false in absurd cc)
