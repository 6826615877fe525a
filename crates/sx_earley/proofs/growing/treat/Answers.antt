use Rattle.std.proofs.Common.{◌+◌, inr}
use Rattle.sx_earley.specs.Shown.{plain, tokens_of}
use Rattle.sx_earley.specs.Chart.{moved}
use Rattle.sx_earley.proofs.Growth.{extends_on, longer, still_there}
use Rattle.sx_earley.proofs.Keying.{keyed_later, within_longer}
use Rattle.sx_earley.proofs.Asking.{asked_on}
use Rattle.sx_earley.proofs.Waiting.{waits_for}
use Rattle.sx_earley.proofs.Treating.{after_prediction, after_scan, after_each, after_over}
use Rattle.sx_earley.proofs.growing.treat.Goals as goal

pub returns-clause-only : goal.returns-clause-only
returns-clause-only c =
    let g = plain c.args.given.grammar.now in let ts = tokens_of c.args.given.grammar.now c.args.given.shown.now in
    let k0 = c.args.found.now in let k1 = c.predict_next.new.found in let k2 = c.scan.new.found in let k3 = c.join_each.new.found in let k4 = c.join_over.new.found in
    let ks = c.args.near.filed.now in let bs = c.args.near.before in let fs = c.args.near.filling in
    let e02 = extends_on k0 k1 k2 c.in_ok-idle.ensures.extends c.scan.ensures.extends in
    after_over g ts ks bs fs c.args.dotted.item k0 k3 k4 (extends_on k0 k2 k3 e02 c.join_each.ensures.extends) c.requires.within
    (after_each g ts ks bs fs c.args.dotted.item k0 k2 k3 e02 c.requires.within
    (after_scan g ts ks bs fs c.args.dotted.item k0 k1 k2
    (after_prediction g ts ks bs fs c.args.dotted.item k0 k0 k1 c.in_ok-idle.ensures.only) c.scan.ensures.only) c.join_each.ensures.only)
    c.join_over.ensures.only

pub returns-clause-every : goal.returns-clause-every
returns-clause-every c =
    let k0 = c.args.found.now in let ks = c.args.near.filed.now in let bs = c.args.near.before in let fs = c.args.near.filling in
    let k1 = c.predict_next.new.found in let k2 = c.scan.new.found in let k3 = c.join_each.new.found in let k4 = c.join_over.new.found in
    let e02 = extends_on k0 k1 k2 c.in_ok-idle.ensures.extends c.scan.ensures.extends in
    let e03 = extends_on k0 k2 k3 e02 c.join_each.ensures.extends in
    let e34 = c.join_over.ensures.extends in
    let e24 = extends_on k2 k3 k4 c.join_each.ensures.extends e34 in
    let item = c.args.dotted.item in
    record {
      predictions = λ i foresees. (c.in_ok-idle.ensures.asks.asks i).1 (inr foresees);
      scanned = λ reads. still_there k2 k4 (moved item (item.end + 1)) e24 (c.in_ok-scan.ensures.every reads);
      filled = λ before there joins. still_there k3 k4 (moved before item.end) e34 (c.in_ok-join_each.ensures.every before (keyed_later k0 k2 ks bs before e02 there) joins);
      filling = λ other there joins. c.in_ok-join_over.ensures.every other (keyed_later k0 k3 ks fs other e03 there) joins;
    }

pub returns-clause-asked : goal.returns-clause-asked
returns-clause-asked c =
    let d = c.args.given.grammar.now in
    let k1 = c.predict_next.new.found in let k2 = c.scan.new.found in let k3 = c.join_each.new.found in let k4 = c.join_over.new.found in
    let e14 = extends_on k1 k2 k4 c.scan.ensures.extends (extends_on k2 k3 k4 c.join_each.ensures.extends c.join_over.ensures.extends) in
    asked_on (plain d) (tokens_of d c.args.given.shown.now) c.predict_next.new.asked k1 k4 e14 c.in_ok-idle.ensures.asked

pub returns-clause-extends : goal.returns-clause-extends
returns-clause-extends c =
    extends_on _ _ _ c.in_ok-idle.ensures.extends (extends_on _ _ _ c.scan.ensures.extends (extends_on _ _ _ c.join_each.ensures.extends c.join_over.ensures.extends))

-- the numbers stay those of items that are found
pub join_each-requires-clause-within : goal.join_each-requires-clause-within
join_each-requires-clause-within c = within_longer _ _ _ (longer _ _ (extends_on _ _ _ c.in_ok-idle.ensures.extends c.scan.ensures.extends)) c.requires.within

pub join_over-requires-clause-within : goal.join_over-requires-clause-within
join_over-requires-clause-within c =
    within_longer _ _ _ (longer _ _ (extends_on _ _ _ c.in_ok-idle.ensures.extends (extends_on _ _ _ c.scan.ensures.extends c.join_each.ensures.extends))) c.requires.within

pub predict_next-requires-clause-waits : goal.predict_next-requires-clause-waits
predict_next-requires-clause-waits c = waits_for c.args.given.grammar.now c.args.dotted.item c.args.dotted.symbol _ c.requires.next c.part_of-part.ensures

pub join_over-requires-clause-waits : goal.join_over-requires-clause-waits
join_over-requires-clause-waits c = waits_for c.args.given.grammar.now c.args.dotted.item c.args.dotted.symbol _ c.requires.next c.part_of-part.ensures
