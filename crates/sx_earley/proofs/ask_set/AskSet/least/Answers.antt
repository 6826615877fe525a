use Rattle.std.proofs.Common.{◌<◌, ℕ, List, Option, sym, subst}
use Rattle.sx_slots.proofs.Seeking.{left_of, goes_back}
use Rattle.sx_earley.specs.declared.ask.Ask.{Ask}
use Rattle.sx_earley.specs.AskSet.{IsLeastLevel}
use Rattle.sx_earley.proofs.Leasts.{IsLeastSo, least_first, least_next, least_all}
use Rattle.sx_earley.proofs.ask_set.AskSet.least.Goals as goal

pub loop-here-init : goal.loop-here-init
loop-here-init c = least_first c.self.inside.asks.items c.self.inside.slots c.self.invariant c.args.ask c.args.hash c.requires c.last-here.result c.last-here.ensures

pub loop-here-smaller : goal.loop-here-smaller
loop-here-smaller c =
    subst (λ (o : Option ℕ). left_of c.before-here.result < left_of o) (sym c.in-Some.is)
    (goes_back c.self.inside.slots c.in-Some.number _ c.before-here.result c.before-here.ensures)

pub loop-here-preserved : goal.loop-here-preserved
loop-here-preserved c =
    least_next c.self.inside.asks.items c.self.inside.slots c.self.invariant c.args.ask c.args.hash c.requires c.in-Some.number c.index.result.now
    c.loop-here.least c.next_least-least.result c.before-here.result
    (subst (λ (o : Option ℕ). IsLeastSo c.self.inside.asks.items c.self.inside.slots c.args.ask c.args.hash c.loop-here.least o) c.in-Some.is c.loop-here.invariant)
    c.index.ensures c.next_least-least.ensures c.before-here.ensures

pub returns : goal.returns
returns c =
    let asks = c.self.inside.asks.items in
    subst (λ (l : List Ask). IsLeastLevel l c.args.ask c.loop-here.least) c.self.view_is
    (least_all asks c.self.inside.slots c.self.invariant c.args.ask c.args.hash c.requires c.loop-here.least
    (subst (λ (o : Option ℕ). IsLeastSo asks c.self.inside.slots c.args.ask c.args.hash c.loop-here.least o) c.in_default.is c.loop-here.invariant))
