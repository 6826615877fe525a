use Rattle.std.proofs.Common.{ℕ, sym, subst, ap, ◌≡◌, ◌∷◌, [], arith, length, length-append, None}
use Rattle.sx_grammar.specs.Ranks.{rank_in, waiting_at}
use Rattle.sx_grammar.proofs.Places.{rank_in-push, waiting_at-push}
use Rattle.sx_grammar.proofs.progress.blank.Goals as goal

pub loop-preserved : goal.loop-preserved
loop-preserved c =
    let lists = c.in_ok-push-2.ensures.items in
    let ranks = c.in_ok-push.ensures.items in
    record {
      ranks = omega (arith, ap length ranks, length-append c.loop.ranks.items (None ∷ []), c.loop.invariant.ranks);
      none = subst (λ rs. (x : ℕ) → rank_in rs x ≡ None) (sym ranks) (rank_in-push c.loop.ranks.items c.loop.invariant.none);
      lists = omega (arith, ap length lists, length-append c.loop.waiting.items (c.new.result ∷ []), c.loop.invariant.lists);
      still = subst (λ ls. (x : ℕ) → waiting_at ls x ≡ []) (sym lists) (waiting_at-push c.loop.waiting.items c.new.result c.new.ensures.items c.loop.invariant.still);
    }

pub returns : goal.returns
returns c = record {
  ranks = omega (arith, c.loop.invariant.ranks, c.loop.auto.counter-end, c.loop-test.false);
  none = c.loop.invariant.none;
  order = c.new-2.ensures.items;
  lists = omega (arith, c.loop.invariant.lists, c.loop.auto.counter-end, c.loop-test.false);
  still = c.loop.invariant.still;
}
