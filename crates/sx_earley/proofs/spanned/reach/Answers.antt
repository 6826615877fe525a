use Rattle.std.proofs.Common.{◌≡◌, ◌≤◌, max, ◌⊎◌, Contains, subst, sym, arith}
use Rattle.std.proofs.lemmas.List.{take_all}
use Rattle.sx_grammar.specs.declared.item.Item.{Item}
use Rattle.sx_earley.proofs.Closing.{there_at}
use Rattle.sx_earley.proofs.Spanning.{one_on, max_end}
use Rattle.sx_earley.proofs.spanned.reach.Goals as goal

pub loop-place-preserved : goal.loop-place-preserved
loop-place-preserved c =
    let keys = c.args.found.now in let item = c.item_within-item.result in
    let is : c.greater-most.result ≡ max c.loop-place.most item.end = c.greater-most.ensures in
    record {
      bound = one_on keys c.loop-place.place item (λ i. i.end ≤ c.greater-most.result) c.item_within-item.ensures
          (λ i there. let low = c.loop-place.invariant.bound i there in omega arith) (omega arith);
      some = subst (λ m. ((i : Item) × Contains keys i × (i.end ≡ m)) ⊎ (m ≡ 0)) (sym is)
          (max_end keys item c.loop-place.most (there_at keys c.loop-place.place item c.item_within-item.ensures) c.loop-place.invariant.some);
    }

pub returns : goal.returns
returns c =
    let keys = c.args.found.now in
    (subst (λ l. (i : Item) → Contains l i → i.end ≤ c.loop-place.most) (take_all c.loop-place.place keys (omega arith)) c.loop-place.invariant.bound, c.loop-place.invariant.some)
