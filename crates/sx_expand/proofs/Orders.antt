-- The order of lowered derivations.
use Rattle.std.proofs.Common.{◌≡◌, ℕ, zero, suc, List, [], ◌∷◌, ◌++◌, Option, Some, refl, sym, ap, ◌∙◌}
use Rattle.std.specs.Prelude.{slice_index_or}
use Rattle.sx_term.specs.Tree.{Tree}
use Rattle.sx_rules.specs.Instances.{bound_by}
use Rattle.sx_rules.specs.Rules.{Judgement, Hypotheses}
use Rattle.sx_rules.specs.Modes.{Modes}
use Rattle.sx_rules.specs.Derivations.{Proof, Proofs, by, given, no_more, ◌⊳◌, proof_at, put_for, proof_instance, proof_instances, graft, grafts}
use Rattle.sx_rules.specs.Orders.{Entry, of_given, of_rule, order_of, order_of_all}
use Rattle.sx_rewrite.specs.Accepted.{Known, basic, checked, Accepted}
use Rattle.sx_rewrite.specs.Lowers.{LowersTo, Lowers, LowersEach}
use Rattle.sx_expand.specs.LoweredOrders.{all_entries, grafted_order, grafted_orders, order_at, lowered_order, lowered_orders}
use Rattle.sx_expand.specs.Laws.{OrdersAreLowered}

-- the order of each proof
abbrev pub order_each : Proofs → List (List Entry)
order_each no_more = []
order_each (p ⊳ ps) = order_of p ∷ order_each ps

put-order : (qs : Proofs) (i n : ℕ) → order_of (put_for (proof_at qs i) n) ≡ slice_index_or (order_each qs) i (of_given n ∷ [])
put-order no_more i n = refl
put-order (q ⊳ qs) zero n = refl
put-order (q ⊳ qs) (suc i) n = put-order qs i n

mutual
  graft-order : (qs : Proofs) (s : ℕ → Tree) (p : Proof) → order_of (graft qs (proof_instance s p)) ≡ grafted_order (order_each qs) p
  graft-order qs s (by r binds kids) = ap (λ (x : List Entry). of_rule r ∷ x) (grafts-order qs s kids)
  graft-order qs s (given i) = put-order qs i i

  grafts-order : (qs : Proofs) (s : ℕ → Tree) (ps : Proofs) → order_of_all (grafts qs (proof_instances s ps)) ≡ grafted_orders (order_each qs) ps
  grafts-order qs s no_more = refl
  grafts-order qs s (p ⊳ ps) =
      let a = graft-order qs s p in
      let b = grafts-order qs s ps in
      λ i. a i ++ b i

all-order : (qs : Proofs) → order_of_all qs ≡ all_entries (order_each qs)
all-order no_more = refl
all-order (q ⊳ qs) = ap (λ (x : List Entry). order_of q ++ x) (all-order qs)

node-order : (a : Accepted) (subjects : Modes) (known : Known) (r : ℕ) (more : List Tree) (qs : Proofs) (q : Proof) (k : Judgement) → LowersTo a.table subjects known r more qs q k → order_of q ≡ order_at (Some known) r (order_each qs)
node-order a subjects (basic rule) r more qs q k l = ap order_of l.0 ∙ ap (λ (x : List Entry). of_rule r ∷ x) (all-order qs)
node-order a subjects (checked c) r more qs q k l = ap order_of l.0 ∙ graft-order qs (bound_by more) c.proof

module _ (a : Accepted) (subjects : Modes) (hyps : Hypotheses) where
  mutual
    ordered : (p q : Proof) (k : Judgement) → Lowers a subjects hyps p q k → order_of q ≡ lowered_order a p
    ordered (given i) q k l = ap order_of l.0
    ordered (by r binds kids) q k (known, qs, ks, more, at_r, each, b, to) =
        node-order a subjects known r more qs q k to
        ∙ ap (order_at (Some known) r) (all_ordered kids qs ks each)
        ∙ ap (λ (o : Option Known). order_at o r (lowered_orders a kids)) (sym at_r)

    all_ordered : (ps qs : Proofs) (ks : List Judgement) → LowersEach a subjects hyps ps qs ks → order_each qs ≡ lowered_orders a ps
    all_ordered no_more no_more [] l = refl
    all_ordered no_more no_more (k ∷ ks) l = absurd l
    all_ordered no_more (q ⊳ qs) ks l = absurd l
    all_ordered (p ⊳ ps) no_more ks l = absurd l
    all_ordered (p ⊳ ps) (q ⊳ qs) [] l = absurd l
    all_ordered (p ⊳ ps) (q ⊳ qs) (k ∷ ks) l =
        let x = ordered p q k l.0 in
        let y = all_ordered ps qs ks l.1 in
        λ i. x i ∷ y i

pub orders_are_lowered : OrdersAreLowered
orders_are_lowered a subjects hyps p q k l = ordered a subjects hyps p q k l
