-- How big a lowered derivation is.
use Rattle.std.proofs.Common.{◌≡◌, ℕ, zero, suc, ◌+◌, max, List, [], ◌∷◌, Option, Some, refl, sym, ap, ◌∙◌}
use Rattle.std.specs.Prelude.{slice_index_or}
use Rattle.sx_term.specs.Tree.{Tree}
use Rattle.sx_rules.specs.Instances.{bound_by}
use Rattle.sx_rules.specs.Rules.{Judgement, Hypotheses}
use Rattle.sx_rules.specs.Derivations.{Proof, Proofs, by, given, no_more, ◌⊳◌, nodes_of, nodes_of_all, height_of, most_height, proof_at, put_for, proof_instance, proof_instances, graft, grafts}
use Rattle.sx_rewrite.specs.Accepted.{Known, basic, checked, Accepted, Signature}
use Rattle.sx_rewrite.specs.Lowers.{LowersTo, Lowers, LowersEach}
use Rattle.sx_plain.specs.Measures.{total, greatest}
use Rattle.sx_rewrite.specs.Used.{grafted_nodes, grafted_nodes_of, grafted_height, grafted_height_of, nodes_at, height_at, lowered_nodes, lowered_nodes_of, lowered_height, lowered_heights_of}
use Rattle.sx_rewrite.specs.UsedLaws.{LoweredAreCounted}

-- the nodes of each proof, and the height of each
abbrev pub nodes_each : Proofs → List ℕ
nodes_each no_more = []
nodes_each (p ⊳ ps) = nodes_of p ∷ nodes_each ps

abbrev pub height_each : Proofs → List ℕ
height_each no_more = []
height_each (p ⊳ ps) = height_of p ∷ height_each ps

put-nodes : (qs : Proofs) (i n : ℕ) → nodes_of (put_for (proof_at qs i) n) ≡ slice_index_or (nodes_each qs) i 1
put-nodes no_more i n = refl
put-nodes (q ⊳ qs) zero n = refl
put-nodes (q ⊳ qs) (suc i) n = put-nodes qs i n

put-height : (qs : Proofs) (i n : ℕ) → height_of (put_for (proof_at qs i) n) ≡ slice_index_or (height_each qs) i 1
put-height no_more i n = refl
put-height (q ⊳ qs) zero n = refl
put-height (q ⊳ qs) (suc i) n = put-height qs i n

mutual
  pub graft-nodes : (qs : Proofs) (s : ℕ → Tree) (p : Proof) → nodes_of (graft qs (proof_instance s p)) ≡ grafted_nodes (nodes_each qs) p
  graft-nodes qs s (by r binds kids) = ap (λ (n : ℕ). n + 1) (grafts-nodes qs s kids)
  graft-nodes qs s (given i) = put-nodes qs i i

  grafts-nodes : (qs : Proofs) (s : ℕ → Tree) (ps : Proofs) → nodes_of_all (grafts qs (proof_instances s ps)) ≡ grafted_nodes_of (nodes_each qs) ps
  grafts-nodes qs s no_more = refl
  grafts-nodes qs s (p ⊳ ps) =
      let a = graft-nodes qs s p in
      let b = grafts-nodes qs s ps in cc

mutual
  pub graft-height : (qs : Proofs) (s : ℕ → Tree) (p : Proof) → height_of (graft qs (proof_instance s p)) ≡ grafted_height (height_each qs) p
  graft-height qs s (by r binds kids) = ap (λ (n : ℕ). n + 1) (grafts-height qs s kids)
  graft-height qs s (given i) = put-height qs i i

  grafts-height : (qs : Proofs) (s : ℕ → Tree) (ps : Proofs) → most_height (grafts qs (proof_instances s ps)) ≡ grafted_height_of (height_each qs) ps
  grafts-height qs s no_more = refl
  grafts-height qs s (p ⊳ ps) =
      let a = graft-height qs s p in
      let b = grafts-height qs s ps in cc

all-nodes : (qs : Proofs) → nodes_of_all qs ≡ total (nodes_each qs)
all-nodes no_more = refl
all-nodes (q ⊳ qs) = ap (λ (n : ℕ). nodes_of q + n) (all-nodes qs)

all-height : (qs : Proofs) → most_height qs ≡ greatest (height_each qs)
all-height no_more = refl
all-height (q ⊳ qs) = ap (λ (n : ℕ). max (height_of q) n) (all-height qs)

node-counted : (sig : Signature) (a : Accepted) (known : Known) (r : ℕ) (more : List Tree) (qs : Proofs) (q : Proof) (k : Judgement) → LowersTo a.table sig.subjects known r more qs q k →
    (nodes_of q ≡ nodes_at (Some known) (nodes_each qs)) × (height_of q ≡ height_at (Some known) (height_each qs))
node-counted sig a (basic rule) r more qs q k l = (
  ap nodes_of l.0 ∙ ap (λ (n : ℕ). n + 1) (all-nodes qs),
  ap height_of l.0 ∙ ap (λ (n : ℕ). n + 1) (all-height qs),
)
node-counted sig a (checked c) r more qs q k l = (
  ap nodes_of l.0 ∙ graft-nodes qs (bound_by more) c.proof,
  ap height_of l.0 ∙ graft-height qs (bound_by more) c.proof,
)

module _ (sig : Signature) (a : Accepted) (hyps : Hypotheses) where
  mutual
    counted : (p q : Proof) (k : Judgement) → Lowers a sig.subjects hyps p q k → (nodes_of q ≡ lowered_nodes a p) × (height_of q ≡ lowered_height a p)
    counted (given i) q k l = (ap nodes_of l.0, ap height_of l.0)
    counted (by r binds kids) q k (known, qs, ks, more, at_r, each, b, to) =
        let here = node-counted sig a known r more qs q k to in
        let below = all_counted kids qs ks each in (
          here.0 ∙ ap (nodes_at (Some known)) below.0 ∙ ap (λ (o : Option Known). nodes_at o (lowered_nodes_of a kids)) (sym at_r),
          here.1 ∙ ap (height_at (Some known)) below.1 ∙ ap (λ (o : Option Known). height_at o (lowered_heights_of a kids)) (sym at_r),
        )

    pub all_counted : (ps qs : Proofs) (ks : List Judgement) → LowersEach a sig.subjects hyps ps qs ks → (nodes_each qs ≡ lowered_nodes_of a ps) × (height_each qs ≡ lowered_heights_of a ps)
    all_counted no_more no_more [] l = (refl, refl)
    all_counted no_more no_more (k ∷ ks) l = absurd l
    all_counted no_more (q ⊳ qs) ks l = absurd l
    all_counted (p ⊳ ps) no_more ks l = absurd l
    all_counted (p ⊳ ps) (q ⊳ qs) [] l = absurd l
    all_counted (p ⊳ ps) (q ⊳ qs) (k ∷ ks) l =
        let x = counted p q k l.0 in
        let y = all_counted ps qs ks l.1 in
        (λ i. x.0 i ∷ y.0 i, λ i. x.1 i ∷ y.1 i)

pub lowered_are_counted : LoweredAreCounted
lowered_are_counted sig a hyps p q k l = counted sig a hyps p q k l
