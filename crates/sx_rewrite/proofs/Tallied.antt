-- What is counted of lowered derivations.
use Rattle.std.proofs.Common.{◌≡◌, ℕ, zero, suc, ◌+◌, ◌-◌, ◌*◌, ◌<◌, ◌≤◌, max, List, [], ◌∷◌, length, drop, get_or, map, Box, Vec, Option, Some, None, refl, sym, ap, ◌∙◌, subst, arith, Bool, if◌then◌else◌}
use Rattle.std.specs.Prelude.{nat_lt, slice_get}
use Rattle.std.specs.declared.alloc.Global.{Global}
use Rattle.std.proofs.lemmas.Bool.{lt-ltb}
use Rattle.std.proofs.lemmas.List.{drop_all}
use Rattle.std.proofs.Math.ListN.{length-map}
use Rattle.sx_term.specs.declared.term.Term.{Term}
use Rattle.sx_term.specs.Term.{tree}
use Rattle.sx_term.specs.Tree.{Tree}
use Rattle.sx_rules.specs.declared.proof.Proof.{Proof as ProofOf, By}
use Rattle.sx_rules.specs.Instances.{bound_by}
use Rattle.sx_rules.specs.Rules.{Judgement, Rule, Hypotheses, judgement_instance, judgements_of}
use Rattle.sx_rules.specs.Derivations.{Proof, Proofs, by, given, no_more, ◌⊳◌, Derives, DeriveEach}
use Rattle.sx_rules.specs.Derivations.{height_of, most_height}
use Rattle.sx_rules.specs.ProofView.{proof, boxed}
use Rattle.sx_rules.proofs.ProofRows.{proof-at_by}
use Rattle.sx_plain.specs.Measures.{total, greatest}
use Rattle.sx_rewrite.specs.declared.given_use.GivenUse.{GivenUse}
use Rattle.sx_rewrite.specs.declared.certificate_size.CertificateSize.{CertificateSize}
use Rattle.sx_rewrite.specs.declared.lowered_tally.LoweredTally.{LoweredTally}
use Rattle.sx_rewrite.specs.Accepted.{Known, basic, checked, Checked, Accepted, known_of}
use Rattle.sx_rewrite.specs.Accepted.{extended_rules, rule_in}
use Rattle.sx_rewrite.specs.Stored.{stored_in}
use Rattle.sx_rewrite.specs.Used.{lowered_nodes, lowered_nodes_of, lowered_height}
use Rattle.sx_rewrite.specs.Used.{lowered_heights_of, nodes_at, height_at}
use Rattle.sx_rewrite.specs.Copied.{copied, copied_of, copied_at}
use Rattle.sx_rewrite.specs.Sizes.{in_u128, in_u64, IsSizeIn, UsesPremises, used_sum, used_most}
use Rattle.sx_rewrite.specs.Sizes.{used_copies}
use Rattle.sx_rewrite.specs.Tallies.{IsTallyOf, IsSizedTally, IsBaseTally, IsWithKid}
use Rattle.sx_rewrite.specs.LoweredSizes.{proof_count, FitKids, HasFitKids, HaveFitKids}
use Rattle.sx_rewrite.proofs.Known.{known-at}
use Rattle.sx_rewrite.proofs.Summed.{nodes_are_summed, height_is_greatest}
use Rattle.sx_rewrite.proofs.SizeLaws.{kid-nodes, kid-copied, used-nodes, used-height, used-copied, uses-drop}
use Rattle.sx_rewrite.proofs.Noted.{kids-drop}

-- a derivation has the kids that its rules ask for
mutual
  pub derived-fit : (a : Accepted) (hyps : Hypotheses) (j : Judgement) (p : Proof) → Derives (extended_rules a) hyps j p → HasFitKids a p
  derived-fit a hyps j (by r binds kids) (rule, at, many, is, apart, each) =
      let known = known-at (known_of a) r rule at in
      let js = map (judgement_instance (bound_by binds)) (judgements_of rule.premises) in
      let n = all_derived-many (extended_rules a) hyps js kids each in
      let m = length-map (judgements_of rule.premises) (judgement_instance (bound_by binds)) in
      let same : length (judgements_of (rule_in known.0).premises) ≡ length (judgements_of rule.premises) = ap (λ (x : Rule). length (judgements_of x.premises)) known.2 in
      (subst (λ (o : Option Known). FitKids o kids) (sym known.1) (omega (arith, n, m, same)), all_derived-fit a hyps js kids each)
  derived-fit a hyps j (given i) d = tt

  all_derived-fit : (a : Accepted) (hyps : Hypotheses) (js : List Judgement) (ps : Proofs) → DeriveEach (extended_rules a) hyps js ps → HaveFitKids a ps
  all_derived-fit a hyps js no_more d = tt
  all_derived-fit a hyps [] (p ⊳ ps) d = absurd d
  all_derived-fit a hyps (j ∷ js) (p ⊳ ps) d = (derived-fit a hyps j p d.0, all_derived-fit a hyps js ps d.1)

  all_derived-many : (rules : List Rule) (hyps : Hypotheses) (js : List Judgement) (ps : Proofs) → DeriveEach rules hyps js ps → proof_count ps ≡ length js
  all_derived-many rules hyps [] no_more d = refl
  all_derived-many rules hyps (j ∷ js) no_more d = absurd d
  all_derived-many rules hyps [] (p ⊳ ps) d = absurd d
  all_derived-many rules hyps (j ∷ js) (p ⊳ ps) d = let h = all_derived-many rules hyps js ps d.1 in omega (arith, h)

-- so many kids
pub number-boxed : (ks : List (Box ProofOf Global)) → proof_count (boxed ks) ≡ length ks
number-boxed [] = refl
number-boxed (k ∷ ks) = let h = number-boxed ks in omega (arith, h)

many-nodes : (a : Accepted) (ps : Proofs) → length (lowered_nodes_of a ps) ≡ proof_count ps
many-nodes a no_more = refl
many-nodes a (p ⊳ ps) = let h = many-nodes a ps in omega (arith, h)

many-heights : (a : Accepted) (ps : Proofs) → length (lowered_heights_of a ps) ≡ proof_count ps
many-heights a no_more = refl
many-heights a (p ⊳ ps) = let h = many-heights a ps in omega (arith, h)

many-copied : (a : Accepted) (ps : Proofs) → length (copied_of a ps) ≡ proof_count ps
many-copied a no_more = refl
many-copied a (p ⊳ ps) = let h = many-copied a ps in omega (arith, h)

-- the numbers of a node by a rule with a certificate, by the size that is kept of it
pub record IsNodeBy (o : Option Known) (size : CertificateSize) (ns hs cs : List ℕ) : Type 0 where
  pub nodes : in_u128 (size.nodes + used_sum size.uses.items ns) ≡ in_u128 (nodes_at o ns)
  pub height : max size.height (used_most size.uses.items hs) ≡ height_at o hs
  pub copied : in_u64 (used_copies size.uses.items ns cs) ≡ in_u64 (copied_at o ns cs)

pub node-by : (a : Accepted) (o : Option Known) (size : CertificateSize) (ps : Proofs) → IsSizeIn (stored_in o) size → UsesPremises (stored_in o) → FitKids o ps →
    IsNodeBy o size (lowered_nodes_of a ps) (lowered_heights_of a ps) (copied_of a ps)
node-by a None size ps is only fit = absurd is
node-by a (Some (basic rule)) size ps is only fit = absurd is
node-by a (Some (checked c)) size ps is only fit =
    let ns = lowered_nodes_of a ps in
    let hs = lowered_heights_of a ps in
    let cs = copied_of a ps in
    let m = is.many in
    let ln = many-nodes a ps in
    let lh = many-heights a ps in
    let lc = many-copied a ps in
    let en : length ns ≡ length size.uses.items = omega (arith, m, ln, fit) in
    let eh : length hs ≡ length size.uses.items = omega (arith, m, lh, fit) in
    let ec : length cs ≡ length size.uses.items = omega (arith, m, lc, fit) in
    let un = used-nodes 0 c.proof size.uses.items ns is.uses en in
    let uh = used-height 0 c.proof size.uses.items hs is.uses eh in
    let sn = nodes_are_summed c.proof ns (λ i u. let l = only i u in omega (arith, l, ln, fit)) in
    let sh = height_is_greatest c.proof hs (λ i u. let l = only i u in omega (arith, l, lh, fit)) in
    let n = is.nodes in
    let h = is.height in
    record {
      nodes = omega (arith, un, sn, n);
      height = omega (arith, uh, sh, h);
      copied = used-copied 0 c.proof size.uses.items ns cs is.uses en ec;
    }

-- and of one by a base rule
pub record IsBaseNode (o : Option Known) (ns hs cs : List ℕ) : Type 0 where
  pub nodes : total ns + 1 ≡ nodes_at o ns
  pub height : greatest hs + 1 ≡ height_at o hs
  pub copied : total cs ≡ copied_at o ns cs

pub base-node : (o : Option Known) (ps : Proofs) (ns hs cs : List ℕ) → stored_in o ≡ None → FitKids o ps → IsBaseNode o ns hs cs
base-node None ps ns hs cs e fit = absurd fit
base-node (Some (basic rule)) ps ns hs cs e fit = record { nodes = refl; height = refl; copied = refl }
base-node (Some (checked c)) ps ns hs cs e fit = absurd (some-none c e)
  where
    some-none : (d : Checked) → Some d ≡ None → ⊥
    some-none d f = cc

-- a rule with a certificate has as many kids as uses are kept
pub sized-many : (a : Accepted) (r : ℕ) (size : CertificateSize) (kids : Proofs) → IsSizeIn (stored_in (slice_get (known_of a) r)) size → FitKids (slice_get (known_of a) r) kids → proof_count kids ≡ length size.uses.items
sized-many a r size kids s f = go (slice_get (known_of a) r) s f
  where
    go : (o : Option Known) → IsSizeIn (stored_in o) size → FitKids o kids → proof_count kids ≡ length size.uses.items
    go None s f = absurd s
    go (Some (basic rule)) s f = absurd s
    go (Some (checked c)) s f = let m = s.many in omega (arith, m, f)

-- a node by its rule
module _ (a : Accepted) (p : Proof) (r : ℕ) (binds : List Tree) (kids : Proofs) (is : p ≡ by r binds kids) where
  pub by-height : height_of p ≡ most_height kids + 1
  by-height = ap height_of is

  pub sized-tally : (size : CertificateSize) → IsSizeIn (stored_in (slice_get (known_of a) r)) size → UsesPremises (stored_in (slice_get (known_of a) r)) → FitKids (slice_get (known_of a) r) kids → (t : LoweredTally) → IsSizedTally a size kids t → IsTallyOf a p t
  sized-tally size sized only fit t h =
      let b = node-by a (slice_get (known_of a) r) size kids sized only fit in
      let e = ap height_of is in
      let s = h.small in
      record {
        nodes = h.nodes ∙ b.nodes ∙ ap (λ (q : Proof). in_u128 (lowered_nodes a q)) (sym is);
        height = h.height ∙ b.height ∙ ap (lowered_height a) (sym is);
        small = omega (arith, e, s);
        copied = h.copied ∙ b.copied ∙ ap (λ (q : Proof). in_u64 (copied a q)) (sym is);
      }

  pub base-tally : stored_in (slice_get (known_of a) r) ≡ None → FitKids (slice_get (known_of a) r) kids → (t : LoweredTally) → IsBaseTally a kids t → IsTallyOf a p t
  base-tally none fit t h =
      let b = base-node (slice_get (known_of a) r) kids (lowered_nodes_of a kids) (lowered_heights_of a kids) (copied_of a kids) none fit in
      let e = ap height_of is in
      let s = h.small in
      record {
        nodes = h.nodes ∙ ap in_u128 (b.nodes ∙ ap (lowered_nodes a) (sym is));
        height = h.height ∙ b.height ∙ ap (lowered_height a) (sym is);
        small = omega (arith, e, s);
        copied = h.copied ∙ ap in_u64 (b.copied ∙ ap (copied a) (sym is));
      }

pub given-tally : (a : Accepted) (p : Proof) (n : ℕ) (t : LoweredTally) → p ≡ given n → t ≡ record { nodes = 1; height = 1; copied = 0 } → IsTallyOf a p t
given-tally a p n t is e = subst (λ (x : LoweredTally). IsTallyOf a p x) (sym e) (subst (λ (q : Proof). IsTallyOf a q (record { nodes = 1; height = 1; copied = 0 })) (sym is) (record { nodes = refl; height = refl; small = omega arith; copied = refl }))

-- a node and its kids
module _ (a : Accepted) (p : ProofOf) (r : ℕ) (binds : Vec Term Global) (kids : Vec (Box ProofOf Global) Global) (ks : List (Box ProofOf Global)) (is : p ≡ By r binds kids) (same : ks ≡ kids.items) where
  node-is : proof p ≡ by r (map tree binds.items) (boxed ks)
  node-is = proof-at_by p r binds kids is ∙ ap (λ (x : List (Box ProofOf Global)). by r (map tree binds.items) (boxed x)) (sym same)

  pub node-less : most_height (boxed ks) < height_of (proof p)
  node-less = let h = ap height_of node-is in omega (arith, h)

  pub node-fit : HasFitKids a (proof p) → FitKids (slice_get (known_of a) r) (boxed ks) × HaveFitKids a (boxed ks)
  node-fit h = subst (λ (x : Proof). HasFitKids a x) node-is h

  pub node-many : (size : CertificateSize) → IsSizeIn (stored_in (slice_get (known_of a) r)) size → HasFitKids a (proof p) → length ks ≡ length size.uses.items
  node-many size sized fit = sym (number-boxed ks) ∙ sized-many a r size (boxed ks) sized (node-fit fit).0

  pub node-sized : (size : CertificateSize) → IsSizeIn (stored_in (slice_get (known_of a) r)) size → UsesPremises (stored_in (slice_get (known_of a) r)) → HasFitKids a (proof p) → (t : LoweredTally) → IsSizedTally a size (boxed ks) t → IsTallyOf a (proof p) t
  node-sized size sized only fit t h = sized-tally a (proof p) r (map tree binds.items) (boxed ks) node-is size sized only (node-fit fit).0 t h

  pub node-based : stored_in (slice_get (known_of a) r) ≡ None → HasFitKids a (proof p) → (t : LoweredTally) → IsBaseTally a (boxed ks) t → IsTallyOf a (proof p) t
  node-based none fit t h = base-tally a (proof p) r (map tree binds.items) (boxed ks) node-is none (node-fit fit).0 t h

-- the kid at a place
pub kid-height : (ks : List (Box ProofOf Global)) (i : ℕ) (k : Box ProofOf Global) (q : ProofOf) → i < length ks → k ≡ get_or ks i k → q ≡ k.value → height_of (proof q) ≤ most_height (boxed ks)
kid-height [] i k q l e s = absurd (omega (arith, l))
kid-height (x ∷ ks) zero k q l e s =
    let h = ap (λ (y : ProofOf). height_of (proof y)) s in
    let g = ap (λ (y : Box ProofOf Global). height_of (proof y.value)) e in omega (arith, h, g)
kid-height (x ∷ ks) (suc i) k q l e s = let h = kid-height ks i k q (omega (arith, l)) e s in omega (arith, h)

pub kid-fit : (a : Accepted) (ks : List (Box ProofOf Global)) (i : ℕ) (k : Box ProofOf Global) (q : ProofOf) → HaveFitKids a (boxed ks) → i < length ks → k ≡ get_or ks i k → q ≡ k.value → HasFitKids a (proof q)
kid-fit a [] i k q h l e s = absurd (omega (arith, l))
kid-fit a (x ∷ ks) zero k q h l e s = subst (λ (y : ProofOf). HasFitKids a (proof y)) (sym (s ∙ ap (λ (y : Box ProofOf Global). y.value) e)) h.0
kid-fit a (x ∷ ks) (suc i) k q h l e s = kid-fit a ks i k q h.1 (omega (arith, l)) e s

-- what is counted of the kids before a place, by the uses of their givens
pub record KidsSoFar (a : Accepted) (size : CertificateSize) (ks : List (Box ProofOf Global)) (i : ℕ) (all : LoweredTally) : Type 0 where
  pub nodes : in_u128 (all.nodes + used_sum (drop i size.uses.items) (lowered_nodes_of a (boxed (drop i ks)))) ≡ in_u128 (size.nodes + used_sum size.uses.items (lowered_nodes_of a (boxed ks)))
  pub within : in_u128 all.nodes ≡ all.nodes
  pub height : max all.height (used_most (drop i size.uses.items) (lowered_heights_of a (boxed (drop i ks)))) ≡ max size.height (used_most size.uses.items (lowered_heights_of a (boxed ks)))
  pub small : all.height ≤ 3000 * (most_height (boxed ks) + 1)
  pub copied : in_u64 (all.copied + used_copies (drop i size.uses.items) (lowered_nodes_of a (boxed (drop i ks))) (copied_of a (boxed (drop i ks))))
      ≡ in_u64 (used_copies size.uses.items (lowered_nodes_of a (boxed ks)) (copied_of a (boxed ks)))

-- what one kid more adds
pub kids-on : (a : Accepted) (size : CertificateSize) (ks : List (Box ProofOf Global)) (i : ℕ) (old new : LoweredTally) (u : GivenUse) (k : Box ProofOf Global) (q : ProofOf) →
    i < length ks → length ks ≡ length size.uses.items → u ≡ get_or size.uses.items i u → k ≡ get_or ks i k → q ≡ k.value →
    IsWithKid a u (proof q) old new → KidsSoFar a size ks i old → KidsSoFar a size ks (i + 1) new
kids-on a size ks i old new u k q l many at_u at_k same h so =
    let us = uses-drop size.uses.items i u (omega (arith, l, many)) at_u in
    let ps = kids-drop ks i k q l at_k same in
    let hn = h.nodes in
    let hh = h.height in
    let hs = h.small in
    let hc = h.copied in
    let n : used_sum (drop i size.uses.items) (lowered_nodes_of a (boxed (drop i ks))) ≡ u.times * lowered_nodes a (proof q) + used_sum (drop (i + 1) size.uses.items) (lowered_nodes_of a (boxed (drop (i + 1) ks))) =
    (λ j. used_sum (us j) (lowered_nodes_of a (ps j))) in
    let m : used_most (drop i size.uses.items) (lowered_heights_of a (boxed (drop i ks))) ≡ max (if nat_lt 0 u.times then u.above + lowered_height a (proof q) else 0) (used_most (drop (i + 1) size.uses.items) (lowered_heights_of a (boxed (drop (i + 1) ks)))) =
    (λ j. used_most (us j) (lowered_heights_of a (ps j))) in
    let c : used_copies (drop i size.uses.items) (lowered_nodes_of a (boxed (drop i ks))) (copied_of a (boxed (drop i ks)))
    ≡ (u.times - 1) * lowered_nodes a (proof q) + (if nat_lt 0 u.times then copied a (proof q) else 0) + used_copies (drop (i + 1) size.uses.items) (lowered_nodes_of a (boxed (drop (i + 1) ks))) (copied_of a (boxed (drop (i + 1) ks))) =
    (λ j. used_copies (us j) (lowered_nodes_of a (ps j)) (copied_of a (ps j))) in
    let sn = so.nodes in
    let sh = so.height in
    let ss = so.small in
    let sc = so.copied in
    let w = kid-height ks i k q l at_k same in
    record {
      nodes = omega (arith, n, hn, sn);
      within = omega (arith, hn);
      height = omega (arith, m, hh, sh);
      small = omega (arith, hs, ss, w);
      copied = omega (arith, c, hc, sc);
    }

pub kids-first : (a : Accepted) (size : CertificateSize) (ks : List (Box ProofOf Global)) (all : LoweredTally) → all ≡ record { nodes = size.nodes; height = size.height; copied = 0 } → in_u128 size.nodes ≡ size.nodes → size.height ≤ 3000 → KidsSoFar a size ks 0 all
kids-first a size ks all e within small =
    subst (λ (x : LoweredTally). KidsSoFar a size ks 0 x) (sym e) (record {
      nodes = refl;
      within = within;
      height = refl;
      small = omega (arith, small);
      copied = (let z : 0 + used_copies size.uses.items (lowered_nodes_of a (boxed ks)) (copied_of a (boxed ks)) ≡ used_copies size.uses.items (lowered_nodes_of a (boxed ks)) (copied_of a (boxed ks)) = omega arith in ap in_u64 z);
    })

-- past the last kid
used_sum-none : (us : List GivenUse) → used_sum us [] ≡ 0
used_sum-none [] = refl
used_sum-none (u ∷ us) = refl

used_most-none : (us : List GivenUse) → used_most us [] ≡ 0
used_most-none [] = refl
used_most-none (u ∷ us) = refl

used_copies-none : (us : List GivenUse) → used_copies us [] [] ≡ 0
used_copies-none [] = refl
used_copies-none (u ∷ us) = refl

module _ (a : Accepted) (size : CertificateSize) (ks : List (Box ProofOf Global)) (i : ℕ) (all : LoweredTally) (end : length ks ≤ i) (so : KidsSoFar a size ks i all) where
  none-left : drop i ks ≡ []
  none-left = drop_all i ks end

  kids-nodes : all.nodes ≡ in_u128 (size.nodes + used_sum size.uses.items (lowered_nodes_of a (boxed ks)))
  kids-nodes =
      let z = ap (λ (x : List (Box ProofOf Global)). used_sum (drop i size.uses.items) (lowered_nodes_of a (boxed x))) none-left ∙ used_sum-none (drop i size.uses.items) in
      let n = so.nodes in
      let w = so.within in omega (arith, z, n, w)

  kids-heights : all.height ≡ max size.height (used_most size.uses.items (lowered_heights_of a (boxed ks)))
  kids-heights =
      let z = ap (λ (x : List (Box ProofOf Global)). used_most (drop i size.uses.items) (lowered_heights_of a (boxed x))) none-left ∙ used_most-none (drop i size.uses.items) in
      let n = so.height in omega (arith, z, n)

  kids-copied : in_u64 all.copied ≡ in_u64 (used_copies size.uses.items (lowered_nodes_of a (boxed ks)) (copied_of a (boxed ks)))
  kids-copied =
      let z = ap (λ (x : List (Box ProofOf Global)). used_copies (drop i size.uses.items) (lowered_nodes_of a (boxed x)) (copied_of a (boxed x))) none-left ∙ used_copies-none (drop i size.uses.items) in
      let n = so.copied in omega (arith, z, n)

  pub kids-last : IsSizedTally a size (boxed ks) all
  kids-last = record { nodes = kids-nodes; height = kids-heights; small = so.small; copied = kids-copied }

-- the same of kids that are all used once, under one node
pub record BaseSoFar (a : Accepted) (ks : List (Box ProofOf Global)) (i : ℕ) (all : LoweredTally) : Type 0 where
  pub nodes : in_u128 (all.nodes + total (lowered_nodes_of a (boxed (drop i ks)))) ≡ in_u128 (total (lowered_nodes_of a (boxed ks)) + 1)
  pub within : in_u128 all.nodes ≡ all.nodes
  pub height : max all.height (greatest (lowered_heights_of a (boxed (drop i ks))) + 1) ≡ greatest (lowered_heights_of a (boxed ks)) + 1
  pub low : 1 ≤ all.height
  pub small : all.height ≤ 3000 * (most_height (boxed ks) + 1)
  pub copied : in_u64 (all.copied + total (copied_of a (boxed (drop i ks)))) ≡ in_u64 (total (copied_of a (boxed ks)))

pub base-first : (a : Accepted) (ks : List (Box ProofOf Global)) (all : LoweredTally) → all ≡ record { nodes = 1; height = 1; copied = 0 } → BaseSoFar a ks 0 all
base-first a ks all e =
    subst (λ (x : LoweredTally). BaseSoFar a ks 0 x) (sym e) (record {
      nodes = ap in_u128 (omega arith);
      within = refl;
      height = omega arith;
      low = omega arith;
      small = omega arith;
      copied = (let z : 0 + total (copied_of a (boxed ks)) ≡ total (copied_of a (boxed ks)) = omega arith in ap in_u64 z);
    })

pub one_time : (n : ℕ) → 1 * n ≡ n
one_time n = grind arith

pub no_time : (n : ℕ) → 0 * n ≡ 0
no_time n = grind arith

pub base-on : (a : Accepted) (ks : List (Box ProofOf Global)) (i : ℕ) (old new : LoweredTally) (k : Box ProofOf Global) (q : ProofOf) → i < length ks → k ≡ get_or ks i k → q ≡ k.value →
    IsWithKid a (record { times = 1; above = 1 }) (proof q) old new → BaseSoFar a ks i old → BaseSoFar a ks (i + 1) new
base-on a ks i old new k q l at_k same h so =
    let ps = kids-drop ks i k q l at_k same in
    let hn = h.nodes in
    let hh = h.height in
    let hs = h.small in
    let hc = h.copied in
    let on = one_time (lowered_nodes a (proof q)) in
    let oz = no_time (lowered_nodes a (proof q)) in
    let n = ap (λ (x : Proofs). total (lowered_nodes_of a x)) ps in
    let m = ap (λ (x : Proofs). greatest (lowered_heights_of a x)) ps in
    let c = ap (λ (x : Proofs). total (copied_of a x)) ps in
    let sn = so.nodes in
    let sh = so.height in
    let sl = so.low in
    let ss = so.small in
    let sc = so.copied in
    let w = kid-height ks i k q l at_k same in
    record {
      nodes = omega (arith, n, hn, sn, on);
      within = omega (arith, hn);
      height = omega (arith, m, hh, sh);
      low = omega (arith, hh, sl);
      small = omega (arith, hs, ss, w);
      copied = omega (arith, c, hc, sc, oz);
    }

module _ (a : Accepted) (ks : List (Box ProofOf Global)) (i : ℕ) (all : LoweredTally) (end : length ks ≤ i) (so : BaseSoFar a ks i all) where
  none_left : drop i ks ≡ []
  none_left = drop_all i ks end

  all_base-nodes : all.nodes ≡ in_u128 (total (lowered_nodes_of a (boxed ks)) + 1)
  all_base-nodes =
      let z = ap (λ (x : List (Box ProofOf Global)). total (lowered_nodes_of a (boxed x))) none_left in
      let n = so.nodes in
      let w = so.within in omega (arith, z, n, w)

  all_base-height : all.height ≡ greatest (lowered_heights_of a (boxed ks)) + 1
  all_base-height =
      let z = ap (λ (x : List (Box ProofOf Global)). greatest (lowered_heights_of a (boxed x))) none_left in
      let n = so.height in
      let l = so.low in omega (arith, z, n, l)

  all_base-copied : in_u64 all.copied ≡ in_u64 (total (copied_of a (boxed ks)))
  all_base-copied =
      let z = ap (λ (x : List (Box ProofOf Global)). total (copied_of a (boxed x))) none_left in
      let n = so.copied in omega (arith, z, n)

  pub base-last : IsBaseTally a (boxed ks) all
  base-last = record { nodes = all_base-nodes; height = all_base-height; small = so.small; copied = all_base-copied }

-- a kid that is used adds what is counted of it
pub with-used : (a : Accepted) (u : GivenUse) (p : Proof) (so size new : LoweredTally) → 0 < u.times → IsTallyOf a p size →
    new.nodes ≡ in_u128 (so.nodes + in_u128 (u.times * size.nodes)) → new.height ≡ max so.height (u.above + size.height) → u.above ≤ 3000 →
    new.copied ≡ in_u128 (in_u128 (so.copied + in_u128 ((u.times - 1) * size.nodes)) + size.copied) → IsWithKid a u p so new
with-used a u p so size new some h n hh near c =
    let b = lt-ltb 0 u.times some in
    let e = h.height in
    let s = h.small in
    let low = lowered_height a p in
    let times : ℕ → ℕ = (λ x. in_u128 (so.nodes + in_u128 (u.times * x))) in
    record {
      nodes = n ∙ ap times h.nodes ∙ kid-nodes so.nodes u.times (lowered_nodes a p);
      height = hh ∙ ap (λ (x : ℕ). max so.height (u.above + x)) e ∙ ap (λ (x : Bool). max so.height (if x then u.above + low else 0)) (sym b);
      small = omega (arith, hh, s, near);
      copied =
          ap in_u64 (c ∙ ap (λ (x : ℕ). in_u128 (in_u128 (so.copied + in_u128 ((u.times - 1) * x)) + size.copied)) h.nodes)
          ∙ kid-copied so.copied (u.times - 1) (lowered_nodes a p) size.copied (copied a p) h.copied
          ∙ ap (λ (x : Bool). in_u64 (so.copied + ((u.times - 1) * lowered_nodes a p + (if x then copied a p else 0)))) (sym b);
    }

-- one that is not used adds nothing
pub with-unused : (a : Accepted) (u : GivenUse) (p : Proof) (so : LoweredTally) → u.times ≡ 0 → in_u128 so.nodes ≡ so.nodes → IsWithKid a u p so so
with-unused a u p so none fits =
    let z = no_time (lowered_nodes a p) in
    let e = ap (λ (x : ℕ). x * lowered_nodes a p) none in
    let f = ap (λ (x : ℕ). (x - 1) * lowered_nodes a p) none in
    let b = ap (λ (x : ℕ). nat_lt 0 x) none in
    record {
      nodes = omega (arith, z, e, fits);
      height = (let m : so.height ≡ max so.height 0 = omega arith in m ∙ ap (λ (x : Bool). max so.height (if x then u.above + lowered_height a p else 0)) (sym b));
      small = omega arith;
      copied = (let m : so.copied ≡ so.copied + ((u.times - 1) * lowered_nodes a p + 0) = omega (arith, z, f) in ap in_u64 m ∙ ap (λ (x : Bool). in_u64 (so.copied + ((u.times - 1) * lowered_nodes a p + (if x then copied a p else 0)))) (sym b));
    }
