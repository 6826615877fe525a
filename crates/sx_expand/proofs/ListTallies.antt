-- What is counted of lowered derivations by their entries.
use Rattle.std.proofs.Common.{◌≡◌, ℕ, ◌+◌, ◌-◌, ◌*◌, ◌<◌, ◌≤◌, max, List, length, drop, get_or, refl, sym, ap, subst, arith, if◌then◌else◌}
use Rattle.std.specs.Prelude.{nat_lt}
use Rattle.std.proofs.lemmas.List.{drop_all}
use Rattle.sx_rules.specs.Derivations.{Proof, Proofs, no_more, ◌⊳◌, height_of, most_height}
use Rattle.sx_rules.specs.Orders.{Entry}
use Rattle.sx_plain.specs.Measures.{total, greatest}
use Rattle.sx_rewrite.specs.declared.certificate_size.CertificateSize.{CertificateSize}
use Rattle.sx_rewrite.specs.declared.given_use.GivenUse.{GivenUse}
use Rattle.sx_rewrite.specs.declared.lowered_tally.LoweredTally.{LoweredTally}
use Rattle.sx_rewrite.specs.Accepted.{Accepted}
use Rattle.sx_rewrite.specs.Copied.{copied, copied_of}
use Rattle.sx_rewrite.specs.LoweredSizes.{proof_count}
use Rattle.sx_rewrite.specs.Sizes.{in_u64, in_u128, used_sum, used_most, used_copies}
use Rattle.sx_rewrite.specs.Tallies.{IsSizedTally, IsBaseTally, IsWithKid}
use Rattle.sx_rewrite.specs.Used.{lowered_nodes, lowered_nodes_of, lowered_height}
use Rattle.sx_rewrite.specs.Used.{lowered_heights_of}
use Rattle.sx_rewrite.proofs.SizeLaws.{uses-drop}
use Rattle.sx_rewrite.proofs.Tallied.{one_time, no_time}
use Rattle.sx_expand.specs.Standing.{IsDerivationListed, AreListed, AreEnds}
use Rattle.sx_expand.proofs.Standing.{nodes-some, stands-within, listed-first}
use Rattle.sx_expand.proofs.Rows.{UpTo, head-is, row-ended}

-- what is counted of those before a place, by the uses of their givens
pub record SizedSoFar (a : Accepted) (list : List Entry) (size : CertificateSize) (here i : ℕ) (all : LoweredTally) (ps : Proofs) : Type 0 where
  pub left : Proofs
  pub row : AreListed a list here left
  pub many : proof_count left + i ≡ length size.uses.items
  pub low : most_height left ≤ most_height ps
  pub nodes : in_u128 (all.nodes + used_sum (drop i size.uses.items) (lowered_nodes_of a left)) ≡ in_u128 (size.nodes + used_sum size.uses.items (lowered_nodes_of a ps))
  pub within : in_u128 all.nodes ≡ all.nodes
  pub height : max all.height (used_most (drop i size.uses.items) (lowered_heights_of a left)) ≡ max size.height (used_most size.uses.items (lowered_heights_of a ps))
  pub small : all.height ≤ 3000 * (most_height ps + 1)
  pub copied : in_u64 (all.copied + used_copies (drop i size.uses.items) (lowered_nodes_of a left) (copied_of a left)) ≡ in_u64 (used_copies size.uses.items (lowered_nodes_of a ps) (copied_of a ps))

abbrev pub Sizing : Accepted → List Entry → CertificateSize → ℕ → ℕ → ℕ → LoweredTally → Type 0
Sizing a list size first here i all = (ps : Proofs) → AreListed a list first ps → proof_count ps ≡ length size.uses.items → SizedSoFar a list size here i all ps

pub sizing-first : (a : Accepted) (list : List Entry) (size : CertificateSize) (first : ℕ) (all : LoweredTally) → all ≡ record { nodes = size.nodes; height = size.height; copied = 0 } → in_u128 size.nodes ≡ size.nodes → size.height ≤ 3000 → Sizing a list size first first 0 all
sizing-first a list size first all e within small ps row many =
    subst (λ (x : LoweredTally). SizedSoFar a list size first 0 x ps) (sym e) (record {
      left = ps;
      row = row;
      many = omega (arith, many);
      low = omega arith;
      nodes = refl;
      within = within;
      height = refl;
      small = omega (arith, small);
      copied = (let z : 0 + used_copies size.uses.items (lowered_nodes_of a ps) (copied_of a ps) ≡ used_copies size.uses.items (lowered_nodes_of a ps) (copied_of a ps) = omega arith in ap in_u64 z);
    })

-- the first of those that are left
pub record IsNextKid (a : Accepted) (list : List Entry) (ends : List ℕ) (here : ℕ) (left : Proofs) (high : ℕ) : Type 0 where
  pub first : Proof
  pub rest : Proofs
  pub is : left ≡ first ⊳ rest
  pub listed : IsDerivationListed a list here first
  pub low : height_of first ≤ high
  pub within : here < length ends
  pub more : here < get_or ends here 0
  pub row : AreListed a list (get_or ends here 0) rest

pub next-kid : (a : Accepted) (list : List Entry) (ends : List ℕ) (here : ℕ) (left : Proofs) (high : ℕ) → AreEnds a list ends → 0 < proof_count left → most_height left ≤ high → AreListed a list here left → IsNextKid a list ends here left high
next-kid a list ends here no_more high known l h row = absurd (omega (arith, l))
next-kid a list ends here (p ⊳ ps) high known l h row =
    let f = listed-first a list here p ps row in
    let w = stands-within list here p f.0.stands in
    let n = nodes-some p in
    let m = known.many in
    let e = known.each here p (omega arith) f.0 in
    record {
      first = p;
      rest = ps;
      is = refl;
      listed = f.0;
      low = omega (arith, h);
      within = omega (arith, w, n, m);
      more = omega (arith, e, n);
      row = subst (λ (x : ℕ). AreListed a list x ps) (sym e) f.1;
    }

pub some-left : (a : Accepted) (list : List Entry) (size : CertificateSize) (here i : ℕ) (all : LoweredTally) (ps : Proofs) → i < length size.uses.items → (so : SizedSoFar a list size here i all ps) → 0 < proof_count so.left
some-left a list size here i all ps l so = let m = so.many in omega (arith, l, m)

pub sizing-more : (a : Accepted) (list : List Entry) (ends : List ℕ) (size : CertificateSize) (first here i : ℕ) (old new : LoweredTally) (u : GivenUse) → AreEnds a list ends → i < length size.uses.items → u ≡ get_or size.uses.items i u →
    ((p : Proof) → IsDerivationListed a list here p → IsWithKid a u p old new) → Sizing a list size first here i old → Sizing a list size first (get_or ends here 0) (i + 1) new
sizing-more a list ends size first here i old new u known l at_u one so ps row many =
    let s = so ps row many in
    let k = next-kid a list ends here s.left (most_height s.left) known (some-left a list size here i old ps l s) (omega arith) s.row in
    let w = one k.first k.listed in
    let us = uses-drop size.uses.items i u l at_u in
    let q = k.is in
    let n : used_sum (drop i size.uses.items) (lowered_nodes_of a s.left) ≡ u.times * lowered_nodes a k.first + used_sum (drop (i + 1) size.uses.items) (lowered_nodes_of a k.rest) =
    (λ j. used_sum (us j) (lowered_nodes_of a (q j))) in
    let m : used_most (drop i size.uses.items) (lowered_heights_of a s.left) ≡ max (if nat_lt 0 u.times then u.above + lowered_height a k.first else 0) (used_most (drop (i + 1) size.uses.items) (lowered_heights_of a k.rest)) =
    (λ j. used_most (us j) (lowered_heights_of a (q j))) in
    let c : used_copies (drop i size.uses.items) (lowered_nodes_of a s.left) (copied_of a s.left)
    ≡ (u.times - 1) * lowered_nodes a k.first + (if nat_lt 0 u.times then copied a k.first else 0) + used_copies (drop (i + 1) size.uses.items) (lowered_nodes_of a k.rest) (copied_of a k.rest) =
    (λ j. used_copies (us j) (lowered_nodes_of a (q j)) (copied_of a (q j))) in
    let eh : most_height s.left ≡ max (height_of k.first) (most_height k.rest) = ap most_height q in
    let en : proof_count s.left ≡ proof_count k.rest + 1 = ap proof_count q in
    let hn = w.nodes in
    let hh = w.height in
    let hs = w.small in
    let hc = w.copied in
    let sm = s.many in
    let sl = s.low in
    let sn = s.nodes in
    let sh = s.height in
    let ss = s.small in
    let sc = s.copied in
    record {
      left = k.rest;
      row = k.row;
      many = omega (arith, sm, en);
      low = omega (arith, sl, eh);
      nodes = omega (arith, n, hn, sn);
      within = omega (arith, hn);
      height = omega (arith, m, hh, sh);
      small = omega (arith, hs, ss, sl, eh);
      copied = omega (arith, c, hc, sc);
    }

pub sizing-last : (a : Accepted) (list : List Entry) (size : CertificateSize) (first here i : ℕ) (all : LoweredTally) → length size.uses.items ≤ i → Sizing a list size first here i all → (ps : Proofs) → AreListed a list first ps → proof_count ps ≡ length size.uses.items → IsSizedTally a size ps all
sizing-last a list size first here i all l so ps row many =
    let s = so ps row many in
    let none = drop_all i size.uses.items l in
    let zn = ap (λ (us : List GivenUse). used_sum us (lowered_nodes_of a s.left)) none in
    let zh = ap (λ (us : List GivenUse). used_most us (lowered_heights_of a s.left)) none in
    let zc = ap (λ (us : List GivenUse). used_copies us (lowered_nodes_of a s.left) (copied_of a s.left)) none in
    let n = s.nodes in
    let w = s.within in
    let h = s.height in
    let c = s.copied in
    record {
      nodes = omega (arith, zn, n, w);
      height = omega (arith, zh, h);
      small = s.small;
      copied = omega (arith, zc, c);
    }

-- the same of derivations that are all used once, under one node
pub record BasedSoFar (a : Accepted) (list : List Entry) (here end : ℕ) (all : LoweredTally) (ps : Proofs) : Type 0 where
  pub left : Proofs
  pub up : UpTo a list here end left
  pub low : most_height left ≤ most_height ps
  pub nodes : in_u128 (all.nodes + total (lowered_nodes_of a left)) ≡ in_u128 (total (lowered_nodes_of a ps) + 1)
  pub within : in_u128 all.nodes ≡ all.nodes
  pub height : max all.height (greatest (lowered_heights_of a left) + 1) ≡ greatest (lowered_heights_of a ps) + 1
  pub some : 1 ≤ all.height
  pub small : all.height ≤ 3000 * (most_height ps + 1)
  pub copied : in_u64 (all.copied + total (copied_of a left)) ≡ in_u64 (total (copied_of a ps))

abbrev pub Basing : Accepted → List Entry → ℕ → ℕ → ℕ → LoweredTally → Type 0
Basing a list first end here all = (ps : Proofs) → UpTo a list first end ps → BasedSoFar a list here end all ps

pub basing-first : (a : Accepted) (list : List Entry) (first end : ℕ) (all : LoweredTally) → all ≡ record { nodes = 1; height = 1; copied = 0 } → Basing a list first end first all
basing-first a list first end all e ps up =
    subst (λ (x : LoweredTally). BasedSoFar a list first end x ps) (sym e) (record {
      left = ps;
      up = up;
      low = omega arith;
      nodes = ap in_u128 (omega arith);
      within = refl;
      height = omega arith;
      some = omega arith;
      small = omega arith;
      copied = (let z : 0 + total (copied_of a ps) ≡ total (copied_of a ps) = omega arith in ap in_u64 z);
    })

pub basing-more : (a : Accepted) (list : List Entry) (ends : List ℕ) (first end here : ℕ) (old new : LoweredTally) → AreEnds a list ends → here < end →
    ((p : Proof) → IsDerivationListed a list here p → IsWithKid a (record { times = 1; above = 1 }) p old new) → Basing a list first end here old → Basing a list first end (get_or ends here 0) new
basing-more a list ends first end here old new known l one so ps up =
    let s = so ps up in
    let k = head-is a list ends here end s.left known l s.up in
    let w = one k.first k.listed in
    let q = k.is in
    let on = one_time (lowered_nodes a k.first) in
    let oz = no_time (lowered_nodes a k.first) in
    let n = ap (λ (x : Proofs). total (lowered_nodes_of a x)) q in
    let m = ap (λ (x : Proofs). greatest (lowered_heights_of a x)) q in
    let c = ap (λ (x : Proofs). total (copied_of a x)) q in
    let eh : most_height s.left ≡ max (height_of k.first) (most_height k.rest) = ap most_height q in
    let hn = w.nodes in
    let hh = w.height in
    let hs = w.small in
    let hc = w.copied in
    let sl = s.low in
    let sn = s.nodes in
    let sh = s.height in
    let so1 = s.some in
    let ss = s.small in
    let sc = s.copied in
    record {
      left = k.rest;
      up = k.next;
      low = omega (arith, sl, eh);
      nodes = omega (arith, n, hn, sn, on);
      within = omega (arith, hn);
      height = omega (arith, m, hh, sh);
      some = omega (arith, hh, so1);
      small = omega (arith, hs, ss, sl, eh);
      copied = omega (arith, c, hc, sc, oz);
    }

pub basing-last : (a : Accepted) (list : List Entry) (first end here : ℕ) (all : LoweredTally) → end ≤ here → Basing a list first end here all → (ps : Proofs) → UpTo a list first end ps → IsBaseTally a ps all
basing-last a list first end here all l so ps up =
    let s = so ps up in
    let none = row-ended a list here end s.left l s.up in
    let zn = ap (λ (x : Proofs). total (lowered_nodes_of a x)) none in
    let zh = ap (λ (x : Proofs). greatest (lowered_heights_of a x)) none in
    let zc = ap (λ (x : Proofs). total (copied_of a x)) none in
    let n = s.nodes in
    let w = s.within in
    let h = s.height in
    let o = s.some in
    let c = s.copied in
    record {
      nodes = omega (arith, zn, n, w);
      height = omega (arith, zh, h, o);
      small = s.small;
      copied = omega (arith, zc, c);
    }
