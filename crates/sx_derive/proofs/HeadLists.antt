-- Lists of proofs of a store.
use Rattle.std.proofs.Common.{◌≡◌, ℕ, zero, suc, ◌+◌, ◌<◌, ◌≤◌, List, [], ◌∷◌, ◌++◌, map, length, drop, get_or, reverse, sym, ap, ◌∙◌, append_assoc, arith, subst}
use Rattle.std.proofs.lemmas.List.{append-nil, at_drop_more, drop_all, map-append, reverse-append}
use Rattle.sx_rules.specs.declared.entry.Entry.{Entry as EntryOf}
use Rattle.sx_rules.specs.declared.entry.Entry.TheVariants.{Rule}
use Rattle.sx_rules.specs.Derivations.{Proofs, no_more, ◌⊳◌}
use Rattle.sx_rules.specs.EntryView.{entry, entries}
use Rattle.sx_rules.specs.Orders.{Entry, of_rule, order_of, order_of_all}
use Rattle.sx_rules.specs.ProofView.{row_of}
use Rattle.sx_arena.specs.Matching.{Assignment}
use Rattle.sx_derive.specs.Machine.{joined_proofs}
use Rattle.sx_derive.specs.Chains.{kids_at, head_proof, HeadFits}
use Rattle.sx_derive.specs.Listing.{head_kids, HeadsFit, AreHeads}
use Rattle.sx_derive.specs.declared.chains.Head.{Head}
use Rattle.sx_derive.specs.declared.chains.Head.TheVariants.{By}
use Rattle.sx_derive.specs.declared.chains.Kid.{Kid}
use Rattle.sx_derive.proofs.Proved.{KidRead}
use Rattle.sx_derive.proofs.Stepped.{joined_proofs-assoc, joined_proofs-none}

-- the proofs that heads stand for, one after another
abbrev pub row_at : List Assignment → List Proofs → List Head → Proofs
row_at es ks heads = row_of (map (head_proof es ks) heads)

-- the heads that are met so far are the last of the chain
pub record Heading (es : List Assignment) (ks : List Proofs) (kids here : ℕ) (heads : List Head) : Type 0 where
  pub within : here ≤ kids
  pub fit : HeadsFit (length es) (length ks) kids (reverse heads)
  pub same : kids_at ks kids ≡ joined_proofs (kids_at ks here) (row_at es ks (reverse heads))

pub heading_first : (es : List Assignment) (ks : List Proofs) (kids : ℕ) (heads : List Head) → heads ≡ [] → Heading es ks kids kids heads
heading_first es ks kids heads e = record {
  within = (omega arith);
  fit = subst (λ (hs : List Head). HeadsFit (length es) (length ks) kids (reverse hs)) (sym e) tt;
  same = sym (joined_proofs-none (kids_at ks kids)) ∙ ap (λ (hs : List Head). joined_proofs (kids_at ks kids) (row_at es ks (reverse hs))) (sym e);
}

pub heading_more : (es : List Assignment) (ks : List Proofs) (kids here : ℕ) (heads more : List Head) (c : Kid) → Heading es ks kids here heads → KidRead es ks here c → more ≡ heads ++ c.head ∷ [] → Heading es ks kids c.before more
heading_more es ks kids here heads more c h r g =
    let w = h.within in
    let l = r.before in
    let f = r.less in
    let q : reverse more ≡ c.head ∷ reverse heads = ap reverse g ∙ reverse-append heads (c.head ∷ []) in
    record {
      within = (omega arith);
      fit = subst (λ (hs : List Head). HeadsFit (length es) (length ks) kids hs) (sym q) (r.head, (omega arith), h.fit);
      same = h.same ∙ ap (λ (x : Proofs). joined_proofs x (row_at es ks (reverse heads))) r.kids ∙ joined_proofs-assoc (kids_at ks c.before) (head_proof es ks c.head ⊳ no_more) (row_at es ks (reverse heads))
          ∙ ap (λ (hs : List Head). joined_proofs (kids_at ks c.before) (row_at es ks hs)) (sym q);
    }

pub heading_end : (es : List Assignment) (ks : List Proofs) (kids here : ℕ) (heads row : List Head) → Heading es ks kids here heads → here ≡ 0 → row ≡ reverse heads → AreHeads es ks kids row
heading_end es ks kids here heads row h z r = record {
  fit = subst (λ (hs : List Head). HeadsFit (length es) (length ks) kids hs) (sym r) h.fit;
  proofs = h.same ∙ ap (λ (n : ℕ). joined_proofs (kids_at ks n) (row_at es ks (reverse heads))) z ∙ ap (row_at es ks) (sym r);
}

-- a head among those of a chain may stand in the store, and its kids before the chain
pub head_at : (envs kids here : ℕ) (heads : List Head) (i : ℕ) (k other : Head) → HeadsFit envs kids here heads → i < length heads → k ≡ get_or heads i other → HeadFits envs kids k × (head_kids k < here)
head_at envs kids here [] i k other f h e = absurd (omega arith)
head_at envs kids here (x ∷ heads) zero k other f h e = subst (λ (y : Head). HeadFits envs kids y × (head_kids y < here)) (sym e) (f.0, f.1)
head_at envs kids here (x ∷ heads) (suc i) k other f h e = head_at envs kids here heads i k other f.2 (omega arith) e

module _ (es : List Assignment) (ks : List Proofs) where
  -- the node's own entry comes first
  pub list_opens : (head : Head) (number variables env kids : ℕ) (heads items : List Head) (old new : List EntryOf) → head ≡ By number variables env kids → AreHeads es ks kids heads → items ≡ heads → new ≡ old ++ Rule number ∷ [] →
      entries new ++ order_of_all (row_at es ks (drop 0 items)) ≡ entries old ++ order_of (head_proof es ks head)
  list_opens head number variables env kids heads items old new is a row e =
      ap (λ (x : List EntryOf). entries x ++ order_of_all (row_at es ks (drop 0 items))) e
      ∙ ap (λ (x : List Entry). x ++ order_of_all (row_at es ks (drop 0 items))) (map-append entry old (Rule number ∷ []))
      ∙ append_assoc (entries old) (of_rule number ∷ []) (order_of_all (row_at es ks (drop 0 items)))
      ∙ ap (λ (x : List Head). entries old ++ of_rule number ∷ order_of_all (row_at es ks x)) row
      ∙ ap (λ (x : Proofs). entries old ++ of_rule number ∷ order_of_all x) (sym a.proofs)
      ∙ ap (λ (x : Head). entries old ++ order_of (head_proof es ks x)) (sym is)

  -- then those of its kids one after the other
  pub list_on : (heads : List Head) (i : ℕ) (k other : Head) (old new : List EntryOf) (total : List Entry) → i < length heads → k ≡ get_or heads i other → entries new ≡ entries old ++ order_of (head_proof es ks k) →
      entries old ++ order_of_all (row_at es ks (drop i heads)) ≡ total → entries new ++ order_of_all (row_at es ks (drop (i + 1) heads)) ≡ total
  list_on heads i k other old new total h e more so_far =
      ap (λ (x : List Entry). x ++ order_of_all (row_at es ks (drop (i + 1) heads))) more
      ∙ append_assoc (entries old) (order_of (head_proof es ks k)) (order_of_all (row_at es ks (drop (i + 1) heads)))
      ∙ ap (λ (x : Proofs). entries old ++ order_of_all x) (sym (at_drop_more (row_at es ks) heads i other h ∙ ap (λ (x : Head). head_proof es ks x ⊳ row_at es ks (drop (i + 1) heads)) (sym e)))
      ∙ so_far

  -- and then nothing is left
  pub list_ends : (heads : List Head) (i : ℕ) (list : List EntryOf) (total : List Entry) → length heads ≤ i → entries list ++ order_of_all (row_at es ks (drop i heads)) ≡ total → entries list ≡ total
  list_ends heads i list total h so_far =
      sym (append-nil (entries list)) ∙ ap (λ (hs : List Head). entries list ++ order_of_all (row_at es ks hs)) (sym (drop_all i heads h)) ∙ so_far
