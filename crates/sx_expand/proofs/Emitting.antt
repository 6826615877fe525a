-- Entries that are written one after another.
use Rattle.std.proofs.Common.{◌≡◌, ℕ, zero, suc, ◌+◌, ◌-◌, ◌<◌, ◌≤◌, max, List, [], ◌∷◌, ◌++◌, length, drop, get_or, Box, Vec, Some, None, refl, sym, ap, ◌∙◌, subst, arith, append_assoc, append-nil}
use Rattle.std.specs.Prelude.{slice_get, slice_index_or}
use Rattle.std.specs.declared.alloc.Global.{Global}
use Rattle.std.proofs.lemmas.List.{map-append, at_drop_more, drop_all}
use Rattle.sx_term.specs.Tree.{Tree}
use Rattle.sx_term.specs.declared.term.Term.{Term}
use Rattle.sx_rules.specs.declared.entry.Entry.{Entry as EntryOf}
use Rattle.sx_rules.specs.declared.entry.Entry.TheVariants.{Rule, Given}
use Rattle.sx_rules.specs.declared.proof.Proof.{Proof as ProofOf, By}
use Rattle.sx_rules.specs.Derivations.{Proof, Proofs, by, no_more, ◌⊳◌, nodes_of}
use Rattle.sx_rules.specs.EntryView.{entry, entries}
use Rattle.sx_rules.specs.Orders.{Entry, of_rule, of_given}
use Rattle.sx_rules.specs.ProofView.{proof, boxed}
use Rattle.sx_rules.proofs.ProofRows.{proof-at_by}
use Rattle.sx_rewrite.specs.Accepted.{Accepted, known_of}
use Rattle.sx_rewrite.specs.LoweredSizes.{FitKids}
use Rattle.sx_rewrite.specs.Stored.{certificate_at}
use Rattle.sx_expand.specs.LoweredOrders.{all_entries, grafted_order, grafted_orders, lowered_order}
use Rattle.sx_expand.specs.LoweredOrders.{lowered_orders}
use Rattle.sx_expand.specs.Standing.{IsDerivationListed, ListedEach, AreEnds}
use Rattle.sx_expand.specs.Steps.{AreNotBelow}
use Rattle.sx_expand.proofs.Standing.{listed-kids, rule-stands, given-stands}
use Rattle.sx_expand.proofs.EndsAt.{listed-within}
use Rattle.sx_expand.proofs.Nodes.{checked-order, basic-order}
use Rattle.sx_expand.proofs.Rows.{UpTo, head-is, row-ended}

-- one entry more, and others after it
pub entries-push : (old new : List EntryOf) (x : EntryOf) (rest : List Entry) → new ≡ old ++ x ∷ [] → entries new ++ rest ≡ entries old ++ entry x ∷ rest
entries-push old new x rest e =
    ap (λ (ys : List EntryOf). entries ys ++ rest) e
    ∙ ap (λ (ys : List Entry). ys ++ rest) (map-append entry old (x ∷ []))
    ∙ append_assoc (entries old) (entry x ∷ []) rest

pub entries-one : (old new : List EntryOf) (x : EntryOf) → new ≡ old ++ x ∷ [] → entries new ≡ entries old ++ entry x ∷ []
entries-one old new x e = ap entries e ∙ map-append entry old (x ∷ [])

-- a node by a rule, and its kids in a row
module _ (a : Accepted) (es : List EntryOf) (ends : List ℕ) (known : AreEnds a (entries es) ends) (i : ℕ) (x : EntryOf) (same : x ≡ get_or es i x) where
  pub record IsRuleAt (r : ℕ) (p : Proof) : Type 0 where
    pub binds : List Tree
    pub kids : Proofs
    pub is : p ≡ by r binds kids
    pub fit : FitKids (slice_get (known_of a) r) kids
    pub up : UpTo a (entries es) (i + 1) (get_or ends i 0) kids

  pub rule-at : (r : ℕ) → x ≡ Rule r → (p : Proof) → IsDerivationListed a (entries es) i p → IsRuleAt r p
  rule-at r is p h =
      let b = rule-stands es i x r p (listed-within a es i p h) same is h.stands in
      let k = subst (IsDerivationListed a (entries es) i) b.is h in
      let e = known.each i p (omega arith) h in
      let n = ap nodes_of b.is in
      record {
        binds = b.binds;
        kids = b.kids;
        is = b.is;
        fit = k.fit.0;
        up = record { row = listed-kids a (entries es) i r b.binds b.kids k; sum = omega (arith, e, n) };
      }

  -- what is written of it, where its rule has a certificate and where it has none
  pub checked-is : (r : ℕ) (certificate : Proof) → certificate_at a r ≡ Some certificate → (p : Proof) (s : IsRuleAt r p) → lowered_order a p ≡ grafted_order (lowered_orders a s.kids) certificate
  checked-is r certificate e p s = ap (lowered_order a) s.is ∙ checked-order (slice_get (known_of a) r) r (lowered_orders a s.kids) certificate e

  pub basic-is : (r : ℕ) → certificate_at a r ≡ None → (p : Proof) (s : IsRuleAt r p) → lowered_order a p ≡ of_rule r ∷ all_entries (lowered_orders a s.kids)
  basic-is r e p s = ap (lowered_order a) s.is ∙ basic-order (slice_get (known_of a) r) r s.kids (lowered_orders a s.kids) e s.fit

  pub given-is : (n : ℕ) → x ≡ Given n → (p : Proof) → IsDerivationListed a (entries es) i p → lowered_order a p ≡ of_given n ∷ []
  given-is n is p h = ap (lowered_order a) (given-stands es i x n p (listed-within a es i p h) same is h.stands)

-- what is written so far, with what is written of those that are left, is what is written of all
pub record WrittenSoFar (a : Accepted) (list : List Entry) (here end : ℕ) (old now : List EntryOf) (ps : Proofs) : Type 0 where
  pub left : Proofs
  pub up : UpTo a list here end left
  pub all : entries now ++ all_entries (lowered_orders a left) ≡ entries old ++ all_entries (lowered_orders a ps)

abbrev pub Writing : Accepted → List Entry → ℕ → ℕ → ℕ → List EntryOf → List EntryOf → Type 0
Writing a list first end here old now = (ps : Proofs) → UpTo a list first end ps → WrittenSoFar a list here end old now ps

pub writing-first : (a : Accepted) (list : List Entry) (first end : ℕ) (old : List EntryOf) → Writing a list first end first old old
writing-first a list first end old ps up = record { left = ps; up = up; all = refl }

pub writing-more : (a : Accepted) (list : List Entry) (ends : List ℕ) (first end here : ℕ) (old now new : List EntryOf) → AreEnds a list ends → here < end →
    ((p : Proof) → IsDerivationListed a list here p → entries new ≡ entries now ++ lowered_order a p) → Writing a list first end here old now → Writing a list first end (get_or ends here 0) old new
writing-more a list ends first end here old now new known l one so ps up =
    let s = so ps up in
    let h = head-is a list ends here end s.left known l s.up in
    let rest = all_entries (lowered_orders a h.rest) in
    record {
      left = h.rest;
      up = h.next;
      all =
          ap (λ (x : List Entry). x ++ rest) (one h.first h.listed)
          ∙ append_assoc (entries now) (lowered_order a h.first) rest
          ∙ ap (λ (x : Proofs). entries now ++ all_entries (lowered_orders a x)) (sym h.is)
          ∙ s.all;
    }

pub writing-last : (a : Accepted) (list : List Entry) (first end here : ℕ) (old now : List EntryOf) → end ≤ here → Writing a list first end here old now → (ps : Proofs) → UpTo a list first end ps → entries now ≡ entries old ++ all_entries (lowered_orders a ps)
writing-last a list first end here old now l so ps up =
    let s = so ps up in
    let none = row-ended a list here end s.left l s.up in
    sym (append-nil (entries now)) ∙ ap (λ (x : Proofs). entries now ++ all_entries (lowered_orders a x)) (sym none) ∙ s.all

-- the derivation at one of the places
pub record IsPlaced (a : Accepted) (list : List Entry) (places : List ℕ) (n : ℕ) (ps : Proofs) : Type 0 where
  pub one : Proof
  pub listed : IsDerivationListed a list (get_or places n 0) one
  pub order : (d : List Entry) → slice_index_or (lowered_orders a ps) n d ≡ lowered_order a one

pub placed-at : (a : Accepted) (list : List Entry) (places : List ℕ) (ps : Proofs) (n : ℕ) → ListedEach a list places ps → n < length places → IsPlaced a list places n ps
placed-at a list [] no_more n h l = absurd (omega (arith, l))
placed-at a list [] (p ⊳ ps) n h l = absurd h
placed-at a list (i ∷ is) no_more n h l = absurd h
placed-at a list (i ∷ is) (p ⊳ ps) zero h l = record { one = p; listed = h.0; order = λ d. refl }
placed-at a list (i ∷ is) (p ⊳ ps) (suc n) h l =
    let r = placed-at a list is ps n h.1 (omega (arith, l)) in
    record { one = r.one; listed = r.listed; order = r.order }

-- past the last place
pub never-placed : (a : Accepted) (list : List Entry) (places : List ℕ) (ps : Proofs) (n : ℕ) (d : List Entry) → ListedEach a list places ps → length places ≤ n → slice_index_or (lowered_orders a ps) n d ≡ d
never-placed a list [] no_more n d h l = refl
never-placed a list [] (p ⊳ ps) n d h l = absurd h
never-placed a list (i ∷ is) no_more n d h l = absurd h
never-placed a list (i ∷ is) (p ⊳ ps) zero d h l = absurd (omega (arith, l))
never-placed a list (i ∷ is) (p ⊳ ps) (suc n) d h l = never-placed a list is ps n d h.1 (omega (arith, l))

-- how many entries stand from the first of the places on
abbrev pub most_left : ℕ → List ℕ → ℕ
most_left n [] = 0
most_left n (i ∷ is) = max (n - i) (most_left n is)

pub left-from : (n first : ℕ) (is : List ℕ) → AreNotBelow first is → most_left n is ≤ n - first
left-from n first [] h = omega arith
left-from n first (i ∷ is) h =
    let r = left-from n first is h.1 in
    let l = h.0 in omega (arith, r, l)

pub left-at : (n : ℕ) (is : List ℕ) (k : ℕ) → k < length is → n - get_or is k 0 ≤ most_left n is
left-at n [] k l = absurd (omega (arith, l))
left-at n (i ∷ is) zero l = omega arith
left-at n (i ∷ is) (suc k) l = let r = left-at n is k (omega (arith, l)) in omega (arith, r)

-- the kids of a certificate, one on
module _ (lists : List (List Entry)) where
  kids-drop : (ks : List (Box ProofOf Global)) (i : ℕ) (k : Box ProofOf Global) (q : ProofOf) → i < length ks → k ≡ get_or ks i k → q ≡ k.value → boxed (drop i ks) ≡ proof q ⊳ boxed (drop (i + 1) ks)
  kids-drop ks i k q h e same =
      at_drop_more boxed ks i k h ∙ ap (λ (x : Box ProofOf Global). proof x.value ⊳ boxed (drop (i + 1) ks)) (sym e) ∙ ap (λ (x : ProofOf). proof x ⊳ boxed (drop (i + 1) ks)) (sym same)

  pub grafted-opens : (p : ProofOf) (r : ℕ) (binds : Vec Term Global) (kids : Vec (Box ProofOf Global) Global) (ks : List (Box ProofOf Global)) → p ≡ By r binds kids → ks ≡ kids.items →
      (old new : List EntryOf) → new ≡ old ++ Rule r ∷ [] → entries new ++ grafted_orders lists (boxed (drop 0 ks)) ≡ entries old ++ grafted_order lists (proof p)
  grafted-opens p r binds kids ks is row old new e =
      entries-push old new (Rule r) (grafted_orders lists (boxed ks)) e
      ∙ ap (λ (x : List (Box ProofOf Global)). entries old ++ of_rule r ∷ grafted_orders lists (boxed x)) row
      ∙ ap (λ (x : Proof). entries old ++ grafted_order lists x) (sym (proof-at_by p r binds kids is))

  pub grafted-on : (ks : List (Box ProofOf Global)) (i : ℕ) (k : Box ProofOf Global) (q : ProofOf) (old new : List EntryOf) (all : List Entry) → i < length ks → k ≡ get_or ks i k → q ≡ k.value →
      entries new ≡ entries old ++ grafted_order lists (proof q) → entries old ++ grafted_orders lists (boxed (drop i ks)) ≡ all → entries new ++ grafted_orders lists (boxed (drop (i + 1) ks)) ≡ all
  grafted-on ks i k q old new all h e same more so_far =
      ap (λ (x : List Entry). x ++ grafted_orders lists (boxed (drop (i + 1) ks))) more
      ∙ append_assoc (entries old) (grafted_order lists (proof q)) (grafted_orders lists (boxed (drop (i + 1) ks)))
      ∙ ap (λ (x : Proofs). entries old ++ grafted_orders lists x) (sym (kids-drop ks i k q h e same))
      ∙ so_far

  pub grafted-all : (ks : List (Box ProofOf Global)) (i : ℕ) (now : List EntryOf) (all : List Entry) → length ks ≤ i → entries now ++ grafted_orders lists (boxed (drop i ks)) ≡ all → entries now ≡ all
  grafted-all ks i now all l so_far =
      let none = drop_all i ks l in
      sym (append-nil (entries now)) ∙ ap (λ (x : List (Box ProofOf Global)). entries now ++ grafted_orders lists (boxed x)) (sym none) ∙ so_far
