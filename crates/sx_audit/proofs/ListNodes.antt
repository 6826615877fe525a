-- The nodes of a derivation whose entries stand in a list.
use Rattle.std.proofs.Common.{◌≡◌, ℕ, zero, suc, ◌+◌, ◌^◌, ◌-◌, ◌<◌, ◌≤◌, List, [], ◌∷◌, ◌++◌}
use Rattle.std.proofs.Common.{map, drop, length, Some, None, Result, Ok, Err, IsErrAnd}
use Rattle.std.proofs.Common.{ap, sym, refl, subst, ◌∙◌, append_assoc, arith}
use Rattle.std.specs.Prelude.{slice_get}
use Rattle.std.proofs.Common.{get_or}
use Rattle.std.proofs.lemmas.List.{append-nil, at_drop_more, drop_all}
use Rattle.sx_term.specs.declared.term.Term.{Term}
use Rattle.sx_term.specs.Term.{tree}
use Rattle.sx_term.specs.Tree.{Tree}
use Rattle.sx_rules.specs.declared.rule.Judgement.{Judgement as JudgementOf}
use Rattle.sx_rules.specs.declared.rule.Premise.{Premise as PremiseOf}
use Rattle.sx_rules.specs.declared.rule.Premise.TheVariants.{Holds, Apart}
use Rattle.sx_rules.specs.declared.rule.Rule.{Rule as RuleOf}
use Rattle.sx_rules.specs.Rules.{Judgement, Premise, holds, apart, Rule, no_hypotheses}
use Rattle.sx_rules.specs.Rules.{judgement_instance, judgements_of}
use Rattle.sx_rules.specs.Instances.{bound_by}
use Rattle.sx_rules.specs.Views.{NamedRule, named, rule, premise, judgement}
use Rattle.sx_rules.specs.Derivations.{Proof, Proofs, by, given, no_more, ◌⊳◌, Derives, DeriveEach}
use Rattle.sx_rules.specs.Derivations.{most_height}
use Rattle.sx_rules.specs.Orders.{Entry, of_rule, order_of, order_of_all}
use Rattle.sx_audit.specs.Meaning.{Meaning, node}
use Rattle.sx_audit.specs.Preorder.{nodes, nodes_of_each, IsDerivationList}
use Rattle.sx_audit.specs.Shown.{IsShownAfter}
use Rattle.sx_audit.specs.Standing.{IsDerivationAt}
use Rattle.sx_audit.specs.declared.show_error.ShowError.{ShowError}
use Rattle.sx_audit.proofs.NodeLaws.{some-below, same-length}
use Rattle.sx_audit.proofs.ProofNodes.{name-at}
use Rattle.sx_audit.proofs.Carrying.{Carries, carries-all, carries-on, carries-stop, carries-end}

-- what stands first in the rest of a list
record First {A : Type 0} (xs : List A) (at : ℕ) (x : A) (more : List A) : Type 0 where
  there : slice_get xs at ≡ Some x
  next : drop (at + 1) xs ≡ more
  within : at < length xs

next-of : (i : ℕ) → i + 1 ≡ suc i
next-of i = omega arith

first-there : {A : Type 0} (xs : List A) (at : ℕ) (x : A) (more : List A) →
    drop at xs ≡ x ∷ more → First xs at x more
first-there [] zero x more e = absurd (cc)
first-there [] (suc at) x more e = absurd (cc)
first-there (y ∷ xs) zero x more e = record { there = cc; next = cc; within = omega arith }
first-there {A} (y ∷ xs) (suc at) x more e =
    let r = first-there xs at x more e in
    let h = r.within in
    record {
      there = r.there;
      next = ap (λ (n : ℕ). drop n (y ∷ xs)) (next-of (suc at))
          ∙ ap (λ (n : ℕ). drop n xs) (sym (next-of at)) ∙ r.next;
      within = omega (arith, h);
    }

-- a rule without its name
bare-at : (rs : List RuleOf) (i : ℕ) (r : NamedRule) → slice_get (map named rs) i ≡ Some r →
    slice_get (map rule rs) i ≡ Some r.rule
bare-at [] i r e = absurd (cc)
bare-at (x ∷ rs) zero r e = cc
bare-at (x ∷ rs) (suc i) r e = bare-at rs i r e

-- a premise that asks for a kid, and one that asks for none
module _ (items : List PremiseOf) (i : ℕ) (x : PremiseOf) (h : i < length items)
    (e : x ≡ get_or items i x) where
  premise-on : map premise (drop i items) ≡ premise x ∷ map premise (drop (i + 1) items)
  premise-on =
      at_drop_more (map premise) items i x h
      ∙ ap (λ (y : PremiseOf). premise y ∷ map premise (drop (i + 1) items)) (sym e)

  pub asks-kid : (j : JudgementOf) → x ≡ Holds j →
      map premise (drop i items) ≡ holds (judgement j) ∷ map premise (drop (i + 1) items)
  asks-kid j is =
      premise-on ∙ ap (λ (y : PremiseOf). premise y ∷ map premise (drop (i + 1) items)) is

  pub asks-none : (t u : Term) → x ≡ Apart t u →
      map premise (drop i items) ≡ apart (tree t) (tree u) ∷ map premise (drop (i + 1) items)
  asks-none t u is =
      premise-on ∙ ap (λ (y : PremiseOf). premise y ∷ map premise (drop (i + 1) items)) is

pub no-premise : (items : List PremiseOf) (i : ℕ) → length items ≤ i →
    map premise (drop i items) ≡ []
no-premise items i h = ap (map premise) (drop_all i items h)

-- the whole list of a derivation
pub list-stands : (rules : List Rule) (list : List Entry) (p : Proof) → IsDerivationList rules list p →
    IsDerivationAt rules list 0 1 p []
list-stands rules list p is = record {
  judgement = is.judgement;
  derives = is.derives;
  place = is.order ∙ sym (append-nil (order_of p));
  shallow = let h = is.height in omega (arith, h);
}

module _ (rs : List RuleOf) (list : List Entry) (at depth : ℕ) where
  abbrev rules : List NamedRule
  rules = map named rs

  abbrev bare : List Rule
  bare = map rule rs

  -- what stands there is the entry of the root's rule
  pub root-there : (p : Proof) (rest : List Entry) → IsDerivationAt bare list at depth p rest →
      (r : ℕ) × (slice_get list at ≡ Some (of_rule r))
  root-there (given i) rest s = absurd (let h : None ≡ Some s.judgement = s.derives in cc)
  root-there (by r binds kids) rest s =
      (r, (first-there list at (of_rule r) (order_of_all kids ++ rest) s.place).there)

  pub root-within : (p : Proof) (rest : List Entry) → IsDerivationAt bare list at depth p rest →
      (r : ℕ) → slice_get list at ≡ Some (of_rule r) → r < length rules
  root-within (given i) rest s r e = absurd (let h : None ≡ Some s.judgement = s.derives in cc)
  root-within (by q binds kids) rest s r e =
      let f = (first-there list at (of_rule q) (order_of_all kids ++ rest) s.place).there in
      let same : q ≡ r = cc in
      let found = ap (slice_get bare) (sym same) ∙ s.derives.1 in
      subst (λ (n : ℕ). r < n) (same-length rs) (some-below bare r s.derives.0 found)

  pub place-within : (p : Proof) (rest : List Entry) → IsDerivationAt bare list at depth p rest →
      at < length list
  place-within (given i) rest s = absurd (let h : None ≡ Some s.judgement = s.derives in cc)
  place-within (by r binds kids) rest s =
      (first-there list at (of_rule r) (order_of_all kids ++ rest) s.place).within

  -- The kids of the root for the judgements of these premises are left, and their entries stand in
  -- the list from a place on.
  pub record Left (p : Proof) (rest : List Entry) (old now : List Meaning) (next : ℕ)
      (premises : List Premise) : Type 0 where
    pub binds : List Tree
    pub kids : Proofs
    pub derive : DeriveEach bare no_hypotheses
        (map (judgement_instance (bound_by binds)) (judgements_of premises)) kids
    pub place : drop next list ≡ order_of_all kids ++ rest
    pub shallow : depth + 1 + most_height kids ≤ 3001
    pub carries : Carries at old (nodes rules depth p) next now
        (nodes_of_each rules (depth + 1) kids)

  -- the root comes first, and then its kids
  root-first : (q r : ℕ) (binds : List Tree) (kids : Proofs) (n : NamedRule) → q ≡ r →
      slice_get rules r ≡ Some n → nodes rules depth (by q binds kids)
      ≡ (node n.name depth ∷ []) ++ nodes_of_each rules (depth + 1) kids
  root-first q r binds kids n same e =
      ap (λ (name : List ℕ). node name depth ∷ nodes_of_each rules (depth + 1) kids)
      (name-at rules q n (ap (slice_get rules) same ∙ e))

  pub root-shown : (p : Proof) (rest : List Entry) → IsDerivationAt bare list at depth p rest →
      (r : ℕ) (n : NamedRule) → slice_get list at ≡ Some (of_rule r) → slice_get rules r ≡ Some n →
      at + 1 ≤ 2 ^ 64 - 1 → (ps : List Premise) → ps ≡ n.rule.premises →
      (old now : List Meaning) (j : ℕ) → IsShownAfter at old (node n.name depth ∷ []) (Ok j) now →
      Left p rest old now (at + 1) ps
  root-shown (given i) rest s r n e f small ps these old now j h =
      absurd (let h : None ≡ Some s.judgement = s.derives in cc)
  root-shown (by q binds kids) rest s r n e f small ps these old now j h =
      let first = first-there list at (of_rule q) (order_of_all kids ++ rest) s.place in
      let root = first.there in
      let same : q ≡ r = cc in
      let found = s.derives.1 in
      let b = bare-at rs r n f in
      let its : s.derives.0 ≡ n.rule = cc in
      let count = h.2 in
      let after : j ≡ at + 1 = omega (arith, count, small) in
      record {
        binds = binds;
        kids = kids;
        derive = subst (λ (xs : List Premise). DeriveEach bare no_hypotheses
            (map (judgement_instance (bound_by binds)) (judgements_of xs)) kids)
            (ap (λ (x : Rule). x.premises) its ∙ sym these) s.derives.5;
        place = first.next;
        shallow = let d = s.shallow in omega (arith, d);
        carries = subst (λ (i : ℕ). Carries at old (nodes rules depth (by q binds kids)) i now
            (nodes_of_each rules (depth + 1) kids)) after
            (carries-on at at old old (nodes rules depth (by q binds kids))
            (nodes rules depth (by q binds kids))
            (carries-all at old (nodes rules depth (by q binds kids)) (omega (arith, small)))
            j now (node n.name depth ∷ []) (nodes_of_each rules (depth + 1) kids)
            (root-first q r binds kids n same f) h);
      }

  pub root-stops : (p : Proof) (rest : List Entry) → IsDerivationAt bare list at depth p rest →
      (r : ℕ) (n : NamedRule) → slice_get list at ≡ Some (of_rule r) → slice_get rules r ≡ Some n →
      at ≤ 2 ^ 64 - 1 → (old new : List Meaning) (result : Result ℕ ShowError) (e : ShowError) →
      IsErrAnd result (λ z. z ≡ e) → IsShownAfter at old (node n.name depth ∷ []) (Err e) new →
      IsShownAfter at old (nodes rules depth p) result new
  root-stops (given i) rest s r n e f small old new result error is h =
      absurd (let h : None ≡ Some s.judgement = s.derives in cc)
  root-stops (by q binds kids) rest s r n e f small old new result error is h =
      let root = (first-there list at (of_rule q) (order_of_all kids ++ rest) s.place).there in
      let same : q ≡ r = cc in
      carries-stop at at old old (nodes rules depth (by q binds kids))
      (nodes rules depth (by q binds kids))
      (carries-all at old (nodes rules depth (by q binds kids)) small) result new
      (node n.name depth ∷ []) (nodes_of_each rules (depth + 1) kids) error is
      (root-first q r binds kids n same f) h

  -- the first of the kids that are left
  record Kid (kids : Proofs) (j : Judgement) (js : List Judgement) : Type 0 where
    it : Proof
    more : Proofs
    whole : kids ≡ it ⊳ more
    derives : Derives bare no_hypotheses j it
    derive : DeriveEach bare no_hypotheses js more

  first-kid : (kids : Proofs) (j : Judgement) (js : List Judgement) →
      DeriveEach bare no_hypotheses (j ∷ js) kids → Kid kids j js
  first-kid no_more j js d = absurd d
  first-kid (q ⊳ qs) j js d = record {
    it = q;
    more = qs;
    whole = refl;
    derives = d.0;
    derive = d.1;
  }

  module _ (p : Proof) (rest : List Entry) (old now : List Meaning) (next : ℕ)
      (ps qs : List Premise) (j : Judgement) (same : ps ≡ holds j ∷ qs)
      (left : Left p rest old now next ps) where
    kid : Kid left.kids (judgement_instance (bound_by left.binds) j)
        (map (judgement_instance (bound_by left.binds)) (judgements_of qs))
    kid = first-kid left.kids _ _
        (subst (λ (xs : List Premise). DeriveEach bare no_hypotheses
        (map (judgement_instance (bound_by left.binds)) (judgements_of xs)) left.kids) same
        left.derive)

    kid-stands : IsDerivationAt bare list next (depth + 1) kid.it (order_of_all kid.more ++ rest)
    kid-stands = record {
      judgement = judgement_instance (bound_by left.binds) j;
      derives = kid.derives;
      place = left.place ∙ ap (λ (ks : Proofs). order_of_all ks ++ rest) kid.whole
          ∙ append_assoc (order_of kid.it) (order_of_all kid.more) rest;
      shallow = let d = left.shallow in let e = ap most_height kid.whole in omega (arith, d, e);
    }

    nodes-left : nodes_of_each rules (depth + 1) left.kids
        ≡ nodes rules (depth + 1) kid.it ++ nodes_of_each rules (depth + 1) kid.more
    nodes-left = ap (nodes_of_each rules (depth + 1)) kid.whole

    pub kid-there : (q : Proof) × (more : List Entry) × IsDerivationAt bare list next (depth + 1) q more
    kid-there = (kid.it, order_of_all kid.more ++ rest, kid-stands)

    pub kid-shown : (i : ℕ) (new : List Meaning) →
        ((q : Proof) (more : List Entry) → IsDerivationAt bare list next (depth + 1) q more →
        IsShownAfter next now (nodes rules (depth + 1) q) (Ok i) new) →
        ((q : Proof) (more : List Entry) → IsDerivationAt bare list next (depth + 1) q more →
        drop i list ≡ more) → Left p rest old new i qs
    kid-shown i new shown after = record {
      binds = left.binds;
      kids = kid.more;
      derive = kid.derive;
      place = after kid.it (order_of_all kid.more ++ rest) kid-stands;
      shallow = let d = left.shallow in let e = ap most_height kid.whole in omega (arith, d, e);
      carries = carries-on at next old now (nodes rules depth p)
          (nodes_of_each rules (depth + 1) left.kids) left.carries i new
          (nodes rules (depth + 1) kid.it) (nodes_of_each rules (depth + 1) kid.more) nodes-left
          (shown kid.it (order_of_all kid.more ++ rest) kid-stands);
    }

    pub kid-after : (i : ℕ) (new : List Meaning) →
        ((q : Proof) (more : List Entry) → IsDerivationAt bare list next (depth + 1) q more →
        IsShownAfter next now (nodes rules (depth + 1) q) (Ok i) new) → next ≤ i
    kid-after i new shown =
        let fits = left.carries.fits in
        let count = (shown kid.it (order_of_all kid.more ++ rest) kid-stands).2 in
        omega (arith, fits, count)

    pub kid-stops : (new : List Meaning) (result : Result ℕ ShowError) (e : ShowError) →
        IsErrAnd result (λ z. z ≡ e) →
        ((q : Proof) (more : List Entry) → IsDerivationAt bare list next (depth + 1) q more →
        IsShownAfter next now (nodes rules (depth + 1) q) (Err e) new) →
        IsShownAfter at old (nodes rules depth p) result new
    kid-stops new result e is shown =
        carries-stop at next old now (nodes rules depth p)
        (nodes_of_each rules (depth + 1) left.kids) left.carries result new
        (nodes rules (depth + 1) kid.it) (nodes_of_each rules (depth + 1) kid.more) e is nodes-left
        (shown kid.it (order_of_all kid.more ++ rest) kid-stands)

  -- the same kids are left of equal auditors
  pub left-is : {A : Type 0} (f : A → Meaning) (p : Proof) (rest : List Entry) (old : List Meaning)
      (xs ys : List A) (i k : ℕ) (ps : List Premise) → ys ≡ xs → k ≡ i →
      Left p rest old (map f xs) i ps → Left p rest old (map f ys) k ps
  left-is {A} f p rest old xs ys i k ps e n left =
      subst (λ (m : ℕ). Left p rest old (map f ys) m ps) (sym n)
      (subst (λ (zs : List A). Left p rest old (map f zs) i ps) (sym e) left)

  -- a premise that asks for no kid
  pub none-asked : (p : Proof) (rest : List Entry) (old now : List Meaning) (next : ℕ)
      (ps qs : List Premise) (t u : Tree) → ps ≡ apart t u ∷ qs → Left p rest old now next ps →
      Left p rest old now next qs
  none-asked p rest old now next ps qs t u same left = record {
    binds = left.binds;
    kids = left.kids;
    derive = subst (λ (xs : List Premise). DeriveEach bare no_hypotheses
        (map (judgement_instance (bound_by left.binds)) (judgements_of xs)) left.kids) same
        left.derive;
    place = left.place;
    shallow = left.shallow;
    carries = left.carries;
  }

  -- no kid is left
  no-kid : (kids : Proofs) → DeriveEach bare no_hypotheses [] kids → kids ≡ no_more
  no-kid no_more d = refl
  no-kid (q ⊳ qs) d = absurd d

  module _ (p : Proof) (rest : List Entry) (old now : List Meaning) (next : ℕ) (ps : List Premise)
      (same : ps ≡ []) (left : Left p rest old now next ps) where
    none-left : left.kids ≡ no_more
    none-left = no-kid left.kids
        (subst (λ (xs : List Premise). DeriveEach bare no_hypotheses
        (map (judgement_instance (bound_by left.binds)) (judgements_of xs)) left.kids) same
        left.derive)

    pub all-shown : IsShownAfter at old (nodes rules depth p) (Ok next) now
    all-shown =
        carries-end at next old now (nodes rules depth p)
        (nodes_of_each rules (depth + 1) left.kids) left.carries
        (ap (nodes_of_each rules (depth + 1)) none-left)

    pub then-rest : drop next list ≡ rest
    then-rest = left.place ∙ ap (λ (ks : Proofs). order_of_all ks ++ rest) none-left
