-- Derivations whose entries stand in a list.
use Rattle.std.proofs.Common.{◌≡◌, ℕ, zero, suc, ◌+◌, ◌<◌, ◌≤◌, List, [], ◌∷◌, ◌++◌, length, drop, get_or, refl, sym, ap, ◌∙◌, subst, append_assoc, append-nil, arith}
use Rattle.std.proofs.lemmas.List.{length-append, length-drop, drop-drop, drop_at, drop_more, drop-map}
use Rattle.sx_term.specs.Tree.{Tree}
use Rattle.sx_rules.specs.declared.entry.Entry.{Entry as EntryOf}
use Rattle.sx_rules.specs.declared.entry.Entry.TheVariants.{Rule, Given}
use Rattle.sx_rules.specs.Derivations.{Proof, Proofs, by, given, no_more, ◌⊳◌, nodes_of}
use Rattle.sx_rules.specs.Derivations.{nodes_of_all}
use Rattle.sx_rules.specs.Orders.{Entry, of_given, of_rule, order_of, order_of_all}
use Rattle.sx_rules.specs.EntryView.{entry, entries}
use Rattle.sx_rewrite.specs.Accepted.{Accepted}
use Rattle.sx_rewrite.specs.LoweredSizes.{HasFitKids, HaveFitKids}
use Rattle.sx_expand.specs.Standing.{StandsInList, StandEach, IsDerivationListed, AreListed}

-- a derivation has as many entries as nodes
mutual
  pub order-length : (p : Proof) → length (order_of p) ≡ nodes_of p
  order-length (by r binds kids) = let h = orders-length kids in omega (arith, h)
  order-length (given i) = refl

  pub orders-length : (ps : Proofs) → length (order_of_all ps) ≡ nodes_of_all ps
  orders-length no_more = refl
  orders-length (p ⊳ ps) =
      let a = order-length p in
      let b = orders-length ps in
      let c = length-append (order_of p) (order_of_all ps) in omega (arith, a, b, c)

pub nodes-some : (p : Proof) → 0 < nodes_of p
nodes-some (by r binds kids) = omega arith
nodes-some (given i) = omega arith

-- it ends within the list
pub stands-within : (list : List Entry) (i : ℕ) (p : Proof) → StandsInList list i p → i + nodes_of p ≤ length list
stands-within list i p (rest, e) =
    let a = ap length e in
    let b = length-drop i list in
    let c = length-append (order_of p) rest in
    let d = order-length p in
    let n = nodes-some p in omega (arith, a, b, c, d, n)

-- past the first of two parts
pub drop-on : (list : List Entry) (i n : ℕ) (xs ys : List Entry) → drop i list ≡ xs ++ ys → length xs ≡ n → drop (i + n) list ≡ ys
drop-on list i n xs ys e l = sym (drop-drop n i list) ∙ ap (drop n) e ∙ drop_at xs ys n l

-- the kids stand after their node
pub kids-stand : (list : List Entry) (i r : ℕ) (binds : List Tree) (kids : Proofs) → StandsInList list i (by r binds kids) → StandEach list (i + 1) kids
kids-stand list i r binds kids (rest, e) = (rest, drop-on list i 1 (of_rule r ∷ []) (order_of_all kids ++ rest) e refl)

-- the first of a row, and the others after it
pub first-stands : (list : List Entry) (i : ℕ) (p : Proof) (ps : Proofs) → StandEach list i (p ⊳ ps) → StandsInList list i p × StandEach list (i + nodes_of p) ps
first-stands list i p ps (rest, e) =
    let f : drop i list ≡ order_of p ++ (order_of_all ps ++ rest) = e ∙ append_assoc (order_of p) (order_of_all ps) rest in
    ((order_of_all ps ++ rest, f), (rest, drop-on list i (nodes_of p) (order_of p) (order_of_all ps ++ rest) f (order-length p)))

pub listed-kids : (a : Accepted) (list : List Entry) (i r : ℕ) (binds : List Tree) (kids : Proofs) → IsDerivationListed a list i (by r binds kids) → AreListed a list (i + 1) kids
listed-kids a list i r binds kids h = record { fit = h.fit.1; stand = kids-stand list i r binds kids h.stands }

pub listed-first : (a : Accepted) (list : List Entry) (i : ℕ) (p : Proof) (ps : Proofs) → AreListed a list i (p ⊳ ps) → IsDerivationListed a list i p × AreListed a list (i + nodes_of p) ps
listed-first a list i p ps h =
    let s = first-stands list i p ps h.stand in
    (record { fit = h.fit.0; stands = s.0 }, record { fit = h.fit.1; stand = s.1 })

-- the entry at a place is the first of what stands there
pub entry-is : (list : List EntryOf) (i : ℕ) (x : EntryOf) (e : Entry) (rest : List Entry) → i < length list → x ≡ get_or list i x → drop i (entries list) ≡ e ∷ rest → entry x ≡ e
entry-is list i x e rest l same d =
    let f : entry (get_or list i x) ∷ entries (drop (i + 1) list) ≡ e ∷ rest = sym (drop-map entry i list ∙ ap entries (drop_more list i x l)) ∙ d in
    let g : entry (get_or list i x) ≡ e = cc in ap entry same ∙ g

-- at a rule stands a node by it
pub record IsBy (p : Proof) (r : ℕ) : Type 0 where
  pub binds : List Tree
  pub kids : Proofs
  pub is : p ≡ by r binds kids

pub rule-stands : (list : List EntryOf) (i : ℕ) (x : EntryOf) (r : ℕ) (p : Proof) → i < length list → x ≡ get_or list i x → x ≡ Rule r → StandsInList (entries list) i p → IsBy p r
rule-stands list i x r (by s binds kids) l same is (rest, d) =
    let e = entry-is list i x (of_rule s) (order_of_all kids ++ rest) l same d in
    let f : of_rule r ≡ of_rule s = sym (ap entry is) ∙ e in
    let g : s ≡ r = cc in
    record { binds = binds; kids = kids; is = ap (λ (n : ℕ). by n binds kids) g }
rule-stands list i x r (given s) l same is (rest, d) =
    let e = entry-is list i x (of_given s) rest l same d in
    let f : of_rule r ≡ of_given s = sym (ap entry is) ∙ e in cc

-- at a given stands that given
pub given-stands : (list : List EntryOf) (i : ℕ) (x : EntryOf) (n : ℕ) (p : Proof) → i < length list → x ≡ get_or list i x → x ≡ Given n → StandsInList (entries list) i p → p ≡ given n
given-stands list i x n (by s binds kids) l same is (rest, d) =
    let e = entry-is list i x (of_rule s) (order_of_all kids ++ rest) l same d in
    let f : of_given n ≡ of_rule s = sym (ap entry is) ∙ e in cc
given-stands list i x n (given s) l same is (rest, d) =
    let e = entry-is list i x (of_given s) rest l same d in
    let f : of_given n ≡ of_given s = sym (ap entry is) ∙ e in
    let g : s ≡ n = cc in ap given g

-- the one row and then the other
abbrev pub joined : Proofs → Proofs → Proofs
joined no_more qs = qs
joined (p ⊳ ps) qs = p ⊳ joined ps qs

joined-order : (ps qs : Proofs) → order_of_all (joined ps qs) ≡ order_of_all ps ++ order_of_all qs
joined-order no_more qs = refl
joined-order (p ⊳ ps) qs = ap (λ (x : List Entry). order_of p ++ x) (joined-order ps qs) ∙ sym (append_assoc (order_of p) (order_of_all ps) (order_of_all qs))

joined-fit : (a : Accepted) (ps qs : Proofs) → HaveFitKids a ps → HaveFitKids a qs → HaveFitKids a (joined ps qs)
joined-fit a no_more qs h k = k
joined-fit a (p ⊳ ps) qs h k = (h.0, joined-fit a ps qs h.1 k)

-- each end of an order is the order of a row
pub record IsRest (a : Accepted) (list : List Entry) : Type 0 where
  pub row : Proofs
  pub fit : HaveFitKids a row
  pub order : list ≡ order_of_all row

pub rest-is : (a : Accepted) (i : ℕ) (ps : Proofs) → HaveFitKids a ps → IsRest a (drop i (order_of_all ps))
rest-is a zero ps h = record { row = ps; fit = h; order = refl }
rest-is a (suc i) no_more h = record { row = no_more; fit = tt; order = refl }
rest-is a (suc i) (given n ⊳ ps) h = rest-is a i ps h.1
rest-is a (suc i) (by r binds kids ⊳ ps) h =
    subst (λ (x : List Entry). IsRest a (drop i x)) (joined-order kids ps) (rest-is a i (joined kids ps) (joined-fit a kids ps h.0.1 h.1))

-- so at each place of it a derivation stands
pub some-listed : (a : Accepted) (list : List Entry) (p : Proof) (i : ℕ) → HasFitKids a p → list ≡ order_of p → i < length list → (q : Proof) × IsDerivationListed a list i q
some-listed a list p i fit e l =
    let f : list ≡ order_of_all (p ⊳ no_more) = e ∙ sym (append-nil (order_of p)) in
    let r = subst (λ (x : List Entry). IsRest a (drop i x)) (sym f) (rest-is a i (p ⊳ no_more) (fit, tt)) in go r.row r.fit r.order
  where
    go : (row : Proofs) → HaveFitKids a row → drop i list ≡ order_of_all row → (q : Proof) × IsDerivationListed a list i q
    go no_more h d =
        let n = ap length d in
        let m = length-drop i list in absurd (omega (arith, n, m, l))
    go (q ⊳ qs) h d = (q, record { fit = h.0; stands = (order_of_all qs, d) })

-- the whole stands at the first place
pub whole-listed : (a : Accepted) (list : List Entry) (p : Proof) → HasFitKids a p → list ≡ order_of p → IsDerivationListed a list 0 p
whole-listed a list p fit e = record { fit = fit; stands = ([], e ∙ sym (append-nil (order_of p))) }
