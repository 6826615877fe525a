-- How a derivation's view follows its kids.
use Rattle.std.proofs.Common.{◌≡◌, ℕ, zero, suc, ◌+◌, ◌<◌, ◌≤◌, length, drop, get_or, List, [], ◌∷◌, ◌++◌, Vec, Box, map, ap, sym, refl, ◌∙◌, append_assoc, arith}
use Rattle.std.proofs.lemmas.List.{at_drop_more, map-append}
use Rattle.std.specs.declared.alloc.Global.{Global}
use Rattle.sx_term.specs.declared.term.Term.{Term}
use Rattle.sx_term.specs.Term.{tree}
use Rattle.sx_rules.specs.declared.proof.Proof.{Proof as ProofOf, By, Row_of-Proof-By-2-1, end_of-Proof-By-2-1, more_of-Proof-By-2-1, items-the_row-Proof-By-2-1, items_hidden-the_row-Proof-By-2-1-0}
use Rattle.sx_rules.specs.declared.proof.Proof.TheBlock.{hidden-the_row-Proof-By-2-1-0}
use Rattle.sx_rules.specs.declared.entry.Entry.{Entry as EntryOf}
use Rattle.sx_rules.specs.declared.entry.Entry.TheVariants.{Rule}
use Rattle.sx_rules.specs.Derivations.{by, ◌⊳◌, height_of, most_height}
use Rattle.sx_rules.specs.Orders.{Entry, of_rule, order_of, order_of_all}
use Rattle.sx_rules.specs.EntryView.{entry, entries}
use Rattle.sx_rules.specs.ProofView.{proof, row_proofs, boxed}

pub row_proofs-items : {m : _} → (k : Row_of-Proof-By-2-1 m) → row_proofs k ≡ boxed (items-the_row-Proof-By-2-1 m k)
row_proofs-items end_of-Proof-By-2-1 = refl
row_proofs-items (more_of-Proof-By-2-1 pointer p rest) = ap (λ r. proof p ⊳ r) (row_proofs-items rest)

-- the view of a derivation by a rule is its kids' views
pub proof-at_by : (p : ProofOf) (rule : ℕ) (binds : Vec Term Global) (kids : Vec (Box ProofOf Global) Global) → p ≡ By rule binds kids →
    proof p ≡ by rule (map tree binds.items) (boxed kids.items)
proof-at_by p rule binds kids e =
    ap proof e ∙ ap (by rule (map tree binds.items)) (row_proofs-items (hidden-the_row-Proof-By-2-1-0 kids) ∙ ap boxed (items_hidden-the_row-Proof-By-2-1-0 kids))

-- one kid on
boxed-drop : (ks : List (Box ProofOf Global)) (i : ℕ) (k : Box ProofOf Global) (q : ProofOf) → i < length ks → k ≡ get_or ks i k → q ≡ k.value → boxed (drop i ks) ≡ proof q ⊳ boxed (drop (i + 1) ks)
boxed-drop ks i k q h e same = at_drop_more boxed ks i k h ∙ ap (λ x. proof x.value ⊳ boxed (drop (i + 1) ks)) (sym e) ∙ ap (λ x. proof x ⊳ boxed (drop (i + 1) ks)) (sym same)

most_height-at : (ks : List (Box ProofOf Global)) (i : ℕ) (k : Box ProofOf Global) → i < length ks → k ≡ get_or ks i k → height_of (proof k.value) ≤ most_height (boxed ks)
most_height-at [] i k h e = absurd (omega arith)
most_height-at (x ∷ ks) zero k h e = let f = ap (λ y. height_of (proof y.value)) e in omega arith
most_height-at (x ∷ ks) (suc i) k h e = let r = most_height-at ks i k (omega arith) e in omega arith

module _ (p : ProofOf) (rule : ℕ) (binds : Vec Term Global) (kids : Vec (Box ProofOf Global) Global) (ks : List (Box ProofOf Global)) (is : p ≡ By rule binds kids) (row : ks ≡ kids.items) where
  -- a kid is less deep than its node
  pub height_of-kid : (i : ℕ) (k : Box ProofOf Global) (q : ProofOf) → i < length ks → k ≡ get_or ks i k → q ≡ k.value → height_of (proof q) < height_of (proof p)
  height_of-kid i k q h e same =
      let d = ap height_of (proof-at_by p rule binds kids is) in
      let a = ap (λ x. most_height (boxed x)) row in
      let b = ap (λ x. height_of (proof x)) same in
      omega (arith, most_height-at ks i k h e)

  -- the node's own entry comes first
  pub order-opens : (old new : List EntryOf) → new ≡ old ++ Rule rule ∷ [] → entries new ++ order_of_all (boxed (drop 0 ks)) ≡ entries old ++ order_of (proof p)
  order-opens old new e =
      ap (λ x. entries x ++ order_of_all (boxed (drop 0 ks))) e
      ∙ ap (λ x. x ++ order_of_all (boxed (drop 0 ks))) (map-append entry old (Rule rule ∷ []))
      ∙ append_assoc (entries old) (of_rule rule ∷ []) (order_of_all (boxed (drop 0 ks)))
      ∙ ap (λ x. entries old ++ of_rule rule ∷ order_of_all (boxed x)) row
      ∙ ap (λ x. entries old ++ order_of x) (sym (proof-at_by p rule binds kids is))

-- then those of its kids one after the other
pub order-on : (ks : List (Box ProofOf Global)) (i : ℕ) (k : Box ProofOf Global) (q : ProofOf) (old new : List EntryOf) (total : List Entry) → i < length ks → k ≡ get_or ks i k → q ≡ k.value →
    entries new ≡ entries old ++ order_of (proof q) → entries old ++ order_of_all (boxed (drop i ks)) ≡ total → entries new ++ order_of_all (boxed (drop (i + 1) ks)) ≡ total
order-on ks i k q old new total h e same more so_far =
    ap (λ x. x ++ order_of_all (boxed (drop (i + 1) ks))) more
    ∙ append_assoc (entries old) (order_of (proof q)) (order_of_all (boxed (drop (i + 1) ks)))
    ∙ ap (λ x. entries old ++ order_of_all x) (sym (boxed-drop ks i k q h e same))
    ∙ so_far
