-- What is stored stays shallow.
use Rattle.std.proofs.Common.{◌≡◌, arith, ℕ, zero, suc, ◌<◌, ◌≤◌, inl, inr, List, [], ◌∷◌, ◌++◌, length, get_or, Option, Some, None, ◌-◌, Bool, if◌then◌else◌, subst, sym, ap, ◌∙◌}
use Rattle.std.specs.Option.{option_copied}
use Rattle.std.specs.Borrow.{Bor}
use Rattle.std.proofs.lemmas.Bool.{le-ltb}
use Rattle.std.proofs.lemmas.Option.{slice_get_past}
use Rattle.std.specs.Prelude.{IfSome, slice_get}
use Rattle.std.specs.List.{AllByRecursion}
use Rattle.sx_term.specs.Tree.{Tree, depth_of}
use Rattle.sx_term.specs.Term.{tree}
use Rattle.sx_term.specs.declared.term.Term.{Term}
use Rattle.sx_rules.specs.Derivations.{Proof, Proofs, by, given, no_more, ◌⊳◌, height_of}
use Rattle.sx_rules.specs.Derivations.{HasShallowBinds, HaveShallowBinds, AreShallow}
use Rattle.sx_rules.specs.ProofView.{proof}
use Rattle.sx_plain.proofs.Kept.{unrefuted}
use Rattle.sx_rewrite.specs.declared.flat.Flat.{Flat}
use Rattle.sx_rewrite.specs.Stored.{flat_at}
use Rattle.sx_rewrite.specs.Shallow.{IsShallowFlat}
use Rattle.sx_rewrite.proofs.Stable.{Decided, decided, stable, both}

within : (m n : ℕ) → Decided (m ≤ n)
within zero n = inl (omega arith)
within (suc m) zero = inr (λ h. absurd (omega (arith, h)))
within (suc m) (suc n) = go (within m n)
  where
    go : Decided (m ≤ n) → Decided (suc m ≤ suc n)
    go (inl h) = inl (omega (arith, h))
    go (inr over) = inr (λ h. over (omega (arith, h)))

terms_within : (ts : List Tree) → Decided (AreShallow ts)
terms_within [] = inl tt
terms_within (t ∷ ts) = both (within (depth_of t) 1000) (terms_within ts)

mutual
  binds_within : (p : Proof) → Decided (HasShallowBinds p)
  binds_within (by r binds kids) = both (terms_within binds) (kids_within kids)
  binds_within (given i) = inl tt

  kids_within : (ps : Proofs) → Decided (HaveShallowBinds ps)
  kids_within no_more = inl tt
  kids_within (p ⊳ ps) = both (binds_within p) (kids_within ps)

subject_within : (o : Option Term) → Decided (IfSome o (λ t. depth_of (tree t) ≤ 1000))
subject_within None = inl tt
subject_within (Some t) = within (depth_of (tree t)) 1000

flat_within : (f : Flat) → Decided (IsShallowFlat f)
flat_within f =
    decided (λ x. (x.0, x.1.0, x.1.1)) (λ x. (x.0, (x.1, x.2))) (both (subject_within f.subject) (both (within (height_of (proof f.proof.value)) 3000) (binds_within (proof f.proof.value))))

flats_within : (fs : List Flat) → Decided (AllByRecursion IsShallowFlat fs)
flats_within [] = inl tt
flats_within (f ∷ fs) = both (flat_within f) (flats_within fs)

-- the one that lies at a place is shallow
pub shallow-at : (fs : List Flat) (i : ℕ) (f : Flat) → ∥ AllByRecursion IsShallowFlat fs ∥₁ → i < length fs → f ≡ get_or fs i f → IsShallowFlat f
shallow-at fs i f t l e = go fs i (stable (flats_within fs) (unrefuted t)) l e
  where
    go : (gs : List Flat) (n : ℕ) → AllByRecursion IsShallowFlat gs → n < length gs → f ≡ get_or gs n f → IsShallowFlat f
    go [] n h m g = absurd (omega (arith, m))
    go (x ∷ gs) zero h m g = subst IsShallowFlat (sym g) h.0
    go (x ∷ gs) (suc n) h m g = go gs n h.1 (omega (arith, m)) g

-- so are more of them
pub shallow-both : (fs gs : List Flat) → AllByRecursion IsShallowFlat fs → AllByRecursion IsShallowFlat gs → AllByRecursion IsShallowFlat (fs ++ gs)
shallow-both [] gs h k = k
shallow-both (f ∷ fs) gs h k = (h.0, shallow-both fs gs h.1 k)

-- a body that is shown is no deeper than the one that is stored
pub shown-depth : (o : Option (Bor Term)) (s : Option Term) → option_copied o ≡ s → IfSome s (λ t. depth_of (tree t) ≤ 1000) → IfSome o (λ t. depth_of (tree t.now) ≤ 1000)
shown-depth None s e h = tt
shown-depth (Some t) s e h = subst (λ (x : Option Term). IfSome x (λ u. depth_of (tree u) ≤ 1000)) (sym e) h

-- past the last nothing lies
pub flat-past : (fs : List Flat) (first r : ℕ) → first ≤ r → length fs ≤ r - first → flat_at first fs r ≡ None
flat-past fs first r l m =
    let at : Bool → Option Flat = (λ b. if b then None else slice_get fs (r - first)) in
    ap at (le-ltb r first l) ∙ slice_get_past fs (r - first) m
