-- The places of kids that are noted one by one.
use Rattle.std.proofs.Common.{◌≡◌, ℕ, ◌<◌, ◌≤◌, List, [], ◌∷◌, ◌++◌, get_or, sym, ap, ◌∙◌, subst, append_assoc, append-nil}
use Rattle.sx_rules.specs.Derivations.{Proofs}
use Rattle.sx_rules.specs.Orders.{Entry}
use Rattle.sx_rewrite.specs.Accepted.{Accepted}
use Rattle.sx_expand.specs.Standing.{ListedEach, AreEnds}
use Rattle.sx_expand.specs.Steps.{AreNotBelow}
use Rattle.sx_expand.proofs.Rows.{UpTo, head-is, row-ended}

-- the places so far, with those of what is left, are those of all
pub record PlacesSoFar (a : Accepted) (list : List Entry) (here end : ℕ) (so_far : List ℕ) (ps : Proofs) : Type 0 where
  pub left : Proofs
  pub up : UpTo a list here end left
  pub all : (more : List ℕ) → ListedEach a list more left → ListedEach a list (so_far ++ more) ps

-- whatever stands there
abbrev pub Placing : Accepted → List Entry → ℕ → ℕ → ℕ → List ℕ → Type 0
Placing a list first end here so_far = (ps : Proofs) → UpTo a list first end ps → PlacesSoFar a list here end so_far ps

pub placing-first : (a : Accepted) (list : List Entry) (first end : ℕ) (so_far : List ℕ) → so_far ≡ [] → Placing a list first end first so_far
placing-first a list first end so_far e ps up = record {
  left = ps;
  up = up;
  all = λ more h. subst (λ (x : List ℕ). ListedEach a list (x ++ more) ps) (sym e) h;
}

pub placing-more : (a : Accepted) (list : List Entry) (ends : List ℕ) (first end here : ℕ) (so_far new : List ℕ) → AreEnds a list ends → here < end → new ≡ so_far ++ here ∷ [] → Placing a list first end here so_far → Placing a list first end (get_or ends here 0) new
placing-more a list ends first end here so_far new known l e so ps up =
    let s = so ps up in
    let h = head-is a list ends here end s.left known l s.up in
    record {
      left = h.rest;
      up = h.next;
      all = λ more each.
          let with_first : ListedEach a list (here ∷ more) s.left = subst (λ (x : Proofs). ListedEach a list (here ∷ more) x) (sym h.is) (h.listed, each) in
          let same : new ++ more ≡ so_far ++ here ∷ more = ap (λ (x : List ℕ). x ++ more) e ∙ append_assoc so_far (here ∷ []) more in
          subst (λ (x : List ℕ). ListedEach a list x ps) (sym same) (s.all (here ∷ more) with_first);
    }

pub placing-last : (a : Accepted) (list : List Entry) (first end here : ℕ) (so_far : List ℕ) → end ≤ here → Placing a list first end here so_far → (ps : Proofs) → UpTo a list first end ps → ListedEach a list so_far ps
placing-last a list first end here so_far l so ps up =
    let s = so ps up in
    let none = row-ended a list here end s.left l s.up in
    let all : ListedEach a list (so_far ++ []) ps = s.all [] (subst (λ (x : Proofs). ListedEach a list [] x) (sym none) tt) in
    subst (λ (x : List ℕ). ListedEach a list x ps) (append-nil so_far) all

pub from-push : (first here : ℕ) (xs ys : List ℕ) → ys ≡ xs ++ here ∷ [] → first ≤ here → AreNotBelow first xs → AreNotBelow first ys
from-push first here xs ys e l h = subst (AreNotBelow first) (sym e) (go xs h)
  where
    go : (zs : List ℕ) → AreNotBelow first zs → AreNotBelow first (zs ++ here ∷ [])
    go [] f = (l, tt)
    go (z ∷ zs) f = (f.0, go zs f.1)
