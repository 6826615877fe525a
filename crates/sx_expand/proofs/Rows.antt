-- Derivations that stand one after another, and are taken one by one.
use Rattle.std.proofs.Common.{◌≡◌, ℕ, ◌+◌, ◌<◌, ◌≤◌, List, length, get_or, refl, sym, subst, arith}
use Rattle.sx_rules.specs.Derivations.{Proof, Proofs, no_more, ◌⊳◌, nodes_of_all}
use Rattle.sx_rules.specs.Orders.{Entry}
use Rattle.sx_rewrite.specs.Accepted.{Accepted}
use Rattle.sx_expand.specs.Standing.{IsDerivationListed, AreListed, AreEnds}
use Rattle.sx_expand.proofs.Standing.{nodes-some, stands-within, listed-first}

-- a row stands from here up to the end
pub record UpTo (a : Accepted) (list : List Entry) (here end : ℕ) (ps : Proofs) : Type 0 where
  pub row : AreListed a list here ps
  pub sum : here + nodes_of_all ps ≡ end

-- the first of a row that has not ended
pub record IsHead (a : Accepted) (list : List Entry) (ends : List ℕ) (here end : ℕ) (ps : Proofs) : Type 0 where
  pub first : Proof
  pub rest : Proofs
  pub is : ps ≡ first ⊳ rest
  pub listed : IsDerivationListed a list here first
  pub within : here < length ends
  pub more : here < get_or ends here 0
  pub low : get_or ends here 0 ≤ end
  pub next : UpTo a list (get_or ends here 0) end rest

pub head-is : (a : Accepted) (list : List Entry) (ends : List ℕ) (here end : ℕ) (ps : Proofs) → AreEnds a list ends → here < end → UpTo a list here end ps → IsHead a list ends here end ps
head-is a list ends here end no_more known l up = let e = up.sum in absurd (omega (arith, l, e))
head-is a list ends here end (p ⊳ ps) known l up =
    let f = listed-first a list here p ps up.row in
    let w = stands-within list here p f.0.stands in
    let n = nodes-some p in
    let m = known.many in
    let e = known.each here p (omega arith) f.0 in
    let t = up.sum in
    record {
      first = p;
      rest = ps;
      is = refl;
      listed = f.0;
      within = omega (arith, w, n, m);
      more = omega (arith, e, n);
      low = omega (arith, e, t);
      next = record { row = subst (λ (x : ℕ). AreListed a list x ps) (sym e) f.1; sum = omega (arith, e, t) };
    }

-- a row that has ended is empty
pub row-ended : (a : Accepted) (list : List Entry) (here end : ℕ) (ps : Proofs) → end ≤ here → UpTo a list here end ps → ps ≡ no_more
row-ended a list here end no_more l up = refl
row-ended a list here end (p ⊳ ps) l up =
    let n = nodes-some p in
    let e = up.sum in absurd (omega (arith, l, n, e))
