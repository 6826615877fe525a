-- Tasks that come behind others, and those that are kept below a base.
use Rattle.std.proofs.Common.{◌≡◌, ℕ, ◌≤◌, List, ◌++◌, take, drop, length, refl, sym, ap, ◌∙◌, arith, append_assoc, take-append-drop}
use Rattle.std.proofs.lemmas.List.{length-append, drop-append-le, take-append-le, take_at, drop_at}
use Rattle.sx_derive.specs.Turns.{AreKeptBelow}
use Rattle.sx_derive.specs.declared.tasks.Task.{Task as TaskOf}

module _ (base : ℕ) where
  pub kept_same : (xs : List TaskOf) → base ≤ length xs → AreKeptBelow base xs xs
  kept_same xs l = record { reaches = l; below = refl }

  pub kept_then : (xs ys zs : List TaskOf) → AreKeptBelow base xs ys → AreKeptBelow base ys zs → AreKeptBelow base xs zs
  kept_then xs ys zs k l = record { reaches = l.reaches; below = l.below ∙ k.below }

  -- more come behind those that are kept
  pub kept_more : (xs ys zs more : List TaskOf) → AreKeptBelow base xs ys → zs ≡ ys ++ more → AreKeptBelow base xs zs
  kept_more xs ys zs more k e =
      let l = k.reaches in
      let m = length-append ys more in
      let n : length zs ≡ length (ys ++ more) = ap length e in
      record { reaches = (omega arith); below = ap (take base) e ∙ take-append-le base ys more l ∙ k.below }

  -- those above the base, and more behind them
  pub above_more : (ys zs more : List TaskOf) → base ≤ length ys → zs ≡ ys ++ more → drop base zs ≡ drop base ys ++ more
  above_more ys zs more l e = ap (drop base) e ∙ drop-append-le base ys more l

-- what comes behind those that came behind others
pub behind_both : (old mid new more left : List TaskOf) → mid ≡ old ++ more → new ≡ mid ++ left → new ≡ old ++ (more ++ left)
behind_both old mid new more left e f = f ∙ ap (λ (ts : List TaskOf). ts ++ left) e ∙ append_assoc old more left

-- tasks with others behind them, whose number is the base
module _ (base : ℕ) (old more mid : List TaskOf) (b : base ≡ length old) (e : mid ≡ old ++ more) where
  pub base_within : base ≤ length mid
  base_within = let n = ap length e ∙ length-append old more in omega arith

  pub above_base : drop base mid ≡ more
  above_base = ap (drop base) e ∙ drop_at old more base (sym b)

  -- those are kept, and what is above the base comes behind them
  pub kept_behind : (new : List TaskOf) → AreKeptBelow base mid new → new ≡ old ++ drop base new
  kept_behind new k =
      sym (take-append-drop base new)
      ∙ ap (λ (ts : List TaskOf). ts ++ drop base new) (k.below ∙ ap (take base) e ∙ take_at old more base (sym b))
