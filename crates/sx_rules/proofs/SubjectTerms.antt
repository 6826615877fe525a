-- The first term at a subject place.
use Rattle.std.proofs.Common.{◌≡◌, arith, ℕ, zero, suc, ◌+◌, ◌<◌, ◌≤◌, drop, get_or, length, Bool, true, false, List, [], ◌∷◌, map, refl, sym, ap, ◌∙◌}
use Rattle.sx_term.specs.declared.term.Term.{Term}
use Rattle.sx_term.specs.Term.{tree}
use Rattle.sx_term.specs.Tree.{Tree}
use Rattle.sx_rules.specs.Modes.{outputs}

-- what stands at the subject places from a place on
abbrev from : List Bool → List Term → ℕ → List Tree
from mask terms i = outputs (drop i mask) (drop i (map tree terms))

subject_here : (mask : List Bool) (terms : List Term) (i : ℕ) (t : Term) → i < length terms → t ≡ get_or terms i t → get_or mask i false ≡ true → (rest : List Tree) × (from mask terms i ≡ tree t ∷ rest)
subject_here mask [] i t l e m = absurd (omega (arith, l))
subject_here [] (x ∷ terms) i t l e m = cc
subject_here (false ∷ mask) (x ∷ terms) zero t l e m = cc
subject_here (true ∷ mask) (x ∷ terms) zero t l e m = (outputs mask (map tree terms), ap (λ (y : Term). tree y ∷ outputs mask (map tree terms)) (sym e))
subject_here (b ∷ mask) (x ∷ terms) (suc i) t l e m = subject_here mask terms i t (omega (arith, l)) e m

subject_past : (mask : List Bool) (terms : List Term) (i : ℕ) → get_or mask i false ≡ false → i < length terms → from mask terms i ≡ from mask terms (i + 1)
subject_past mask [] i m l = absurd (omega (arith, l))
subject_past [] (x ∷ terms) zero m l = refl
subject_past [] (x ∷ terms) (suc i) m l = let n : suc i + 1 ≡ suc (i + 1) = omega arith in rw n refl
subject_past (false ∷ mask) (x ∷ terms) zero m l = refl
subject_past (true ∷ mask) (x ∷ terms) zero m l = cc
subject_past (b ∷ mask) (x ∷ terms) (suc i) m l = let n : suc i + 1 ≡ suc (i + 1) = omega arith in rw n (subject_past mask terms i m (omega (arith, l)))

subject_end : (mask : List Bool) (terms : List Term) (i : ℕ) → length terms ≤ i → from mask terms i ≡ []
subject_end [] [] zero l = refl
subject_end [] [] (suc i) l = refl
subject_end (b ∷ mask) [] zero l = refl
subject_end (b ∷ mask) [] (suc i) l = end mask i
  where
    end : (bs : List Bool) (n : ℕ) → outputs {X = Tree} (drop n bs) [] ≡ []
    end [] zero = refl
    end [] (suc n) = refl
    end (x ∷ bs) zero = refl
    end (x ∷ bs) (suc n) = end bs n
subject_end mask (x ∷ terms) zero l = absurd (omega (arith, l))
subject_end [] (x ∷ terms) (suc i) l = refl
subject_end (b ∷ mask) (x ∷ terms) (suc i) l = subject_end mask terms i (omega (arith, l))

module _ (mask : List Bool) (terms : List Term) (i : ℕ) (before : outputs mask (map tree terms) ≡ from mask terms i) where
  pub subject_found : (t : Term) → i < length terms → t ≡ get_or terms i t → get_or mask i false ≡ true → (rest : List Tree) × (outputs mask (map tree terms) ≡ tree t ∷ rest)
  subject_found t l e m = let h = subject_here mask terms i t l e m in (h.0, before ∙ h.1)

  pub subject_later : i < length terms → get_or mask i false ≡ false → outputs mask (map tree terms) ≡ from mask terms (i + 1)
  subject_later l m = before ∙ subject_past mask terms i m l

  pub subject_none : length terms ≤ i → outputs mask (map tree terms) ≡ []
  subject_none l = before ∙ subject_end mask terms i l
