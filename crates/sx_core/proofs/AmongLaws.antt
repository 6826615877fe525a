-- Names among names.
use Rattle.std.proofs.Common.{◌≡◌, ℕ, zero, suc, List, [], ◌∷◌, ◌++◌, inl, inr, Some, sym, ap}
use Rattle.std.specs.Prelude.{Contains}
use Rattle.sx_rules.specs.Good.{IsAmong}
use Rattle.sx_rules.proofs.NameLaws.{among_contains, contains_among}
use Rattle.sx_lines.specs.Distinct.{AreTextsDistinct}
use Rattle.sx_core.proofs.NumberLaws.{contains_at, place_of}

-- ---- one more name

among_snoc : (names : List (List ℕ)) (last name : List ℕ) → IsAmong name (names ++ last ∷ []) → (IsAmong name names → ⊥) → last ≡ name
among_snoc [] last name (inl e) n = e
among_snoc [] last name (inr h) n = absurd h
among_snoc (x ∷ names) last name (inl e) n = absurd (n (inl e))
among_snoc (x ∷ names) last name (inr h) n = among_snoc names last name h (λ k. n (inr k))

pub distinct_snoc : (names : List (List ℕ)) (name : List ℕ) → AreTextsDistinct names → (Contains names name → ⊥) → AreTextsDistinct (names ++ name ∷ [])
distinct_snoc [] name d n = ((λ h. absurd (contains_among [] name h)), tt)
distinct_snoc (x ∷ names) name d n = (
  (λ h. n (contains_at (x ∷ names) zero name (ap Some (sym (among_snoc names name x (contains_among (names ++ name ∷ []) x h) (λ k. d.0 (among_contains names x k))))))),
  distinct_snoc names name d.1 (λ h. let w = place_of names name h in n (contains_at (x ∷ names) (suc w.0) name w.2)),
)
