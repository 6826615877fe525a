-- A text has one first bad line, and none where it states a value.
use Rattle.std.proofs.Common.{◌≡◌, ℕ, zero, suc, ◌<◌, ◌⊎◌, inl, inr, List, [], ◌∷◌, ◌++◌}
use Rattle.std.proofs.Common.{length, refl, sym, ap, ◌∙◌, subst, append_assoc, arith}
use Rattle.std.proofs.lemmas.List.{append-nil}
use Rattle.sx_lines.specs.Lines.{next_number}
use Rattle.sx_rules.specs.BadLine.{NoneStates, IsFirstMisread}

pub three_ways : (m n : ℕ) → (m < n) ⊎ ((m ≡ n) ⊎ (n < m))
three_ways zero zero = inr (inl refl)
three_ways zero (suc n) = inl (omega arith)
three_ways (suc m) zero = inr (inr (omega arith))
three_ways (suc m) (suc n) =
    elim (three_ways m n) [
      | inl h ↦ inl (omega arith)
      | inr h ↦ elim h [ inl e ↦ inr (inl (ap suc e)) | inr l ↦ inr (inr (omega arith)) ]
    ]

-- a longer front goes on from a shorter one
record Longer (front other rest : List (List ℕ)) : Type 0 where
  pub text : List ℕ
  pub between : List (List ℕ)
  pub after : List (List ℕ)
  pub longer : other ≡ front ++ text ∷ between
  pub follows : rest ≡ text ∷ after

longer_front : (front rest other more : List (List ℕ)) → front ++ rest ≡ other ++ more →
    length front < length other → Longer front other rest
longer_front [] rest [] more e l = absurd (omega arith)
longer_front [] rest (t ∷ other) more e l =
    record { text = t; between = other; after = other ++ more; longer = refl; follows = e }
longer_front (t ∷ front) rest [] more e l = absurd (omega arith)
longer_front (t ∷ front) rest (u ∷ other) more e l =
    let first : t ≡ u = cc in
    let later : front ++ rest ≡ other ++ more = cc in
    let r = longer_front front rest other more later (omega arith) in
    record {
      text = r.text;
      between = r.between;
      after = r.after;
      longer = λ i. sym first i ∷ r.longer i;
      follows = r.follows;
    }

module _ {V : Type 0} (States : List (List ℕ) → V → Type 0) (lines : List (List ℕ)) where
  pub bad_not_good : (n : ℕ) (value : V) → IsFirstMisread States lines n → States lines value → ⊥
  bad_not_good n value b s = go b.rest b.parts b.bad
    where
      go : (rest : List (List ℕ)) → lines ≡ b.front ++ rest → NoneStates States b.front rest → ⊥
      go [] e none = none value
          (subst (λ (l : List (List ℕ)). States l value) (e ∙ append-nil b.front) s)
      go (text ∷ rest) e none = none rest value (subst (λ (l : List (List ℕ)). States l value) e s)

  no_later : (n m : ℕ) (a : IsFirstMisread States lines n) (b : IsFirstMisread States lines m) →
      length a.front < length b.front → ⊥
  no_later n m a b l =
      let g = longer_front a.front a.rest b.front b.rest (sym a.parts ∙ b.parts) l in
      let none = subst (λ (rest : List (List ℕ)). NoneStates States a.front rest) g.follows a.bad in
      none (g.between ++ b.more) b.value
      (subst (λ (l : List (List ℕ)). States l b.value)
      (ap (λ (f : List (List ℕ)). f ++ b.more) g.longer
      ∙ append_assoc a.front (g.text ∷ g.between) b.more) b.good)

  pub one_bad : (n m : ℕ) → IsFirstMisread States lines n → IsFirstMisread States lines m → n ≡ m
  one_bad n m a b =
      elim (three_ways (length a.front) (length b.front)) [
        | inl l ↦ absurd (no_later n m a b l)
        | inr h ↦ elim h [
          | inl e ↦ a.place ∙ ap next_number e ∙ sym b.place
          | inr l ↦ absurd (no_later m n b a l)
        ]
      ]
