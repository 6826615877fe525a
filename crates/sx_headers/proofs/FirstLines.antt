-- Lines have one first line that is not as defined, and none where they state a value.
use Rattle.std.proofs.Common.{◌≡◌, ℕ, zero, suc, ◌<◌, ◌⊎◌, inl, inr, List, [], ◌∷◌, length, refl}
use Rattle.std.proofs.Common.{sym, ap, ◌∙◌, subst, arith}
use Rattle.sx_lines.specs.Lines.{Lines, over, line}
use Rattle.sx_lines.specs.Takes.{Takes, SameHead, line_number}
use Rattle.sx_lines.specs.FirstBad.{IsFirstBad}

three_ways : (m n : ℕ) → (m < n) ⊎ ((m ≡ n) ⊎ (n < m))
three_ways zero zero = inr (inl refl)
three_ways zero (suc n) = inl (omega arith)
three_ways (suc m) zero = inr (inr (omega arith))
three_ways (suc m) (suc n) =
    elim (three_ways m n) [
      | inl h ↦ inl (omega arith)
      | inr h ↦ elim h
          [ inl e ↦ inr (inl (ap suc e)) | inr l ↦ inr (inr (omega arith)) ]
    ]

same_head : (lines : Lines) → SameHead lines lines
same_head (over n) = tt
same_head (line n text after more) = refl

-- a longer front of other lines goes through a line that follows the shorter one
record Passes (front : List (List ℕ)) (next lines : Lines) : Type 0 where
  pub middle : Lines
  pub takes : Takes front lines middle
  pub same : SameHead next middle

passes : (front other : List (List ℕ)) (lines next end lines' end' : Lines) →
    Takes front lines next → Takes other lines end → length front < length other →
    Takes other lines' end' → Passes front next lines'
passes front [] lines next end lines' end' a b l c = absurd (omega arith)
passes [] (t ∷ other) (over n) next end lines' end' a b l c = absurd b
passes [] (t ∷ other) (line n text after more) next end (over m) end' a b l c = absurd c
passes [] (t ∷ other) (line n text after more) next end (line m words after' more') end' a b l c =
    record {
      middle = line m words after' more';
      takes = refl;
      same = subst (λ (x : Lines). SameHead x (line m words after' more')) a (b.0 ∙ sym c.0);
    }
passes (s ∷ front) (t ∷ other) (over n) next end lines' end' a b l c = absurd a
passes (s ∷ front) (t ∷ other) (line n text after more) next end (over m) end' a b l c = absurd c
passes (s ∷ front) (t ∷ other) (line n text after more) next end (line m words after' more')
    end' a b l c =
    let p = passes front other more next end more' end' a.1 b.1 (omega arith) c.1 in
    record { middle = p.middle; takes = (c.0 ∙ sym b.0 ∙ a.0, p.takes); same = p.same }

-- fronts of one length end at one place
same_next : (front other : List (List ℕ)) (lines next end : Lines) → Takes front lines next →
    Takes other lines end → length front ≡ length other → next ≡ end
same_next [] [] lines next end a b e = sym a ∙ b
same_next [] (t ∷ other) lines next end a b e = absurd (omega arith)
same_next (s ∷ front) [] lines next end a b e = absurd (omega arith)
same_next (s ∷ front) (t ∷ other) (over n) next end a b e = absurd a
same_next (s ∷ front) (t ∷ other) (line n text after more) next end a b e =
    same_next front other more next end a.1 b.1 (omega arith)

module _ {V : Type 0} (States : Lines → V → Type 0) (lines : Lines) where
  pub bad_states_none : (n : ℕ) (value : V) → IsFirstBad States lines n → States lines value → ⊥
  bad_states_none n value b states = b.bad lines b.next b.takes (same_head b.next) value states

  no_later : (n m : ℕ) (a : IsFirstBad States lines n) (b : IsFirstBad States lines m) →
      length a.front < length b.front → ⊥
  no_later n m a b l =
      let p = passes a.front b.front lines a.next b.next b.good.lines b.good.after a.takes b.takes l
      b.good.takes in
      a.bad b.good.lines p.middle p.takes p.same b.good.value b.good.states

  pub one_first_bad : (n m : ℕ) → IsFirstBad States lines n → IsFirstBad States lines m → n ≡ m
  one_first_bad n m a b =
      elim (three_ways (length a.front) (length b.front)) [
        | inl l ↦ absurd (no_later n m a b l)
        | inr h ↦ elim h [
          | inl e ↦ a.place
              ∙ ap line_number (same_next a.front b.front lines a.next b.next a.takes b.takes e)
              ∙ sym b.place
          | inr l ↦ absurd (no_later m n b a l)
        ]
      ]
