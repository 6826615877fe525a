-- The variable that a rule is refused for is the first that is not bound.
use Rattle.std.proofs.Common.{◌≡◌, ℕ, zero, suc, ◌+◌, ◌<◌, ◌≤◌, ◌↔◌, length, Bool, true, false, List, [], ◌∷◌, ◌++◌, ◌⊎◌, inl, inr, refl, ap, ◌∙◌, sym, subst, arith, Option, Some, None, if◌then◌else◌}
use Rattle.std.specs.List.{AllByRecursion}
use Rattle.sx_rules.specs.Instances.{StandsAmong}
use Rattle.sx_rules.specs.Rules.{Premise, holds, apart, Rule}
use Rattle.sx_rules.specs.Modes.{outputs_of}
use Rattle.sx_rules.specs.Views.{FormData, places_at, modes_of}
use Rattle.sx_rules.specs.Chosen.{holes_of, holes_among}
use Rattle.sx_rules.specs.Unmoded.{has_number, united, first_unbound, first_missing, or_else}
use Rattle.sx_rules.specs.Unmoded.{binds_of, unbound_from, bound_first, unbound}
use Rattle.sx_rules.specs.FirstBreach.{IsFirstFree, IsLeastFree, IsFirstUnboundFrom, IsFirstUnbound}
use Rattle.sx_rules.proofs.ModeLaws.{Has, unbound-if, chosen_inputs, chosen_outputs, united-keeps, united-has, united-only, out_to, to_out, first_agrees}

not-some : {A : Type 0} (v : ℕ) → None ≡ Some v → A
not-some v e = absurd (let q : None ≡ Some v = e in cc)

else-which : (a b : Option ℕ) (v : ℕ) → or_else a b ≡ Some v → (a ≡ Some v) ⊎ ((a ≡ None) × (b ≡ Some v))
else-which None b v e = inr (refl, e)
else-which (Some w) b v e = inl e

module _ (Bound : ℕ → Type 0) (bound : List ℕ) (agree : (v : ℕ) → Bound v ↔ Has v bound) where
  not_bound : (v : ℕ) → has_number v bound ≡ false → Bound v → ⊥
  not_bound v e b = let h = (agree v).0 b in let q : true ≡ false = sym h ∙ e in cc

  first_free : (vs : List ℕ) (v : ℕ) → first_unbound bound vs ≡ Some v → IsFirstFree Bound vs v
  first_free [] v e = not-some v e
  first_free (w ∷ ws) v e = by (has_number w bound) refl e (λ h. first_free ws v h)
    where
      by : (b : Bool) → has_number w bound ≡ b → (if b then first_unbound bound ws else Some w) ≡ Some v → (first_unbound bound ws ≡ Some v → IsFirstFree Bound ws v) → IsFirstFree Bound (w ∷ ws) v
      by true t h more =
          let r = more h in
          record { front = w ∷ r.front; back = r.back; place = ap (λ (x : List ℕ). w ∷ x) r.place; before = ((agree w).1 t, r.before); free = r.free }
      by false t h more =
          let same : w ≡ v = cc in
          record { front = []; back = ws; place = ap (λ (x : ℕ). x ∷ ws) same; before = tt; free = subst (λ (x : ℕ). Bound x → ⊥) same (not_bound w t) }

  all_bound : (vs : List ℕ) → first_unbound bound vs ≡ None → AllByRecursion Bound vs
  all_bound [] e = tt
  all_bound (w ∷ ws) e =
      let k = unbound-if (has_number w bound) w (first_unbound bound ws) e in
      ((agree w).1 k.0, all_bound ws k.1)

  record Missing (n v : ℕ) (left : ℕ) : Type 0 where
    from : n ≤ v
    to : v < n + left
    free : Bound v → ⊥
    least : (w : ℕ) → n ≤ w → w < v → Bound w

  missing : (left n v : ℕ) → first_missing bound n left ≡ Some v → Missing n v left
  missing zero n v e = not-some v e
  missing (suc left) n v e = by (has_number n bound) refl e (λ h. missing left (n + 1) v h)
    where
      first_or_later : (w : ℕ) → n ≤ w → (n ≡ w) ⊎ (n + 1 ≤ w)
      first_or_later w a = grind arith

      by : (b : Bool) → has_number n bound ≡ b → (if b then first_missing bound (n + 1) left else Some n) ≡ Some v → (first_missing bound (n + 1) left ≡ Some v → Missing (n + 1) v left) → Missing n v (suc left)
      by true t h more =
          let r = more h in
          record {
            from = let a = r.from in omega (arith, a);
            to = let a = r.to in omega (arith, a);
            free = r.free;
            least = λ w a b. elim (first_or_later w a) [ inl s ↦ subst Bound s ((agree n).1 t) | inr l ↦ r.least w l b ];
          }
      by false t h more =
          let same : n ≡ v = cc in
          record {
            from = omega (arith, same);
            to = omega (arith, same);
            free = subst (λ (x : ℕ). Bound x → ⊥) same (not_bound n t);
            least = λ w a b. absurd (omega (arith, a, b, same));
          }

  least_free : (rule : Rule) (v : ℕ) → first_missing bound 0 (length rule.sorts) ≡ Some v → IsLeastFree Bound rule v
  least_free rule v e =
      let r = missing (length rule.sorts) 0 v e in
      record { own = let a = r.to in omega (arith, a); free = r.free; least = λ w b. r.least w (omega arith) b }

module _ (F : List FormData) (rule : Rule) where
  first_from : (Bound : ℕ → Type 0) (bound : List ℕ) (ps : List Premise) (v : ℕ) → ((w : ℕ) → Bound w ↔ Has w bound)
      → unbound_from F bound ps rule.conclusion (length rule.sorts) ≡ Some v → IsFirstUnboundFrom (modes_of F) Bound ps rule v
  first_from Bound bound [] v agree e =
      let same = ap holes_among (chosen_outputs (places_at F rule.conclusion.form) rule.conclusion.places) in
      elim (else-which _ _ v e) [
        | inl h ↦ inl (subst (λ (vs : List ℕ). IsFirstFree Bound vs v) same (first_free Bound bound agree _ v h))
        | inr h ↦ inr (subst (AllByRecursion Bound) same (all_bound Bound bound agree _ h.0), least_free Bound bound agree rule v h.1)
      ]
  first_from Bound bound (apart t u ∷ ps) v agree e = elim (else-which _ _ v e) [
    | inl h ↦ inl (first_free Bound bound agree (holes_of t ++ holes_of u) v h)
    | inr h ↦ inr (all_bound Bound bound agree (holes_of t ++ holes_of u) h.0, first_from Bound bound ps v agree h.1)
  ]
  first_from Bound bound (holds j ∷ ps) v agree e =
      let same = ap holes_among (chosen_inputs (places_at F j.form) j.places) in
      elim (else-which _ _ v e) [
        | inl h ↦ inl (subst (λ (vs : List ℕ). IsFirstFree Bound vs v) same (first_free Bound bound agree _ v h))
        | inr h ↦ inr (
          subst (AllByRecursion Bound) same (all_bound Bound bound agree _ h.0),
          first_from (λ w. Bound w ⊎ StandsAmong w (outputs_of (modes_of F) j)) (united bound (binds_of F (holds j))) ps v
              (λ w. (
                λ k. elim k [ inl b ↦ united-keeps w (binds_of F (holds j)) bound ((agree w).0 b) | inr s ↦ united-has w (binds_of F (holds j)) bound (out_to F j w s) ],
                λ k. elim (united-only w (binds_of F (holds j)) bound k) [ inl b ↦ inl ((agree w).1 b) | inr s ↦ inr (to_out F j w s) ],
              ))
              h.1,
        )
      ]

pub unbound_first : (forms : List FormData) (rule : Rule) (v : ℕ) → unbound forms rule ≡ Some v → IsFirstUnbound (modes_of forms) rule v
unbound_first F rule v e = first_from F rule _ (bound_first F rule.conclusion) rule.premises v (first_agrees F [] rule) e
