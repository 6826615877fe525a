-- What fits among what is known, by what its parts answer.
use Rattle.std.proofs.Common.{◌≡◌, Bool, true, false, not, IsTrue, ◌↔◌, Option, Some, None, refl, sym, ap, ◌∙◌}
use Rattle.std.specs.Prelude.{option_map}
use Rattle.std.proofs.lemmas.Bool.{false≢true}
use Rattle.sx_grammar.specs.declared.sort_line.SortLine.{SortLine}

not_true : (b : Bool) → IsTrue (not b) → b ≡ false
not_true true h = absurd (false≢true h)
not_true false h = refl

-- a sort is plain where it is not typed
pub plain_is : (o : Option SortLine) (typed : Bool) → Some typed ≡ option_map (λ (s : SortLine). s.typed) o → IsTrue (not typed) ↔ ((s : SortLine) × (o ≡ Some s) × (s.typed ≡ false))
plain_is None typed e = let clash : Some typed ≡ None = e in cc
plain_is (Some s) typed e =
    let same : typed ≡ s.typed = cc in (
      λ t. (s, refl, sym same ∙ not_true typed t),
      λ h. let q : s ≡ h.0 = (let p : Some s ≡ Some h.0 = h.1 in cc) in ap not (same ∙ ap (λ (x : SortLine). x.typed) q ∙ h.2),
    )

pub no_plain : (o : Option SortLine) → None ≡ option_map (λ (s : SortLine). s.typed) o → IsTrue false ↔ ((s : SortLine) × (o ≡ Some s) × (s.typed ≡ false))
no_plain None e = (λ f. absurd (false≢true f), λ h. let clash : None ≡ Some h.0 = h.1 in cc)
no_plain (Some s) e = let clash : None ≡ Some s.typed = e in cc

module _ {P Q : Type 0} (before : Bool) (same : IsTrue before ↔ P) where
  -- what stands before does not fit
  pub stands_before : before ≡ true → IsTrue false ↔ ((P → ⊥) × Q)
  stands_before is = (λ f. absurd (false≢true f), λ h. absurd (h.0 (same.0 is)))

  pub stands_first : (rest : Bool) → before ≡ false → (IsTrue rest ↔ Q) → IsTrue rest ↔ ((P → ⊥) × Q)
  stands_first rest is q = (λ t. ((λ p. false≢true (sym is ∙ same.1 p)), q.0 t), λ h. q.1 h.1)
