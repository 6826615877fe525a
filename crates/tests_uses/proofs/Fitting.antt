-- What is asked of goals, place by place.
use Rattle.std.proofs.Common.{◌≡◌, arith, ℕ, zero, suc, ◌+◌, ◌<◌, ◌≤◌, ◌⊎◌, inl, inr, get_or, drop, length, Bool, true, false, List, [], ◌∷◌, map, sym, ap, ◌∙◌, subst}
use Rattle.std.proofs.lemmas.List.{drop_more, drop_all}
use Rattle.sx_term.specs.declared.role.Role.{Role}
use Rattle.sx_term.specs.declared.role.Role.TheVariants.{In, Sub, Out}
use Rattle.sx_term.specs.declared.sort.Sort.{Sort}
use Rattle.sx_term.specs.declared.term.Term.{Term}
use Rattle.sx_term.specs.Roles.{is_out, is_sub}
use Rattle.sx_term.specs.Sorts.{Shape, HasSort, HaveSorts}
use Rattle.sx_term.specs.Term.{tree}
use Rattle.sx_rules.specs.declared.rule.Place.{Place}
use Rattle.sx_term.specs.Tree.{depth_of}
use Rattle.sx_rules.specs.Deep.{AreShallow}
use Rattle.sx_rules.specs.Modes.{inputs, outputs}

-- one of shallow terms
pub shallow-term : (ts : List Term) (i : ℕ) (t : Term) → AreShallow (map tree ts) → i < length ts → t ≡ get_or ts i t → depth_of (tree t) ≤ 1000
shallow-term [] i t h l e = absurd (omega (arith, l))
shallow-term (x ∷ ts) zero t h l e = subst (λ (y : Term). depth_of (tree y) ≤ 1000) (sym e) h.0
shallow-term (x ∷ ts) (suc i) t h l e = shallow-term ts i t h.1 (omega (arith, l)) e

-- the sorts of the places that are no outputs
abbrev pub sorts_in : List Place → List Sort
sorts_in ps = inputs (map (λ p. is_out p.role) ps) (map (λ p. p.sort) ps)

is_in : (role : Role) → (role ≡ In) ⊎ (role ≡ Sub) → is_out role ≡ false
is_in role (inl e) = ap is_out e
is_in role (inr e) = ap is_out e

input-sort : (p : Place) (ps : List Place) → (p.role ≡ In) ⊎ (p.role ≡ Sub) → sorts_in (p ∷ ps) ≡ p.sort ∷ sorts_in ps
input-sort p ps e = ap (λ (b : Bool). inputs (b ∷ map (λ (x : Place). is_out x.role) ps) (p.sort ∷ map (λ (x : Place). x.sort) ps)) (is_in p.role e)

output-sort : (p : Place) (ps : List Place) → p.role ≡ Out → sorts_in (p ∷ ps) ≡ sorts_in ps
output-sort p ps e = ap (λ (r : Role). inputs (is_out r ∷ map (λ (x : Place). is_out x.role) ps) (p.sort ∷ map (λ (x : Place). x.sort) ps)) e

terms-drop : (ts : List Term) (n : ℕ) (d : Term) → n < length ts → map tree (drop n ts) ≡ tree (get_or ts n d) ∷ map tree (drop (n + 1) ts)
terms-drop ts n d l = ap (map tree) (drop_more ts n d l)

module _ (shapes : List Shape) (ps : List Place) (ts : List Term) where
  -- where what is left fits, all fits
  pub record FitsSoFar (i at : ℕ) : Type 0 where
    pub within : at ≤ length ts
    pub left : HaveSorts shapes [] (map tree (drop at ts)) (sorts_in (drop i ps)) → HaveSorts shapes [] (map tree ts) (sorts_in ps)

  pub fits-start : FitsSoFar 0 0
  fits-start = record { within = omega arith; left = λ h. h }

  module _ (i at : ℕ) (so : FitsSoFar i at) (l : i < length ps) (d : Place) where
    pub fits-output : (get_or ps i d).role ≡ Out → FitsSoFar (i + 1) at
    fits-output e = record {
      within = so.within;
      left = λ h. so.left (subst (HaveSorts shapes [] (map tree (drop at ts))) (sym (ap sorts_in (drop_more ps i d l) ∙ output-sort (get_or ps i d) (drop (i + 1) ps) e)) h);
    }

    pub fits-input : (m : at < length ts) (t : Term) → ((get_or ps i d).role ≡ In) ⊎ ((get_or ps i d).role ≡ Sub) → HasSort shapes [] (tree (get_or ts at t)) (get_or ps i d).sort → FitsSoFar (i + 1) (at + 1)
    fits-input m t e h = record {
      within = omega (arith, m);
      left = λ k.
          let own = get_or ps i d in
          let both : HaveSorts shapes [] (tree (get_or ts at t) ∷ map tree (drop (at + 1) ts)) (own.sort ∷ sorts_in (drop (i + 1) ps)) = (h, k) in
          so.left (subst (HaveSorts shapes [] (map tree (drop at ts))) (sym (ap sorts_in (drop_more ps i d l) ∙ input-sort own (drop (i + 1) ps) e))
          (subst (λ us. HaveSorts shapes [] us (own.sort ∷ sorts_in (drop (i + 1) ps))) (sym (terms-drop ts at t m)) both));
    }

  pub fits-end : (i at : ℕ) → FitsSoFar i at → length ps ≤ i → length ts ≤ at → HaveSorts shapes [] (map tree ts) (sorts_in ps)
  fits-end i at so l m =
      so.left (subst (λ (us : List Term). HaveSorts shapes [] (map tree us) (sorts_in (drop i ps))) (sym (drop_all at ts m))
      (subst (λ (qs : List Place). HaveSorts shapes [] [] (sorts_in qs)) (sym (drop_all i ps l)) tt))

-- how many of the places are subjects
abbrev pub subjects : List Place → ℕ
subjects ps = length (outputs (map (λ p. is_sub p.role) ps) ps)

is_none : (role : Role) → (role ≡ In) ⊎ (role ≡ Out) → is_sub role ≡ false
is_none role (inl e) = ap is_sub e
is_none role (inr e) = ap is_sub e

module _ (ps : List Place) where
  pub record CountsSoFar (i count : ℕ) : Type 0 where
    pub few : count ≤ i
    pub left : count + subjects (drop i ps) ≡ subjects ps

  pub counts-start : CountsSoFar 0 0
  counts-start = record { few = omega arith; left = omega arith }

  module _ (i count : ℕ) (so : CountsSoFar i count) (l : i < length ps) (d : Place) where
    counts-on : (b : Bool) → is_sub (get_or ps i d).role ≡ b → subjects (drop i ps) ≡ length (outputs (b ∷ map (λ (x : Place). is_sub x.role) (drop (i + 1) ps)) (get_or ps i d ∷ drop (i + 1) ps))
    counts-on b e = ap subjects (drop_more ps i d l) ∙ ap (λ (x : Bool). length (outputs (x ∷ map (λ (y : Place). is_sub y.role) (drop (i + 1) ps)) (get_or ps i d ∷ drop (i + 1) ps))) e

    pub counts-subject : (get_or ps i d).role ≡ Sub → CountsSoFar (i + 1) (count + 1)
    counts-subject e =
        let f = so.few in
        let a = so.left in
        let b = counts-on true (ap is_sub e) in
        record { few = omega (arith, f); left = omega (arith, a, b) }

    pub counts-other : ((get_or ps i d).role ≡ In) ⊎ ((get_or ps i d).role ≡ Out) → CountsSoFar (i + 1) count
    counts-other e =
        let f = so.few in
        let a = so.left in
        let b : subjects (drop i ps) ≡ subjects (drop (i + 1) ps) = counts-on false (is_none (get_or ps i d).role e) in
        record { few = omega (arith, f); left = omega (arith, a, b) }

  pub counts-end : (i count : ℕ) → CountsSoFar i count → length ps ≤ i → count ≡ subjects ps
  counts-end i count so l =
      let a = so.left in
      let b : subjects (drop i ps) ≡ 0 = ap subjects (drop_all i ps l) in omega (arith, a, b)
