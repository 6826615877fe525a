-- The places of a flat conclusion, one after the other.
use Rattle.std.proofs.Common.{◌≡◌, arith, ℕ, zero, suc, ◌+◌, ◌<◌, ◌≤◌, drop, get_or, length, Bool, true, false, List, [], ◌∷◌, ◌++◌, map, Option, Some, None, refl, sym, ap, ◌∙◌, subst, if◌then◌else◌}
use Rattle.std.specs.List.{AllByRecursion}
use Rattle.std.proofs.lemmas.List.{drop_all, append-nil, length-map}
use Rattle.std.specs.Prelude.{unwrap_or}
use Rattle.sx_term.specs.declared.term.Term.{Term}
use Rattle.sx_term.specs.Term.{tree}
use Rattle.sx_term.specs.Tree.{Tree}
use Rattle.sx_rules.specs.Modes.{inputs, outputs}
use Rattle.sx_rules.specs.Deep.{AreShallow}
use Rattle.sx_plain.specs.Plain.{Table, image}
use Rattle.sx_derive.proofs.Bounded.{shallow_outputs}
use Rattle.sx_rewrite.specs.Flat.{flat_places}
use Rattle.sx_rewrite.specs.Puts.{IsSmallTerm}
use Rattle.sx_extcheck.specs.FlatTerms.{listed_term}
use Rattle.sx_extcheck.proofs.Given.{small-shallow}

-- the flat term at a place
abbrev pub flat_term : Table → Option Tree → Bool → Tree → Tree
flat_term table body b t = if b then unwrap_or body t else image table t

-- the flat places from one on, by marks of outputs and of subjects
module _ (table : Table) (body : Option Tree) where
  abbrev pub ins_from : List Bool → List Bool → List Term → ℕ → List Tree
  ins_from outs subs ts i = inputs (drop i outs) (flat_places table body (drop i subs) (drop i (map tree ts)))

  abbrev pub outs_from : List Bool → List Bool → List Term → ℕ → List Tree
  outs_from outs subs ts i = outputs (drop i outs) (flat_places table body (drop i subs) (drop i (map tree ts)))

  -- the first of the places, where the marks may have ended
  flat-head : (subs : List Bool) (t : Tree) (us : List Tree) → flat_places table body subs (t ∷ us) ≡ flat_term table body (get_or subs 0 false) t ∷ flat_places table body (drop 1 subs) us
  flat-head [] t us = refl
  flat-head (true ∷ subs) t us = refl
  flat-head (false ∷ subs) t us = refl

  ins-head : (b : Bool) (outs : List Bool) (u : Tree) (us : List Tree) → get_or outs 0 false ≡ b → inputs outs (u ∷ us) ≡ (if b then inputs (drop 1 outs) us else u ∷ inputs (drop 1 outs) us)
  ins-head true [] u us e = cc
  ins-head false [] u us e = refl
  ins-head true (true ∷ outs) u us e = refl
  ins-head false (true ∷ outs) u us e = cc
  ins-head true (false ∷ outs) u us e = cc
  ins-head false (false ∷ outs) u us e = refl

  outs-head : (b : Bool) (outs : List Bool) (u : Tree) (us : List Tree) → get_or outs 0 false ≡ b → outputs outs (u ∷ us) ≡ (if b then u ∷ outputs (drop 1 outs) us else outputs (drop 1 outs) us)
  outs-head true [] u us e = cc
  outs-head false [] u us e = nothing us
    where
      nothing : (us : List Tree) → [] ≡ outputs (drop 1 []) us
      nothing us = refl
  outs-head true (true ∷ outs) u us e = refl
  outs-head false (true ∷ outs) u us e = cc
  outs-head true (false ∷ outs) u us e = cc
  outs-head false (false ∷ outs) u us e = refl

  drop-one : {X : Type 0} → (xs : List X) (i : ℕ) → drop 1 (drop i xs) ≡ drop (i + 1) xs
  drop-one [] zero = refl
  drop-one [] (suc i) = let n : suc i + 1 ≡ suc (i + 1) = omega arith in rw n refl
  drop-one (x ∷ xs) zero = refl
  drop-one (x ∷ xs) (suc i) = let n : suc i + 1 ≡ suc (i + 1) = omega arith in rw n (drop-one xs i)

  get-drop : (bs : List Bool) (i : ℕ) → get_or (drop i bs) 0 false ≡ get_or bs i false
  get-drop [] zero = refl
  get-drop [] (suc i) = refl
  get-drop (b ∷ bs) zero = refl
  get-drop (b ∷ bs) (suc i) = get-drop bs i

  drop-trees : (ts : List Term) (i : ℕ) (t : Term) → i < length ts → t ≡ get_or ts i t → drop i (map tree ts) ≡ tree t ∷ drop (i + 1) (map tree ts)
  drop-trees [] i t l e = absurd (omega (arith, l))
  drop-trees (x ∷ ts) zero t l e = ap (λ (y : Term). tree y ∷ map tree ts) (sym e)
  drop-trees (x ∷ ts) (suc i) t l e = let n : suc i + 1 ≡ suc (i + 1) = omega arith in rw n (drop-trees ts i t (omega (arith, l)) e)

  module _ (outs subs : List Bool) (ts : List Term) (i : ℕ) (t : Term) (l : i < length ts) (e : t ≡ get_or ts i t) where
    abbrev here : Tree
    here = flat_term table body (get_or subs i false) (tree t)

    abbrev later : List Tree
    later = flat_places table body (drop (i + 1) subs) (drop (i + 1) (map tree ts))

    places-split : flat_places table body (drop i subs) (drop i (map tree ts)) ≡ here ∷ later
    places-split =
        ap (flat_places table body (drop i subs)) (drop-trees ts i t l e)
        ∙ flat-head (drop i subs) (tree t) (drop (i + 1) (map tree ts))
        ∙ ap (λ (b : Bool). flat_term table body b (tree t) ∷ flat_places table body (drop 1 (drop i subs)) (drop (i + 1) (map tree ts))) (get-drop subs i)
        ∙ ap (λ (bs : List Bool). here ∷ flat_places table body bs (drop (i + 1) (map tree ts))) (drop-one subs i)

    pub ins-step : (b : Bool) → get_or outs i false ≡ b → ins_from outs subs ts i ≡ (if b then ins_from outs subs ts (i + 1) else here ∷ ins_from outs subs ts (i + 1))
    ins-step b m =
        ap (inputs (drop i outs)) places-split ∙ ins-head b (drop i outs) here later (get-drop outs i ∙ m)
        ∙ ap (λ (bs : List Bool). if b then inputs bs later else here ∷ inputs bs later) (drop-one outs i)

    pub outs-step : (b : Bool) → get_or outs i false ≡ b → outs_from outs subs ts i ≡ (if b then here ∷ outs_from outs subs ts (i + 1) else outs_from outs subs ts (i + 1))
    outs-step b m =
        ap (outputs (drop i outs)) places-split ∙ outs-head b (drop i outs) here later (get-drop outs i ∙ m)
        ∙ ap (λ (bs : List Bool). if b then here ∷ outputs bs later else outputs bs later) (drop-one outs i)

  pub places-end : (outs subs : List Bool) (ts : List Term) (i : ℕ) → length ts ≤ i → (ins_from outs subs ts i ≡ []) × (outs_from outs subs ts i ≡ [])
  places-end outs subs ts i l = (
    ap (λ (us : List Tree). inputs (drop i outs) (flat_places table body (drop i subs) us)) none-left ∙ no-ins (drop i outs) (drop i subs),
    ap (λ (us : List Tree). outputs (drop i outs) (flat_places table body (drop i subs) us)) none-left ∙ no-outs (drop i outs) (drop i subs),
  )
    where
      none-left : drop i (map tree ts) ≡ []
      none-left = drop_all i (map tree ts) (subst (λ (n : ℕ). n ≤ i) (sym (length-map ts tree)) l)

      no-ins : (outs subs : List Bool) → inputs outs (flat_places table body subs []) ≡ []
      no-ins [] [] = refl
      no-ins [] (b ∷ subs) = refl
      no-ins (c ∷ outs) [] = refl
      no-ins (c ∷ outs) (b ∷ subs) = refl

      no-outs : (outs subs : List Bool) → outputs outs (flat_places table body subs []) ≡ []
      no-outs [] [] = refl
      no-outs [] (b ∷ subs) = refl
      no-outs (c ∷ outs) [] = refl
      no-outs (c ∷ outs) (b ∷ subs) = refl

-- flat places of small terms are small, where a body stands in the place of each subject
pub flat-small : (table : Table) (body : Option Tree) (subs : List Bool) (ts : List Tree) → AllByRecursion IsSmallTerm (map (image table) ts) → AllByRecursion IsSmallTerm (listed_term body) →
    (body ≡ None → outputs subs ts ≡ []) → AllByRecursion IsSmallTerm (flat_places table body subs ts)
flat-small table body [] ts h b n = h
flat-small table body (s ∷ subs) [] h b n = tt
flat-small table body (false ∷ subs) (t ∷ ts) h b n = (h.0, flat-small table body subs ts h.1 b n)
flat-small table (Some u) (true ∷ subs) (t ∷ ts) h b n = (b.0, flat-small table (Some u) subs ts h.1 b (λ e. cc))
flat-small table None (true ∷ subs) (t ∷ ts) h b n = let e = n refl in cc

pub small-inputs : (bs : List Bool) (ts : List Tree) → AllByRecursion IsSmallTerm ts → AreShallow (inputs bs ts)
small-inputs [] ts h = small-shallow ts h
small-inputs (b ∷ bs) [] h = tt
small-inputs (true ∷ bs) (t ∷ ts) h = small-inputs bs ts h.1
small-inputs (false ∷ bs) (t ∷ ts) h = (h.0.0, small-inputs bs ts h.1)

pub small-outputs : (bs : List Bool) (ts : List Tree) → AllByRecursion IsSmallTerm ts → AreShallow (outputs bs ts)
small-outputs bs ts h = shallow_outputs bs ts (small-shallow ts h)

-- one place more
append-one : (xs : List Term) (x : Term) (ys : List Tree) → map tree (xs ++ x ∷ []) ++ ys ≡ map tree xs ++ (tree x ∷ ys)
append-one [] x ys = refl
append-one (z ∷ xs) x ys = ap (λ (us : List Tree). tree z ∷ us) (append-one xs x ys)

module _ (table : Table) (body : Option Tree) (outs subs : List Bool) (ts : List Term) (i : ℕ) (ins wanted : List Term)
    (so : (map tree ins ++ ins_from table body outs subs ts i ≡ ins_from table body outs subs ts 0) × (map tree wanted ++ outs_from table body outs subs ts i ≡ outs_from table body outs subs ts 0)) where
  module _ (t term : Term) (l : i < length ts) (e : t ≡ get_or ts i t) (is : tree term ≡ flat_term table body (get_or subs i false) (tree t)) where
    abbrev there : Tree
    there = flat_term table body (get_or subs i false) (tree t)

    pub goal-wanted : get_or outs i false ≡ true → (wanted' : List Term) → wanted' ≡ wanted ++ term ∷ [] →
        (map tree ins ++ ins_from table body outs subs ts (i + 1) ≡ ins_from table body outs subs ts 0) × (map tree wanted' ++ outs_from table body outs subs ts (i + 1) ≡ outs_from table body outs subs ts 0)
    goal-wanted m wanted' w = (
      ap (λ (us : List Tree). map tree ins ++ us) (sym (ins-step table body outs subs ts i t l e true m)) ∙ so.0,
      ap (λ (us : List Term). map tree us ++ outs_from table body outs subs ts (i + 1)) w ∙ append-one wanted term (outs_from table body outs subs ts (i + 1))
          ∙ ap (λ (u : Tree). map tree wanted ++ (u ∷ outs_from table body outs subs ts (i + 1))) is
          ∙ ap (λ (us : List Tree). map tree wanted ++ us) (sym (outs-step table body outs subs ts i t l e true m)) ∙ so.1,
    )

    pub goal-input : get_or outs i false ≡ false → (ins' : List Term) → ins' ≡ ins ++ term ∷ [] →
        (map tree ins' ++ ins_from table body outs subs ts (i + 1) ≡ ins_from table body outs subs ts 0) × (map tree wanted ++ outs_from table body outs subs ts (i + 1) ≡ outs_from table body outs subs ts 0)
    goal-input m ins' w = (
      ap (λ (us : List Term). map tree us ++ ins_from table body outs subs ts (i + 1)) w ∙ append-one ins term (ins_from table body outs subs ts (i + 1))
          ∙ ap (λ (u : Tree). map tree ins ++ (u ∷ ins_from table body outs subs ts (i + 1))) is
          ∙ ap (λ (us : List Tree). map tree ins ++ us) (sym (ins-step table body outs subs ts i t l e false m)) ∙ so.0,
      ap (λ (us : List Tree). map tree wanted ++ us) (sym (outs-step table body outs subs ts i t l e false m)) ∙ so.1,
    )

  module _ (l : length ts ≤ i) where
    pub goal-inputs : map tree ins ≡ ins_from table body outs subs ts 0
    goal-inputs = sym (append-nil (map tree ins)) ∙ ap (λ (us : List Tree). map tree ins ++ us) (sym (places-end table body outs subs ts i l).0) ∙ so.0

    pub goal-outputs : map tree wanted ≡ outs_from table body outs subs ts 0
    goal-outputs = sym (append-nil (map tree wanted)) ∙ ap (λ (us : List Tree). map tree wanted ++ us) (sym (places-end table body outs subs ts i l).1) ∙ so.1
