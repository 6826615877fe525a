-- The first of some terms that passes a limit, as they are measured in order.
use Rattle.std.proofs.Common.{◌≡◌, arith, ℕ, zero, suc, ◌+◌, ◌<◌, ◌≤◌, drop, get_or, length, Bool, true, false, List, [], ◌∷◌, ◌++◌, map, Option, None, refl, sym, ap, ◌∙◌, subst}
use Rattle.std.specs.Prelude.{Result, Ok, Err, IsErrAnd}
use Rattle.std.proofs.lemmas.List.{drop_more, append-nil}
use Rattle.sx_term.specs.declared.term.Term.{Term}
use Rattle.sx_term.specs.Term.{tree}
use Rattle.sx_term.specs.Tree.{Tree}
use Rattle.sx_rules.specs.Rules.{Premise, holds, apart}
use Rattle.sx_rules.specs.declared.rule.Premise.{Premise as PremiseOf}
use Rattle.sx_rules.specs.Views.{premise}
use Rattle.sx_plain.specs.Plain.{Table, image}
use Rattle.sx_rewrite.specs.declared.rewrite_error.RewriteError.{RewriteError}
use Rattle.sx_rewrite.specs.PlainRules.{image_premise}
use Rattle.sx_rewrite.specs.Puts.{Tells, Answers}
use Rattle.sx_rewrite.specs.Rewriting.{RewriteRefusal, first_over}
use Rattle.sx_rewrite.proofs.Puts.{over-left, over-right}
use Rattle.sx_extcheck.specs.FlatTerms.{premise_terms, picked}

-- of these terms, measured after others that pass no limit, the first pass one or none
module _ (whole rest here more : List Tree) (so : first_over whole ≡ first_over rest) (split : rest ≡ here ++ more) where
  pub tell : (e : RewriteError) → Tells (first_over here) e → Tells (first_over whole) e
  tell e h = subst (λ (o : Option RewriteRefusal). Tells o e) (sym (so ∙ ap first_over split)) (over-left here more e h)

  pub pass : first_over here ≡ None → first_over whole ≡ first_over more
  pass h = so ∙ ap first_over split ∙ over-right here more h

-- the terms of a premise, and then those of the others
pub premise-first : (p : Premise) (ps : List Premise) → premise_terms (p ∷ ps) ≡ premise_terms (p ∷ []) ++ premise_terms ps
premise-first (holds j) ps = ap (λ (ts : List Tree). ts ++ premise_terms ps) (sym (append-nil j.places))
premise-first (apart t u) ps = refl

abbrev pub premises_from : Table → List PremiseOf → List Tree
premises_from table ps = premise_terms (map (image_premise table) (map premise ps))

pub premises-split : (table : Table) (ps : List PremiseOf) (i : ℕ) (p : PremiseOf) → i < length ps → p ≡ get_or ps i p →
    premises_from table (drop i ps) ≡ premise_terms (image_premise table (premise p) ∷ []) ++ premises_from table (drop (i + 1) ps)
premises-split table ps i p l e =
    ap (premises_from table) (drop_more ps i p l)
    ∙ premise-first (image_premise table (premise (get_or ps i p))) (map (image_premise table) (map premise (drop (i + 1) ps)))
    ∙ ap (λ (q : PremiseOf). premise_terms (image_premise table (premise q) ∷ []) ++ premises_from table (drop (i + 1) ps)) (sym e)

abbrev pub images_from : Table → List Term → List Tree
images_from table ts = map (image table) (map tree ts)

pub images-split : (table : Table) (ts : List Term) (i : ℕ) (t : Term) → i < length ts → t ≡ get_or ts i t →
    images_from table (drop i ts) ≡ (image table (tree t) ∷ []) ++ images_from table (drop (i + 1) ts)
images-split table ts i t l e =
    ap (images_from table) (drop_more ts i t l) ∙ ap (λ (x : Term). image table (tree x) ∷ images_from table (drop (i + 1) ts)) (sym e)

-- the picked places from one on
abbrev pub picked_from : Table → Bool → List Bool → List Term → ℕ → List Tree
picked_from table b marks ts i = picked b (drop i marks) (images_from table (drop i ts))

bare-pick : (i : ℕ) (us : List Tree) → picked false (drop i []) us ≡ us
bare-pick zero us = refl
bare-pick (suc i) us = refl

pub picked-here : (table : Table) (b : Bool) (marks : List Bool) (ts : List Term) (i : ℕ) (t : Term) → i < length ts → t ≡ get_or ts i t → get_or marks i false ≡ b →
    picked_from table b marks ts i ≡ (image table (tree t) ∷ []) ++ picked_from table b marks ts (i + 1)
picked-here table b marks [] i t l e m = absurd (omega (arith, l))
picked-here table true [] (x ∷ ts) i t l e m = cc
picked-here table false [] (x ∷ ts) i t l e m =
    bare-pick i (images_from table (drop i (x ∷ ts))) ∙ images-split table (x ∷ ts) i t l e
    ∙ ap (λ (us : List Tree). (image table (tree t) ∷ []) ++ us) (sym (bare-pick (i + 1) (images_from table (drop (i + 1) (x ∷ ts)))))
picked-here table true (true ∷ marks) (x ∷ ts) zero t l e m = ap (λ (y : Term). image table (tree y) ∷ picked true marks (images_from table ts)) (sym e)
picked-here table true (false ∷ marks) (x ∷ ts) zero t l e m = cc
picked-here table false (true ∷ marks) (x ∷ ts) zero t l e m = cc
picked-here table false (false ∷ marks) (x ∷ ts) zero t l e m = ap (λ (y : Term). image table (tree y) ∷ picked false marks (images_from table ts)) (sym e)
picked-here table b (c ∷ marks) (x ∷ ts) (suc i) t l e m = let n : suc i + 1 ≡ suc (i + 1) = omega arith in rw n (picked-here table b marks ts i t (omega (arith, l)) e m)

pub picked-past : (table : Table) (b : Bool) (marks : List Bool) (ts : List Term) (i : ℕ) → i < length ts → (get_or marks i false ≡ b → ⊥) →
    picked_from table b marks ts i ≡ picked_from table b marks ts (i + 1)
picked-past table b marks [] i l m = absurd (omega (arith, l))
picked-past table false [] (x ∷ ts) i l m = absurd (m refl)
picked-past table true [] (x ∷ ts) zero l m = refl
picked-past table true [] (x ∷ ts) (suc i) l m = let n : suc i + 1 ≡ suc (i + 1) = omega arith in rw n refl
picked-past table true (true ∷ marks) (x ∷ ts) zero l m = absurd (m refl)
picked-past table true (false ∷ marks) (x ∷ ts) zero l m = refl
picked-past table false (true ∷ marks) (x ∷ ts) zero l m = refl
picked-past table false (false ∷ marks) (x ∷ ts) zero l m = absurd (m refl)
picked-past table b (c ∷ marks) (x ∷ ts) (suc i) l m = let n : suc i + 1 ≡ suc (i + 1) = omega arith in rw n (picked-past table b marks ts i (omega (arith, l)) m)

pub picked-end : (table : Table) (b : Bool) (marks : List Bool) (ts : List Term) (i : ℕ) → length ts ≤ i → picked_from table b marks ts i ≡ []
picked-end table b marks [] i l = none-left b (drop i marks) i
  where
    none-left : (b : Bool) (bs : List Bool) (i : ℕ) → picked b bs (images_from table (drop i [])) ≡ []
    none-left true [] zero = refl
    none-left true (c ∷ bs) zero = refl
    none-left false [] zero = refl
    none-left false (c ∷ bs) zero = refl
    none-left true [] (suc i) = refl
    none-left true (c ∷ bs) (suc i) = refl
    none-left false [] (suc i) = refl
    none-left false (c ∷ bs) (suc i) = refl
picked-end table b marks (x ∷ ts) zero l = absurd (omega (arith, l))
picked-end table false [] (x ∷ ts) (suc i) l = bare-end ts i (omega (arith, l))
  where
    bare-end : (ts : List Term) (i : ℕ) → length ts ≤ i → images_from table (drop i ts) ≡ []
    bare-end [] zero l = refl
    bare-end [] (suc i) l = refl
    bare-end (x ∷ ts) zero l = absurd (omega (arith, l))
    bare-end (x ∷ ts) (suc i) l = bare-end ts i (omega (arith, l))
picked-end table true [] (x ∷ ts) (suc i) l = refl
picked-end table b (c ∷ marks) (x ∷ ts) (suc i) l = picked-end table b marks ts i (omega (arith, l))

-- an error that is handed on
pub told : (over : Option RewriteRefusal) (r : Result (Unit {0}) RewriteError) (e : RewriteError) → IsErrAnd r (λ x. x ≡ e) → Tells over e → Answers over (λ x. Unit {0}) r
told over (Ok x) e h t = absurd h
told over (Err x) e h t = subst (Tells over) (sym h) t

module _ (table : Table) (ps : List PremiseOf) (i : ℕ) (p : PremiseOf) (so : first_over (premises_from table ps) ≡ first_over (premises_from table (drop i ps)))
    (l : i < length ps) (is : p ≡ get_or ps i p) where
  abbrev here_premise : List Tree
  here_premise = premise_terms (image_premise table (premise p) ∷ [])

  pub premises-tell : (e : RewriteError) → Tells (first_over here_premise) e → Tells (first_over (premises_from table ps)) e
  premises-tell = tell (premises_from table ps) (premises_from table (drop i ps)) here_premise (premises_from table (drop (i + 1) ps)) so (premises-split table ps i p l is)

  pub premises-pass : first_over here_premise ≡ None → first_over (premises_from table ps) ≡ first_over (premises_from table (drop (i + 1) ps))
  premises-pass = pass (premises_from table ps) (premises_from table (drop i ps)) here_premise (premises_from table (drop (i + 1) ps)) so (premises-split table ps i p l is)

module _ (table : Table) (ts : List Term) (i : ℕ) (t : Term) (so : first_over (images_from table ts) ≡ first_over (images_from table (drop i ts)))
    (l : i < length ts) (is : t ≡ get_or ts i t) where
  pub images-tell : (e : RewriteError) → Tells (first_over (image table (tree t) ∷ [])) e → Tells (first_over (images_from table ts)) e
  images-tell = tell (images_from table ts) (images_from table (drop i ts)) (image table (tree t) ∷ []) (images_from table (drop (i + 1) ts)) so (images-split table ts i t l is)

  pub images-pass : first_over (image table (tree t) ∷ []) ≡ None → first_over (images_from table ts) ≡ first_over (images_from table (drop (i + 1) ts))
  images-pass = pass (images_from table ts) (images_from table (drop i ts)) (image table (tree t) ∷ []) (images_from table (drop (i + 1) ts)) so (images-split table ts i t l is)

module _ (table : Table) (b : Bool) (marks : List Bool) (ts : List Term) (i : ℕ)
    (so : first_over (picked_from table b marks ts 0) ≡ first_over (picked_from table b marks ts i)) where
  module _ (t : Term) (l : i < length ts) (is : t ≡ get_or ts i t) (m : get_or marks i false ≡ b) where
    pub picked-tell : (e : RewriteError) → Tells (first_over (image table (tree t) ∷ [])) e → Tells (first_over (picked_from table b marks ts 0)) e
    picked-tell = tell (picked_from table b marks ts 0) (picked_from table b marks ts i) (image table (tree t) ∷ []) (picked_from table b marks ts (i + 1)) so (picked-here table b marks ts i t l is m)

    pub picked-pass : first_over (image table (tree t) ∷ []) ≡ None → first_over (picked_from table b marks ts 0) ≡ first_over (picked_from table b marks ts (i + 1))
    picked-pass = pass (picked_from table b marks ts 0) (picked_from table b marks ts i) (image table (tree t) ∷ []) (picked_from table b marks ts (i + 1)) so (picked-here table b marks ts i t l is m)

  pub picked-skip : i < length ts → (get_or marks i false ≡ b → ⊥) → first_over (picked_from table b marks ts 0) ≡ first_over (picked_from table b marks ts (i + 1))
  picked-skip l m = so ∙ ap first_over (picked-past table b marks ts i l m)

  pub picked-done : length ts ≤ i → first_over (picked_from table b marks ts 0) ≡ None
  picked-done l = so ∙ ap first_over (picked-end table b marks ts i l)

-- two sides
pub sides-tell : (t u : Tree) (e : RewriteError) → Tells (first_over (t ∷ [])) e → Tells (first_over (t ∷ u ∷ [])) e
sides-tell t u e h = over-left (t ∷ []) (u ∷ []) e h

pub sides-pass : (t u : Tree) → first_over (t ∷ []) ≡ None → first_over (t ∷ u ∷ []) ≡ first_over (u ∷ [])
sides-pass t u h = over-right (t ∷ []) (u ∷ []) h

-- the terms of a rule in their four parts
module _ (ps bs cs ds : List Tree) where
  abbrev whole_terms : List Tree
  whole_terms = ps ++ (bs ++ (cs ++ ds))

  pub first-tell : (e : RewriteError) → Tells (first_over ps) e → Tells (first_over whole_terms) e
  first-tell e h = over-left ps (bs ++ (cs ++ ds)) e h

  module _ (a : first_over ps ≡ None) where
    pub second-tell : (e : RewriteError) → Tells (first_over bs) e → Tells (first_over whole_terms) e
    second-tell e h = subst (λ (o : Option RewriteRefusal). Tells o e) (sym (over-right ps (bs ++ (cs ++ ds)) a)) (over-left bs (cs ++ ds) e h)

    module _ (b : first_over bs ≡ None) where
      past-two : first_over whole_terms ≡ first_over (cs ++ ds)
      past-two = over-right ps (bs ++ (cs ++ ds)) a ∙ over-right bs (cs ++ ds) b

      pub third-tell : (e : RewriteError) → Tells (first_over cs) e → Tells (first_over whole_terms) e
      third-tell e h = subst (λ (o : Option RewriteRefusal). Tells o e) (sym past-two) (over-left cs ds e h)

      pub fourth-answers : first_over cs ≡ None → (r : Result (Unit {0}) RewriteError) → Answers (first_over ds) (λ x. Unit {0}) r → Answers (first_over whole_terms) (λ x. Unit {0}) r
      fourth-answers c r h = subst (λ (o : Option RewriteRefusal). Answers o (λ x. Unit {0}) r) (sym (past-two ∙ over-right cs ds c)) h
