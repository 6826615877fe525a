-- What the term of a line says, by its label.
use Rattle.std.proofs.Common.{◌≡◌, ℕ, ◌+◌, ◌-◌, ◌<◌, ◌≤◌, List, [], ◌∷◌, ◌++◌, length, length-append, ap, ◌∙◌, sym, arith}
use Rattle.std.proofs.lemmas.List.{length-map}
use Rattle.sx_term.specs.Tree.{Tree, Trees, node, forest, listed}
use Rattle.sx_term.proofs.Kids.{listed-forest}
use Rattle.sx_grammar.specs.declared.numbered.NumberedProduction.{NumberedProduction}
use Rattle.sx_grammar.specs.Parts.{Parts, names, numbered_line}
use Rattle.sx_grammar.specs.Tables.{AreNumbered, literals_of}
use Rattle.sx_grammar.specs.Numbered.{production}
use Rattle.sx_rules.specs.Rules.{Premise, holds, apart}
use Rattle.sx_language.specs.RuleLine.{Reader, label_of, Says}

-- two terms that are taken from the end
pub two_kids : {X : Type 0} (xs ys zs : List X) (left right : X) → xs ≡ ys ++ right ∷ [] → ys ≡ zs ++ left ∷ [] → length xs ≡ 2 → xs ≡ left ∷ right ∷ []
two_kids xs ys [] left right e f two = e ∙ ap (λ l. l ++ right ∷ []) f
two_kids xs ys (z ∷ zs) left right e f two = absurd (omega (arith, two, ap length e, ap length f, length-append ys (right ∷ []), length-append (z ∷ zs) (left ∷ [])))

-- as many productions
pub as_many : (p : Parts) (ps : List NumberedProduction) → AreNumbered p ps → length ps ≡ length p.productions
as_many p ps e = omega (arith, ap length e, length-map ps (production (literals_of p)), length-map p.productions (numbered_line (names p)))

pub same_label : (a b : ℕ) (ts us : Trees) → node a ts ≡ node b us → a ≡ b
same_label a b ts us e = cc

pub same_kids : (a b : ℕ) (ts us : List Tree) → node a (forest ts) ≡ node b (forest us) → ts ≡ us
same_kids a b ts us e = let q : forest ts ≡ forest us = cc in sym (listed-forest ts) ∙ ap listed q ∙ listed-forest us

module _ (r : Reader) (t : Tree) (label first : ℕ) (kids : List Tree) (first_is : first ≡ length r.parts.productions - (length r.forms + 3)) (is : t ≡ node label (forest kids)) where
  -- the label is not before the first of these
  pub behind : (q : Premise) → Says r t q → first ≤ label
  behind (holds j) h = omega (arith, first_is, same_label label (label_of r j.form) (forest kids) (forest j.places) (sym is ∙ h.1))
  behind (apart u v) h = omega (arith, first_is, same_label label (label_of r (length r.forms + h.0)) (forest kids) (forest (u ∷ v ∷ [])) (sym is ∙ h.2))

  place : (q : Premise) → Says r t q → label ≡ label_of r (label - first)
  place q h = omega (arith, first_is, behind q h)

  -- a judgement
  pub says_holds : (q : Premise) → Says r t q → label - first < length r.forms → Says r t (holds (record { form = label - first; places = kids }))
  says_holds q h lt = (lt, is ∙ ap (λ l. node l (forest kids)) (place q h))

  -- two lexemes that are to be apart
  pub two_apart : (q : Premise) → Says r t q → length r.forms ≤ label - first → length kids ≡ 2
  two_apart (holds j) h past =
      absurd (omega (arith, first_is, h.0, past, same_label label (label_of r j.form) (forest kids) (forest j.places) (sym is ∙ h.1)))
  two_apart (apart u v) h past = ap length (same_kids label (label_of r (length r.forms + h.0)) kids (u ∷ v ∷ []) (sym is ∙ h.2))

  pub says_apart : (q : Premise) → Says r t q → length r.forms ≤ label - first → (u v : Tree) → kids ≡ u ∷ v ∷ [] → Says r t (apart u v)
  says_apart (holds j) h past u v e =
      absurd (omega (arith, first_is, h.0, past, same_label label (label_of r j.form) (forest kids) (forest j.places) (sym is ∙ h.1)))
  says_apart (apart x y) h past u v e =
      let same = same_label label (label_of r (length r.forms + h.0)) (forest kids) (forest (x ∷ y ∷ [])) (sym is ∙ h.2) in
      (h.0, h.1, is ∙ (λ i. node (same i) (forest (e i))))
