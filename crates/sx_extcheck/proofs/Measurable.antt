-- The terms of a rule that fits can be measured, and where none of them passes a limit each has its plain image.
use Rattle.std.proofs.Common.{◌≡◌, ℕ, Bool, true, false, List, [], ◌∷◌, ◌++◌, map, length, Option, Some, None, refl, subst}
use Rattle.std.specs.Prelude.{option_map}
use Rattle.std.specs.List.{AllByRecursion}
use Rattle.sx_term.specs.declared.sort.Sort.{Sort}
use Rattle.sx_term.specs.declared.sort.Sort.TheVariants.{Lex}
use Rattle.sx_term.specs.Tree.{Tree}
use Rattle.sx_term.specs.Sorts.{Shape, HaveSorts}
use Rattle.sx_rules.specs.Rules.{Premise, holds, apart, Rule}
use Rattle.sx_rules.specs.Modes.{Modes, inputs, outputs}
use Rattle.sx_rules.specs.Deep.{AreShallow, PremisesAreShallow, RuleIsShallow}
use Rattle.sx_rules.specs.Sorts.{FormSorts, PremisesAreSorted}
use Rattle.sx_plain.specs.Plain.{Table, image}
use Rattle.sx_plain.specs.Tables.{Desugars}
use Rattle.sx_plain.proofs.Tables.{sorted-fits}
use Rattle.sx_rewrite.specs.Accepted.{ExtRule, Accepted, Signature}
use Rattle.sx_rewrite.specs.Extensions.{BodyFits, ComesAfter}
use Rattle.sx_rewrite.specs.PlainRules.{image_premise, HasImage, PremiseHasImage, RuleHasImage}
use Rattle.sx_rewrite.specs.Puts.{IsSmallTerm}
use Rattle.sx_rewrite.specs.Rewriting.{first_over}
use Rattle.sx_rewrite.proofs.BasedTerms.{small-here}
use Rattle.sx_extcheck.specs.FlatTerms.{premise_terms, listed_term, flat_terms, CanMeasure}
use Rattle.sx_extcheck.specs.FlatTerms.{PremiseCanMeasure, RuleCanMeasure}

-- the terms of a rule can be measured
module _ (base all : List Shape) (table : Table) (vars : List Sort) (d : Desugars base all table) where
  list-can : (ts : List Tree) (sorts : List Sort) → HaveSorts all vars ts sorts → AreShallow ts → AllByRecursion (CanMeasure table) ts
  list-can [] sorts h s = tt
  list-can (t ∷ ts) [] h s = absurd h
  list-can (t ∷ ts) (x ∷ xs) h s = ((s.0, sorted-fits base all table vars d t x h.0), list-can ts xs h.1 s.1)

  premises-can : (forms : FormSorts) (ps : List Premise) → PremisesAreSorted all forms vars ps → PremisesAreShallow ps → AllByRecursion (PremiseCanMeasure table) ps
  premises-can forms [] h s = tt
  premises-can forms (holds j ∷ ps) h s = (list-can j.places (forms j.form) h.0 s.0, premises-can forms ps h.1 s.1)
  premises-can forms (apart t u ∷ ps) h s =
      (((s.0.0, sorted-fits base all table vars d t (Lex h.0.0) h.0.1), (s.0.1, sorted-fits base all table vars d u (Lex h.0.0) h.0.2)), premises-can forms ps h.1 s.1)

  body-can : (sig : Signature) (n : ℕ) (rule : Rule) → rule.sorts ≡ vars → (body : Option Tree) → BodyFits sig all n table rule body → AreShallow (listed_term body) → AllByRecursion (CanMeasure table) (listed_term body)
  body-can sig n rule e None h s = tt
  body-can sig n rule e (Some t) h s =
      let sorts = outputs (sig.subjects rule.conclusion.form) (sig.forms rule.conclusion.form) in
      list-can (t ∷ []) sorts (subst (λ (v : List Sort). HaveSorts all v (t ∷ []) sorts) e h.0) s

pub rule-can : (sig : Signature) (base shapes all : List Shape) (a : Accepted) (table : Table) (ext : ExtRule) → ComesAfter sig base shapes all a table ext →
    RuleIsShallow ext.rule → AreShallow (listed_term ext.body) → RuleCanMeasure table ext
rule-can sig base shapes all a table ext x s b =
    let d = x.goes_on.desugars in
    record {
      premises = premises-can base all table ext.rule.sorts d sig.forms ext.rule.premises x.sorted.1 s.1;
      conclusion = list-can base all table ext.rule.sorts d ext.rule.conclusion.places (sig.forms ext.rule.conclusion.form) x.sorted.0 s.0;
      body = body-can base all table ext.rule.sorts d sig (length shapes) ext.rule refl ext.body x.body b;
    }

-- where no term passes a limit
pub all-small : (ts : List Tree) → first_over ts ≡ None → AllByRecursion IsSmallTerm ts
all-small [] e = tt
all-small (t ∷ ts) e = let h = small-here t ts e in (h.0, all-small ts h.1)

pub small-split : (ts us : List Tree) → AllByRecursion IsSmallTerm (ts ++ us) → AllByRecursion IsSmallTerm ts × AllByRecursion IsSmallTerm us
small-split [] us h = (tt, h)
small-split (t ∷ ts) us h = let k = small-split ts us h.1 in ((h.0, k.0), k.1)

-- small images of terms that can be measured
module _ (table : Table) where
  abbrev Images : List Tree → Type 0
  Images ts = AllByRecursion IsSmallTerm (map (image table) ts)

  has-image : (t : Tree) → CanMeasure table t → IsSmallTerm (image table t) → HasImage table t
  has-image t c s = record { shallow = c.0; fits = c.1; image_shallow = s.0; image_small = s.1 }

  pub list-images : (ts : List Tree) → AllByRecursion (CanMeasure table) ts → Images ts → AllByRecursion (HasImage table) ts
  list-images [] c s = tt
  list-images (t ∷ ts) c s = (has-image t c.0 s.0, list-images ts c.1 s.1)

  pub premises-images : (ps : List Premise) → AllByRecursion (PremiseCanMeasure table) ps → AllByRecursion IsSmallTerm (premise_terms (map (image_premise table) ps)) →
      AllByRecursion (PremiseHasImage table) ps
  premises-images [] c s = tt
  premises-images (holds j ∷ ps) c s =
      let k = small-split (map (image table) j.places) (premise_terms (map (image_premise table) ps)) s in
      (list-images j.places c.0 k.0, premises-images ps c.1 k.1)
  premises-images (apart t u ∷ ps) c s = ((has-image t c.0.0 s.0, has-image u c.0.1 s.1.0), premises-images ps c.1 s.1.1)

  pub body-images : (body : Option Tree) → AllByRecursion (CanMeasure table) (listed_term body) → AllByRecursion IsSmallTerm (listed_term (option_map (image table) body)) →
      AllByRecursion (HasImage table) (listed_term body)
  body-images None c s = tt
  body-images (Some t) c s = (has-image t c.0 s.0, tt)

-- what holds at the inputs and at the outputs holds at all places
pub joined : (P : Tree → Type 0) (bs : List Bool) (ts : List Tree) → AllByRecursion P (inputs bs ts) → AllByRecursion P (outputs bs ts) → AllByRecursion P ts
joined P [] ts h k = h
joined P (b ∷ bs) [] h k = tt
joined P (true ∷ bs) (t ∷ ts) h k = (k.0, joined P bs ts h k.1)
joined P (false ∷ bs) (t ∷ ts) h k = (h.0, joined P bs ts h.1 k)

-- the parts of the measured terms of a rule
module _ (table : Table) (subjects : Modes) (ext : ExtRule) (within : first_over (flat_terms table subjects ext) ≡ None) where
  abbrev premises_part : List Tree
  premises_part = premise_terms (map (image_premise table) ext.rule.premises)

  abbrev marks : List Bool
  marks = subjects ext.rule.conclusion.form

  abbrev images : List Tree
  images = map (image table) ext.rule.conclusion.places

  abbrev body_part : List Tree
  body_part = listed_term (option_map (image table) ext.body)

  small : AllByRecursion IsSmallTerm (flat_terms table subjects ext)
  small = all-small (flat_terms table subjects ext) within

  pub small-premises : AllByRecursion IsSmallTerm premises_part
  small-premises = (small-split premises_part (inputs marks images ++ (body_part ++ outputs marks images)) small).0

  rest : AllByRecursion IsSmallTerm (inputs marks images ++ (body_part ++ outputs marks images))
  rest = (small-split premises_part (inputs marks images ++ (body_part ++ outputs marks images)) small).1

  pub small-body : AllByRecursion IsSmallTerm body_part
  small-body = (small-split body_part (outputs marks images) (small-split (inputs marks images) (body_part ++ outputs marks images) rest).1).0

  pub small-places : AllByRecursion IsSmallTerm images
  small-places =
      joined IsSmallTerm marks images (small-split (inputs marks images) (body_part ++ outputs marks images) rest).0
      (small-split body_part (outputs marks images) (small-split (inputs marks images) (body_part ++ outputs marks images) rest).1).1

  module _ (can : RuleCanMeasure table ext) where
    pub rule-images : RuleHasImage table ext.rule
    rule-images = (list-images table ext.rule.conclusion.places can.conclusion small-places, premises-images table ext.rule.premises can.premises small-premises)

    pub own-body-images : AllByRecursion (HasImage table) (listed_term ext.body)
    own-body-images = body-images table ext.body can.body small-body
