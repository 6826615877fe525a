-- What is known of each hypothesis.
use Rattle.std.proofs.Common.{◌≡◌, ℕ, zero, suc, length, List, [], ◌∷◌}
use Rattle.std.proofs.Common.{Option, Some, sym, ◌∙◌, subst}
use Rattle.std.specs.Prelude.{slice_get}
use Rattle.std.specs.List.{AllByRecursion}
use Rattle.std.proofs.lemmas.List.{length-map}
use Rattle.sx_term.specs.Tree.{Tree, Trees, node, lexeme, hole, none, ◌▹◌, forest}
use Rattle.sx_rules.specs.declared.rule.Place.{Place}
use Rattle.sx_rules.specs.Deep.{AreShallow}
use Rattle.sx_rules.specs.Derivations.{ShallowJudgements}
use Rattle.sx_rules.specs.Rules.{Judgement, Hypotheses, no_hypotheses}
use Rattle.sx_rules.specs.Sets.{forms_in, shapes_in}
use Rattle.sx_rules.specs.Views.{FormData, sorts_of, places_at}
use Rattle.sx_plain.specs.Plain.{Table, Body}
use Rattle.sx_plain.specs.Tables.{LabelsBelow, AllLabelsBelow, IsPlainTable, HasParts}
use Rattle.sx_plain.specs.Tables.{FitsTable, FitTable}
use Rattle.sx_rewrite.specs.declared.accepted.Accepted.{Accepted as AcceptedOf}
use Rattle.sx_rewrite.specs.Lowers.{TreeLabelsBelow, JudgementsBelow}
use Rattle.sx_expand.specs.Readings.{AllSmall, IsGivenJudgement, AreGiven}

each-at : (P : Judgement → Type 0) (js : List Judgement) (i : ℕ) (j : Judgement) →
    AllByRecursion P js → slice_get js i ≡ Some j → P j
each-at P [] i j h e = cc
each-at P (x ∷ js) zero j h e = let same : x ≡ j = cc in subst P same h.0
each-at P (x ∷ js) (suc i) j h e = each-at P js i j h.1 e

below-at : (n : ℕ) (js : List Judgement) (i : ℕ) (j : Judgement) → JudgementsBelow n js →
    slice_get js i ≡ Some j → TreeLabelsBelow n j.places
below-at n [] i j h e = cc
below-at n (x ∷ js) zero j h e =
    let same : x ≡ j = cc in subst (λ (y : Judgement). TreeLabelsBelow n y.places) same h.0
below-at n (x ∷ js) (suc i) j h e = below-at n js i j h.1 e

small-shallow : (ts : List Tree) → AllSmall ts → AreShallow ts
small-shallow [] h = tt
small-shallow (t ∷ ts) h = (h.0.0, small-shallow ts h.1)

all-shallow : (forms : List FormData) (js : List Judgement) → AllByRecursion (IsGivenJudgement forms) js →
    ShallowJudgements js
all-shallow forms [] h = tt
all-shallow forms (j ∷ js) h = (small-shallow j.places h.0.small, all-shallow forms js h.1)

-- base labels have no entry in a plain table
module _ (n : ℕ) (table : Table) (is : IsPlainTable n table) where
  mutual
    base-fits : (t : Tree) → LabelsBelow n t → FitsTable table t
    base-fits (node label kids) h = (
      subst (λ (o : Option Body). HasParts o kids) (sym (is.keeps_base label h.0)) tt,
      bases-fit kids h.1,
    )
    base-fits (lexeme kind text) h = tt
    base-fits (hole v) h = tt

    bases-fit : (ts : Trees) → AllLabelsBelow n ts → FitTable table ts
    bases-fit none h = tt
    bases-fit (t ▹ ts) h = (base-fits t h.0, bases-fit ts h.1)

  row-fits : (ts : List Tree) → TreeLabelsBelow n ts → FitTable table (forest ts)
  row-fits [] h = tt
  row-fits (t ∷ ts) h = (base-fits t h.0, row-fits ts h.1)

-- the hypothesis with a number
pub one-given : (hyps : Hypotheses) (i : ℕ) (j k : Judgement) →
    slice_get hyps.judgements i ≡ Some j → slice_get hyps.judgements i ≡ Some k → j ≡ k
one-given hyps i j k d e = let o : Some j ≡ Some k = sym d ∙ e in cc

-- no hypotheses are good
pub none-given : (set : AcceptedOf) → AreGiven set no_hypotheses
none-given set = record { below = (tt, tt); each = tt }

module _ (set : AcceptedOf) (hyps : Hypotheses) (good : AreGiven set hyps) where
  -- no term of them is deeper than 1,000
  pub given-near : ShallowJudgements hyps.judgements
  given-near = all-shallow (forms_in set.base) hyps.judgements good.each

  module _ (i : ℕ) (j : Judgement) (at_i : slice_get hyps.judgements i ≡ Some j) where
    here : IsGivenJudgement (forms_in set.base) j
    here = each-at (IsGivenJudgement (forms_in set.base)) hyps.judgements i j good.each at_i

    pub given-small : AllSmall j.places
    given-small = here.small

    pub given-shallow : AreShallow j.places
    given-shallow = small-shallow j.places here.small

    -- it has a term for each place of its form
    pub given-many : length j.places ≡ length (sorts_of (forms_in set.base) j.form)
    given-many =
        here.many ∙ sym (length-map (places_at (forms_in set.base) j.form) (λ (p : Place). p.sort))

    -- and as many parts as a table of plain constructors asks for
    pub given-fits : (table : Table) → IsPlainTable (length (shapes_in set.base)) table →
        FitTable table (forest j.places)
    given-fits table is =
        row-fits (length (shapes_in set.base)) table is j.places
        (below-at (length (shapes_in set.base)) hyps.judgements i j good.below.0 at_i)
