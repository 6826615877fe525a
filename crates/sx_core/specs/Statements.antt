-- Judgements and goals in lines.
use Rattle.std.specs.Prelude.{◌≡◌, ℕ, ◌<◌, ◌^◌, List, [], ◌∷◌, ◌++◌, map, length}
use Rattle.sx_term.specs.Tree.{Tree}
use Rattle.sx_term.specs.declared.sort.Sort.{Sort}
use Rattle.sx_term.specs.Sorts.{Shape, HaveSorts}
use Rattle.sx_lines.specs.Bytes.{space}
use Rattle.sx_rules.specs.Modes.{Goal, inputs}
use Rattle.sx_rules.specs.Rules.{Judgement}
use Rattle.sx_rules.specs.Views.{FormData, forms, places_at, modes_of, sorts_of}
use Rattle.sx_core.specs.File.{JudgementRow, judgement_text}
use Rattle.sx_core.specs.Stated.{IsCoreName, NamesForm, IsJudgement, subject_count}
use Rattle.sx_lines.specs.Distinct.{AreTextsDistinct}
use Rattle.sx_core.specs.TermsText.{RowRead, IsDeepRow}
use Rattle.sx_core.specs.declared.terms_row.RowError.{RowError}
use Rattle.sx_core.specs.declared.terms_row.RowError.TheVariants.{Memory, Shape as Bad, TooDeep}
use Rattle.sx_core.specs.Words.{BlankFirst}
use Rattle.sx_core.specs.declared.form_table.FormTable.{FormTable}

-- the forms that a table is of
abbrev pub known_in : FormTable → List FormData
known_in t = forms t.forms.items

abbrev pub form_names : List FormData → List (List ℕ)
form_names known = map (λ form. form.name) known

-- the table finds each form by its name, no name stands twice, and each form has a number
pub record IsFormTable (t : FormTable) : Type 0 where
  pub names : t.names ≡ form_names (known_in t)
  pub distinct : AreTextsDistinct (form_names (known_in t))
  pub few : length (known_in t) < 2 ^ 32

-- a blank, the name of this form, and the rest
pub record IsFormRead (known : List FormData) (text : List ℕ) (form : ℕ)
    (rest : List ℕ) : Type 0 where
  pub word : List ℕ
  pub parts : text ≡ space ∷ (word ++ rest)
  pub named : IsCoreName word
  pub stops : BlankFirst rest
  pub is : NamesForm known word form

-- no form stands there
abbrev pub FormRefused : List FormData → List ℕ → RowError → Type 0
FormRefused known text Memory = Unit {0}
FormRefused known text Bad = (form : ℕ) (rest : List ℕ) → IsFormRead known text form rest → ⊥
FormRefused known text (TooDeep depth) = ⊥

-- the text is that of this judgement
pub record IsJudgementRead (known : List FormData) (text : List ℕ) (j : Judgement) : Type 0 where
  pub row : JudgementRow
  pub parts : text ≡ judgement_text row
  pub named : IsCoreName row.form
  pub is : IsJudgement known row j

-- after its form the text has good terms, and then a core text of this depth at one of the places
pub record IsDeepJudgement (known : List FormData) (text : List ℕ) (depth : ℕ) : Type 0 where
  pub form : ℕ
  pub rest : List ℕ
  pub is : IsFormRead known text form rest
  pub deep : IsDeepRow rest (length (places_at known form)) depth

-- the text is that of these terms, which have these sorts
pub record IsInputsRead (shapes : List Shape) (sorts : List Sort) (text : List ℕ)
    (terms : List Tree) : Type 0 where
  pub row : RowRead text (length sorts) terms
  pub sorted : HaveSorts shapes [] terms sorts

-- the text is that of this goal
pub record IsGoalRead (shapes : List Shape) (known : List FormData) (text : List ℕ)
    (goal : Goal) : Type 0 where
  pub rest : List ℕ
  pub form : IsFormRead known text goal.form rest
  pub subject : subject_count (places_at known goal.form) ≡ 1
  pub terms : IsInputsRead shapes (inputs (modes_of known goal.form)
      (sorts_of known goal.form)) rest goal.terms

-- after its form, which has a subject, the text has good terms, and then a core text of this depth
-- at one of the inputs
pub record IsDeepGoal (known : List FormData) (text : List ℕ) (depth : ℕ) : Type 0 where
  pub form : ℕ
  pub rest : List ℕ
  pub is : IsFormRead known text form rest
  pub subject : subject_count (places_at known form) ≡ 1
  pub deep : IsDeepRow rest (length (inputs (modes_of known form) (sorts_of known form))) depth
