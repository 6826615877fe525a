-- What a line of a rule states.
use Rattle.std.specs.Prelude.{◌≡◌, ℕ, ◌+◌, ◌-◌, ◌<◌, ◌≤◌, List, [], ◌∷◌, Option, Some, length}
use Rattle.std.specs.Prelude.{option_map}
use Rattle.std.specs.List.{find}
use Rattle.sx_term.specs.declared.sort.Sort.{Sort}
use Rattle.sx_term.specs.declared.sort.Sort.TheVariants.{Typed}
use Rattle.sx_term.specs.Tree.{Tree, node, forest}
use Rattle.sx_grammar.specs.Grammar.{Text}
use Rattle.sx_grammar.specs.Parts.{Parts}
use Rattle.sx_earley.specs.Tokens.{Stems}
use Rattle.sx_earley.specs.Completed.{IsSort}
use Rattle.sx_rules.specs.Rules.{Premise, holds, apart}
use Rattle.sx_rules.specs.Views.{FormData, places_at, is_sub}
use Rattle.sx_outline.specs.Stages.{Numbered}
use Rattle.sx_notation.specs.declared.notation_error.NotationError.{NotationError}
use Rattle.sx_notation.specs.GoalText.{form_label}
use Rattle.sx_notation.specs.ReadText.{IsReadLine, IsTextRefused}

-- what the lines of rules are read by: the grammar of rules, the stems with their sorts, the forms
pub record Reader : Type 0 where
  pub parts : Parts
  pub stems : Stems
  pub forms : List FormData

-- the sort of judgements is the last
abbrev pub judgements : Parts → Sort
judgements p = Typed (length p.sorts - 1)

-- the sort of the subject of the form with this number, if it has one
abbrev pub subject_sort : List FormData → (form : ℕ) → Option Sort
subject_sort forms form =
    option_map (λ p. p.sort) (find (λ p. is_sub p.role) (places_at forms form))

-- the label of one of the last productions: one for each form, in order, and then three for `!=`
abbrev pub label_of : Reader → ℕ → ℕ
label_of r number = form_label (length r.parts.productions) (length r.forms) number

-- the term is the judgement, by the production of its form, or says that two lexemes are to be
-- apart
abbrev pub Says : Reader → Tree → Premise → Type 0
Says r t (holds j) =
    (j.form < length r.forms) × (t ≡ node (label_of r j.form) (forest j.places))
Says r t (apart u v) =
    (kind : ℕ) × (kind < 3) ×
    (t ≡ node (label_of r (length r.forms + kind)) (forest (u ∷ v ∷ [])))

-- the only reading of the line says the premise; names of metavariables that the old list lacks
-- are added to it
pub record IsLine (r : Reader) (text : Text) (old new : List Text) (q : Premise) : Type 0 where
  pub term : Tree
  pub read : IsReadLine r.parts r.stems (judgements r.parts) text old new term
  pub says : Says r term q

-- why the line is not read, out of memory aside
abbrev pub IsBadRuleLine : Reader → Numbered → NotationError → Type 0
IsBadRuleLine r l e = IsTextRefused r.parts r.stems (judgements r.parts) l.text l.number e

-- each line that is read says a premise, and bodies can be read at the sorts of subjects
pub record CanReadRules (r : Reader) : Type 0 where
  pub room : length r.forms + 3 ≤ length r.parts.productions
  pub sort : IsSort r.parts (judgements r.parts)
  pub says : (text : Text) (old new : List Text) (t : Tree) →
      IsReadLine r.parts r.stems (judgements r.parts) text old new t → (q : Premise) × Says r t q
  pub subjects : (form : ℕ) (sort : Sort) → subject_sort r.forms form ≡ Some sort →
      IsSort r.parts sort
