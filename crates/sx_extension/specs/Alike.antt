-- Refusals of extensions that are the same, though two readings that they show of a line may not
-- be, where the line has more than two.
use Rattle.std.specs.Prelude.{◌≡◌, ◌⊎◌, ℕ, List, Contains}
use Rattle.sx_term.specs.declared.sort.Sort.{Sort}
use Rattle.sx_grammar.specs.Grammar.{Text}
use Rattle.sx_grammar.specs.Parts.{Parts}
use Rattle.sx_grammar.specs.Tables.{GrammarData}
use Rattle.sx_outline.specs.Stages.{PlainData}
use Rattle.sx_outline.specs.ExtensionOutlined.{ExtensionOutlineData}
use Rattle.sx_notation.specs.declared.notation_error.NotationError.{NotationError}
use Rattle.sx_notation.specs.ReadText.{ReaderData}
use Rattle.sx_language.specs.Alike.{LineHasThree, RulesHaveThree, LineShowsOthers}
use Rattle.sx_language.specs.RuleLine.{Reader}
use Rattle.sx_extension.specs.declared.extension_error.ExtensionError.{ExtensionError}
use Rattle.sx_extension.specs.declared.extension_error.ExtensionError.TheVariants.{Notation}
use Rattle.sx_extension.specs.Grounds.{Ground}
use Rattle.sx_extension.specs.Readings.{with_own, IsProduction, IsExtensionReadable, tables}

-- the line of the plain body has this number, and more than two readings as the sort of its
-- production
pub record PlainHasThree (p : Parts) (r : ReaderData) (l : PlainData) (number : ℕ) : Type 0 where
  pub label : ℕ
  pub sort : Sort
  pub made_by : IsProduction p l.label label sort
  pub is : l.body.number ≡ number
  pub three : LineHasThree r.parts r.stems sort l.body.text

-- so it is of the line of one of these plain bodies
abbrev pub PlainsHaveThree : Parts → ReaderData → List PlainData → (number : ℕ) → Type 0
PlainsHaveThree p r ls number = (l : PlainData) × Contains ls l × PlainHasThree p r l number

-- so it is of the line of a plain body, or of a line of a rule
abbrev pub TextsHaveThree : Parts → Reader → ExtensionOutlineData → (number : ℕ) → Type 0
TextsHaveThree p r o number =
    PlainsHaveThree p (tables r) o.plains number ⊎ RulesHaveThree r o.rules number

-- so it is of such a line of this extension file
pub record ExtensionHasThree (g : Ground) (bytes : Text) (number : ℕ) : Type 0 where
  pub outline : ExtensionOutlineData
  pub grammar : GrammarData
  pub by_rules : GrammarData
  pub reader : Reader
  pub readable : IsExtensionReadable g bytes outline grammar by_rules reader
  pub three : TextsHaveThree (with_own g outline.productions) reader outline number

-- both say that a line has more than one reading, and show two of them; it has more than two
pub record ShowOtherReadings (g : Ground) (bytes : Text) (e d : ExtensionError) : Type 0 where
  pub one : NotationError
  pub other : NotationError
  pub first : e ≡ Notation one
  pub second : d ≡ Notation other
  pub shown : LineShowsOthers (ExtensionHasThree g bytes) one other
