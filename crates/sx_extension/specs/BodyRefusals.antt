-- Refusals of bodies by the names of their rules.
use Rattle.std.specs.Prelude.{◌≡◌, ℕ, List, Option, Some, slice_get}
use Rattle.sx_term.specs.Sorts.{Shape}
use Rattle.sx_term.specs.Tree.{Tree}
use Rattle.sx_grammar.specs.Grammar.{Text}
use Rattle.sx_rules.specs.Views.{FormData, NamedRule}
use Rattle.sx_outline.specs.Stages.{RuleData}
use Rattle.sx_extension.specs.declared.body_defect.BodyDefect.{BodyDefect}
use Rattle.sx_extension.specs.declared.body_defect.BodyDefect.TheVariants as defect
use Rattle.sx_extension.specs.declared.extension_error.ExtensionError.{ExtensionError}
use Rattle.sx_extension.specs.declared.extension_error.ExtensionError.TheVariants.{Memory, NoBody}
use Rattle.sx_extension.specs.declared.extension_error.ExtensionError.TheVariants.{BodySort}
use Rattle.sx_extension.specs.declared.extension_error.ExtensionError.TheVariants.{BodyExtended}
use Rattle.sx_extension.specs.Bodies.{IsFirstDefect}

-- the refusal of the rule with this name, whose body has the defect, or memory is lacking
abbrev pub IsBodyRefusal : (rule : Text) → BodyDefect → ExtensionError → Type 0
IsBodyRefusal rule d Memory = Unit {0}
IsBodyRefusal rule defect.NoBody (NoBody name) = name ≡ rule
IsBodyRefusal rule defect.BodySort (BodySort name) = name ≡ rule
IsBodyRefusal rule defect.BodyExtended (BodyExtended name) = name ≡ rule
IsBodyRefusal rule _ _ = ⊥

-- the first rule whose body is not as it should be is refused so
pub record HaveBadBody (forms : List FormData) (shapes : List Shape) (first : ℕ)
    (ls : List RuleData) (qs : List NamedRule) (bs : List (Option Tree)) (e : ExtensionError) :
    Type 0 where
  pub number : ℕ
  pub defect : BodyDefect
  pub is_first : IsFirstDefect forms shapes first ls qs bs number defect
  pub lines : RuleData
  pub there : slice_get ls number ≡ Some lines
  pub refused : IsBodyRefusal lines.name defect e
