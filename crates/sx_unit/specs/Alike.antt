-- Refusals of modules that are the same, though two readings that they show may not be, where a
-- text has more than two.
use Rattle.std.specs.Prelude.{◌≡◌, ◌≢◌, ◌⊎◌, ℕ}
use Rattle.sx_extcheck.specs.declared.budgets.Budgets.{Budgets}
use Rattle.sx_grammar.specs.Grammar.{Text}
use Rattle.sx_words.specs.declared.print_defect.PrintedPart.{PrintedPart}
use Rattle.sx_words.specs.declared.print_defect.PrintDefect.TheVariants as print_defect
use Rattle.sx_typing.specs.Alike.{HasThree, ReadOthers}
use Rattle.sx_typing.specs.Dialects.{IsDialect}
use Rattle.sx_typing.specs.Refused.{HasWalked}
use Rattle.sx_typing.specs.declared.module_error.ModuleError.{ModuleError}
use Rattle.sx_typing.specs.declared.module_error.ModuleError.TheVariants.{Memory, Print}
use Rattle.sx_unit.specs.Modules.{ModuleData}
use Rattle.sx_unit.specs.PrintedParts.{PrintedData, part_grammar_of, part_sort_of}
use Rattle.sx_unit.specs.Refused.{IsBadModule}
use Rattle.sx_unit.specs.Unit.{HasLowering, IsUnitMade}
use Rattle.sx_unit.specs.Written.{UnitData, IsPartDue, shown_of}

-- a printed part has more than two readings
abbrev pub PartHasThree : ModuleData → PrintedData → PrintedPart → Type 0
PartHasThree m t part =
    HasThree (part_grammar_of m.source.dialect part) (part_sort_of m.source.dialect part)
    (shown_of m t part)

-- both say of these terms that the same part, which is due, has more than one reading, and show two
-- of them; it has more than two
pub record ShowOthers (m : ModuleData) (t : PrintedData) (e d : ModuleError) : Type 0 where
  pub part : PrintedPart
  pub due : IsPartDue m t part
  pub one : Text
  pub other : Text
  pub some : Text
  pub more : Text
  pub first : e ≡ Print part (print_defect.Ambiguous one other)
  pub second : d ≡ Print part (print_defect.Ambiguous some more)
  pub three : PartHasThree m t part

-- so they do of the terms that the derivation is lowered to
abbrev pub PrintOthers : ModuleData → Budgets → ModuleError → ModuleError → Type 0
PrintOthers m b e d = (l : HasLowering m b) × ShowOthers m l.terms e d

-- the same refusal, but for the two readings that it shows of a text with more than two
abbrev pub AreUnitsAlike : ModuleData → Budgets → ModuleError → ModuleError → Type 0
AreUnitsAlike m b e d = (e ≡ d) ⊎ ReadOthers m.source e d ⊎ PrintOthers m b e d

-- A module in a dialect has one unit, or one refusal, and its walk makes so many tries. Two
-- readings that a refusal shows are the same two in the same order, that of their tree texts by
-- bytes, unless the text has more than two. Out of memory is free.
pub record OneUnit : Type 0 where
  pub found : (m : ModuleData) (b : Budgets) (u v : UnitData) → IsDialect m.source.dialect →
      IsUnitMade m b u → IsUnitMade m b v → u ≡ v
  pub either : (m : ModuleData) (b : Budgets) (u : UnitData) (e : ModuleError) →
      IsDialect m.source.dialect → IsUnitMade m b u → IsBadModule m b e → e ≡ Memory
  pub refused : (m : ModuleData) (b : Budgets) (e d : ModuleError) → IsDialect m.source.dialect →
      IsBadModule m b e → IsBadModule m b d → e ≢ Memory → d ≢ Memory → AreUnitsAlike m b e d
  pub counted : (m : ModuleData) (tries made other : ℕ) → HasWalked m.source tries made →
      HasWalked m.source tries other → made ≡ other
