-- The refusal of a printed part.
use Rattle.std.specs.Prelude.{◌≡◌, ℕ, List}
use Rattle.sx_term.specs.Tree.{Tree}
use Rattle.sx_words.specs.declared.print_defect.PrintedPart.{PrintedPart}
use Rattle.sx_typing.specs.Dialects.{DialectData}
use Rattle.sx_typing.specs.declared.module_error.ModuleError.{ModuleError}
use Rattle.sx_typing.specs.declared.module_error.ModuleError.TheVariants.{Memory, Print}
use Rattle.sx_unit.specs.declared.print_check.PrintRefusal.{PrintRefusal}
use Rattle.sx_unit.specs.declared.print_check.PrintRefusal.TheVariants as refusal
use Rattle.sx_unit.specs.PrintedParts.{part_grammar_of, part_sort_of}
use Rattle.sx_unit.specs.PrintRefused.{IsPrintRefusal}

-- the refusal of a part
abbrev pub refusal_of : PrintedPart → PrintRefusal → ModuleError
refusal_of part refusal.Memory = Memory
refusal_of part (refusal.Defect defect) = Print part defect

-- it is that of a part whose file has so many bytes, in which the term is shown
abbrev pub IsPartRefusal : DialectData → PrintedPart → (size : ℕ) → (shown : List ℕ) → Tree →
    ModuleError → Type 0
IsPartRefusal d part size shown t e = (r : PrintRefusal) × (e ≡ refusal_of part r) ×
    IsPrintRefusal (part_grammar_of d part) (part_sort_of d part) size shown t r
