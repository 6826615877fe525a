-- Refusals of plain tables by names.
use Rattle.std.specs.Prelude.{◌≡◌, ℕ, ◌<◌, List, [], ◌∷◌, Some, length, slice_get}
use Rattle.sx_grammar.specs.Parts.{Parts, labels}
use Rattle.sx_plain.specs.declared.plain_error.PlainError.{PlainError}
use Rattle.sx_outline.specs.Stages.{PlainData}
use Rattle.sx_extension.specs.declared.table_error.TableError.{TableError}
use Rattle.sx_extension.specs.declared.table_error.TableError.TheVariants as table
use Rattle.sx_extension.specs.declared.extension_error.ExtensionError.{ExtensionError}
use Rattle.sx_extension.specs.declared.extension_error.ExtensionError.TheVariants.{Memory, Plain}
use Rattle.sx_extension.specs.declared.extension_error.ExtensionError.TheVariants.{NoPlain}
use Rattle.sx_extension.specs.PlainBodies.{BodyData}
use Rattle.sx_extension.specs.Defects.{IsDefect, CanName}

-- the refusal of the plain body that the pair states, by names, or memory is lacking
abbrev pub IsPlainRefusal : Parts → PlainData → PlainError → ExtensionError → Type 0
IsPlainRefusal p l e Memory = Unit {0}
IsPlainRefusal p l e (Plain label defect) = (label ≡ l.label) × IsDefect p l e defect
IsPlainRefusal p l e _ = ⊥

-- the refusal of the production with this number, by its label, or memory is lacking
abbrev pub IsNoPlain : Parts → ℕ → ExtensionError → Type 0
IsNoPlain p number Memory = Unit {0}
IsNoPlain p number (NoPlain label) = slice_get (labels p) number ≡ Some label
IsNoPlain p number _ = ⊥

-- the refusal of a plain table of these pairs by names, or memory is lacking
abbrev pub IsTableRefusal : Parts → List PlainData → TableError → ExtensionError → Type 0
IsTableRefusal p ls table.Memory x = x ≡ Memory
IsTableRefusal p ls (table.Plain number e) x =
    (l : PlainData) × (slice_get ls number ≡ Some l) × IsPlainRefusal p l e x
IsTableRefusal p ls (table.NoPlain number) x = IsNoPlain p number x

-- what the refusal tells by numbers has names
abbrev pub CanNameTable : Parts → List PlainData → TableError → Type 0
CanNameTable p ls table.Memory = Unit {0}
CanNameTable p ls (table.Plain number e) =
    (l : PlainData) × (slice_get ls number ≡ Some l) × CanName p l e
CanNameTable p ls (table.NoPlain number) = number < length p.productions

-- each body has as many parts as its pair has names
abbrev pub HaveParts : List PlainData → List BodyData → Type 0
HaveParts [] [] = Unit {0}
HaveParts (l ∷ ls) (b ∷ bs) = (b.parts ≡ length l.names) × HaveParts ls bs
HaveParts _ _ = ⊥
