-- Defects of plain bodies by names.
use Rattle.std.specs.Prelude.{◌≡◌, ◌<◌, Some, length, slice_get}
use Rattle.sx_grammar.specs.Parts.{Parts, labels}
use Rattle.sx_plain.specs.declared.plain_error.PlainError.{PlainError}
use Rattle.sx_plain.specs.declared.plain_error.PlainError.TheVariants as plain
use Rattle.sx_outline.specs.Stages.{PlainData}
use Rattle.sx_extension.specs.declared.plain_defect.PlainDefect.{PlainDefect}
use Rattle.sx_extension.specs.declared.plain_defect.PlainDefect.TheVariants.{Twice, UsesLater}
use Rattle.sx_extension.specs.declared.plain_defect.PlainDefect.TheVariants.{Drops, TooDeep, TooBig}

-- the defect of a plain body, by the labels of the grammar and the names of the pair's parts
abbrev pub IsDefect : Parts → PlainData → PlainError → PlainDefect → Type 0
IsDefect p l (plain.Twice label) Twice = Unit {0}
IsDefect p l (plain.UsesLater label) (UsesLater name) = slice_get (labels p) label ≡ Some name
IsDefect p l (plain.Drops part) (Drops name) = slice_get l.names part ≡ Some name
IsDefect p l (plain.TooDeep depth) (TooDeep shown) = shown ≡ depth
IsDefect p l (plain.TooBig nodes) (TooBig shown) = shown ≡ nodes
IsDefect p l _ _ = ⊥

-- the label that is told is that of a production, and the part is one of the pair
abbrev pub CanName : Parts → PlainData → PlainError → Type 0
CanName p l (plain.UsesLater label) = label < length p.productions
CanName p l (plain.Drops part) = part < length l.names
CanName p l _ = Unit {0}
