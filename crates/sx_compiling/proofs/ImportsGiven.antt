-- The imports of what is given, as plain data.
use Rattle.std.proofs.Common.{◌≡◌, List, [], ◌∷◌, map, refl, ap}
use Rattle.std.specs.List.{AllByRecursion}
use Rattle.sx_grammar.specs.Grammar.{Text}
use Rattle.sx_interface.specs.Interfaces.{InterfaceParts, MarkData}
use Rattle.sx_interface.specs.InterfaceView.{interface_view}
use Rattle.sx_interface.specs.StatedHeader.{ArePlainNames}
use Rattle.sx_interface.specs.declared.import.Import.{Import}
use Rattle.sx_interface.specs.FreeNames.{AreFree}
use Rattle.sx_unit.specs.Modules.{mark}
use Rattle.sx_environment.specs.SeenFrom.{HasFreeName, interfaces_of}
use Rattle.sx_importing.specs.ReadImports.{import_of, import_mark}

-- the rows of the imports are those of their data
pub marks_same : (imports : List Import) → map mark imports ≡ map import_mark (map import_of imports)
marks_same [] = refl
marks_same (i ∷ imports) = ap (λ (marks : List MarkData). mark i ∷ marks) (marks_same imports)

-- so are their interfaces
pub parts_same : (imports : List Import) →
    interfaces_of imports ≡ map (λ i. i.parts) (map import_of imports)
parts_same [] = refl
parts_same (i ∷ imports) =
    ap (λ (its : List InterfaceParts). interface_view i.interface ∷ its) (parts_same imports)

-- names that are free are those of imports that can be seen
pub named_free : (literals : List Text) (its : List InterfaceParts) →
    ArePlainNames (map (λ it. it.name) its) → AreFree literals (map (λ it. it.name) its) →
    AllByRecursion (HasFreeName literals) its
named_free literals [] named free = tt
named_free literals (it ∷ its) named free =
    ((named.0, free.0), named_free literals its named.1 free.1)
