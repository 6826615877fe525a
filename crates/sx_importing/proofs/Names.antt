-- The names of imports by their numbers.
use Rattle.std.proofs.Common.{◌≡◌, ℕ, ◌<◌, List, [], map, length, get_or, sym, ap, ◌∙◌}
use Rattle.std.specs.Prelude.{option_map}
use Rattle.std.proofs.lemmas.Option.{slice_get-map, slice_get-get_or, get_or_from_slice_get}
use Rattle.sx_interface.specs.Interfaces.{InterfaceParts}
use Rattle.sx_interface.specs.InterfaceView.{interface_view}
use Rattle.sx_interface.specs.declared.import.Import.{Import}
use Rattle.sx_environment.specs.SeenFrom.{interfaces_of}

pub name_at : (imports : List Import) (k : ℕ) (d : Import) → k < length imports →
    (get_or imports k d).interface.«module»
    ≡ get_or (map (λ it. it.name) (interfaces_of imports)) k []
name_at imports k d lt =
    let name : InterfaceParts → List ℕ = λ it. it.name in
    let at = slice_get-map name (interfaces_of imports) k
    ∙ ap (option_map name) (slice_get-map (λ (i : Import). interface_view i.interface) imports k
    ∙ ap (option_map (λ (i : Import). interface_view i.interface))
    (slice_get-get_or imports k d lt)) in
    sym (get_or_from_slice_get (map name (interfaces_of imports)) k
    ((get_or imports k d).interface.«module») [] at)
