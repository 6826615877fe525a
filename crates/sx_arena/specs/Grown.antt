-- Lists of cells that refer to earlier cells, and the values that they stand for.
use Rattle.std.specs.Prelude.{◌≡◌, List, [], ◌∷◌, ◌++◌}

-- the one list goes on from the other
abbrev pub Extends : {V : Type 0} → List V → List V → Type 0
Extends {V} old new = (more : List V) × (new ≡ old ++ more)

-- the values of the cells, each made from the values before it
abbrev pub grown_from : {C V : Type 0} → (List V → C → V) → List V → List C → List V
grown_from step vs [] = vs
grown_from step vs (c ∷ cs) = grown_from step (vs ++ step vs c ∷ []) cs

-- each cell is P of the values before it
abbrev pub CellsFit : {C V : Type 0} → (List V → C → V) → (List V → C → Type 0) → List V → List C →
    Type 0
CellsFit step P vs [] = Unit {0}
CellsFit step P vs (c ∷ cs) = P vs c × CellsFit step P (vs ++ step vs c ∷ []) cs
