-- The texts of auditors.
use Rattle.std.specs.Prelude.{ℕ, List, [], ◌∷◌, ◌++◌}
use Rattle.std.specs.List.{flat_map}
use Rattle.sx_audit.specs.Meaning.{Meaning, auditor_text}

-- the text of each auditor in order, on a line
abbrev pub texts_of : List Meaning → List ℕ
texts_of auditors = flat_map (λ m. auditor_text m ++ 10 ∷ []) auditors
