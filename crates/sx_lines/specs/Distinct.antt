-- Texts that stand once each.
use Rattle.std.specs.Prelude.{ℕ, List, [], ◌∷◌, Contains}

-- no text stands twice
abbrev pub AreTextsDistinct : List (List ℕ) → Type 0
AreTextsDistinct [] = Unit {0}
AreTextsDistinct (text ∷ texts) = (Contains texts text → ⊥) × AreTextsDistinct texts
