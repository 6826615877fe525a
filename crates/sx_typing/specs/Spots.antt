-- Lines and columns of places in a text.
use Rattle.std.specs.Prelude.{ℕ, ◌+◌, List, [], ◌∷◌, take, nat_eq, if◌then◌else◌}

-- how many line feeds are among the bytes
abbrev pub feeds_in : List ℕ → ℕ
feeds_in [] = 0
feeds_in (b ∷ bs) = (if nat_eq b 10 then 1 else 0) + feeds_in bs

-- how many bytes stand behind the last line feed, or behind the beginning, with so many before them
-- where there is no line feed
abbrev pub behind_feed : ℕ → List ℕ → ℕ
behind_feed before [] = before
behind_feed before (b ∷ bs) = behind_feed (if nat_eq b 10 then 0 else before + 1) bs

-- the line of a place: 1 plus the line feeds before it
abbrev pub line_at : List ℕ → ℕ → ℕ
line_at bytes place = 1 + feeds_in (take place bytes)

-- its column: 1 plus the bytes between the beginning of its line and it
abbrev pub column_at : List ℕ → ℕ → ℕ
column_at bytes place = 1 + behind_feed 0 (take place bytes)
