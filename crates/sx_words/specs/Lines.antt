-- The line that names a refusal.
use Rattle.std.specs.Prelude.{ℕ, List, [], ◌∷◌, ◌++◌, codes}
use Rattle.sx_lines.specs.Bytes.{line_feed}

-- `soundx: `, the file, `: `, the text and a line feed
abbrev pub line_text : List ℕ → List ℕ → List ℕ
line_text file text = codes "soundx: " ++ (file ++ (codes ": " ++ (text ++ line_feed ∷ [])))
