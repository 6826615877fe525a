-- The rows of a header, and the lines on which they stand.
use Rattle.std.specs.Prelude.{ℕ, zero, suc, ◌+◌, length}
use Rattle.sx_lines.specs.Lines.{Lines, over, line, lines_from}
use Rattle.sx_lines.specs.Reading.{kept}
use Rattle.sx_interface.specs.Headers.{HeaderParts}
use Rattle.sx_headers.specs.ReadModule.{Module}

-- the number of the line at this place, from 0; past the last line that of a line that is missing
abbrev pub number_at : Lines → ℕ → ℕ
number_at (over n) place = n
number_at (line n text after more) zero = n
number_at (line n text after more) (suc place) = number_at more place

-- the line of the header's row with this number, from 0: `module`, `language`, the `use` lines, the
-- `import` lines, `---`
abbrev pub header_row_line : Module → ℕ → ℕ
header_row_line m row = number_at (kept (lines_from 1 m.bytes)) row

-- the row of the import with this number, from 0; behind the last import stands `---`
abbrev pub import_row : HeaderParts → ℕ → ℕ
import_row header number = 2 + length header.uses + number
