-- The lines that a language file or an extension file keeps, and what they declare.
use Rattle.std.specs.Prelude.{◌≡◌, ℕ, ◌⊎◌, Bool, true, false, List, [], ◌∷◌, codes, is_some}
use Rattle.std.specs.Prelude.{if◌then◌else◌}
use Rattle.sx_lines.specs.Lines.{Lines, over, line}
use Rattle.sx_lines.specs.Words.{after}
use Rattle.sx_directives.specs.declared.file_kind.FileKind.{FileKind}
use Rattle.sx_directives.specs.Parts.{parts_of}
use Rattle.sx_directives.specs.Rows.{IsRow}
use Rattle.sx_directives.specs.declared.row.Row.{Row}
use Rattle.sx_directives.specs.declared.row.Row.TheVariants.{Rule, Plain}
use Rattle.sx_outline.specs.Declarations.{Declared, declare}

-- a line without parts is dropped, and one whose first part begins with `//`
abbrev pub is_dropped : List (List ℕ) → Bool
is_dropped [] = true
is_dropped (part ∷ parts) = is_some (after (codes "//") part)

-- the lines that are not dropped
unfoldable pub kept_lines : Lines → Lines
kept_lines (over n) = over n
kept_lines (line n text after more) = if is_dropped (parts_of text) then kept_lines more else line n
    text after (kept_lines more)

-- A row of a rule ends the declarations. After another they go on, and after one of a plain pair
-- the next line is a body.
abbrev pub RowGoesOn : Declared → Row → Declared → (Bool → Declared → Type 0) → Type 0
RowGoesOn d (Rule name) all Next = all ≡ d
RowGoesOn d (Plain p) all Next = Next true d
RowGoesOn d row all Next = Next false (declare d row)

-- After these declarations the lines up to the first that spells a row of a rule declare the rest
-- of all. A line that spells no row declares nothing, nor does the body of a plain pair, which is
-- the next line where the flag is set.
abbrev pub Declares : FileKind → (is_body : Bool) → Declared → Lines → Declared → Type 0
Declares kind is_body d (over n) all = all ≡ d
Declares kind true d (line n text after more) all = Declares kind false d more all
Declares kind false d (line n text after more) all =
    ((row : Row) × IsRow kind text row × RowGoesOn d row all
    (λ is_body next. Declares kind is_body next more all))
    ⊎ (((row : Row) → IsRow kind text row → ⊥) × Declares kind false d more all)
