-- The text of a base file is UTF-8.
use Rattle.std.proofs.Common.{◌≡◌, ℕ, zero, suc, ◌<◌, ◌&&◌, Bool, true, false, ltb, List, [], ◌∷◌}
use Rattle.std.proofs.Common.{◌++◌, codes, refl, arith}
use Rattle.std.specs.List.{AllByRecursion}
use Rattle.std.specs.Prelude.{slice_index}
use Rattle.std.specs.Str.{IsUtf8}
use Rattle.std.proofs.lemmas.Bool.{and_parts}
use Rattle.std.proofs.lemmas.Bool.Decides.{nat_tests}
use Rattle.std.proofs.lemmas.Str.{IsUtf8-from_ascii, IsUtf8-nil, IsUtf8-append}
use Rattle.sx_lines.specs.Reading.{written}
use Rattle.sx_lines.specs.Words.{is_name}
use Rattle.sx_lines.proofs.Utf8Laws.{name_utf8}
use Rattle.sx_interface.specs.Headers.{HeaderParts}
use Rattle.sx_interface.specs.StatedHeader.{ArePlainNames, row_lines}
use Rattle.sx_unit.specs.Texts.{base_bytes}
use Rattle.sx_unit.proofs.Shown.{line_utf8}

-- a test that each byte is ASCII, which computes
abbrev all_low : List ℕ → Bool
all_low [] = true
all_low (b ∷ text) = ltb b 128 && all_low text

low_at : (text : List ℕ) → all_low text ≡ true → (i : ℕ) → slice_index text i < 128
low_at [] h i = omega arith
low_at (b ∷ text) h zero =
    let p = and_parts (ltb b 128) (all_low text) h in grind (arith, nat_tests)
low_at (b ∷ text) h (suc i) = low_at text (and_parts (ltb b 128) (all_low text) h).1 i

low_utf8 : (text : List ℕ) → all_low text ≡ true → IsUtf8 text
low_utf8 text low = IsUtf8-from_ascii text (low_at text low)

row_utf8 : (front name : List ℕ) → all_low front ≡ true → is_name false name ≡ true →
    IsUtf8 (front ++ name)
row_utf8 front name low h =
    IsUtf8-append front name (low_utf8 front low) (name_utf8 false name h)

written_utf8 : (lines : List (List ℕ)) → AllByRecursion IsUtf8 lines → IsUtf8 (written lines)
written_utf8 [] h = IsUtf8-nil
written_utf8 (text ∷ lines) h =
    IsUtf8-append (text ++ 10 ∷ []) (written lines) (line_utf8 text h.0) (written_utf8 lines h.1)

rows_utf8 : (names : List (List ℕ)) → ArePlainNames names →
    AllByRecursion IsUtf8 (row_lines (codes "import ") names ++ codes "---" ∷ [])
rows_utf8 [] h = (low_utf8 (codes "---") refl, tt)
rows_utf8 (name ∷ names) h = (row_utf8 (codes "import ") name refl h.0, rows_utf8 names h.1)

pub base_utf8 : (h : HeaderParts) (shown : List ℕ) → is_name false h.name ≡ true →
    is_name false h.language ≡ true → ArePlainNames h.imports → IsUtf8 (shown ++ 10 ∷ []) →
    IsUtf8 (base_bytes h shown)
base_utf8 h shown named language imports utf8 =
    IsUtf8-append
    (written ((codes "module " ++ h.name) ∷ (codes "language " ++ h.language) ∷
    (row_lines (codes "import ") h.imports ++ codes "---" ∷ []))) (shown ++ 10 ∷ [])
    (written_utf8 ((codes "module " ++ h.name) ∷ (codes "language " ++ h.language) ∷
    (row_lines (codes "import ") h.imports ++ codes "---" ∷ [])) (
      row_utf8 (codes "module ") h.name refl named,
      (row_utf8 (codes "language ") h.language refl language, rows_utf8 h.imports imports),
    )) utf8
