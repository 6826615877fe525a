-- The line at which a header is refused.
use Rattle.std.proofs.Common.{◌≡◌, ℕ, List, [], codes, ◌++◌, Result, Ok, Err, true, false, refl}
use Rattle.std.specs.Prelude.{IfErr, IfSome}
use Rattle.sx_lines.specs.Lines.{Lines, over, line, lines_from}
use Rattle.sx_lines.specs.FirstBad.{IsFirstBad}
use Rattle.sx_lines.specs.Reading.{◌>>=◌, next_line, kept, GivesRead}
use Rattle.sx_lines.specs.Rows.{name_after, distinct_names, bytes_after}
use Rattle.sx_lines.proofs.SteadyLaws.{FirstRefused, Readable, ReadableAfter, readable_next, step_line, step_next, step_rows, step_bytes, first_bad}
use Rattle.sx_lines.proofs.TakeLaws.{distinct_rows-takes, bytes_after-ends}
use Rattle.sx_lines.specs.Words.{is_name}
use Rattle.sx_interface.specs.declared.error.HeaderError.{HeaderError}
use Rattle.sx_interface.specs.declared.error.HeaderError.TheVariants.{Memory, NotUtf8, Header}
use Rattle.sx_interface.specs.declared.error.HeaderError.TheVariants.{Version}
use Rattle.sx_interface.specs.declared.headers.Header as code
use Rattle.sx_interface.specs.Headers.{HeaderParts, header_of}
use Rattle.sx_interface.specs.HeaderView.{header_view}
use Rattle.sx_interface.specs.Reading.{RefusesText, error_line}
use Rattle.sx_interface.specs.StatedHeader.{StatesHeader}
use Rattle.sx_interface.proofs.HeaderStated.{header_again, header_found, name_again, end_no_use, end_no_import}

abbrev made : List ℕ → List ℕ → List (List ℕ) → List (List ℕ) → ℕ × List ℕ → HeaderParts
made name language uses imports end = record { name = name; language = language; uses = uses; imports = imports; body = end.1; line = end.0 }

abbrev from_imports : List ℕ → List ℕ → List (List ℕ) → List (List ℕ) → Lines → Result HeaderParts ℕ
from_imports name language uses imports l = bytes_after (codes "---") l >>= λ end. Ok (made name language uses imports end)

abbrev from_uses : List ℕ → List ℕ → List (List ℕ) → Lines → Result HeaderParts ℕ
from_uses name language uses l = distinct_names (codes "import ") l >>= λ imports. from_imports name language uses imports.0 imports.1

abbrev from_language : List ℕ → List ℕ → Lines → Result HeaderParts ℕ
from_language name language l = distinct_names (codes "use ") l >>= λ uses. from_uses name language uses.0 uses.1

abbrev from_module : List ℕ → Lines → Result HeaderParts ℕ
from_module name l = next_line (name_after (codes "language ")) l >>= λ language. from_language name language.0 language.1

-- ---- lines that are read after each step

abbrev end_lines : Lines
end_lines = line 0 (codes "---") [] (over 0)

after_imports : (name language : List ℕ) (uses imports : List (List ℕ)) → ReadableAfter (name_after (codes "import ")) (from_imports name language uses imports)
after_imports name language uses imports =
    record { lines = end_lines; unread = end_no_import; value = made name language uses imports (1, []); is = rw (bytes_after-ends (codes "---") end_lines 1 [] (refl, refl, refl)) refl }

after_uses : (name language : List ℕ) (uses : List (List ℕ)) → ReadableAfter (name_after (codes "use ")) (from_uses name language uses)
after_uses name language uses = record {
  lines = end_lines;
  unread = end_no_use;
  value = made name language uses [] (1, []);
  is = rw (distinct_rows-takes (λ (x : List ℕ). x) (name_after (codes "import ")) [] end_lines end_lines [] [] refl tt tt end_no_import) (rw (bytes_after-ends (codes "---") end_lines 1 [] (refl, refl, refl)) refl);
}

after_language : (name language : List ℕ) → Readable (from_language name language)
after_language name language = record {
  lines = end_lines;
  value = made name language [] [] (1, []);
  is = rw (distinct_rows-takes (λ (x : List ℕ). x) (name_after (codes "use ")) [] end_lines end_lines [] [] refl tt tt end_no_use)
      (rw (distinct_rows-takes (λ (x : List ℕ). x) (name_after (codes "import ")) [] end_lines end_lines [] [] refl tt tt end_no_import) (rw (bytes_after-ends (codes "---") end_lines 1 [] (refl, refl, refl)) refl));
}

some_name : is_name false (codes "A") ≡ true
unfolding is_name
some_name = refl

header_first : (name : List ℕ) (lines : Lines) (k : ℕ) → header_of name lines ≡ Err k → FirstRefused (header_of name) lines k
unfolding header_of
header_first name lines k e =
    let language_is = name_again (codes "language ") (codes "A") some_name in
    step_line (codes "module " ++ name) (from_module name) lines k (readable_next (name_after (codes "language ")) (from_language name) (codes "language " ++ codes "A") (codes "A") language_is (after_language name (codes "A")))
    (λ l1 e1. step_next (name_after (codes "language ")) (from_language name) l1 k (codes "language " ++ codes "A") (codes "A") language_is (after_language name)
    (λ language l2 e2. step_rows (λ (x : List ℕ). x) (name_after (codes "use ")) (from_uses name language) l2 k (after_uses name language)
    (λ uses l3 e3. step_rows (λ (x : List ℕ). x) (name_after (codes "import ")) (from_imports name language uses) l3 k (after_imports name language uses)
    (λ imports l4 e4. step_bytes (codes "---") (made name language uses imports) l4 k e4) e3) e2) e1) e

header_bad : (name : List ℕ) (lines : Lines) (k : ℕ) → header_of name lines ≡ Err k → IsFirstBad (StatesHeader name) lines k
header_bad name lines k e = first_bad (StatesHeader name) (header_of name) (header_again name) (header_found name) lines k (header_first name lines k e)

pub header_is_bad : (bytes name : List ℕ) (r : Result code.Header HeaderError) → GivesRead (header_view bytes) (RefusesText bytes) r (header_of name (kept (lines_from 1 bytes)))
    → IfErr r (λ e. IfSome (error_line e) (IsFirstBad (StatesHeader name) (kept (lines_from 1 bytes))))
header_is_bad bytes name (Ok h) e = tt
header_is_bad bytes name (Err Memory) e = tt
header_is_bad bytes name (Err (NotUtf8 place)) e = tt
header_is_bad bytes name (Err (Version n)) e = tt
header_is_bad bytes name (Err (Header n)) e = header_bad name (kept (lines_from 1 bytes)) n e.1
