-- A header is read exactly where it is stated.
use Rattle.std.proofs.Common.{◌≡◌, ℕ, Bool, true, false, cond, List, [], ◌∷◌, ◌++◌, codes, Option, Some, None, Result, Ok, Err, refl, sym, ap, subst, ◌∙◌}
use Rattle.std.specs.Prelude.{option_and_then, IfOk}
use Rattle.sx_lines.specs.Lines.{Lines, over, line, lines_from}
use Rattle.sx_lines.specs.Words.{after, is_name}
use Rattle.sx_lines.specs.Reading.{kept, GivesRead}
use Rattle.sx_lines.specs.Rows.{name_or_none, name_after, EachNew}
use Rattle.sx_lines.specs.Takes.{Takes, EndsWith}
use Rattle.sx_lines.proofs.WordLaws.{after_front, front_of}
use Rattle.sx_lines.proofs.ReadLaws.{EachReads}
use Rattle.sx_lines.proofs.TakeLaws.{Takes-append, Takes-split, takes-the_line, the_line-takes, takes-next_line, next_line-takes, ends-bytes_after, bytes_after-ends, takes-distinct_rows, distinct_rows-takes, Unread}
use Rattle.sx_interface.specs.declared.error.HeaderError.{HeaderError}
use Rattle.sx_interface.specs.declared.headers.Header as code
use Rattle.sx_interface.specs.Headers.{HeaderParts, header_of}
use Rattle.sx_interface.specs.HeaderView.{header_view}
use Rattle.sx_interface.specs.Reading.{RefusesText}
use Rattle.sx_interface.specs.StatedHeader.{ArePlainNames, row_lines, header_lines, StatesHeader}
use Rattle.sx_interface.proofs.HeaderLaws.{header_steps}

name_case : (text name : List ℕ) (test : Bool) → is_name false text ≡ test → cond test (Some text) None ≡ Some name → (text ≡ name) × (is_name false name ≡ true)
name_case text name true is e = let same : text ≡ name = cc in (same, subst (λ (x : List ℕ). is_name false x ≡ true) same is)
name_case text name false is e = absurd cc

and_then_some : {A B : Type 0} (o : Option A) (f : A → Option B) (y : B) → option_and_then f o ≡ Some y → (x : A) × (o ≡ Some x) × (f x ≡ Some y)
and_then_some (Some x) f y e = (x, refl, e)
and_then_some None f y e = absurd cc

name_found : (front text name : List ℕ) → name_after front text ≡ Some name → (text ≡ front ++ name) × (is_name false name ≡ true)
unfolding name_after
name_found front text name e =
    let p = and_then_some (after front text) name_or_none name e in
    let q = name_case p.0 name (is_name false p.0) refl p.2 in
    (front_of front text p.0 p.1 ∙ ap (λ (x : List ℕ). front ++ x) q.0, q.1)

pub name_again : (front name : List ℕ) → is_name false name ≡ true → name_after front (front ++ name) ≡ Some name
unfolding name_after
name_again front name h = ap (option_and_then name_or_none) (after_front front name) ∙ rw h refl

rows_found : (front : List ℕ) (lines names : List (List ℕ)) → EachReads (name_after front) lines names → (lines ≡ row_lines front names) × ArePlainNames names
rows_found front [] [] h = (refl, tt)
rows_found front [] (n ∷ names) h = absurd h
rows_found front (text ∷ lines) [] h = absurd h
rows_found front (text ∷ lines) (n ∷ names) h =
    let p = name_found front text n h.0 in
    let q = rows_found front lines names h.1 in
    (ap (λ (x : List ℕ). x ∷ lines) p.0 ∙ ap (λ (x : List (List ℕ)). (front ++ n) ∷ x) q.0, (p.1, q.1))

rows_again : (front : List ℕ) (names : List (List ℕ)) → ArePlainNames names → EachReads (name_after front) (row_lines front names) names
rows_again front [] h = tt
rows_again front (n ∷ names) h = (name_again front n h.0, rows_again front names h.1)

-- what was read is stated
pub header_found : (name : List ℕ) (lines : Lines) (h : HeaderParts) → header_of name lines ≡ Ok h → StatesHeader name lines h
header_found name lines h e =
    let s = header_steps name lines h e in
    let a = takes-the_line (codes "module " ++ name) lines s.first s.first-is in
    let b = takes-next_line (name_after (codes "language ")) s.first s.language s.language-is in
    let b-is = name_found (codes "language ") b.0 s.language.0 b.2 in
    let c = takes-distinct_rows (λ (x : List ℕ). x) (name_after (codes "use ")) [] s.language.1 s.uses s.uses-is in
    let c-is = rows_found (codes "use ") c.front c.items c.each in
    let d = takes-distinct_rows (λ (x : List ℕ). x) (name_after (codes "import ")) [] s.uses.1 s.imports s.imports-is in
    let d-is = rows_found (codes "import ") d.front d.items d.each in
    let f = ends-bytes_after (codes "---") s.imports.1 s.end s.end-is in
    let uses : c.items ≡ s.uses.0 = sym c.is in
    let imports : d.items ≡ s.imports.0 = sym d.is in
    let c-takes : Takes (row_lines (codes "use ") s.uses.0) s.language.1 s.uses.1 = subst (λ (x : List (List ℕ)). Takes x s.language.1 s.uses.1) (c-is.0 ∙ ap (row_lines (codes "use ")) uses) c.takes in
    let d-takes : Takes (row_lines (codes "import ") s.imports.0) s.uses.1 s.imports.1 = subst (λ (x : List (List ℕ)). Takes x s.uses.1 s.imports.1) (d-is.0 ∙ ap (row_lines (codes "import ")) imports) d.takes in
    let rows = Takes-append (row_lines (codes "use ") s.uses.0) (row_lines (codes "import ") s.imports.0) s.language.1 s.uses.1 s.imports.1 c-takes d-takes in
    let b-takes : Takes ((codes "language " ++ s.language.0) ∷ []) s.first s.language.1 = subst (λ (x : List ℕ). Takes (x ∷ []) s.first s.language.1) b-is.0 b.1 in
    let front = Takes-append ((codes "language " ++ s.language.0) ∷ []) (row_lines (codes "use ") s.uses.0 ++ row_lines (codes "import ") s.imports.0) s.first s.language.1 s.imports.1 b-takes rows in
    let whole : HeaderParts = record { name = name; language = s.language.0; uses = s.uses.0; imports = s.imports.0; body = s.end.1; line = s.end.0 } in
    let takes : Takes (header_lines whole) lines s.imports.1 = Takes-append ((codes "module " ++ name) ∷ []) ((codes "language " ++ s.language.0) ∷ (row_lines (codes "use ") s.uses.0 ++ row_lines (codes "import ") s.imports.0)) lines s.first s.imports.1 a front in
    subst (λ (x : HeaderParts). StatesHeader name lines x) (sym s.made) (record {
      same = refl;
      middle = s.imports.1;
      takes = takes;
      end = f;
      language = b-is.1;
      uses = subst (λ (x : List (List ℕ)). ArePlainNames x) uses c-is.1;
      imports = subst (λ (x : List (List ℕ)). ArePlainNames x) imports d-is.1;
      distinct_uses = subst (λ (x : List (List ℕ)). EachNew (λ (n : List ℕ). n) [] x) uses c.fresh;
      distinct_imports = subst (λ (x : List (List ℕ)). EachNew (λ (n : List ℕ). n) [] x) imports d.fresh;
    })

-- the end of a header is no row
end_unread : (front : List ℕ) (number : ℕ) (bytes : List ℕ) (lines : Lines) → name_after front (codes "---") ≡ None → EndsWith (codes "---") number bytes lines → Unread (name_after front) lines
end_unread front number bytes (over n) none h = absurd h
end_unread front number bytes (line n words rest more) none h = ap (name_after front) h.0 ∙ none

pub end_no_use : name_after (codes "use ") (codes "---") ≡ None
unfolding name_after after
end_no_use = refl

pub end_no_import : name_after (codes "import ") (codes "---") ≡ None
unfolding name_after after
end_no_import = refl

import_no_use : (name : List ℕ) → name_after (codes "use ") (codes "import " ++ name) ≡ None
unfolding name_after after
import_no_use name = refl

-- what stands after the uses is no use
imports_unread : (names : List (List ℕ)) (number : ℕ) (bytes : List ℕ) (lines rest : Lines) → Takes (row_lines (codes "import ") names) lines rest → EndsWith (codes "---") number bytes rest → Unread (name_after (codes "use ")) lines
imports_unread [] number bytes lines rest h end = end_unread (codes "use ") number bytes lines end_no_use (subst (λ (x : Lines). EndsWith (codes "---") number bytes x) (sym h) end)
imports_unread (n ∷ names) number bytes (over m) rest h end = absurd h
imports_unread (n ∷ names) number bytes (line m words after-it more) rest h end = ap (name_after (codes "use ")) h.0 ∙ import_no_use n

-- what is stated is read
pub header_again : (name : List ℕ) (lines : Lines) (h : HeaderParts) → StatesHeader name lines h → header_of name lines ≡ Ok h
unfolding header_of
header_again name lines h s =
    let a = Takes-split ((codes "module " ++ h.name) ∷ []) ((codes "language " ++ h.language) ∷ (row_lines (codes "use ") h.uses ++ row_lines (codes "import ") h.imports)) lines s.middle s.takes in
    let b = Takes-split ((codes "language " ++ h.language) ∷ []) (row_lines (codes "use ") h.uses ++ row_lines (codes "import ") h.imports) a.0 s.middle a.2 in
    let c = Takes-split (row_lines (codes "use ") h.uses) (row_lines (codes "import ") h.imports) b.0 s.middle b.2 in
    let e1 = the_line-takes (codes "module " ++ name) lines a.0 (subst (λ (n : List ℕ). Takes ((codes "module " ++ n) ∷ []) lines a.0) s.same a.1) in
    let e2 = next_line-takes (name_after (codes "language ")) a.0 b.0 (codes "language " ++ h.language) h.language b.1 (name_again (codes "language ") h.language s.language) in
    let e3 = distinct_rows-takes (λ (x : List ℕ). x) (name_after (codes "use ")) [] b.0 c.0 (row_lines (codes "use ") h.uses) h.uses c.1 (rows_again (codes "use ") h.uses s.uses) s.distinct_uses (imports_unread h.imports h.line h.body c.0 s.middle c.2 s.end) in
    let e4 = distinct_rows-takes (λ (x : List ℕ). x) (name_after (codes "import ")) [] c.0 s.middle (row_lines (codes "import ") h.imports) h.imports c.2 (rows_again (codes "import ") h.imports s.imports) s.distinct_imports (end_unread (codes "import ") h.line h.body s.middle end_no_import s.end) in
    let e5 = bytes_after-ends (codes "---") s.middle h.line h.body s.end in
    rw (e1, e2, e3, e4, e5) (ap (λ (n : List ℕ). Ok (record { name = n; language = h.language; uses = h.uses; imports = h.imports; body = h.body; line = h.line })) (sym s.same))

-- ---- of a call's result

pub header_is_stated : (bytes name : List ℕ) (r : Result code.Header HeaderError) → GivesRead (header_view bytes) (RefusesText bytes) r (header_of name (kept (lines_from 1 bytes))) → IfOk r (λ h. StatesHeader name (kept (lines_from 1 bytes)) (header_view bytes h))
header_is_stated bytes name (Ok h) e = header_found name (kept (lines_from 1 bytes)) (header_view bytes h) e
header_is_stated bytes name (Err x) e = tt

pub header_is_only : (bytes name : List ℕ) (r : Result code.Header HeaderError) (h : HeaderParts) → StatesHeader name (kept (lines_from 1 bytes)) h → GivesRead (header_view bytes) (RefusesText bytes) r (header_of name (kept (lines_from 1 bytes))) → GivesRead (header_view bytes) (RefusesText bytes) r (Ok h)
header_is_only bytes name r h s e = subst (λ (x : Result HeaderParts ℕ). GivesRead (header_view bytes) (RefusesText bytes) r x) (header_again name (kept (lines_from 1 bytes)) h s) e
