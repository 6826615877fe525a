-- Bad `use` lines.
use Rattle.std.proofs.Common.{◌≡◌, ℕ, List, [], ◌∷◌, ◌++◌, refl, sym, ap, subst, ◌∙◌, inl, inr, append_assoc, append-nil}
use Rattle.std.specs.Prelude.{Contains}
use Rattle.sx_lines.specs.Lines.{Lines, over, line}
use Rattle.sx_lines.specs.declared.kind.Kind.{Kind}
use Rattle.sx_lines.specs.declared.kind.Kind.TheVariants.{Shape}
use Rattle.sx_directives.specs.Rows.{IsRow}
use Rattle.sx_directives.specs.declared.file_kind.FileKind.TheVariants as files
use Rattle.sx_directives.specs.declared.row.Row.TheVariants.{Use}
use Rattle.sx_lines.specs.Distinct.{AreTextsDistinct}
use Rattle.sx_outline.specs.Stages.{Numbered}
use Rattle.sx_outline.specs.Headers.{HeaderData, with_use, IsUseLine, IsNewUse, AreUses}
use Rattle.sx_outline.specs.Structure.{numbered_lines, AreUseLines}
use Rattle.sx_outline.specs.BadLines.{end_number}
use Rattle.sx_outline.specs.BadExtensions.{BeginOther}
use Rattle.sx_outline.proofs.KeptLaws.{distinct_push}
use Rattle.sx_outline.proofs.LinesDeclared.{head_same, tail_same}
use Rattle.sx_outline.proofs.SameRows.{same_row}
use Rattle.sx_outline.proofs.UseLines.{distinct_front}

-- after these `use` lines the next one is bad
pub record StopsInUses (seen : List (List ℕ)) (lines : List Numbered) (number : ℕ) : Type 0 where
  pub front : List Numbered
  pub text : List ℕ
  pub rest : List Numbered
  pub lines_are : lines ≡ front ++ record { number = number; text = text } ∷ rest
  pub more : List (List ℕ)
  pub are : AreUseLines front more
  pub once : AreTextsDistinct (seen ++ more)
  pub is_use : IsUseLine text
  pub not_new : (used : List ℕ) → IsRow files.Extension text (Use used) → (Contains (seen ++ more) used → ⊥) → ⊥

-- after these `use` lines there is another line or none, and this holds
pub record EndsUses (h : HeaderData) (lines : Lines) (Next : HeaderData → Lines → Type 0) : Type 0 where
  pub last : HeaderData
  pub left : Lines
  pub front : List Numbered
  pub more : List (List ℕ)
  pub lines_are : numbered_lines lines ≡ front ++ numbered_lines left
  pub last_number : end_number lines ≡ end_number left
  pub name : last.name ≡ h.name
  pub language : last.language ≡ h.language
  pub uses_are : last.uses ≡ h.uses ++ more
  pub are : AreUseLines front more
  pub once : AreTextsDistinct last.uses
  pub other : BeginOther (numbered_lines left)
  pub holds : Next last left

pub data UsesCourse (h : HeaderData) (lines : Lines) (Next : HeaderData → Lines → Type 0) (Bad : ℕ → Kind → Type 0) : Type 0 where
  stops : (number : ℕ) → StopsInUses h.uses (numbered_lines lines) number → Bad number Shape → UsesCourse h lines Next Bad
  ends : EndsUses h lines Next → UsesCourse h lines Next Bad

one_use : (h : HeaderData) (n : ℕ) (text after : List ℕ) (more : Lines) (used : List ℕ) (Next : HeaderData → Lines → Type 0) (Bad : ℕ → Kind → Type 0) → IsNewUse h text used
    → UsesCourse (with_use h used) more Next Bad → UsesCourse h (line n text after more) Next Bad
one_use h n text after more used Next Bad new (stops number s told) =
    let here : Numbered = record { number = n; text = text } in
    stops number (record {
      front = here ∷ s.front;
      text = s.text;
      rest = s.rest;
      lines_are = ap (λ (x : List Numbered). here ∷ x) s.lines_are;
      more = used ∷ s.more;
      are = (new.0, s.are);
      once = subst AreTextsDistinct (append_assoc h.uses (used ∷ []) s.more) s.once;
      is_use = s.is_use;
      not_new = λ u row fresh. s.not_new u row (λ c. fresh (subst (λ (x : List (List ℕ)). Contains x u) (append_assoc h.uses (used ∷ []) s.more) c));
    }) told
one_use h n text after more used Next Bad new (ends e) =
    let here : Numbered = record { number = n; text = text } in
    ends (record {
      last = e.last;
      left = e.left;
      front = here ∷ e.front;
      more = used ∷ e.more;
      lines_are = ap (λ (x : List Numbered). here ∷ x) e.lines_are;
      last_number = e.last_number;
      name = e.name;
      language = e.language;
      uses_are = e.uses_are ∙ append_assoc h.uses (used ∷ []) e.more;
      are = (new.0, e.are);
      once = e.once;
      other = e.other;
      holds = e.holds;
    })

ends_here : (h : HeaderData) (lines : Lines) (Next : HeaderData → Lines → Type 0) → AreTextsDistinct h.uses → BeginOther (numbered_lines lines) → Next h lines → EndsUses h lines Next
ends_here h lines Next once other x = record {
  last = h;
  left = lines;
  front = [];
  more = [];
  lines_are = refl;
  last_number = refl;
  name = refl;
  language = refl;
  uses_are = sym (append-nil h.uses);
  are = tt;
  once = once;
  other = other;
  holds = x;
}

pub uses_course : (h : HeaderData) (lines : Lines) (Next : HeaderData → Lines → Type 0) (Bad : ℕ → Kind → Type 0) → AreTextsDistinct h.uses → AreUses h lines Next Bad → UsesCourse h lines Next Bad
uses_course h (over end) Next Bad once x = ends (ends_here h (over end) Next once tt x)
uses_course h (line n text after more) Next Bad once (inl x) =
    one_use h n text after more x.0 Next Bad x.1 (uses_course (with_use h x.0) more Next Bad (distinct_push h.uses x.0 once x.1.1) x.2)
uses_course h (line n text after more) Next Bad once (inr (inl x)) =
    stops n (record {
      front = [];
      text = text;
      rest = numbered_lines more;
      lines_are = refl;
      more = [];
      are = tt;
      once = subst AreTextsDistinct (sym (append-nil h.uses)) once;
      is_use = x.0;
      not_new = λ used row fresh. x.1 used (row, λ c. fresh (subst (λ (y : List (List ℕ)). Contains y used) (sym (append-nil h.uses)) c));
    }) x.2
uses_course h (line n text after more) Next Bad once (inr (inr x)) = ends (ends_here h (line n text after more) Next once x.0 x.1)

use_line : (text used : List ℕ) → IsRow files.Extension text (Use used) → IsUseLine text
use_line text used row = (row.rest, row.parts_are)

-- with a bad `use` line no header goes on
pub no_header : (seen : List (List ℕ)) (front : List Numbered) (more : List (List ℕ)) (bad : Numbered) (tail others rest : List Numbered) (uses : List (List ℕ)) → AreUseLines front more → IsUseLine bad.text
    → ((used : List ℕ) → IsRow files.Extension bad.text (Use used) → (Contains (seen ++ more) used → ⊥) → ⊥) → AreUseLines others uses → AreTextsDistinct (seen ++ uses) → BeginOther rest
    → front ++ bad ∷ tail ≡ others ++ rest → ⊥
no_header seen [] [] bad tail [] rest [] are is_use not_new theirs once other e = subst BeginOther (sym e) other is_use
no_header seen [] [] bad tail (l ∷ others) rest (used ∷ uses) are is_use not_new theirs once other e =
    let same : bad ≡ l = head_same bad l tail (others ++ rest) e in
    not_new used (subst (λ (x : Numbered). IsRow files.Extension x.text (Use used)) (sym same) theirs.0)
    (λ c. distinct_front seen used uses once (subst (λ (x : List (List ℕ)). Contains x used) (append-nil seen) c))
no_header seen [] [] bad tail (l ∷ others) rest [] are is_use not_new theirs once other e = absurd theirs
no_header seen [] [] bad tail [] rest (used ∷ uses) are is_use not_new theirs once other e = absurd theirs
no_header seen [] (m ∷ more) bad tail others rest uses are is_use not_new theirs once other e = absurd are
no_header seen (f ∷ front) [] bad tail others rest uses are is_use not_new theirs once other e = absurd are
no_header seen (f ∷ front) (m ∷ more) bad tail [] rest [] are is_use not_new theirs once other e = subst BeginOther (sym e) other (use_line f.text m are.0)
no_header seen (f ∷ front) (m ∷ more) bad tail [] rest (used ∷ uses) are is_use not_new theirs once other e = absurd theirs
no_header seen (f ∷ front) (m ∷ more) bad tail (l ∷ others) rest [] are is_use not_new theirs once other e = absurd theirs
no_header seen (f ∷ front) (m ∷ more) bad tail (l ∷ others) rest (used ∷ uses) are is_use not_new theirs once other e =
    let same : f ≡ l = head_same f l (front ++ bad ∷ tail) (others ++ rest) e in
    let name : m ≡ used = same_row files.Extension f.text (Use m) (Use used) are.0 (subst (λ (x : Numbered). IsRow files.Extension x.text (Use used)) (sym same) theirs.0) in
    let assoc : (seen ++ used ∷ []) ++ more ≡ seen ++ m ∷ more = append_assoc seen (used ∷ []) more ∙ ap (λ (x : List ℕ). seen ++ x ∷ more) (sym name) in
    no_header (seen ++ used ∷ []) front more bad tail others rest uses are.1 is_use
    (λ u row fresh. not_new u row (λ c. fresh (subst (λ (x : List (List ℕ)). Contains x u) (sym assoc) c)))
    theirs.1 (subst AreTextsDistinct (sym (append_assoc seen (used ∷ []) uses)) once) other (tail_same f l (front ++ bad ∷ tail) (others ++ rest) e)
