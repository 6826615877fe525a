-- The first lines of an extension file, one after the other.
use Rattle.std.proofs.Common.{◌≡◌, ℕ, zero, suc, ◌+◌, ◌*◌, List, [], ◌∷◌, ◌++◌, get_or, Result, Ok, Err, refl, sym, ap, subst, ◌∙◌, inl, inr, append_assoc, append-nil, arith}
use Rattle.std.specs.Prelude.{Contains}
use Rattle.std.proofs.lemmas.List.Elements.{Contains-append_right}
use Rattle.sx_lines.specs.Lines.{Lines, over, line}
use Rattle.sx_lines.specs.declared.kind.Kind.{Kind}
use Rattle.sx_lines.specs.declared.kind.Kind.TheVariants.{Head, Shape}
use Rattle.sx_directives.specs.Rows.{IsRow, keyword_text, row_word}
use Rattle.sx_directives.specs.declared.file_kind.FileKind.TheVariants as files
use Rattle.sx_directives.specs.declared.row.Row.{Row}
use Rattle.sx_directives.specs.declared.row.Row.TheVariants.{Language, Sort, Prod, Var, Form, Main}
use Rattle.sx_directives.specs.declared.row.Row.TheVariants.{Extension, Use, Plain, Rule}
use Rattle.sx_outline.specs.declared.outline_error.OutlineError.{OutlineError}
use Rattle.sx_outline.specs.declared.outline_error.OutlineError.TheVariants.{Notation}
use Rattle.sx_lines.specs.Distinct.{AreTextsDistinct}
use Rattle.sx_outline.specs.Stages.{Numbered}
use Rattle.sx_outline.specs.Headers.{HeaderData, header_begun, with_use, IsUseLine, AreUses}
use Rattle.sx_outline.specs.Headers.{IsLanguageNext, IsHeaderOf, IsHeader}
use Rattle.sx_outline.specs.Structure.{numbered_lines, AreUseLines, AreHeaderLines}
use Rattle.sx_outline.specs.BadExtensions.{BeginOther}
use Rattle.sx_outline.proofs.KeptLaws.{distinct_push}
use Rattle.sx_outline.proofs.LinesDeclared.{none_first, head_same, tail_same}

-- ---- what the lines are

-- after these lines the header is this one, and these lines are left
pub record UsesTo (h : HeaderData) (lines : Lines) (Next : HeaderData → Lines → Type 0) : Type 0 where
  pub last : HeaderData
  pub left : Lines
  pub front : List Numbered
  pub more : List (List ℕ)
  pub lines_are : numbered_lines lines ≡ front ++ numbered_lines left
  pub name : last.name ≡ h.name
  pub language : last.language ≡ h.language
  pub uses_are : last.uses ≡ h.uses ++ more
  pub are : AreUseLines front more
  pub once : AreTextsDistinct last.uses
  pub holds : Next last left

pub uses_lines : (Next : HeaderData → Lines → Type 0) (Bad : ℕ → Kind → Type 0) → ((n : ℕ) (bad : Kind) → Bad n bad → ⊥) → (h : HeaderData) (lines : Lines) → AreTextsDistinct h.uses
    → AreUses h lines Next Bad → UsesTo h lines Next
uses_lines Next Bad n h (over end) once x = record {
  last = h;
  left = over end;
  front = [];
  more = [];
  lines_are = refl;
  name = refl;
  language = refl;
  uses_are = sym (append-nil h.uses);
  are = tt;
  once = once;
  holds = x;
}
uses_lines Next Bad n h (line number text after more) once (inl x) =
    let next = uses_lines Next Bad n (with_use h x.0) more (distinct_push h.uses x.0 once x.1.1) x.2 in
    record {
      last = next.last;
      left = next.left;
      front = record { number = number; text = text } ∷ next.front;
      more = x.0 ∷ next.more;
      lines_are = ap (λ (y : List Numbered). record { number = number; text = text } ∷ y) next.lines_are;
      name = next.name;
      language = next.language;
      uses_are = next.uses_are ∙ append_assoc h.uses (x.0 ∷ []) next.more;
      are = (x.1.0, next.are);
      once = next.once;
      holds = next.holds;
    }
uses_lines Next Bad n h (line number text after more) once (inr (inl x)) = absurd (n number Shape x.2)
uses_lines Next Bad n h (line number text after more) once (inr (inr x)) = record {
  last = h;
  left = line number text after more;
  front = [];
  more = [];
  lines_are = refl;
  name = refl;
  language = refl;
  uses_are = sym (append-nil h.uses);
  are = tt;
  once = once;
  holds = x.1;
}

-- after the header these lines are left
pub record HeaderTo (lines : Lines) (Next : HeaderData → Lines → Type 0) : Type 0 where
  pub last : HeaderData
  pub left : Lines
  pub front : List Numbered
  pub lines_are : numbered_lines lines ≡ front ++ numbered_lines left
  pub is : AreHeaderLines front last
  pub holds : Next last left

pub header_lines : (Next : HeaderData → Lines → Type 0) (Bad : ℕ → Kind → Type 0) → ((n : ℕ) (bad : Kind) → Bad n bad → ⊥) → (lines : Lines) → IsHeader lines Next Bad → HeaderTo lines Next
header_lines Next Bad n (over end) x = absurd (n end Head x)
header_lines Next Bad n (line number text after (over end)) (inl x) = absurd (n end Head x.2)
header_lines Next Bad n (line number text after (line second other later more)) (inl (name, named, inl x)) =
    let next = uses_lines Next Bad n (header_begun name x.0) more tt x.2 in
    let first : Numbered = record { number = number; text = text } in
    let there : Numbered = record { number = second; text = other } in
    record {
      last = next.last;
      left = next.left;
      front = first ∷ there ∷ next.front;
      lines_are = ap (λ (y : List Numbered). first ∷ there ∷ y) next.lines_are;
      is = record {
        first = first;
        second = there;
        others = next.front;
        lines_are = refl;
        named = subst (λ (y : List ℕ). IsRow files.Extension text (Extension y)) (sym next.name) named;
        language = subst (λ (y : List ℕ). IsRow files.Extension other (Language y)) (sym next.language) x.1;
        uses = subst (AreUseLines next.front) (sym next.uses_are) next.are;
        once = next.once;
      };
      holds = next.holds;
    }
header_lines Next Bad n (line number text after (line second other later more)) (inl (name, named, inr x)) = absurd (n second Head x.1)
header_lines Next Bad n (line number text after more) (inr x) = absurd (n number Head x.1)

-- ---- the other way

abbrev told_part : List (List ℕ) → ℕ
told_part [] = 0
told_part (part ∷ parts) = get_or part 0 0 * 256 + get_or part 1 0

-- a line of another row is no `use` line
other_row : (text : List ℕ) (row : Row) → IsRow files.Extension text row → (get_or (keyword_text (row_word row)) 0 0 * 256 + get_or (keyword_text (row_word row)) 1 0 ≡ 117 * 256 + 115 → ⊥) → IsUseLine text → ⊥
other_row text row h n line_is = n (ap told_part (sym h.parts_are ∙ line_is.1))

-- a row that stands after the header
abbrev pub IsOther : Row → Type 0
IsOther (Sort s) = Unit {0}
IsOther (Prod p) = Unit {0}
IsOther (Var v) = Unit {0}
IsOther (Form f) = Unit {0}
IsOther (Main m) = Unit {0}
IsOther (Plain p) = Unit {0}
IsOther (Rule name) = Unit {0}
IsOther _ = ⊥

pub no_use : (text : List ℕ) (row : Row) → IsRow files.Extension text row → IsOther row → IsUseLine text → ⊥
no_use text (Sort s) h o = other_row text (Sort s) h (λ e. omega (arith, e))
no_use text (Prod p) h o = other_row text (Prod p) h (λ e. omega (arith, e))
no_use text (Var v) h o = other_row text (Var v) h (λ e. omega (arith, e))
no_use text (Form f) h o = other_row text (Form f) h (λ e. omega (arith, e))
no_use text (Main m) h o = other_row text (Main m) h (λ e. omega (arith, e))
no_use text (Plain p) h o = other_row text (Plain p) h (λ e. omega (arith, e))
no_use text (Rule name) h o = other_row text (Rule name) h (λ e. omega (arith, e))
no_use text _ h o = absurd o

pub distinct_front : (texts : List (List ℕ)) (text : List ℕ) (more : List (List ℕ)) → AreTextsDistinct (texts ++ text ∷ more) → Contains texts text → ⊥
distinct_front [] text more h (k, lt, e) = omega (arith, lt)
distinct_front (first ∷ texts) text more h (zero, lt, e) =
    h.0 (Contains-append_right texts (text ∷ more) first (0, omega arith, sym e))
distinct_front (first ∷ texts) text more h (suc k, lt, e) = distinct_front texts text more h.1 (k, omega (arith, lt), e)

last_same : (last h : HeaderData) → last.name ≡ h.name → last.language ≡ h.language → last.uses ≡ h.uses → last ≡ h
last_same last h n l u = λ i. record { name = n i; language = l i; uses = u i }

pub uses_back : (Next : HeaderData → Lines → Type 0) (Bad : ℕ → Kind → Type 0) (h : HeaderData) (lines : Lines) (front rest : List Numbered) (more : List (List ℕ)) (last : HeaderData)
    → numbered_lines lines ≡ front ++ rest → AreUseLines front more → last.name ≡ h.name → last.language ≡ h.language → last.uses ≡ h.uses ++ more → AreTextsDistinct last.uses → BeginOther rest
    → ((left : Lines) → numbered_lines left ≡ rest → Next last left) → AreUses h lines Next Bad
uses_back Next Bad h (over end) [] rest [] last e are n l u once other f = subst (λ (x : HeaderData). Next x (over end)) (last_same last h n l (u ∙ append-nil h.uses)) (f (over end) e)
uses_back Next Bad h (line number text after more) [] rest [] last e are n l u once other f =
    inr (inr (subst BeginOther (sym e) other, subst (λ (x : HeaderData). Next x (line number text after more)) (last_same last h n l (u ∙ append-nil h.uses)) (f (line number text after more) e)))
uses_back Next Bad h lines [] rest (used ∷ more) last e are n l u once other f = absurd are
uses_back Next Bad h lines (first ∷ front) rest [] last e are n l u once other f = absurd are
uses_back Next Bad h (over end) (first ∷ front) rest (used ∷ more) last e are n l u once other f = absurd (none_first first (front ++ rest) e)
uses_back Next Bad h (line number text after lines) (first ∷ front) rest (used ∷ more) last e are n l u once other f =
    let here : Numbered = record { number = number; text = text } in
    let same : here ≡ first = head_same here first (numbered_lines lines) (front ++ rest) e in
    inl (
      used,
      (subst (λ (x : Numbered). IsRow files.Extension x.text (Use used)) (sym same) are.0, distinct_front h.uses used more (subst AreTextsDistinct u once)),
      uses_back Next Bad (with_use h used) lines front rest more last (tail_same here first (numbered_lines lines) (front ++ rest) e) are.1 n l
          (u ∙ sym (append_assoc h.uses (used ∷ []) more)) once other f,
    )

pub header_back : (Next : HeaderData → Lines → Type 0) (Bad : ℕ → Kind → Type 0) (lines : Lines) (front rest : List Numbered) (last : HeaderData) → numbered_lines lines ≡ front ++ rest
    → AreHeaderLines front last → BeginOther rest → ((left : Lines) → numbered_lines left ≡ rest → Next last left) → IsHeader lines Next Bad
header_back Next Bad (over end) front rest last e h other f =
    absurd (none_first h.first (h.second ∷ h.others ++ rest) (e ∙ ap (λ (x : List Numbered). x ++ rest) h.lines_are))
header_back Next Bad (line number text after (over end)) front rest last e h other f =
    absurd (none_first h.second (h.others ++ rest) (tail_same (record { number = number; text = text }) h.first [] (h.second ∷ h.others ++ rest) (e ∙ ap (λ (x : List Numbered). x ++ rest) h.lines_are)))
header_back Next Bad (line number text after (line second there later more)) front rest last e h other f =
    let one : Numbered = record { number = number; text = text } in
    let two : Numbered = record { number = second; text = there } in
    let all : one ∷ two ∷ numbered_lines more ≡ h.first ∷ h.second ∷ h.others ++ rest = e ∙ ap (λ (x : List Numbered). x ++ rest) h.lines_are in
    let same : one ≡ h.first = head_same one h.first (two ∷ numbered_lines more) (h.second ∷ h.others ++ rest) all in
    let off : two ∷ numbered_lines more ≡ h.second ∷ h.others ++ rest = tail_same one h.first (two ∷ numbered_lines more) (h.second ∷ h.others ++ rest) all in
    let next : two ≡ h.second = head_same two h.second (numbered_lines more) (h.others ++ rest) off in
    inl (
      last.name,
      subst (λ (x : Numbered). IsRow files.Extension x.text (Extension last.name)) (sym same) h.named,
      inl (
        last.language,
        subst (λ (x : Numbered). IsRow files.Extension x.text (Language last.language)) (sym next) h.language,
        uses_back Next Bad (header_begun last.name last.language) more h.others rest last.uses last (tail_same two h.second (numbered_lines more) (h.others ++ rest) off) h.uses refl refl refl h.once other f,
      ),
    )

-- ---- the header alone

abbrev one_header : HeaderData → Result HeaderData OutlineError
one_header h = Ok h

-- the name stays
uses_named : (Next : HeaderData → Lines → Type 0) (Bad : ℕ → Kind → Type 0) → ((n : ℕ) (bad : Kind) → Bad n bad → ⊥) → (last : HeaderData) → ((h : HeaderData) (lines : Lines) → Next h lines → last ≡ h)
    → (h : HeaderData) (lines : Lines) → AreUses h lines Next Bad
    → AreUses h lines (λ x left. one_header last ≡ Ok x) (λ n bad. one_header last ≡ Err (Notation n bad)) × (last.name ≡ h.name)
uses_named Next Bad n last f h (over end) x = (ap Ok (f h (over end) x), ap (λ (y : HeaderData). y.name) (f h (over end) x))
uses_named Next Bad n last f h (line number text after more) (inl x) =
    let next = uses_named Next Bad n last f (with_use h x.0) more x.2 in
    (inl (x.0, x.1, next.0), next.1)
uses_named Next Bad n last f h (line number text after more) (inr (inl x)) = absurd (n number Shape x.2)
uses_named Next Bad n last f h (line number text after more) (inr (inr x)) =
    (inr (inr (x.0, ap Ok (f h (line number text after more) x.1))), ap (λ (y : HeaderData). y.name) (f h (line number text after more) x.1))

-- the header of a file is read by its own name
pub named_of : (Next : HeaderData → Lines → Type 0) (Bad : ℕ → Kind → Type 0) → ((n : ℕ) (bad : Kind) → Bad n bad → ⊥) → (last : HeaderData) → ((h : HeaderData) (lines : Lines) → Next h lines → last ≡ h)
    → (lines : Lines) → IsHeader lines Next Bad → IsHeaderOf last.name lines (λ x left. one_header last ≡ Ok x) (λ n bad. one_header last ≡ Err (Notation n bad))
named_of Next Bad n last f (over end) x = absurd (n end Head x)
named_of Next Bad n last f (line number text after (over end)) (inl x) = absurd (n end Head x.2)
named_of Next Bad n last f (line number text after (line second other later more)) (inl (name, named, inl x)) =
    let next = uses_named Next Bad n last f (header_begun name x.0) more x.2 in
    inl (
      subst (λ (y : List ℕ). IsRow files.Extension text (Extension y)) (sym next.1) named,
      subst (λ (y : List ℕ). IsLanguageNext y (line second other later more) (λ x left. one_header last ≡ Ok x) (λ n bad. one_header last ≡ Err (Notation n bad))) (sym next.1) (inl (x.0, x.1, next.0)),
    )
named_of Next Bad n last f (line number text after (line second other later more)) (inl (name, named, inr x)) = absurd (n second Head x.1)
named_of Next Bad n last f (line number text after more) (inr x) = absurd (n number Head x.1)
