-- Why the lines of an extension file have no header.
use Rattle.std.proofs.Common.{◌≡◌, ℕ, List, [], ◌∷◌, ◌++◌, Result, Ok, Err, refl, sym, ap, subst, ◌∙◌, inl, inr, append_assoc}
use Rattle.std.specs.Prelude.{◌⊎◌, Contains}
use Rattle.sx_lines.specs.Lines.{Lines, over, line, lines_from, next_number}
use Rattle.sx_lines.specs.declared.kind.Kind.{Kind}
use Rattle.sx_lines.specs.declared.kind.Kind.TheVariants.{Head, Shape}
use Rattle.sx_directives.specs.Spelling.{IsModuleName}
use Rattle.sx_directives.specs.Rows.{IsRow}
use Rattle.sx_directives.specs.declared.file_kind.FileKind.TheVariants as files
use Rattle.sx_directives.specs.declared.row.Row.TheVariants.{Extension, Language, Use}
use Rattle.sx_outline.specs.declared.outline_error.OutlineError.{OutlineError}
use Rattle.sx_outline.specs.declared.outline_error.OutlineError.TheVariants.{Notation}
use Rattle.sx_outline.specs.Known.{kept_lines}
use Rattle.sx_lines.specs.Distinct.{AreTextsDistinct}
use Rattle.sx_outline.specs.Stages.{Numbered}
use Rattle.sx_outline.specs.Headers.{HeaderData, header_begun, IsUseLine, IsLanguageLine}
use Rattle.sx_outline.specs.Headers.{IsLanguageNext, IsHeaderOf, IsHeader, IsHeaderIn}
use Rattle.sx_outline.specs.Structure.{numbered_lines, AreUseLines, AreHeaderLines}
use Rattle.sx_outline.specs.BadLines.{BeginGoodFile, IsFirstBadLine, AreCutOff, end_number}
use Rattle.sx_outline.specs.BadExtensions.{BeginOther, HaveHeader, IsHeaderRefused, IsAnyName}
use Rattle.sx_outline.proofs.LinesDeclared.{none_first, head_same, tail_same}
use Rattle.sx_outline.proofs.RefusedUses.{UsesCourse, stops, ends, uses_course, no_header}
use Rattle.sx_outline.proofs.HeadRows.{extension_line, extension_row, extension_kept, language_line, language_kept, second_row, some_name, some_is_name}
use Rattle.sx_outline.proofs.Written.{InOrder, make_file, first_order, order_front, kept_in_order}

-- ---- the first two lines

-- what comes of the lines of an extension with such a name
abbrev pub IsHeaderBy : (List ℕ → Type 0) → Lines → (HeaderData → Lines → Type 0) → (ℕ → Kind → Type 0) → Type 0
IsHeaderBy IsSuch (over end) Next Bad = Bad end Head
IsHeaderBy IsSuch (line n text after more) Next Bad =
    ((name : List ℕ) × IsSuch name × IsRow files.Extension text (Extension name) × IsLanguageNext name more Next Bad)
    ⊎ (((name : List ℕ) → IsSuch name → IsRow files.Extension text (Extension name) → ⊥) × Bad n Head)

-- a bad line of a header
abbrev pub IsBadHead : (List ℕ → Type 0) → Lines → ℕ → Type 0
IsBadHead IsSuch lines number = IsFirstBadLine (HaveHeader IsSuch) (HaveHeader IsSuch) [] (numbered_lines lines) number

-- the header is whole, and this holds of it and of the lines after it
pub record EndsHeader (IsSuch : List ℕ → Type 0) (lines : Lines) (Next : HeaderData → Lines → Type 0) : Type 0 where
  pub last : HeaderData
  pub left : Lines
  pub front : List Numbered
  pub lines_are : numbered_lines lines ≡ front ++ numbered_lines left
  pub last_number : end_number lines ≡ end_number left
  pub such : IsSuch last.name
  pub are : AreHeaderLines front last
  pub other : BeginOther (numbered_lines left)
  pub holds : Next last left

pub data HeaderCourse (IsSuch : List ℕ → Type 0) (lines : Lines) (Next : HeaderData → Lines → Type 0) (Bad : ℕ → Kind → Type 0) : Type 0 where
  is_cut : (number : ℕ) → AreCutOff (HaveHeader IsSuch) lines number → Bad number Head → HeaderCourse IsSuch lines Next Bad
  is_bad_head : (number : ℕ) → IsBadHead IsSuch lines number → Bad number Head → HeaderCourse IsSuch lines Next Bad
  is_bad_use : (number : ℕ) → IsBadHead IsSuch lines number → Bad number Shape → HeaderCourse IsSuch lines Next Bad
  is_whole : EndsHeader IsSuch lines Next → HeaderCourse IsSuch lines Next Bad

-- two lines are a header
two_lines : (IsSuch : List ℕ → Type 0) (first second : Numbered) (name language : List ℕ) → IsSuch name → IsRow files.Extension first.text (Extension name)
    → IsLanguageLine second.text language → HaveHeader IsSuch (first ∷ second ∷ [])
two_lines IsSuch first second name language such named is = record {
  header = header_begun name language;
  front = first ∷ second ∷ [];
  rest = [];
  lines_are = refl;
  such = such;
  are = record { first = first; second = second; others = []; lines_are = refl; named = named; language = is; uses = tt; once = tt };
  other = tt;
}

nothing_read : (IsSuch : List ℕ → Type 0) (name : List ℕ) → IsModuleName name → IsSuch name → BeginGoodFile (HaveHeader IsSuch) [] []
nothing_read IsSuch name named such =
    let first : Numbered = record { number = 1; text = extension_line name } in
    let second : Numbered = record { number = next_number 1; text = language_line some_name } in
    make_file (HaveHeader IsSuch) [] [] (first ∷ second ∷ []) tt (0, refl, extension_kept name named, (0, refl, language_kept some_name some_is_name, tt))
    (two_lines IsSuch first second name some_name such (extension_row name named) second_row)

one_read : (IsSuch : List ℕ → Type 0) (first : Numbered) (name : List ℕ) → InOrder 1 (first ∷ []) → IsSuch name → IsRow files.Extension first.text (Extension name)
    → BeginGoodFile (HaveHeader IsSuch) [] (first ∷ [])
one_read IsSuch first name order such named =
    let second : Numbered = record { number = next_number first.number; text = language_line some_name } in
    make_file (HaveHeader IsSuch) [] (first ∷ []) (second ∷ []) order (0, refl, language_kept some_name some_is_name, tt) (two_lines IsSuch first second name some_name such named second_row)

-- lines with a header have a first one and a second one
record FirstTwo (IsSuch : List ℕ → Type 0) (lines : List Numbered) : Type 0 where
  header : HeaderData
  first : Numbered
  second : Numbered
  others : List Numbered
  rest : List Numbered
  lines_are : lines ≡ first ∷ second ∷ (others ++ rest)
  such : IsSuch header.name
  named : IsRow files.Extension first.text (Extension header.name)
  language : IsRow files.Extension second.text (Language header.language)
  uses : AreUseLines others header.uses
  once : AreTextsDistinct header.uses
  other : BeginOther rest

first_two : (IsSuch : List ℕ → Type 0) (lines : List Numbered) → HaveHeader IsSuch lines → FirstTwo IsSuch lines
first_two IsSuch lines h = record {
  header = h.header;
  first = h.are.first;
  second = h.are.second;
  others = h.are.others;
  rest = h.rest;
  lines_are = h.lines_are ∙ ap (λ (x : List Numbered). x ++ h.rest) h.are.lines_are;
  such = h.such;
  named = h.are.named;
  language = h.are.language;
  uses = h.are.uses;
  once = h.are.once;
  other = h.other;
}

none_at_all : (IsSuch : List ℕ → Type 0) → HaveHeader IsSuch [] → ⊥
none_at_all IsSuch h = let two = first_two IsSuch [] h in none_first two.first (two.second ∷ (two.others ++ two.rest)) two.lines_are

one_alone : (IsSuch : List ℕ → Type 0) (l : Numbered) → HaveHeader IsSuch (l ∷ []) → ⊥
one_alone IsSuch l h =
    let two = first_two IsSuch (l ∷ []) h in
    none_first two.second (two.others ++ two.rest) (tail_same l two.first [] (two.second ∷ (two.others ++ two.rest)) two.lines_are)

bad_first : (IsSuch : List ℕ → Type 0) (bad : Numbered) (rest : List Numbered) → ((name : List ℕ) → IsSuch name → IsRow files.Extension bad.text (Extension name) → ⊥) → HaveHeader IsSuch (bad ∷ rest) → ⊥
bad_first IsSuch bad rest n h =
    let two = first_two IsSuch (bad ∷ rest) h in
    let same : bad ≡ two.first = head_same bad two.first rest (two.second ∷ (two.others ++ two.rest)) two.lines_are in
    n two.header.name two.such (subst (λ (x : Numbered). IsRow files.Extension x.text (Extension two.header.name)) (sym same) two.named)

bad_second : (IsSuch : List ℕ → Type 0) (l bad : Numbered) (rest : List Numbered) → ((language : List ℕ) → IsLanguageLine bad.text language → ⊥) → HaveHeader IsSuch (l ∷ bad ∷ rest) → ⊥
bad_second IsSuch l bad rest n h =
    let two = first_two IsSuch (l ∷ bad ∷ rest) h in
    let off : bad ∷ rest ≡ two.second ∷ (two.others ++ two.rest) = tail_same l two.first (bad ∷ rest) (two.second ∷ (two.others ++ two.rest)) two.lines_are in
    let same : bad ≡ two.second = head_same bad two.second rest (two.others ++ two.rest) off in
    n two.header.language (subst (λ (x : Numbered). IsRow files.Extension x.text (Language two.header.language)) (sym same) two.language)

bad_later : (IsSuch : List ℕ → Type 0) (one two bad : Numbered) (front tail : List Numbered) (more : List (List ℕ)) → AreUseLines front more → IsUseLine bad.text
    → ((used : List ℕ) → IsRow files.Extension bad.text (Use used) → (Contains more used → ⊥) → ⊥) → HaveHeader IsSuch ((one ∷ two ∷ front ++ bad ∷ []) ++ tail) → ⊥
bad_later IsSuch one two bad front tail more are is_use not_new h =
    let x = first_two IsSuch ((one ∷ two ∷ front ++ bad ∷ []) ++ tail) h in
    let whole : one ∷ two ∷ ((front ++ bad ∷ []) ++ tail) ≡ x.first ∷ x.second ∷ (x.others ++ x.rest) = x.lines_are in
    let off : two ∷ ((front ++ bad ∷ []) ++ tail) ≡ x.second ∷ (x.others ++ x.rest) = tail_same one x.first (two ∷ ((front ++ bad ∷ []) ++ tail)) (x.second ∷ (x.others ++ x.rest)) whole in
    let last : (front ++ bad ∷ []) ++ tail ≡ x.others ++ x.rest = tail_same two x.second ((front ++ bad ∷ []) ++ tail) (x.others ++ x.rest) off in
    no_header [] front more bad tail x.others x.rest x.header.uses are is_use not_new x.uses x.once x.other (sym (append_assoc front (bad ∷ []) tail) ∙ last)

-- ---- all of them

of_uses : (IsSuch : List ℕ → Type 0) (one two : Numbered) (after later : List ℕ) (more : Lines) (name language : List ℕ) (Next : HeaderData → Lines → Type 0) (Bad : ℕ → Kind → Type 0) → InOrder 1 (one ∷ two ∷ numbered_lines more) → IsSuch name
    → IsRow files.Extension one.text (Extension name) → IsLanguageLine two.text language → UsesCourse (header_begun name language) more Next Bad
    → HeaderCourse IsSuch (line one.number one.text after (line two.number two.text later more)) Next Bad
of_uses IsSuch one two after later more name language Next Bad order such named is (stops number s told) =
    let bad : Numbered = record { number = number; text = s.text } in
    let front : List Numbered = one ∷ two ∷ s.front in
    let header : HeaderData = record { name = name; language = language; uses = s.more } in
    let lines_are : one ∷ two ∷ numbered_lines more ≡ front ++ bad ∷ s.rest = ap (λ (x : List Numbered). one ∷ two ∷ x) s.lines_are in
    is_bad_use number (record {
      front = front;
      bad = bad;
      rest = s.rest;
      lines_are = lines_are;
      place = refl;
      before = make_file (HaveHeader IsSuch) [] front [] (first_order [] (one ∷ two ∷ numbered_lines more) front (bad ∷ s.rest) lines_are order) tt (record {
        header = header;
        front = front;
        rest = [];
        lines_are = refl;
        such = such;
        are = record { first = one; second = two; others = s.front; lines_are = refl; named = named; language = is; uses = s.are; once = s.once };
        other = tt;
      });
      none = λ found. bad_later IsSuch one two bad s.front found.0 s.more s.are s.is_use s.not_new found.1;
    }) told
of_uses IsSuch one two after later more name language Next Bad order such named is (ends e) = is_whole (record {
  last = e.last;
  left = e.left;
  front = one ∷ two ∷ e.front;
  lines_are = ap (λ (x : List Numbered). one ∷ two ∷ x) e.lines_are;
  last_number = e.last_number;
  such = subst IsSuch (sym e.name) such;
  are = record {
    first = one;
    second = two;
    others = e.front;
    lines_are = refl;
    named = subst (λ (x : List ℕ). IsRow files.Extension one.text (Extension x)) (sym e.name) named;
    language = subst (λ (x : List ℕ). IsRow files.Extension two.text (Language x)) (sym e.language) is;
    uses = subst (AreUseLines e.front) (sym e.uses_are) e.are;
    once = e.once;
  };
  other = e.other;
  holds = e.holds;
})

pub header_course : (IsSuch : List ℕ → Type 0) (some : List ℕ) (lines : Lines) (Next : HeaderData → Lines → Type 0) (Bad : ℕ → Kind → Type 0) → IsModuleName some → IsSuch some → InOrder 1 (numbered_lines lines)
    → IsHeaderBy IsSuch lines Next Bad → HeaderCourse IsSuch lines Next Bad
header_course IsSuch some (over end) Next Bad fine such order x = is_cut end (record { place = refl; on = nothing_read IsSuch some fine such; none = none_at_all IsSuch }) x
header_course IsSuch some (line n text after more) Next Bad fine such order (inr x) =
    let bad : Numbered = record { number = n; text = text } in
    is_bad_head n (record {
      front = [];
      bad = bad;
      rest = numbered_lines more;
      lines_are = refl;
      place = refl;
      before = nothing_read IsSuch some fine such;
      none = λ found. bad_first IsSuch bad found.0 x.0 found.1;
    }) x.1
header_course IsSuch some (line n text after (over end)) Next Bad fine such order (inl (name, is, named, x)) =
    let one : Numbered = record { number = n; text = text } in
    is_cut end (record { place = refl; on = one_read IsSuch one name order is named; none = one_alone IsSuch one }) x
header_course IsSuch some (line n text after (line m other later more)) Next Bad fine such order (inl (name, is, named, inr x)) =
    let one : Numbered = record { number = n; text = text } in
    let bad : Numbered = record { number = m; text = other } in
    is_bad_head m (record {
      front = one ∷ [];
      bad = bad;
      rest = numbered_lines more;
      lines_are = refl;
      place = refl;
      before = one_read IsSuch one name (order_front 1 (one ∷ []) (bad ∷ numbered_lines more) order) is named;
      none = λ found. bad_second IsSuch one bad found.0 x.0 found.1;
    }) x.1
header_course IsSuch some (line n text after (line m other later more)) Next Bad fine such order (inl (name, is, named, inl x)) =
    of_uses IsSuch (record { number = n; text = text }) (record { number = m; text = other }) after later more name x.0 Next Bad order is named x.1
    (uses_course (header_begun name x.0) more Next Bad tt x.2)

-- ---- the file

-- such a course of a refusal
pub refused_by : (IsSuch : List ℕ → Type 0) (lines : Lines) (number : ℕ) (kind : Kind) (Next : HeaderData → Lines → Type 0) (Bad : ℕ → Kind → Type 0)
    → ((n : ℕ) (k : Kind) → Bad n k → (number ≡ n) × (kind ≡ k)) → HeaderCourse IsSuch lines Next Bad → IsHeaderRefused IsSuch lines number kind ⊎ EndsHeader IsSuch lines Next
refused_by IsSuch lines number kind Next Bad same (is_cut n h told) =
    let e = same n Head told in
    inl (subst (λ (x : Kind). IsHeaderRefused IsSuch lines number x) (sym e.1) (inr (subst (λ (x : ℕ). AreCutOff (HaveHeader IsSuch) lines x) (sym e.0) h)))
refused_by IsSuch lines number kind Next Bad same (is_bad_head n h told) =
    let e = same n Head told in
    inl (subst (λ (x : Kind). IsHeaderRefused IsSuch lines number x) (sym e.1) (inl (subst (λ (x : ℕ). IsBadHead IsSuch lines x) (sym e.0) h)))
refused_by IsSuch lines number kind Next Bad same (is_bad_use n h told) =
    let e = same n Shape told in
    inl (subst (λ (x : Kind). IsHeaderRefused IsSuch lines number x) (sym e.1) (subst (λ (x : ℕ). IsBadHead IsSuch lines x) (sym e.0) h))
refused_by IsSuch lines number kind Next Bad same (is_whole h) = inr h

named_by : (name : List ℕ) (lines : Lines) (Next : HeaderData → Lines → Type 0) (Bad : ℕ → Kind → Type 0) → IsHeaderOf name lines Next Bad → IsHeaderBy (λ x. x ≡ name) lines Next Bad
named_by name (over end) Next Bad h = h
named_by name (line n text after more) Next Bad (inl h) = inl (name, refl, h.0, h.1)
named_by name (line n text after more) Next Bad (inr h) = inr (λ x e row. h.0 (subst (λ (y : List ℕ). IsRow files.Extension text (Extension y)) e row), h.1)

pub any_by : (lines : Lines) (Next : HeaderData → Lines → Type 0) (Bad : ℕ → Kind → Type 0) → IsHeader lines Next Bad → IsHeaderBy IsAnyName lines Next Bad
any_by (over end) Next Bad h = h
any_by (line n text after more) Next Bad (inl h) = inl (h.0, tt, h.1, h.2)
any_by (line n text after more) Next Bad (inr h) = inr (λ x such row. h.0 x row, h.1)

abbrev refusal : ℕ → Kind → Result HeaderData OutlineError
refusal number kind = Err (Notation number kind)

abbrev whole : HeaderData → Result HeaderData OutlineError
whole h = Ok h

same_refusal : (n m : ℕ) (k l : Kind) → refusal n k ≡ refusal m l → (n ≡ m) × (k ≡ l)
same_refusal n m k l e = (cc, cc)

not_whole : (n : ℕ) (k : Kind) (h : HeaderData) → refusal n k ≡ whole h → ⊥
not_whole n k h e = cc

refused_alone : (name : List ℕ) (lines : Lines) (number : ℕ) (kind : Kind)
    → IsHeaderRefused (λ x. x ≡ name) lines number kind ⊎ EndsHeader (λ x. x ≡ name) lines (λ h left. refusal number kind ≡ whole h) → IsHeaderRefused (λ x. x ≡ name) lines number kind
refused_alone name lines number kind (inl h) = h
refused_alone name lines number kind (inr h) = absurd (not_whole number kind h.last h.holds)

pub header_refused : (name bytes : List ℕ) (number : ℕ) (kind : Kind) → IsModuleName name → IsHeaderIn name bytes (Err (Notation number kind))
    → IsHeaderRefused (λ x. x ≡ name) (kept_lines (lines_from 1 bytes)) number kind
header_refused name bytes number kind named h =
    let lines : Lines = kept_lines (lines_from 1 bytes) in
    let by = named_by name lines (λ h left. refusal number kind ≡ whole h) (λ n k. refusal number kind ≡ refusal n k) h.1 in
    refused_alone name lines number kind
    (refused_by (λ x. x ≡ name) lines number kind (λ h left. refusal number kind ≡ whole h) (λ n k. refusal number kind ≡ refusal n k) (λ n k e. same_refusal number n kind k e)
    (header_course (λ x. x ≡ name) name lines (λ h left. refusal number kind ≡ whole h) (λ n k. refusal number kind ≡ refusal n k) named refl (kept_in_order bytes h.0) by))
