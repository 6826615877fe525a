-- Reading the first lines of an extension file.
use Rattle.std.proofs.Common.{◌≡◌, ℕ, Bool, true, false, List, [], length, take, IsTrue, ◌↔◌, Result, Ok, Err, refl, sym, ap, subst, ◌∙◌, inl, inr, arith}
use Rattle.std.specs.Prelude.{Contains}
use Rattle.std.proofs.lemmas.List.{take_all}
use Rattle.std.proofs.lemmas.Bool.{false≢true}
use Rattle.std.specs.Str.{IsUtf8}
use Rattle.sx_lines.specs.Lines.{Lines, over, line, lines_from}
use Rattle.std.specs.Global.{Vec}
use Rattle.sx_lines.specs.declared.rest.Rest.{Rest}
use Rattle.sx_lines.specs.Left.{left}
use Rattle.sx_lines.specs.declared.kind.Kind.{Kind}
use Rattle.sx_lines.specs.declared.kind.Kind.TheVariants.{Head, Directive, Shape, Order, Unfinished}
use Rattle.sx_lines.specs.declared.kind.Kind.TheVariants.{Main, Variable}
use Rattle.sx_directives.specs.Rows.{IsRow}
use Rattle.sx_directives.specs.declared.file_kind.FileKind.TheVariants as files
use Rattle.sx_directives.specs.declared.row.Row.TheVariants.{Extension, Use}
use Rattle.sx_outline.specs.declared.extension_header.ExtensionHeader.{ExtensionHeader}
use Rattle.sx_outline.specs.declared.outline_error.OutlineError.{OutlineError}
use Rattle.sx_outline.specs.declared.outline_error.OutlineError.TheVariants.{Memory, NotUtf8}
use Rattle.sx_outline.specs.declared.outline_error.OutlineError.TheVariants.{Notation}
use Rattle.sx_outline.specs.Known.{kept_lines}
use Rattle.sx_outline.specs.Headers.{HeaderData, header, header_begun, with_use, IsHeader}
use Rattle.sx_outline.specs.Headers.{IsHeaderOf, IsHeaderRead, IsLanguageLine, IsLanguageNext}
use Rattle.sx_outline.specs.Headers.{IsUseLine, IsNewUse, AreUses}
use Rattle.sx_outline.specs.HeaderReading.{using, IsUseRefused, IsUseRead, EndsTheHeader, IsBadIn}
use Rattle.sx_outline.specs.HeaderReading.{AreUseRows, AreUsesRead, OrLacking, read_header}
use Rattle.sx_outline.specs.HeaderReading.{IsLanguageRead, IsNamedHeaderRead, IsAnyHeaderRead}
use Rattle.sx_outline.proofs.SameRows.{same_row}

-- ---- one line

-- a name that stands before none of them
pub not_before : (names : List (List ℕ)) (name : List ℕ) (count : ℕ) (b : Bool) → count ≡ length names → IsTrue b ↔ Contains (take count names) name → b ≡ false → Contains names name → ⊥
not_before names name count b e h f there =
    false≢true (sym f ∙ h.1 (subst (λ (x : List (List ℕ)). Contains x name) (sym (take_all count names (omega (arith, e)))) there))

pub use_refused : (h : HeaderData) (number : ℕ) (text : List ℕ) (x : OutlineError) → x ≡ Notation number Shape → IsUseLine text → ((used : List ℕ) → IsNewUse h text used → ⊥) → IsUseRefused h number text x
use_refused h number text x is here n = subst (IsUseRefused h number text) (sym is) (refl, here, n)

-- a `use` line of a name that stands there already is not new
pub stands_there : (h : HeaderData) (text name : List ℕ) → IsRow files.Extension text (Use name) → Contains h.uses name → (used : List ℕ) → IsNewUse h text used → ⊥
stands_there h text name is there used new =
    new.1 (subst (λ (x : List ℕ). Contains h.uses x) (same_row files.Extension text (Use name) (Use used) is new.0) there)

-- ---- the lines after the second

-- what comes of the lines that are left comes of all
pub record Using (all : Lines) (names : List (List ℕ)) (rest : Lines) : Type 0 where
  pub goes : (h : HeaderData) (result : Result (HeaderData × Lines) OutlineError) → h.uses ≡ [] → AreUseRows rest (using h names) result → AreUseRows all h result

uses_same : (h : HeaderData) (names : List (List ℕ)) → names ≡ [] → h.uses ≡ [] → using h names ≡ h
uses_same h names e f = λ i. record { name = h.name; language = h.language; uses = (e ∙ sym f) i }

pub using_begin : (all : Lines) (names : List (List ℕ)) → names ≡ [] → Using all names all
using_begin all names e = record { goes = λ h result none is. subst (λ (x : HeaderData). AreUseRows all x result) (uses_same h names e none) is }

-- where no line is left
pub using_over : (all : Lines) (names given : List (List ℕ)) (rest : Lines) (n : ℕ) → Using all names rest → rest ≡ over n → given ≡ names
    → (h : HeaderData) → h.uses ≡ [] → AreUseRows all h (Ok (using h given, rest))
using_over all names given rest n u e g = λ h none.
    let at_end : (lines : Lines) → lines ≡ over n → AreUseRows lines (using h names) (Ok (using h names, lines)) = λ lines f.
    subst (λ (x : Lines). AreUseRows x (using h names) (Ok (using h names, x))) (sym f) refl in
    subst (λ (x : List (List ℕ)). AreUseRows all h (Ok (using h x, rest))) (sym g) (u.goes h (Ok (using h names, rest)) none (at_end rest e))

pub using_more : (all rest more : Lines) (old new : List (List ℕ)) (n : ℕ) (text after : List ℕ) (b : Bool) → Using all old rest → rest ≡ line n text after more
    → ((h : HeaderData) → IsUseRead (using h old) (using h new) n text (Ok b)) → b ≡ true → Using all new more
using_more all rest more old new n text after false u e is t = absurd cc
using_more all rest more old new n text after true u e is t = record {
  goes = λ h result none next.
      let w = is h in
      u.goes h result none (subst (λ (x : Lines). AreUseRows x (using h old) result) (sym e) (inl (w.0, w.1, subst (λ (x : HeaderData). AreUseRows more x result) w.2 next)));
}

-- a header and the lines after it
abbrev header_with : HeaderData → Lines → Result (HeaderData × Lines) OutlineError
header_with h lines = Ok (h, lines)

-- where the line has another word
pub using_ends : (all rest more : Lines) (old new given : List (List ℕ)) (n : ℕ) (text after : List ℕ) (b : Bool) → Using all old rest → rest ≡ line n text after more
    → ((h : HeaderData) → IsUseRead (using h old) (using h new) n text (Ok b)) → b ≡ false → given ≡ new
    → (h : HeaderData) → h.uses ≡ [] → AreUseRows all h (Ok (using h given, rest))
using_ends all rest more old new given n text after true u e is t g = absurd cc
using_ends all rest more old new given n text after false u e is t g = λ h none.
    let w = is h in
    let l : Lines = line n text after more in
    let same : header_with (using h given) rest ≡ header_with (using h old) l = ap (λ (x : HeaderData). header_with x rest) (ap (using h) g ∙ w.1) ∙ ap (header_with (using h old)) e in
    u.goes h (Ok (using h given, rest)) none (subst (λ (x : Lines). AreUseRows x (using h old) (Ok (using h given, rest))) (sym e) (inr (inr (w.0, same))))

pub using_refused : (all rest more : Lines) (old : List (List ℕ)) (n : ℕ) (text after : List ℕ) (x : OutlineError) → Using all old rest → rest ≡ line n text after more
    → ((h : HeaderData) → IsUseRefused (using h old) n text x) → (h : HeaderData) → h.uses ≡ [] → OrLacking (AreUseRows all h) (Err x)
using_refused all rest more old n text after Memory u e is = λ h none. tt
using_refused all rest more old n text after (NotUtf8 place) u e is = λ h none. is (header_begun [] [])
using_refused all rest more old n text after (Notation l Shape) u e is = λ h none.
    let w = is h in
    u.goes h (Err (Notation l Shape)) none
    (subst (λ (x : Lines). AreUseRows x (using h old) (Err (Notation l Shape))) (sym e) (inr (inl (w.1, w.2, ap (λ (k : ℕ). Err (Notation k Shape)) w.0))))
using_refused all rest more old n text after (Notation l Head) u e is = λ h none. absurd (is h)
using_refused all rest more old n text after (Notation l Directive) u e is = λ h none. absurd (is h)
using_refused all rest more old n text after (Notation l Order) u e is = λ h none. absurd (is h)
using_refused all rest more old n text after (Notation l Unfinished) u e is = λ h none. absurd (is h)
using_refused all rest more old n text after (Notation l Main) u e is = λ h none. absurd (is h)
using_refused all rest more old n text after (Notation l Variable) u e is = λ h none. absurd (is h)

-- ---- the first two lines

-- an outcome of the uses is one of the lines with the second before them
language_on : (name language : List ℕ) (n : ℕ) (text after : List ℕ) (more lines : Lines) (r : Result (HeaderData × Lines) OutlineError) → lines ≡ line n text after more → IsLanguageLine text language
    → OrLacking (AreUseRows more (header_begun name language)) r → OrLacking (λ x. IsLanguageNext name lines (EndsTheHeader x) (IsBadIn x)) r
language_on name language n text after more lines (Err Memory) e is h = tt
language_on name language n text after more lines (Err (NotUtf8 place)) e is h = h
language_on name language n text after more lines (Err (Notation l kind)) e is h =
    subst (λ (x : Lines). IsLanguageNext name x (EndsTheHeader (Err (Notation l kind))) (IsBadIn (Err (Notation l kind)))) (sym e) (inl (language, is, h))
language_on name language n text after more lines (Ok x) e is h =
    subst (λ (y : Lines). IsLanguageNext name y (EndsTheHeader (Ok x)) (IsBadIn (Ok x))) (sym e) (inl (language, is, h))

-- a second line and the uses after it
pub language_read : (name language : List ℕ) (uses : Vec (List ℕ)) (rest : Rest) (n : ℕ) (text after : List ℕ) (more lines : Lines) → lines ≡ line n text after more → IsLanguageLine text language
    → AreUsesRead more (Ok (uses, rest)) → IsLanguageRead name lines (Ok (record { name = name; language = language; uses = uses }, rest))
language_read name language uses rest n text after more lines e is h =
    language_on name language n text after more lines (Ok (record { name = name; language = language; uses = uses.items }, kept_lines (left rest))) e is (h (header_begun name language) refl)

pub language_refused : (name language : List ℕ) (n : ℕ) (text after : List ℕ) (more lines : Lines) (x : OutlineError) → lines ≡ line n text after more → IsLanguageLine text language → AreUsesRead more (Err x)
    → IsLanguageRead name lines (Err x)
language_refused name language n text after more lines x e is h = language_on name language n text after more lines (Err x) e is (h (header_begun name language) refl)

-- an outcome of the lines after the first is one of all
named_on : (name : List ℕ) (n : ℕ) (text after : List ℕ) (more lines : Lines) (r : Result (HeaderData × Lines) OutlineError) → lines ≡ line n text after more → IsRow files.Extension text (Extension name)
    → OrLacking (λ x. IsLanguageNext name more (EndsTheHeader x) (IsBadIn x)) r → OrLacking (λ x. IsHeaderOf name lines (EndsTheHeader x) (IsBadIn x)) r
named_on name n text after more lines (Err Memory) e is h = tt
named_on name n text after more lines (Err (NotUtf8 place)) e is h = h
named_on name n text after more lines (Err (Notation l kind)) e is h =
    subst (λ (x : Lines). IsHeaderOf name x (EndsTheHeader (Err (Notation l kind))) (IsBadIn (Err (Notation l kind)))) (sym e) (inl (is, h))
named_on name n text after more lines (Ok x) e is h = subst (λ (y : Lines). IsHeaderOf name y (EndsTheHeader (Ok x)) (IsBadIn (Ok x))) (sym e) (inl (is, h))

pub named_read : (name : List ℕ) (n : ℕ) (text after : List ℕ) (more lines : Lines) (result : Result (ExtensionHeader × Rest) OutlineError) → lines ≡ line n text after more
    → IsRow files.Extension text (Extension name) → IsLanguageRead name more result → IsNamedHeaderRead name lines result
named_read name n text after more lines result e is h = named_on name n text after more lines (read_header result) e is h

any_on : (name : List ℕ) (n : ℕ) (text after : List ℕ) (more lines : Lines) (r : Result (HeaderData × Lines) OutlineError) → lines ≡ line n text after more → IsRow files.Extension text (Extension name)
    → OrLacking (λ x. IsLanguageNext name more (EndsTheHeader x) (IsBadIn x)) r → OrLacking (λ x. IsHeader lines (EndsTheHeader x) (IsBadIn x)) r
any_on name n text after more lines (Err Memory) e is h = tt
any_on name n text after more lines (Err (NotUtf8 place)) e is h = h
any_on name n text after more lines (Err (Notation l kind)) e is h =
    subst (λ (x : Lines). IsHeader x (EndsTheHeader (Err (Notation l kind))) (IsBadIn (Err (Notation l kind)))) (sym e) (inl (name, is, h))
any_on name n text after more lines (Ok x) e is h = subst (λ (y : Lines). IsHeader y (EndsTheHeader (Ok x)) (IsBadIn (Ok x))) (sym e) (inl (name, is, h))

pub any_read : (name : List ℕ) (n : ℕ) (text after : List ℕ) (more lines : Lines) (result : Result (ExtensionHeader × Rest) OutlineError) → lines ≡ line n text after more
    → IsRow files.Extension text (Extension name) → IsLanguageRead name more result → IsAnyHeaderRead lines result
any_read name n text after more lines result e is h = any_on name n text after more lines (read_header result) e is h

-- ---- other outcomes

-- what comes of a header may say less
pub uses_to : (Next Later : HeaderData → Lines → Type 0) (Bad Worse : ℕ → Kind → Type 0) → ((h : HeaderData) (lines : Lines) → Next h lines → Later h lines)
    → ((n : ℕ) (bad : Kind) → Bad n bad → Worse n bad) → (h : HeaderData) (lines : Lines) → AreUses h lines Next Bad → AreUses h lines Later Worse
uses_to Next Later Bad Worse f g h (over n) x = f h (over n) x
uses_to Next Later Bad Worse f g h (line n text after more) (inl x) = inl (x.0, x.1, uses_to Next Later Bad Worse f g (with_use h x.0) more x.2)
uses_to Next Later Bad Worse f g h (line n text after more) (inr (inl x)) = inr (inl (x.0, x.1, g n Shape x.2))
uses_to Next Later Bad Worse f g h (line n text after more) (inr (inr x)) = inr (inr (x.0, f h (line n text after more) x.1))

pub language_to : (Next Later : HeaderData → Lines → Type 0) (Bad Worse : ℕ → Kind → Type 0) → ((h : HeaderData) (lines : Lines) → Next h lines → Later h lines)
    → ((n : ℕ) (bad : Kind) → Bad n bad → Worse n bad) → (name : List ℕ) (lines : Lines) → IsLanguageNext name lines Next Bad → IsLanguageNext name lines Later Worse
language_to Next Later Bad Worse f g name (over n) x = g n Head x
language_to Next Later Bad Worse f g name (line n text after more) (inl x) = inl (x.0, x.1, uses_to Next Later Bad Worse f g (header_begun name x.0) more x.2)
language_to Next Later Bad Worse f g name (line n text after more) (inr x) = inr (x.0, g n Head x.1)

pub named_to : (Next Later : HeaderData → Lines → Type 0) (Bad Worse : ℕ → Kind → Type 0) → ((h : HeaderData) (lines : Lines) → Next h lines → Later h lines)
    → ((n : ℕ) (bad : Kind) → Bad n bad → Worse n bad) → (name : List ℕ) (lines : Lines) → IsHeaderOf name lines Next Bad → IsHeaderOf name lines Later Worse
named_to Next Later Bad Worse f g name (over n) x = g n Head x
named_to Next Later Bad Worse f g name (line n text after more) (inl x) = inl (x.0, language_to Next Later Bad Worse f g name more x.1)
named_to Next Later Bad Worse f g name (line n text after more) (inr x) = inr (x.0, g n Head x.1)

pub header_to : (Next Later : HeaderData → Lines → Type 0) (Bad Worse : ℕ → Kind → Type 0) → ((h : HeaderData) (lines : Lines) → Next h lines → Later h lines)
    → ((n : ℕ) (bad : Kind) → Bad n bad → Worse n bad) → (lines : Lines) → IsHeader lines Next Bad → IsHeader lines Later Worse
header_to Next Later Bad Worse f g (over n) x = g n Head x
header_to Next Later Bad Worse f g (line n text after more) (inl x) = inl (x.0, x.1, language_to Next Later Bad Worse f g x.0 more x.2)
header_to Next Later Bad Worse f g (line n text after more) (inr x) = inr (x.0, g n Head x.1)

-- ---- the file

pub ok_same : (a b : HeaderData × Lines) (r : Result (HeaderData × Lines) OutlineError) → r ≡ Ok a → r ≡ Ok b → a ≡ b
ok_same a b r e f = cc

pub ok_bad : (a : HeaderData × Lines) (e : OutlineError) (r : Result (HeaderData × Lines) OutlineError) → r ≡ Ok a → r ≡ Err e → ⊥
ok_bad a e r f g = cc

pub bad_same : (a b : OutlineError) (r : Result (HeaderData × Lines) OutlineError) → r ≡ Err a → r ≡ Err b → a ≡ b
bad_same a b r e f = cc

-- the header of what was read
abbrev pub first_of : Result (ExtensionHeader × Rest) OutlineError → Result ExtensionHeader OutlineError
first_of (Ok x) = Ok x.0
first_of (Err e) = Err e

pub header_read : (name bytes : List ℕ) (result : Result (ExtensionHeader × Rest) OutlineError) (lines : Lines) → lines ≡ kept_lines (lines_from 1 bytes) → IsUtf8 bytes → IsNamedHeaderRead name lines result
    → IsHeaderRead name bytes (first_of result)
header_read name bytes result lines e utf8 k = by result (subst (λ x. IsNamedHeaderRead name x result) e k)
  where
    by : (result : Result (ExtensionHeader × Rest) OutlineError) → IsNamedHeaderRead name (kept_lines (lines_from 1 bytes)) result → IsHeaderRead name bytes (first_of result)
    by (Ok x) k = (
      utf8,
      named_to (EndsTheHeader (Ok (header x.0, kept_lines (left x.1)))) (λ h lines. Ok (header x.0) ≡ Ok h) (IsBadIn (Ok (header x.0, kept_lines (left x.1)))) (λ n bad. Ok (header x.0) ≡ Err (Notation n bad))
          (λ h lines e. ap (λ (y : HeaderData × Lines). Ok y.0) (ok_same (header x.0, kept_lines (left x.1)) (h, lines) (Ok (header x.0, kept_lines (left x.1))) refl e))
          (λ n bad e. absurd (ok_bad (header x.0, kept_lines (left x.1)) (Notation n bad) (Ok (header x.0, kept_lines (left x.1))) refl e)) name (kept_lines (lines_from 1 bytes)) k,
    )
    by (Err Memory) k = tt
    by (Err (NotUtf8 place)) k = absurd k
    by (Err (Notation l kind)) k = (
      utf8,
      named_to (EndsTheHeader (Err (Notation l kind))) (λ h lines. Err (Notation l kind) ≡ Ok h) (IsBadIn (Err (Notation l kind))) (λ n bad. Err (Notation l kind) ≡ Err (Notation n bad))
          (λ h lines e. absurd (ok_bad (h, lines) (Notation l kind) (Err (Notation l kind)) e refl)) (λ n bad e. ap Err (bad_same (Notation l kind) (Notation n bad) (Err (Notation l kind)) refl e)) name (kept_lines (lines_from 1 bytes)) k,
    )
