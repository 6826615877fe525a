-- The names and the digests that the interface of a unit has.
use Rattle.std.proofs.Common.{◌≡◌, ℕ, ◌||◌, Bool, true, false, List, [], ◌∷◌, ◌++◌, map, inl, inr}
use Rattle.std.proofs.Common.{Contains, refl, sym, ap, ◌∙◌, subst, append_assoc}
use Rattle.std.specs.Prelude.{Result, Ok, Err}
use Rattle.std.specs.List.{AllByRecursion}
use Rattle.std.specs.Str.{bytes_eq}
use Rattle.std.proofs.lemmas.Bool.{false_from_ne_true}
use Rattle.std.proofs.lemmas.List.{map-append}
use Rattle.std.proofs.lemmas.Slice.Eq.{bytes_eq-Decides}
use Rattle.sx_lines.specs.declared.kind.Kind.TheVariants.{Head}
use Rattle.sx_lines.specs.Lines.{Lines, over, line, lines_from}
use Rattle.sx_lines.specs.Rows.{has_key, EachNew}
use Rattle.sx_lines.specs.Words.{is_name}
use Rattle.sx_grammar.proofs.Finding.{is_head, past_head}
use Rattle.sx_interface.specs.Interfaces.{MarkData}
use Rattle.sx_interface.specs.Stated.{IsDigest, IsStatedMark}
use Rattle.sx_interface.specs.StatedHeader.{ArePlainNames}
use Rattle.sx_outline.specs.declared.outline_error.OutlineError.{OutlineError}
use Rattle.sx_outline.specs.declared.outline_error.OutlineError.TheVariants.{Notation}
use Rattle.sx_outline.specs.Headers.{HeaderData, IsHeaderOf}
use Rattle.sx_outline.specs.Known.{kept_lines}
use Rattle.sx_outside.specs.Files.{Files}
use Rattle.sx_steps.specs.Held.{Held}
use Rattle.sx_term.specs.Limits.{most_bytes}
use Rattle.sx_steps.proofs.Ones.{ok_no_err}
use Rattle.sx_steps.proofs.StepsOn.{went}
use Rattle.sx_uses.specs.ExtensionFile.{Extension, extension_file}
use Rattle.sx_uses.specs.Laws.{use_names, StandsAfterUses, AreExtensionsRead}
use Rattle.sx_uses.specs.ReadExtension.{StatesExtension, ReadsFile, IsFor, ReadsExtension}
use Rattle.sx_importing.specs.ReadImports.{ImportData, import_mark}
use Rattle.sx_compiling.specs.Given.{use_mark}
use Rattle.sx_compiling.proofs.Digests.{digest_is}

-- ---- extensions

-- the name under which the lines state a header is one
module _ (x : HeaderData) where
  abbrev answer : Result HeaderData OutlineError
  answer = Ok x

  header_name : (name : List ℕ) (lines : Lines) →
      IsHeaderOf name lines (λ h left. answer ≡ Ok h)
      (λ number bad. answer ≡ Err (Notation number bad)) → is_name false name ≡ true
  header_name name (over end) e = absurd (ok_no_err x (Notation end Head) e)
  header_name name (line number text after more) (inl u) = u.0.follows.named
  header_name name (line number text after more) (inr u) =
      absurd (ok_no_err x (Notation number Head) u.1)

extension_name : (language : List ℕ) (files : Files) (name : List ℕ) (x : Extension) →
    ReadsExtension language files name (Ok x) → is_name false name ≡ true
extension_name language files name x read =
    let file = went (ReadsFile files name) (IsFor language name) x read in
    let held = went (Held most_bytes (extension_file name) files) (StatesExtension name) file.given
    file.begins in
    header_name file.given.header name (kept_lines (lines_from 1 held.given)) held.goes.states.1

-- the marks of extensions that are read
pub uses_are_marks : (language : List ℕ) (files : Files) (xs : List Extension) →
    AreExtensionsRead language files xs → AllByRecursion IsStatedMark (map use_mark xs)
uses_are_marks language files [] read = tt
uses_are_marks language files (x ∷ xs) read = (
  record {
    name = extension_name language files x.header.name x read.0;
    digest = digest_is x.bytes;
  },
  uses_are_marks language files xs read.1,
)

-- ---- names that are new

other_name : (one other : List ℕ) → (one ≡ other → ⊥) → bytes_eq one other ≡ false
other_name one other differ =
    false_from_ne_true (bytes_eq one other) (λ same. differ ((bytes_eq-Decides one other).0 same))

use_is_new : (before : List Extension) (name : List ℕ) → ¬ (Contains (use_names before) name) →
    has_key (λ m. m.name) (map use_mark before) name ≡ false
unfolding has_key
use_is_new [] name none = refl
use_is_new (x ∷ before) name none =
    let here = other_name x.header.name name (λ same. none (subst (λ (n : List ℕ).
    Contains (use_names (x ∷ before)) n) same (is_head x.header.name (use_names before)))) in
    let later = use_is_new before name
    (λ has. none (past_head x.header.name (use_names before) name has)) in
    rw (here, later) refl

-- of extensions that each stand once
pub uses_are_new : (before xs : List Extension) →
    ((front rest : List Extension) (x : Extension) → before ++ xs ≡ front ++ x ∷ rest →
    StandsAfterUses front x) →
    EachNew (λ m. m.name) (map use_mark before) (map use_mark xs)
uses_are_new before [] all = tt
uses_are_new before (x ∷ xs) all = (
  use_is_new before x.header.name (all before xs x refl).once,
  subst (λ (seen : List MarkData). EachNew (λ m. m.name) seen (map use_mark xs))
      (map-append use_mark before (x ∷ []))
      (uses_are_new (before ++ x ∷ []) xs
      (λ front rest y is. all front rest y (sym (append_assoc before (x ∷ []) xs) ∙ is))),
)

-- ---- imports

-- the name of an import
abbrev name_of : ImportData → List ℕ
name_of i = i.parts.name

same_key : (seen : List ImportData) (name : List ℕ) →
    has_key (λ x. x) (map name_of seen) name ≡ has_key (λ m. m.name) (map import_mark seen) name
unfolding has_key
same_key [] name = refl
same_key (i ∷ seen) name = ap (λ (b : Bool). bytes_eq i.parts.name name || b) (same_key seen name)

imports_after : (seen imports : List ImportData) →
    EachNew (λ x. x) (map name_of seen) (map name_of imports) →
    EachNew (λ m. m.name) (map import_mark seen) (map import_mark imports)
imports_after seen [] new = tt
imports_after seen (i ∷ imports) new = (
  sym (same_key seen i.parts.name) ∙ new.0,
  subst (λ (s : List MarkData). EachNew (λ m. m.name) s (map import_mark imports))
      (map-append import_mark seen (i ∷ []))
      (imports_after (seen ++ i ∷ []) imports
      (subst (λ (s : List (List ℕ)). EachNew (λ x. x) s (map name_of imports))
      (sym (map-append name_of seen (i ∷ []))) new.1)),
)

module _ (names : List (List ℕ)) where
  pub imports_are_new : (imports : List ImportData) → map (λ i. i.parts.name) imports ≡ names →
      EachNew (λ name. name) [] names → EachNew (λ m. m.name) [] (map import_mark imports)
  imports_are_new imports is new =
      imports_after [] imports
      (subst (λ (ns : List (List ℕ)). EachNew (λ x. x) [] ns) (sym is) new)

  marks_of : (imports : List ImportData) → ArePlainNames (map name_of imports) →
      AllByRecursion (λ i. IsDigest i.digest) imports →
      AllByRecursion IsStatedMark (map import_mark imports)
  marks_of [] named digests = tt
  marks_of (i ∷ imports) named digests =
      (record { name = named.0; digest = digests.0 }, marks_of imports named.1 digests.1)

  pub imports_are_marks : (imports : List ImportData) → map (λ i. i.parts.name) imports ≡ names →
      ArePlainNames names → AllByRecursion (λ i. IsDigest i.digest) imports →
      AllByRecursion IsStatedMark (map import_mark imports)
  imports_are_marks imports is named =
      marks_of imports (subst ArePlainNames (sym is) named)
