-- The interface of a unit is stated by its text.
use Rattle.std.proofs.Common.{◌≡◌, ℕ, zero, suc, ◌/◌, ◌%◌, ◌<◌, ◌&&◌, Bool, true, false, ltb}
use Rattle.std.proofs.Common.{List, [], ◌∷◌, ◌++◌, codes, refl, sym, subst, arith}
use Rattle.std.specs.List.{AllByRecursion}
use Rattle.std.specs.Prelude.{slice_index}
use Rattle.std.specs.Str.{IsUtf8}
use Rattle.std.proofs.lemmas.Bool.{and_parts}
use Rattle.std.proofs.lemmas.Bool.Decides.{nat_tests}
use Rattle.std.proofs.lemmas.Str.{IsUtf8-from_ascii, IsUtf8-nil, IsUtf8-append}
use Rattle.hex.specs.Hex.{encode_lower, encode_with, lower_digits}
use Rattle.sx_term.specs.declared.sort.Sort.{Sort}
use Rattle.sx_term.specs.Tree.{Tree}
use Rattle.sx_lines.specs.Lines.{lines_from, line_texts, IsLineText}
use Rattle.sx_lines.specs.Reading.{written}
use Rattle.sx_lines.specs.Words.{is_name}
use Rattle.sx_lines.proofs.Utf8Laws.{name_utf8}
use Rattle.sx_grammar.specs.Grammar.{of_sort}
use Rattle.sx_grammar.specs.Made.{IsGrammar}
use Rattle.sx_grammar.specs.Parts.{Parts}
use Rattle.sx_earley.specs.Completed.{IsSort}
use Rattle.sx_print.proofs.Good.{tokens_good}
use Rattle.sx_rules.specs.Derivations.{Proof}
use Rattle.sx_interface.specs.Interfaces.{InterfaceParts, MarkData, mark_text, mark_lines}
use Rattle.sx_interface.specs.Interfaces.{interface_lines}
use Rattle.sx_interface.specs.Stated.{IsStatedMark, IsInterface, StatesInterface, InterfacesAreWithin}
use Rattle.sx_interface.proofs.InterfaceLaws.{interface_found}
use Rattle.sx_interface.proofs.InterfaceRound.{interface_round}
use Rattle.sx_typing.specs.Body.{ReadsOnly}
use Rattle.sx_typing.specs.Dialects.{IsDialect}
use Rattle.sx_typing.proofs.ReadSorted.{read_good}
use Rattle.sx_words.specs.declared.print_defect.PrintedPart.TheVariants.{Signature, Stated}
use Rattle.sx_unit.specs.Modules.{ModuleData}
use Rattle.sx_unit.specs.PrintedParts.{PrintedData, part_sort_of}
use Rattle.sx_unit.specs.Texts.{printed, print_text, base_text, written_interface, interface_text}
use Rattle.sx_unit.specs.Written.{UnitData, IsWritten}
use Rattle.sx_unit.proofs.PartSorts.{part_is_sort}
use Rattle.sx_unit.proofs.Shown.{sorted_fit}
use Rattle.sx_compiling.specs.Headline.{IsInterfaceText}
use Rattle.sx_compiling.proofs.Digests.{digest_is}
use Rattle.sx_compiling.proofs.LineTexts.{tokens_line}

-- ---- printed texts

-- a printed text with only one reading is that of a line
print_is_line : (p : Parts) (sort : Sort) (t : Tree) → IsGrammar p → IsSort p sort →
    ReadsOnly p sort (print_text p t) t → IsLineText (print_text p t)
print_is_line p sort t grammar is_sort (ts, r, read) =
    let good = read_good p sort (print_text p t) ts r t is_sort read in
    tokens_line p (printed p t)
    (tokens_good p [] grammar (sorted_fit p t sort is_sort good.sorted) good.lexemes (of_sort 0) 0)
    read.cut.0

-- ---- UTF-8

-- a test that each byte is ASCII, which computes
abbrev all_low : List ℕ → Bool
all_low [] = true
all_low (b ∷ text) = ltb b 128 && all_low text

low_at : (text : List ℕ) → all_low text ≡ true → (i : ℕ) → slice_index text i < 128
low_at [] h i = omega arith
low_at (b ∷ text) h zero =
    let p = and_parts (ltb b 128) (all_low text) h in grind (arith, nat_tests)
low_at (b ∷ text) h (suc i) = low_at text (and_parts (ltb b 128) (all_low text) h).1 i

low_utf8 : (text : List ℕ) → all_low text ≡ true → IsUtf8 text
low_utf8 text h = IsUtf8-from_ascii text (low_at text h)

hex_low : (bytes : List ℕ) (i : ℕ) → slice_index (encode_lower bytes) i < 128
unfolding encode_with
hex_low [] i = omega arith
hex_low (b ∷ bytes) zero = low_at lower_digits refl (b / 16)
hex_low (b ∷ bytes) (suc zero) = low_at lower_digits refl (b % 16)
hex_low (b ∷ bytes) (suc (suc i)) = hex_low bytes i

hex_utf8 : (bytes : List ℕ) → IsUtf8 (encode_lower bytes)
hex_utf8 bytes = IsUtf8-from_ascii (encode_lower bytes) (hex_low bytes)

mark_utf8 : (m : MarkData) → IsStatedMark m → IsUtf8 (mark_text m)
mark_utf8 m h =
    IsUtf8-append m.name (32 ∷ encode_lower m.digest) (name_utf8 false m.name h.name)
    (IsUtf8-append (32 ∷ []) (encode_lower m.digest) (low_utf8 (32 ∷ []) refl)
    (hex_utf8 m.digest))

row_utf8 : (front text : List ℕ) → all_low front ≡ true → IsUtf8 text → IsUtf8 (front ++ text)
row_utf8 front text low h = IsUtf8-append front text (low_utf8 front low) h

abbrev AreUtf8 : List (List ℕ) → Type 0
AreUtf8 lines = AllByRecursion IsUtf8 lines

marks_utf8 : (front : List ℕ) → all_low front ≡ true → (marks : List MarkData) →
    AllByRecursion IsStatedMark marks → (more : List (List ℕ)) → AreUtf8 more →
    AreUtf8 (mark_lines front marks ++ more)
marks_utf8 front low [] h more k = k
marks_utf8 front low (m ∷ marks) h more k =
    (row_utf8 front (mark_text m) low (mark_utf8 m h.0), marks_utf8 front low marks h.1 more k)

written_utf8 : (lines : List (List ℕ)) → AreUtf8 lines → IsUtf8 (written lines)
written_utf8 [] h = IsUtf8-nil
written_utf8 (text ∷ lines) h =
    IsUtf8-append (text ++ 10 ∷ []) (written lines)
    (IsUtf8-append text (10 ∷ []) h.0 (low_utf8 (10 ∷ []) refl)) (written_utf8 lines h.1)

interface_utf8 : (it : InterfaceParts) → is_name false it.name ≡ true → IsInterface it.name it →
    IsUtf8 it.signature → IsUtf8 it.stated → IsUtf8 (written (interface_lines it))
interface_utf8 it named h s t =
    written_utf8 (interface_lines it) (
      low_utf8 (codes "sxint 2") refl,
      (
        row_utf8 (codes "module ") it.name refl (name_utf8 false it.name named),
        (
          row_utf8 (codes "language ") (mark_text it.language) refl
              (mark_utf8 it.language h.language),
          marks_utf8 (codes "use ") refl it.uses h.uses
              ((codes "base " ++ encode_lower it.base) ∷ (mark_lines (codes "import ") it.imports
              ++ codes "---" ∷ it.signature ∷ it.stated ∷ [])) (
                row_utf8 (codes "base ") (encode_lower it.base) refl (hex_utf8 it.base),
                marks_utf8 (codes "import ") refl it.imports h.imports
                    (codes "---" ∷ it.signature ∷ it.stated ∷ [])
                    (low_utf8 (codes "---") refl, (s, (t, tt))),
              ),
        ),
      ),
    )

-- ---- the text of the interface

-- the interface of a module whose signatures are printed so
abbrev pub parts_from : ModuleData → PrintedData → InterfaceParts
parts_from m t =
    written_interface m (base_text m t) (print_text m.source.dialect.language.parts t.signature)
    (print_text m.source.dialect.parts t.stated)

module _ (within : InterfacesAreWithin) (m : ModuleData) (t : PrintedData) (q : Proof)
    (u : UnitData) (w : IsWritten m t q u) (is : IsDialect m.source.dialect)
    (base : IsGrammar m.source.dialect.language.parts) (all : IsGrammar m.source.dialect.parts)
  where
    abbrev it : InterfaceParts
    it = parts_from m t

    signature_line : IsLineText it.signature
    signature_line =
        print_is_line m.source.dialect.language.parts (part_sort_of m.source.dialect Signature)
        t.signature base (part_is_sort m.source.dialect is Signature) w.signature_good.read

    stated_line : IsLineText it.stated
    stated_line =
        print_is_line m.source.dialect.parts (part_sort_of m.source.dialect Stated) t.stated all
        (part_is_sort m.source.dialect is Stated) w.stated_good.read

    module _ (named : is_name false it.name ≡ true) (h : IsInterface it.name it) where
      states : StatesInterface it.name (line_texts (lines_from 1 (written (interface_lines it)))) it
      states =
          interface_found it.name (lines_from 1 (written (interface_lines it))) it
          (interface_round it named h signature_line stated_line)

      text_utf8 : IsUtf8 (written (interface_lines it))
      text_utf8 = interface_utf8 it named h w.signature_good.read.2.cut.0 w.stated_good.read.2.cut.0

      pub interface_told : IsInterfaceText it.name u.interface it
      interface_told = record {
        is = w.interface;
        utf8 = subst IsUtf8 (sym w.interface) text_utf8;
        states = subst (λ (b : List ℕ). StatesInterface it.name (line_texts (lines_from 1 b)) it)
            (sym w.interface) states;
        within = within 262144 it.name (interface_text m t) it w.stated_good.short states;
        digest = digest_is u.interface;
      }
