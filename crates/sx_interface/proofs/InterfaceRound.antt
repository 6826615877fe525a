-- What was written of an interface is read again as the same one.
use Rattle.std.proofs.Common.{◌≡◌, ℕ, true, false, List, [], ◌∷◌, ◌++◌, get_or, drop, codes, zero, suc, ◌/◌, ◌%◌, None, Ok, refl, ap, ◌∙◌, arith}
use Rattle.std.specs.List.{AllByRecursion}
use Rattle.hex.specs.Hex.{encode_lower, encode_with, lower_digits}
use Rattle.sx_lines.specs.Lines.{Lines, line, lines_from, IsLineText}
use Rattle.sx_lines.specs.Words.{after, is_name, number_within, digits_within}
use Rattle.sx_lines.specs.Reading.{written}
use Rattle.sx_lines.proofs.LineLaws.{first_line}
use Rattle.sx_lines.proofs.TextLaws.{IsInnerByte, all_inner, name_no_blank, no_blank_plain, IsPlain, IsPlain-append, plain_text, plain_from_test, lines_written}
use Rattle.sx_interface.specs.declared.version.Version.TheVariants.{Two}
use Rattle.sx_interface.specs.Interfaces.{MarkData, InterfaceParts, mark_text, mark_lines, interface_lines, interface_of, other_version}
use Rattle.sx_interface.specs.Stated.{IsStatedMark, IsInterface}
use Rattle.sx_interface.proofs.InterfaceLaws.{interface_again}

-- ---- each line is one

texts_append : (a b : List (List ℕ)) → AllByRecursion IsLineText a → AllByRecursion IsLineText b → AllByRecursion IsLineText (a ++ b)
texts_append [] b h k = k
texts_append (x ∷ a) b h k = (h.0, texts_append a b h.1 k)

plain_at : (text : List ℕ) → IsPlain text → (k : ℕ) → IsInnerByte (get_or text k 0)
plain_at [] h k = record { feed = λ e. absurd (omega arith); return = λ e. absurd (omega arith) }
plain_at (b ∷ text) h zero = h.0
plain_at (b ∷ text) h (suc k) = plain_at text h.1 k

plain_digits : (bytes : List ℕ) → IsPlain (encode_lower bytes)
unfolding encode_with
plain_digits [] = tt
plain_digits (b ∷ bytes) =
    let digit = plain_at lower_digits (plain_from_test lower_digits refl) in
    (digit (b / 16), (digit (b % 16), plain_digits bytes))

plain_name : (name : List ℕ) → is_name false name ≡ true → IsPlain name
plain_name name h = no_blank_plain name (name_no_blank false name h)

plain_mark : (m : MarkData) → IsStatedMark m → IsPlain (mark_text m)
plain_mark m h = IsPlain-append m.name (32 ∷ encode_lower m.digest) (plain_name m.name h.name) (record { feed = λ e. absurd (omega arith); return = λ e. absurd (omega arith) }, plain_digits m.digest)

plain_row : (front text : List ℕ) → all_inner front ≡ true → IsPlain text → IsLineText (front ++ text)
plain_row front text test h = plain_text (front ++ text) (IsPlain-append front text (plain_from_test front test) h)

plain_marks : (front : List ℕ) → all_inner front ≡ true → (marks : List MarkData) → AllByRecursion IsStatedMark marks → AllByRecursion IsLineText (mark_lines front marks)
plain_marks front test [] h = tt
plain_marks front test (m ∷ marks) h = (plain_row front (mark_text m) test (plain_mark m h.0), plain_marks front test marks h.1)

end_plain : (signature stated : List ℕ) → IsLineText signature → IsLineText stated → AllByRecursion IsLineText (codes "---" ∷ signature ∷ stated ∷ [])
end_plain signature stated s t = (plain_text (codes "---") (plain_from_test (codes "---") refl), (s, (t, tt)))

digests_plain : (it : InterfaceParts) → IsInterface it.name it → (more : List (List ℕ)) → AllByRecursion IsLineText more
    → AllByRecursion IsLineText (mark_lines (codes "use ") it.uses ++ (codes "base " ++ encode_lower it.base) ∷ (mark_lines (codes "import ") it.imports ++ more))
digests_plain it h more k =
    texts_append (mark_lines (codes "use ") it.uses) ((codes "base " ++ encode_lower it.base) ∷ (mark_lines (codes "import ") it.imports ++ more)) (plain_marks (codes "use ") refl it.uses h.uses)
    (plain_row (codes "base ") (encode_lower it.base) refl (plain_digits it.base), texts_append (mark_lines (codes "import ") it.imports) more (plain_marks (codes "import ") refl it.imports h.imports) k)

lines_plain : (it : InterfaceParts) → is_name false it.name ≡ true → IsInterface it.name it → IsLineText it.signature → IsLineText it.stated → AllByRecursion IsLineText (interface_lines it)
lines_plain it n h s t = (
  plain_text (codes "sxint 2") (plain_from_test (codes "sxint 2") refl),
  (
    plain_row (codes "module ") it.name refl (plain_name it.name n),
    (
      plain_row (codes "language ") (mark_text it.language) refl (plain_mark it.language h.language),
      digests_plain it h (codes "---" ∷ it.signature ∷ it.stated ∷ []) (end_plain it.signature it.stated s t),
    ),
  ),
)

-- ---- the round trip

pub interface_round : (it : InterfaceParts) → is_name false it.name ≡ true → IsInterface it.name it → IsLineText it.signature → IsLineText it.stated → interface_of it.name (lines_from 1 (written (interface_lines it))) ≡ Ok it
interface_round it n h s t =
    interface_again it.name (lines_from 1 (written (interface_lines it))) it (record { version = Two; spelled = lines_written 1 (interface_lines it) (lines_plain it n h s t); whole = tt; valid = h })

version_line : (rest : List ℕ) (more : Lines) → other_version (line 1 (codes "sxint 2") rest more) ≡ None
unfolding other_version after number_within digits_within
version_line rest more = refl

-- and its first line names no other version
pub version_round : (it : InterfaceParts) → other_version (lines_from 1 (written (interface_lines it))) ≡ None
version_round it =
    let first = first_line 1 (codes "sxint 2") (drop 8 (written (interface_lines it))) (plain_text (codes "sxint 2") (plain_from_test (codes "sxint 2") refl)).feed in
    ap other_version first ∙ version_line (drop 8 (written (interface_lines it))) (lines_from 2 (drop 8 (written (interface_lines it))))
