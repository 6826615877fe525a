-- The lines of a file are no longer, and no more, than its bytes.
use Rattle.std.proofs.Common.{◌≡◌, ℕ, suc, ◌+◌, ◌≤◌, ◌==◌, ◌&&◌, Bool, true, false, List, []}
use Rattle.std.proofs.Common.{◌∷◌, ◌++◌, length, sym, subst, arith}
use Rattle.std.specs.Prelude.{codes, if◌then◌else◌}
use Rattle.std.proofs.lemmas.List.{length-map, length-append}
use Rattle.hex.specs.Hex.{encode_lower}
use Rattle.sx_lines.specs.Bytes.{line_feed, carriage_return}
use Rattle.sx_lines.specs.Lines.{Lines, over, line, next_number, ends_here, with_byte, lines_from}
use Rattle.sx_lines.specs.Lines.{line_texts}
use Rattle.sx_interface.specs.declared.version.Version.{Version}
use Rattle.sx_interface.specs.declared.version.Version.TheVariants.{One, Two}
use Rattle.sx_interface.specs.Interfaces.{InterfaceParts, MarkData, lines_in, mark_lines, mark_text}
use Rattle.sx_interface.specs.Stated.{TellsAll, IsWithinSize, InterfacesAreWithin}

-- how many bytes the texts have
abbrev bytes_in : List (List ℕ) → ℕ
bytes_in [] = 0
bytes_in (t ∷ ts) = length t + bytes_in ts

bytes-append : (ts us : List (List ℕ)) → bytes_in (ts ++ us) ≡ bytes_in ts + bytes_in us
bytes-append [] us = omega arith
bytes-append (t ∷ ts) us = let rest = bytes-append ts us in omega (arith, rest)

-- the lines have at most so many bytes, and are at most as many
record AreWithin (most : ℕ) (ts : List (List ℕ)) : Type 0 where
  bytes : bytes_in ts ≤ most
  many : length ts ≤ most

-- ---- the lines of bytes

chosen : (most : ℕ) (test : Bool) (one other : Lines) → AreWithin most (line_texts one) →
    AreWithin most (line_texts other) → AreWithin most (line_texts (if test then one else other))
chosen most true one other h k = h
chosen most false one other h k = k

with_one : (most b : ℕ) (lines : Lines) → AreWithin most (line_texts lines) →
    AreWithin (suc most) (line_texts (with_byte b lines))
unfolding with_byte
with_one most b (over n) h = record { bytes = omega arith; many = omega arith }
with_one most b (line n text after more) h =
    let bytes = h.bytes in
    let many = h.many in
    record { bytes = omega (arith, bytes); many = omega (arith, many) }

one_more : (most : ℕ) (ts : List (List ℕ)) → AreWithin most ts → AreWithin (suc most) ts
one_more most ts h =
    let bytes = h.bytes in
    let many = h.many in
    record { bytes = omega (arith, bytes); many = omega (arith, many) }

an_end : (most : ℕ) (ts : List (List ℕ)) → AreWithin most ts → AreWithin (suc most) ([] ∷ ts)
an_end most ts h =
    let bytes = h.bytes in
    let many = h.many in
    record { bytes = omega (arith, bytes); many = omega (arith, many) }

within : (n : ℕ) (bytes : List ℕ) → AreWithin (length bytes) (line_texts (lines_from n bytes))
unfolding lines_from
within n [] = record { bytes = omega arith; many = omega arith }
within n (b ∷ bytes) =
    chosen (suc (length bytes)) (b == line_feed) (line n [] bytes (lines_from (next_number n) bytes)) _
    (an_end (length bytes) (line_texts (lines_from (next_number n) bytes)) (within (next_number n) bytes))
    (chosen (suc (length bytes)) (b == carriage_return && ends_here bytes) (lines_from n bytes)
    (with_byte b (lines_from n bytes))
    (one_more (length bytes) (line_texts (lines_from n bytes)) (within n bytes))
    (with_one (length bytes) b (lines_from n bytes) (within n bytes)))

-- ---- the lines of an interface

many_marks : (front : List ℕ) (marks : List MarkData) →
    length (mark_lines front marks) ≡ length marks
many_marks front marks = length-map marks (λ m. front ++ mark_text m)

interface_within : (version : Version) (most : ℕ) (it : InterfaceParts) → TellsAll version it →
    AreWithin most (lines_in version it) → IsWithinSize most it
interface_within One most it whole h =
    let imports = mark_lines (codes "import ") it.imports in
    let end = codes "---" ∷ it.signature ∷ [] in
    let sum = bytes-append imports end in
    let count = length-append imports end in
    let is = many_marks (codes "import ") it.imports in
    let bytes = h.bytes in
    let many = h.many in
    let signature : length it.signature ≤ most = omega (arith, sum, bytes) in
    record {
      signature = signature;
      stated = subst (λ (t : List ℕ). length t ≤ most) (sym whole.1) signature;
      marks = subst (λ (us : List MarkData). length us + length it.imports ≤ most) (sym whole.0)
          (omega (arith, count, is, many));
    }
interface_within Two most it whole h =
    let uses = mark_lines (codes "use ") it.uses in
    let imports = mark_lines (codes "import ") it.imports in
    let end = codes "---" ∷ it.signature ∷ it.stated ∷ [] in
    let sum = bytes-append imports end in
    let count = length-append imports end in
    let us = many_marks (codes "use ") it.uses in
    let is = many_marks (codes "import ") it.imports in
    let rest = (codes "base " ++ encode_lower it.base) ∷ (imports ++ end) in
    let all_bytes = bytes-append uses rest in
    let all_count = length-append uses rest in
    let bytes = h.bytes in
    let many = h.many in
    record {
      signature = omega (arith, sum, all_bytes, bytes);
      stated = omega (arith, sum, all_bytes, bytes);
      marks = omega (arith, count, all_count, us, is, many);
    }

pub interfaces_are_within : InterfacesAreWithin
interfaces_are_within most name bytes it short states =
    let h = within 1 bytes in
    let all = h.bytes in
    let many = h.many in
    let lines : AreWithin most (line_texts (lines_from 1 bytes)) =
    record { bytes = omega (arith, all, short); many = omega (arith, many, short) } in
    interface_within states.version most it states.whole
    (subst (AreWithin most) states.spelled lines)
