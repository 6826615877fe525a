-- The lines of a text are no longer than the text, and no more than its bytes.
use Rattle.std.proofs.Common.{ℕ, ◌+◌, ◌≤◌, ◌&&◌, ◌==◌, Bool, true, false, List, [], ◌∷◌, length}
use Rattle.std.proofs.Common.{arith}
use Rattle.std.specs.Prelude.{if◌then◌else◌}
use Rattle.sx_lines.specs.Bytes.{line_feed, carriage_return, is_skipped}
use Rattle.sx_lines.specs.Lines.{Lines, over, line, next_number, ends_here, with_byte}
use Rattle.sx_lines.specs.Lines.{lines_from, line_texts}
use Rattle.sx_lines.specs.Reading.{kept}

-- each text has at most so many bytes
abbrev pub AreShort : ℕ → List (List ℕ) → Type 0
AreShort n [] = Unit {0}
AreShort n (text ∷ more) = (length text ≤ n) × AreShort n more

short_more : (n m : ℕ) (some_texts : List (List ℕ)) → n ≤ m → AreShort n some_texts →
    AreShort m some_texts
short_more n m [] l h = tt
short_more n m (text ∷ more) l h =
    (let k : length text ≤ n = h.0 in omega arith, short_more n m more l h.1)

short_with : (b n m : ℕ) (lines : Lines) → n + 1 ≤ m → AreShort n (line_texts lines) →
    AreShort m (line_texts (with_byte b lines))
unfolding with_byte
short_with b n m (over k) l h = (omega arith, tt)
short_with b n m (line k text after more) l h =
    (let i : length text ≤ n = h.0 in omega arith, short_more n m (line_texts more) (omega arith) h.1)

short_when : (n : ℕ) (test : Bool) (one other : Lines) → AreShort n (line_texts one) →
    AreShort n (line_texts other) → AreShort n (line_texts (if test then one else other))
short_when n true one other h k = h
short_when n false one other h k = k

-- each line is no longer than the text
pub lines_short : (k : ℕ) (bytes : List ℕ) → AreShort (length bytes) (line_texts (lines_from k bytes))
unfolding lines_from
lines_short k [] = tt
lines_short k (b ∷ bytes) =
    let n = length (b ∷ bytes) in
    short_when n (b == line_feed) (line k [] bytes (lines_from (next_number k) bytes))
    (if b == carriage_return && ends_here bytes then lines_from k bytes else with_byte b
    (lines_from k bytes)) (
      omega arith,
      short_more (length bytes) n (line_texts (lines_from (next_number k) bytes)) (omega arith)
          (lines_short (next_number k) bytes),
    )
    (short_when n (b == carriage_return && ends_here bytes) (lines_from k bytes)
    (with_byte b (lines_from k bytes))
    (short_more (length bytes) n (line_texts (lines_from k bytes)) (omega arith) (lines_short k bytes))
    (short_with b (length bytes) n (lines_from k bytes) (omega arith) (lines_short k bytes)))

few_with : (b n m : ℕ) (lines : Lines) → n + 1 ≤ m → length (line_texts lines) ≤ n →
    length (line_texts (with_byte b lines)) ≤ m
unfolding with_byte
few_with b n m (over k) l h = omega arith
few_with b n m (line k text after more) l h = omega arith

few_when : (n : ℕ) (test : Bool) (one other : Lines) → length (line_texts one) ≤ n →
    length (line_texts other) ≤ n → length (line_texts (if test then one else other)) ≤ n
few_when n true one other h k = h
few_when n false one other h k = k

-- there are no more lines than bytes
pub lines_few : (k : ℕ) (bytes : List ℕ) → length (line_texts (lines_from k bytes)) ≤ length bytes
unfolding lines_from
lines_few k [] = omega arith
lines_few k (b ∷ bytes) =
    let n = length (b ∷ bytes) in
    let next = lines_few (next_number k) bytes in
    let here = lines_few k bytes in
    few_when n (b == line_feed) (line k [] bytes (lines_from (next_number k) bytes))
    (if b == carriage_return && ends_here bytes then lines_from k bytes else with_byte b
    (lines_from k bytes))
    (omega arith)
    (few_when n (b == carriage_return && ends_here bytes) (lines_from k bytes)
    (with_byte b (lines_from k bytes)) (omega arith)
    (few_with b (length bytes) n (lines_from k bytes) (omega arith) here))

-- so are those that are kept
pub kept_short : (n : ℕ) (lines : Lines) → AreShort n (line_texts lines) →
    AreShort n (line_texts (kept lines))
unfolding kept
kept_short n (over k) h = tt
kept_short n (line k text after more) h =
    short_when n (is_skipped text) (kept more) (line k text after (kept more))
    (kept_short n more h.1) (h.0, kept_short n more h.1)
