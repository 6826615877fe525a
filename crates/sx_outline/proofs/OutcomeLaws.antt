-- What is declared after a row, and the bytes of lines.
use Rattle.std.proofs.Common.{◌≡◌, ℕ, ◌+◌, ◌≤◌, Bool, true, false, List, [], ◌∷◌, length, refl, arith}
use Rattle.std.specs.Prelude.{if◌then◌else◌, ◌==◌, ◌&&◌}
use Rattle.sx_lines.specs.Bytes.{is_blank, line_feed, carriage_return}
use Rattle.sx_lines.specs.Lines.{Lines, over, line, next_number, lines_from, ends_here}
use Rattle.sx_lines.specs.Lines as lines
use Rattle.sx_directives.specs.Parts.{parts_of, begun_part, part_with_byte}
use Rattle.sx_directives.specs.declared.row.Row.{Row}
use Rattle.sx_directives.specs.declared.row.Row.TheVariants.{Sort, Prod, Var, Form, Main, Plain}
use Rattle.sx_directives.specs.declared.row.Row.TheVariants.{Rule, End, To}
use Rattle.sx_outline.specs.Declarations.{Declared, declare}
use Rattle.sx_outline.specs.Known.{kept_lines, is_dropped}
use Rattle.sx_outline.specs.Stages.{Stage, at_start, at_declarations, at_body, at_plains, at_rules}
use Rattle.sx_outline.specs.Stages.{at_premises, at_conclusion, at_end, Numbered, RuleData, State}
use Rattle.sx_outline.specs.Stages.{state_after_row, bodied, ended}

ended_declared : (at : Stage) (d : Declared) (rules : List RuleData) (s : State) → s.declared ≡ d → (ended s at).declared ≡ d
ended_declared at_start d rules s e = e
ended_declared at_declarations d rules s e = e
ended_declared (at_body b) d rules s e = e
ended_declared at_plains d rules s e = e
ended_declared at_rules d rules s e = e
ended_declared (at_premises b) d rules s e = e
ended_declared (at_conclusion b) d rules s e = e
ended_declared (at_end r) d rules s e = e

bodied_declared : (at : Stage) (l : Numbered) (d : Declared) (s : State) → s.declared ≡ d → (bodied s at l).declared ≡ d
bodied_declared at_start l d s e = e
bodied_declared at_declarations l d s e = e
bodied_declared (at_body b) l d s e = e
bodied_declared at_plains l d s e = e
bodied_declared at_rules l d s e = e
bodied_declared (at_premises b) l d s e = e
bodied_declared (at_conclusion b) l d s e = e
bodied_declared (at_end r) l d s e = e

-- what is declared after a row
pub after_declared : (s : State) (n : ℕ) (row : Row) → (state_after_row s n row).declared ≡ declare s.declared row
after_declared s n (Sort x) = refl
after_declared s n (Prod p) = refl
after_declared s n (Var v) = refl
after_declared s n (Form f) = refl
after_declared s n (Main m) = refl
after_declared s n (Plain p) = refl
after_declared s n (Rule name) = refl
after_declared s n End = ended_declared s.stage s.declared s.rules s refl
after_declared s n (To body) = bodied_declared s.stage (record { number = n; text = body }) s.declared s refl
after_declared s n _ = refl

-- ---- the bytes of lines

pub bytes_in : Lines → ℕ
bytes_in (over n) = 0
bytes_in (line n text after more) = length text + bytes_in more

pub bytes_line : (n : ℕ) (text after : List ℕ) (more : Lines) → bytes_in (line n text after more) ≡ length text + bytes_in more
unfolding bytes_in
bytes_line n text after more = refl

-- each line has a byte
abbrev pub AreFull : Lines → Type 0
AreFull (over n) = Unit {0}
AreFull (line n text after more) = (1 ≤ length text) × AreFull more

with_byte_few : (b : ℕ) (parts : List (List ℕ)) → length (part_with_byte b parts) ≤ length parts + 1
with_byte_few b [] = omega arith
with_byte_few b (part ∷ parts) = omega arith

begun_test : (b : ℕ) (parts : List (List ℕ)) (test : Bool) → length (if test then (b ∷ []) ∷ parts else part_with_byte b parts) ≤ length parts + 1
begun_test b parts true = omega arith
begun_test b parts false = with_byte_few b parts

begun_few : (b : ℕ) (text : List ℕ) (parts : List (List ℕ)) → length (begun_part b text parts) ≤ length parts + 1
begun_few b [] parts = omega arith
begun_few b (c ∷ text) parts = begun_test b parts (is_blank c)

parts_test : (b : ℕ) (text : List ℕ) (parts : List (List ℕ)) (n : ℕ) (test : Bool) → length parts ≤ n → length (if test then parts else begun_part b text parts) ≤ n + 1
parts_test b text parts n true h = omega arith
parts_test b text parts n false h = let k : length (begun_part b text parts) ≤ length parts + 1 = begun_few b text parts in omega arith

-- a text has no more parts than bytes
pub parts_few : (text : List ℕ) → length (parts_of text) ≤ length text
unfolding parts_of
parts_few [] = omega arith
parts_few (b ∷ text) =
    let h : length (if is_blank b then parts_of text else begun_part b text (parts_of text)) ≤ length text + 1 = parts_test b text (parts_of text) (length text) (is_blank b) (parts_few text) in
    omega arith

one_part : (parts : List (List ℕ)) → is_dropped parts ≡ false → 1 ≤ length parts
one_part [] e = absurd (differ e)
  where
    differ : true ≡ false → ⊥
    differ e = cc
one_part (part ∷ parts) e = omega arith

full_test : (n : ℕ) (text after : List ℕ) (kept : Lines) (test : Bool) → is_dropped (parts_of text) ≡ test → AreFull kept → AreFull (if test then kept else line n text after kept)
full_test n text after kept true e h = h
full_test n text after kept false e h =
    let one : 1 ≤ length (parts_of text) = one_part (parts_of text) e in
    let few : length (parts_of text) ≤ length text = parts_few text in
    (omega arith, h)

pub kept_full : (all : Lines) → AreFull (kept_lines all)
unfolding kept_lines
kept_full (over n) = tt
kept_full (line n text after more) = full_test n text after (kept_lines more) (is_dropped (parts_of text)) refl (kept_full more)

kept_test : (n : ℕ) (text after : List ℕ) (kept : Lines) (most : ℕ) (test : Bool) → bytes_in kept ≤ most → bytes_in (if test then kept else line n text after kept) ≤ length text + most
unfolding bytes_in
kept_test n text after kept most true h = omega arith
kept_test n text after kept most false h = omega arith

kept_few : (all : Lines) → bytes_in (kept_lines all) ≤ bytes_in all
unfolding kept_lines bytes_in
kept_few (over n) = omega arith
kept_few (line n text after more) = kept_test n text after (kept_lines more) (bytes_in more) (is_dropped (parts_of text)) (kept_few more)

longer : (b : ℕ) (all : Lines) → bytes_in (lines.with_byte b all) ≤ bytes_in all + 1
unfolding bytes_in lines.with_byte
longer b (over n) = omega arith
longer b (line n text after more) = omega arith

third_test : (b : ℕ) (all : Lines) (most : ℕ) (test : Bool) → bytes_in all ≤ most → bytes_in (if test then all else lines.with_byte b all) ≤ most + 1
third_test b all most true h = omega arith
third_test b all most false h = let k : bytes_in (lines.with_byte b all) ≤ bytes_in all + 1 = longer b all in omega arith

first_test : (n b : ℕ) (bytes : List ℕ) (next all : Lines) (most : ℕ) (feed test : Bool) → bytes_in next ≤ most → bytes_in all ≤ most
    → bytes_in (if feed then line n [] bytes next else if test then all else lines.with_byte b all) ≤ most + 1
unfolding bytes_in
first_test n b bytes next all most true test h k = omega arith
first_test n b bytes next all most false test h k = third_test b all most test k

none_there : (n : ℕ) → bytes_in (over n) ≤ 0
unfolding bytes_in
none_there n = omega arith

lines_few : (n : ℕ) (bytes : List ℕ) → bytes_in (lines_from n bytes) ≤ length bytes
unfolding lines_from
lines_few n [] = none_there n
lines_few n (b ∷ bytes) =
    let h : bytes_in (lines_from n (b ∷ bytes)) ≤ length bytes + 1 =
    first_test n b bytes (lines_from (next_number n) bytes) (lines_from n bytes) (length bytes) (b == line_feed) (b == carriage_return && ends_here bytes) (lines_few (next_number n) bytes) (lines_few n bytes) in
    omega arith

-- the lines of a text have no more bytes than the text
pub kept_bytes : (bytes : List ℕ) → bytes_in (kept_lines (lines_from 1 bytes)) ≤ length bytes
kept_bytes bytes =
    let h : bytes_in (kept_lines (lines_from 1 bytes)) ≤ bytes_in (lines_from 1 bytes) = kept_few (lines_from 1 bytes) in
    let k : bytes_in (lines_from 1 bytes) ≤ length bytes = lines_few 1 bytes in
    omega arith
