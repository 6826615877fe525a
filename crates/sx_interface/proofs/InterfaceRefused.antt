-- The line at which an interface is refused.
use Rattle.std.proofs.Common.{◌≡◌, ℕ, ◌<◌, ◌∙◌, zero, suc, List, [], ◌∷◌, ◌++◌, codes, get_or, Option, Some, None, Result, Ok, Err, true, false, refl, subst, rules, arith}
use Rattle.std.specs.Prelude.{IfErr, IfSome}
use Rattle.hex.specs.Hex.{encode_lower}
use Rattle.sx_interface.specs.declared.error.HeaderError.{HeaderError}
use Rattle.sx_interface.specs.declared.error.HeaderError.TheVariants.{Memory, NotUtf8, Header}
use Rattle.sx_interface.specs.declared.error.HeaderError.TheVariants.{Version}
use Rattle.sx_interface.specs.declared.interfaces.Interface.{Interface}
use Rattle.sx_interface.specs.InterfaceView.{interface_view}
use Rattle.sx_interface.specs.Reading.{AnswersVersion, error_line}
use Rattle.sx_lines.specs.Lines.{Lines, line, lines_from, line_texts}
use Rattle.sx_lines.specs.FirstBad.{IsFirstBad}
use Rattle.sx_lines.specs.Words.{after, is_name}
use Rattle.sx_lines.proofs.SteadyLaws.{FirstRefused, Readable, ReadableAfter, readable_line, readable_next, readable_end, step_line, step_next, step_rows, step_end, first_bad}
use Rattle.sx_lines.proofs.TakeLaws.{the_line-takes, next_line-takes, distinct_rows-takes}
use Rattle.sx_interface.specs.declared.version.Version as versions
use Rattle.sx_interface.specs.declared.version.Version.TheVariants.{One, Two}
use Rattle.sx_interface.specs.Interfaces.{MarkData, InterfaceParts, mark_text, mark_after, digest_after}
use Rattle.sx_interface.specs.Interfaces.{version_of, use_after, interface_of, other_version}
use Rattle.sx_interface.specs.Stated.{IsDigest, IsStatedMark, StatesInterface}
use Rattle.sx_interface.proofs.MarkTexts.{mark_after-again, digest_after-again}
use Rattle.sx_interface.proofs.VersionLaws.{first_text, version_again}
use Rattle.sx_interface.proofs.InterfaceSteps.{made, from_stated, from_signature, from_signed, from_imports, from_base, from_uses, from_language, from_module, from_version, all_steps}
use Rattle.sx_interface.proofs.InterfaceParts.{by_steps, all_by_steps}
use Rattle.sx_interface.proofs.InterfaceLaws.{interface_again, interface_found}

-- ---- lines that are read after each step

zeros : List ℕ
zeros = 0 ∷ 0 ∷ 0 ∷ 0 ∷ 0 ∷ 0 ∷ 0 ∷ 0 ∷ 0 ∷ 0 ∷ 0 ∷ 0 ∷ 0 ∷ 0 ∷ 0 ∷ 0 ∷ 0 ∷ 0 ∷ 0 ∷ 0 ∷ 0 ∷ 0 ∷ 0 ∷ 0 ∷ 0 ∷ 0 ∷ 0 ∷ 0 ∷ 0 ∷ 0 ∷ 0 ∷ 0 ∷ []

-- each item is 0
abbrev AreZero : List ℕ → Type 0
AreZero [] = Unit {0}
AreZero (x ∷ xs) = (x ≡ 0) × AreZero xs

small : (xs : List ℕ) → AreZero xs → (i : ℕ) → get_or xs i 0 < 256
small [] h i = omega arith
small (x ∷ xs) h zero = omega (arith, h.0)
small (x ∷ xs) h (suc i) = small xs h.1 i

zeros_digest : IsDigest zeros
unfolding zeros
zeros_digest = record { len = refl; each = small zeros (search rules) }

some_mark : MarkData
some_mark = record { name = codes "A"; digest = zeros }

mark_named : is_name false (codes "A") ≡ true
unfolding is_name
mark_named = refl

some_mark-is : IsStatedMark some_mark
unfolding some_mark
some_mark-is = record { name = mark_named; digest = zeros_digest }

no_import : mark_after (codes "import ") (codes "---") ≡ None
unfolding mark_after after
no_import = refl

no_use : (version : versions.Version) → use_after version (codes "base " ++ encode_lower zeros) ≡ None
unfolding mark_after after
no_use One = refl
no_use Two = refl

ended : (version : versions.Version) (make : List ℕ → List ℕ → InterfaceParts) (s : List ℕ) → Readable (λ l. from_signature version make (s, l))
ended One make s = readable_end (make s s)
ended Two make s = readable_next Some (λ t l. from_stated (make s) (t, l)) [] [] refl (readable_end (make s []))

signed : (version : versions.Version) (make : List ℕ → List ℕ → InterfaceParts) → Readable (from_signed version make)
signed version make = readable_next Some (λ s l. from_signature version make (s, l)) [] [] refl (ended version make [])

imported : (version : versions.Version) (make : List ℕ → List ℕ → InterfaceParts) → ReadableAfter (mark_after (codes "import ")) (from_imports version make)
imported version make =
    let r = signed version make in
    record { lines = line 0 (codes "---") [] r.lines; unread = no_import; value = r.value; is = rw (the_line-takes (codes "---") (line 0 (codes "---") [] r.lines) r.lines (refl, refl)) r.is }

based : (version : versions.Version) (make : List MarkData → List ℕ → List ℕ → InterfaceParts) → Readable (from_base version make)
based version make =
    let r = imported version (make []) in
    record { lines = r.lines; value = r.value; is = rw (distinct_rows-takes (λ (m : MarkData). m.name) (mark_after (codes "import ")) [] r.lines r.lines [] [] refl tt tt r.unread) r.is }

used : (version : versions.Version) (make : List ℕ → List MarkData → List ℕ → List ℕ → InterfaceParts) → ReadableAfter (use_after version) (from_uses version make)
used version make =
    let r = based version (make zeros) in
    let row = codes "base " ++ encode_lower zeros in
    let all = line 0 row [] r.lines in
    record {
      lines = all;
      unread = no_use version;
      value = r.value;
      is = rw (next_line-takes (digest_after (codes "base ")) all r.lines row zeros (refl, refl) (digest_after-again (codes "base ") zeros zeros_digest)) r.is;
    }

spoken : (version : versions.Version) (make : List MarkData → List ℕ → List MarkData → List ℕ → List ℕ → InterfaceParts) → Readable (from_language version make)
spoken version make =
    let r = used version (make []) in
    record { lines = r.lines; value = r.value; is = rw (distinct_rows-takes (λ (m : MarkData). m.name) (use_after version) [] r.lines r.lines [] [] refl tt tt r.unread) r.is }

named : (version : versions.Version) (make : MarkData → List MarkData → List ℕ → List MarkData → List ℕ → List ℕ → InterfaceParts) → Readable (from_module version make)
named version make =
    readable_next (mark_after (codes "language ")) (λ m l. from_language version (make m) l) (codes "language " ++ mark_text some_mark) some_mark (mark_after-again (codes "language ") some_mark some_mark-is) (spoken version (make some_mark))

headed : (name : List ℕ) (version : versions.Version) → Readable (from_version name version)
headed name version = readable_line (codes "module " ++ name) (from_module version (made name)) (named version (made name))

-- ---- each step

end_first : (version : versions.Version) (make : List ℕ → List ℕ → InterfaceParts) (s : List ℕ) (l : Lines) (k : ℕ) → from_signature version make (s, l) ≡ Err k → FirstRefused (λ x. from_signature version make (s, x)) l k
end_first One make s l k e = step_end (make s s) l k e
end_first Two make s l k e =
    step_next Some (λ t x. from_stated (make s) (t, x)) l k [] [] refl (λ t. readable_end (make s t))
    (λ t x h. step_end (make s t) x k h) e

signed_first : (version : versions.Version) (make : List ℕ → List ℕ → InterfaceParts) (l : Lines) (k : ℕ) → from_signed version make l ≡ Err k → FirstRefused (from_signed version make) l k
signed_first version make l k e =
    step_next Some (λ s x. from_signature version make (s, x)) l k [] [] refl (ended version make)
    (λ s x h. end_first version make s x k h) e

base_first : (version : versions.Version) (make : List MarkData → List ℕ → List ℕ → InterfaceParts) (l : Lines) (k : ℕ) → from_base version make l ≡ Err k → FirstRefused (from_base version make) l k
base_first version make l k e =
    step_rows (λ (m : MarkData). m.name) (mark_after (codes "import ")) (λ ms x. from_imports version (make ms) x) l k (λ ms. imported version (make ms))
    (λ ms x h. step_line (codes "---") (from_signed version (make ms)) x k (signed version (make ms)) (λ y i. signed_first version (make ms) y k i) h) e

language_first : (version : versions.Version) (make : List MarkData → List ℕ → List MarkData → List ℕ → List ℕ → InterfaceParts) (l : Lines) (k : ℕ) → from_language version make l ≡ Err k → FirstRefused (from_language version make) l k
language_first version make l k e =
    step_rows (λ (m : MarkData). m.name) (use_after version) (λ us x. from_uses version (make us) x) l k (λ us. used version (make us))
    (λ us x h. step_next (digest_after (codes "base ")) (λ d y. from_base version (make us d) y) x k (codes "base " ++ encode_lower zeros) zeros (digest_after-again (codes "base ") zeros zeros_digest) (λ d. based version (make us d))
    (λ d y i. base_first version (make us d) y k i) h) e

version_first : (name : List ℕ) (version : versions.Version) (l : Lines) (k : ℕ) → from_version name version l ≡ Err k → FirstRefused (from_version name version) l k
version_first name version l k e =
    step_line (codes "module " ++ name) (from_module version (made name)) l k (named version (made name))
    (λ x h. step_next (mark_after (codes "language ")) (λ m y. from_language version (made name m) y) x k (codes "language " ++ mark_text some_mark) some_mark (mark_after-again (codes "language ") some_mark some_mark-is) (λ m. spoken version (made name m))
    (λ m y i. language_first version (made name m) y k i) h) e

steps_first : (name : List ℕ) (lines : Lines) (k : ℕ) → all_steps name lines ≡ Err k → FirstRefused (all_steps name) lines k
steps_first name lines k e =
    step_next version_of (λ v l. from_version name v l) lines k (first_text Two) Two (version_again Two) (headed name)
    (λ v l h. version_first name v l k h) e

interface_first : (name : List ℕ) (lines : Lines) (k : ℕ) → interface_of name lines ≡ Err k → FirstRefused (interface_of name) lines k
interface_first name lines k e =
    subst (λ (read : Lines → Result InterfaceParts ℕ). FirstRefused read lines k) (all_by_steps name) (steps_first name lines k (by_steps name lines ∙ e))

-- the line that is refused is the first bad one
pub interface_bad : (name : List ℕ) (lines : Lines) (k : ℕ) → interface_of name lines ≡ Err k → IsFirstBad (λ l. StatesInterface name (line_texts l)) lines k
interface_bad name lines k e = first_bad (λ l. StatesInterface name (line_texts l)) (interface_of name) (interface_again name) (interface_found name) lines k (interface_first name lines k e)

answer_bad : (bytes name : List ℕ) (lines : Lines) (number : Option ℕ) (r : Result Interface HeaderError) → AnswersVersion bytes number interface_view r (interface_of name lines) → IfErr r (λ e. IfSome (error_line e) (IsFirstBad (λ l. StatesInterface name (line_texts l)) lines))
answer_bad bytes name lines number (Ok it) h = tt
answer_bad bytes name lines number (Err Memory) h = tt
answer_bad bytes name lines number (Err (NotUtf8 place)) h = tt
answer_bad bytes name lines number (Err (Version n)) h = tt
answer_bad bytes name lines None (Err (Header n)) h = interface_bad name lines n h.1
answer_bad bytes name lines (Some v) (Err (Header n)) h = absurd h

pub is_bad : (bytes name : List ℕ) (r : Result Interface HeaderError) → AnswersVersion bytes (other_version (lines_from 1 bytes)) interface_view r (interface_of name (lines_from 1 bytes))
    → IfErr r (λ e. IfSome (error_line e) (IsFirstBad (λ l. StatesInterface name (line_texts l)) (lines_from 1 bytes)))
is_bad bytes name r h = answer_bad bytes name (lines_from 1 bytes) (other_version (lines_from 1 bytes)) r h
