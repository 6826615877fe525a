-- The header of a base file is read back.
use Rattle.std.proofs.Common.{◌≡◌, ℕ, false, true, List, [], ◌∷◌, ◌++◌, codes, refl, sym, ap}
use Rattle.std.proofs.Common.{◌∙◌, subst, append_assoc}
use Rattle.std.specs.List.{AllByRecursion}
use Rattle.std.proofs.lemmas.Grind.{flat_map-append}
use Rattle.sx_lines.specs.Bytes.{is_skipped}
use Rattle.sx_lines.specs.Lines.{Lines, line, next_number, lines_from, IsLineText}
use Rattle.sx_lines.specs.Reading.{kept, written}
use Rattle.sx_lines.specs.Takes.{Takes, EndsWith}
use Rattle.sx_lines.specs.Words.{is_name}
use Rattle.sx_lines.proofs.KeptLaws.{kept-line}
use Rattle.sx_lines.proofs.LineLaws.{first_line}
use Rattle.sx_lines.proofs.TextLaws.{IsPlain, IsPlain-append, plain_text, plain_from_test}
use Rattle.sx_lines.proofs.TextLaws.{name_no_blank, no_blank_plain, all_inner}
use Rattle.sx_interface.specs.Headers.{HeaderParts}
use Rattle.sx_interface.specs.StatedHeader.{ArePlainNames, row_lines, header_lines, StatesHeader}
use Rattle.sx_unit.specs.Texts.{base_bytes}

-- a text that stands on a line of its own and is no blank line and no comment
record StandsOnLine (text : List ℕ) : Type 0 where
  line : IsLineText text
  told : is_skipped text ≡ false

-- ---- lines that were written

first_kept : (n : ℕ) (text more : List ℕ) → StandsOnLine text →
    kept (lines_from n ((text ++ 10 ∷ []) ++ more)) ≡
    line n text more (kept (lines_from (next_number n) more))
first_kept n text more h =
    let bytes = (text ++ 10 ∷ []) ++ more in
    let first : lines_from n bytes ≡ line n text more (lines_from (next_number n) more) =
    ap (lines_from n) (append_assoc text (10 ∷ []) more) ∙ first_line n text more h.line.feed
    ∙ ap (λ (t : List ℕ). line n t more (lines_from (next_number n) more)) h.line.end in
    kept-line n text more (lines_from (next_number n) more) (lines_from n bytes) (lines_from n bytes) refl
    first h.told

takes_written : (n : ℕ) (front : List (List ℕ)) (more : List ℕ) →
    AllByRecursion StandsOnLine front → (m : ℕ) ×
    Takes front (kept (lines_from n (written front ++ more))) (kept (lines_from m more))
takes_written n [] more h = (n, refl)
takes_written n (text ∷ front) more h =
    let rest = takes_written (next_number n) front more h.1 in
    let behind = written front ++ more in
    let first : kept (lines_from n (written (text ∷ front) ++ more)) ≡
    line n text behind (kept (lines_from (next_number n) behind)) =
    ap (λ (b : List ℕ). kept (lines_from n b)) (append_assoc (text ++ 10 ∷ []) (written front) more)
    ∙ first_kept n text behind h.0 in (
      rest.0,
      subst (λ (l : Lines). Takes (text ∷ front) l (kept (lines_from rest.0 more))) (sym first)
          (refl, rest.1),
    )

-- ---- the lines of a header

plain_name : (name : List ℕ) → is_name false name ≡ true → IsPlain name
plain_name name h = no_blank_plain name (name_no_blank false name h)

plain_row : (front name : List ℕ) → all_inner front ≡ true → is_name false name ≡ true →
    IsLineText (front ++ name)
plain_row front name test h =
    plain_text (front ++ name)
    (IsPlain-append front name (plain_from_test front test) (plain_name name h))

module_line : (name : List ℕ) → is_name false name ≡ true → StandsOnLine (codes "module " ++ name)
unfolding is_skipped
module_line name h = record { line = plain_row (codes "module ") name refl h; told = refl }

language_line : (name : List ℕ) → is_name false name ≡ true →
    StandsOnLine (codes "language " ++ name)
unfolding is_skipped
language_line name h = record { line = plain_row (codes "language ") name refl h; told = refl }

import_line : (name : List ℕ) → is_name false name ≡ true → StandsOnLine (codes "import " ++ name)
unfolding is_skipped
import_line name h = record { line = plain_row (codes "import ") name refl h; told = refl }

end_line : StandsOnLine (codes "---")
unfolding is_skipped
end_line = record {
  line = plain_text (codes "---") (plain_from_test (codes "---") refl);
  told = refl;
}

rows_stand : (names : List (List ℕ)) → ArePlainNames names →
    AllByRecursion StandsOnLine (row_lines (codes "import ") names)
rows_stand [] h = tt
rows_stand (name ∷ names) h = (import_line name h.0, rows_stand names h.1)

-- ---- the header

-- the header of a base file: that of its module without `use` lines, with this body and the number
-- of its first line
abbrev pub base_header : HeaderParts → List ℕ → ℕ → HeaderParts
base_header h body number = record {
  name = h.name;
  language = h.language;
  uses = [];
  imports = h.imports;
  body = body;
  line = number;
}

-- the base file of a module states the header of the module without its `use` lines
pub base_states : (name : List ℕ) (lines : Lines) (h : HeaderParts) (shown : List ℕ) →
    is_name false name ≡ true → StatesHeader name lines h → (number : ℕ) ×
    StatesHeader name (kept (lines_from 1 (base_bytes h shown)))
    (base_header h (shown ++ 10 ∷ []) number)
base_states name lines h shown is_a_name states =
    let body = shown ++ 10 ∷ [] in
    let front = header_lines (base_header h body 0) in
    let ended = (codes "---" ++ 10 ∷ []) ++ body in
    let named = subst (λ (n : List ℕ). is_name false n ≡ true) (sym states.same) is_a_name in
    let taken = takes_written 1 front ended (
      module_line h.name named,
      (language_line h.language states.language, rows_stand h.imports states.imports),
    ) in
    let parts : base_bytes h shown ≡ written front ++ ended =
    ap (λ (b : List ℕ). b ++ body)
    (flat_map-append (λ (text : List ℕ). text ++ 10 ∷ []) front (codes "---" ∷ []))
    ∙ append_assoc (written front) (codes "---" ++ 10 ∷ []) body in (
      next_number taken.0,
      record {
        same = states.same;
        middle = kept (lines_from taken.0 ended);
        takes = subst (λ (b : List ℕ). Takes front (kept (lines_from 1 b))
            (kept (lines_from taken.0 ended))) (sym parts) taken.1;
        end = subst (λ (l : Lines). EndsWith (codes "---") (next_number taken.0) body l)
            (sym (first_kept taken.0 (codes "---") body end_line)) (refl, refl, refl);
        language = states.language;
        uses = tt;
        imports = states.imports;
        distinct_uses = tt;
        distinct_imports = states.distinct_imports;
      },
    )
