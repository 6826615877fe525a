-- The printed texts and their files.
use Rattle.std.proofs.Common.{◌≡◌, ◌≤◌, ◌+◌, ℕ, List, [], ◌∷◌, ◌++◌, length, refl, sym, subst}
use Rattle.std.proofs.Common.{arith, length-append}
use Rattle.std.specs.Prelude.{codes}
use Rattle.sx_term.specs.declared.sort.Sort.{Sort}
use Rattle.sx_grammar.specs.Parts.{Parts}
use Rattle.sx_lines.specs.Bytes.{line_feed}
use Rattle.sx_lines.specs.Reading.{written}
use Rattle.sx_interface.specs.Headers.{HeaderParts}
use Rattle.sx_interface.specs.StatedHeader.{row_lines}
use Rattle.sx_interface.specs.Interfaces.{InterfaceParts, mark_lines, interface_lines}
use Rattle.sx_words.specs.declared.print_defect.PrintedPart.{PrintedPart}
use Rattle.sx_typing.specs.declared.module_error.ModuleError.{ModuleError}
use Rattle.sx_unit.specs.declared.print_check.PrintRefusal.TheVariants.{Memory, Defect}
use Rattle.sx_unit.specs.Modules.{ModuleData}
use Rattle.sx_unit.specs.PartRefused.{IsPartRefusal}
use Rattle.sx_unit.specs.PrintedParts.{PrintedData, part_grammar_of, part_sort_of, part_term}
use Rattle.sx_unit.specs.Texts.{base_bytes}
use Rattle.sx_unit.specs.Unprinted.{IsUnprintable, IsPrintable}
use Rattle.sx_unit.specs.Written.{shown_of, file_size, IsGoodPart, IsPartDue, IsUnwritten}

-- what is measured and what is shown are those of the part
module _ (m : ModuleData) (t : PrintedData) (part : PrintedPart) (size : ℕ) (shown : List ℕ)
    (size_is : size ≡ file_size m t part) (shown_is : shown ≡ shown_of m t part) where
  abbrev p : Parts
  p = part_grammar_of m.source.dialect part

  abbrev sort : Sort
  sort = part_sort_of m.source.dialect part

  pub good_part : IsPrintable p sort size shown (part_term t part) → IsGoodPart m t part
  good_part h =
      subst (λ (text : List ℕ). IsPrintable p sort (file_size m t part) text (part_term t part))
      shown_is
      (subst (λ (n : ℕ). IsPrintable p sort n shown (part_term t part)) size_is h)

  pub bad_part : (e : ModuleError) → IsPartDue m t part → IsPartRefusal m.source.dialect part size shown
      (part_term t part) e → IsUnwritten m t e
  bad_part e due (Memory, is, bad) = subst (IsUnwritten m t) (sym is) tt
  bad_part e due (Defect defect, is, bad) = subst (IsUnwritten m t) (sym is) (
    due,
    subst (λ (text : List ℕ). IsUnprintable p sort (file_size m t part) text (part_term t part)
        defect) shown_is
        (subst (λ (n : ℕ). IsUnprintable p sort n shown (part_term t part) defect) size_is bad),
  )

-- ---- the printed texts stand in their files

along : (a b c : ℕ) → a ≤ b → b ≤ c → a ≤ c
along a b c h k = omega arith

behind_front : (front more : List ℕ) → length more ≤ length (front ++ more)
behind_front front more = omega (arith, length-append front more)

abbrev front_of : HeaderParts → List ℕ
front_of h = written ((codes "module " ++ h.name) ∷ (codes "language " ++ h.language) ∷
    (row_lines (codes "import ") h.imports ++ codes "---" ∷ []))

pub base_within : (h : HeaderParts) (shown text : List ℕ) → text ≡ base_bytes h shown →
    length (shown ++ 10 ∷ []) ≤ length text
base_within h shown text e = subst (λ (t : List ℕ). length (shown ++ 10 ∷ []) ≤ length t) (sym e)
    (behind_front (front_of h) (shown ++ 10 ∷ []))

behind_lines : (lines more : List (List ℕ)) → length (written more) ≤ length
    (written (lines ++ more))
behind_lines [] more = omega arith
behind_lines (line ∷ lines) more =
    along (length (written more)) (length (written (lines ++ more)))
    (length (written (line ∷ lines ++ more))) (behind_lines lines more)
    (behind_front (line ++ line_feed ∷ []) (written (lines ++ more)))

last_within : (signature stated : List ℕ) → length signature + (length stated + 1) ≤ length
    (written (codes "---" ∷ signature ∷ stated ∷ []))
last_within signature stated =
    omega (
      arith,
      length-append signature (line_feed ∷ []),
      length-append (signature ++ line_feed ∷ []) (written (stated ∷ [])),
      length-append stated
          (line_feed ∷ []),
      length-append (stated ++ line_feed ∷ []) [],
    )

-- the lines but the first
abbrev rest : List (List ℕ) → List (List ℕ)
rest [] = []
rest (line ∷ lines) = lines

rest_within : (lines : List (List ℕ)) → length (written (rest lines)) ≤ length (written lines)
rest_within [] = omega arith
rest_within (line ∷ lines) = behind_front (line ++ line_feed ∷ []) (written lines)

-- the last lines stand in the file, behind three, the uses, a line and the imports
end_within : (first second third base : List ℕ) (uses imports last lines : List (List ℕ)) →
    first ∷ second ∷ third ∷ (uses ++ base ∷ (imports ++ last)) ≡ lines →
    length (written last) ≤ length (written lines)
end_within first second third base uses imports last lines e =
    let size : List (List ℕ) → ℕ = λ lines. length (written lines) in
    let based = base ∷ (imports ++ last) in
    let all = uses ++ based in
    let low : size last ≤ size based = along (size last) (size (imports ++ last)) (size based)
    (behind_lines imports last) (rest_within based) in
    let middle : size last ≤ size all = along (size last) (size based) (size all) low
    (behind_lines uses based) in
    let one : size all ≤ size (third ∷ all) = rest_within (third ∷ all) in
    let two : size (third ∷ all) ≤ size (second ∷ third ∷ all) = rest_within (second ∷ third ∷ all)
    in
    let three : size (second ∷ third ∷ all) ≤ size (first ∷ second ∷ third ∷ all) =
    rest_within (first ∷ second ∷ third ∷ all) in
    subst (λ (l : List (List ℕ)). size last ≤ size l) e
    (along (size last) (size (third ∷ all)) (size (first ∷ second ∷ third ∷ all))
    (along (size last) (size all) (size (third ∷ all)) middle one)
    (along (size (third ∷ all)) (size (second ∷ third ∷ all)) (size (first ∷ second ∷ third ∷ all))
    two three))

pub signatures_within : (it : InterfaceParts) (text : List ℕ) → text ≡ written (interface_lines it)
    → length it.signature + (length it.stated + 1) ≤ length text
signatures_within it text e =
    let last = codes "---" ∷ it.signature ∷ it.stated ∷ [] in
    let within = end_within _ _ _ _ (mark_lines (codes "use ") it.uses)
    (mark_lines (codes "import ") it.imports) last (interface_lines it) refl in
    subst (λ (t : List ℕ). length it.signature + (length it.stated + 1) ≤ length t) (sym e)
    (along (length it.signature + (length it.stated + 1)) (length (written last))
    (length (written (interface_lines it))) (last_within it.signature it.stated) within)
