-- The rows of an interface stand on their lines.
use Rattle.std.proofs.Common.{◌≡◌, ℕ, zero, suc, ◌+◌, ◌-◌, List, [], ◌∷◌, ◌++◌, length, refl, ap}
use Rattle.std.proofs.Common.{◌∙◌, arith}
use Rattle.std.specs.Prelude.{Some, codes, slice_get}
use Rattle.std.proofs.lemmas.List.{length-map}
use Rattle.sx_grammar.specs.Grammar.{Text}
use Rattle.sx_interface.specs.Interfaces.{InterfaceParts, MarkData, first_lines, interface_lines}
use Rattle.sx_interface.specs.Interfaces.{mark_lines, mark_text}
use Rattle.sx_environment.specs.declared.row.Row.{Row}
use Rattle.sx_environment.specs.declared.row.Row.TheVariants.{Signature, Stated}
use Rattle.sx_environment.specs.Alike.{RowsHaveLines}
use Rattle.sx_environment.specs.Seen.{row_line, import_row_text}

behind : (xs ys : List Text) (n k : ℕ) → n ≡ length xs + k →
    slice_get (xs ++ ys) n ≡ slice_get ys k
behind [] ys n k e = let same : n ≡ k = omega (arith, e) in ap (slice_get ys) same
behind (x ∷ xs) ys zero k e = absurd (omega (arith, e))
behind (x ∷ xs) ys (suc n) k e = behind xs ys n k (omega (arith, e))

as_many : (front : Text) (marks : List MarkData) → length (mark_lines front marks) ≡ length marks
as_many front marks = length-map marks (λ m. front ++ mark_text m)

-- what stands behind three lines, some, one more and some
behind_second : (a b c base : Text) (uses imports end : List Text) (n k : ℕ) →
    n ≡ 4 + (length uses + (length imports + k)) →
    slice_get (a ∷ b ∷ c ∷ (uses ++ base ∷ (imports ++ end))) n ≡ slice_get end k
behind_second a b c base uses imports end n k e =
    let begin : n ≡ suc (suc (suc (length uses + suc (length imports + k)))) = omega (arith, e) in
    ap (slice_get (a ∷ b ∷ c ∷ (uses ++ base ∷ (imports ++ end)))) begin
    ∙ behind uses (base ∷ (imports ++ end)) (length uses + suc (length imports + k))
    (suc (length imports + k)) refl
    ∙ behind imports end (length imports + k) k refl

-- behind four lines and some
behind_first : (a b c d : Text) (imports end : List Text) (n k : ℕ) →
    n ≡ 4 + (length imports + k) →
    slice_get (a ∷ b ∷ c ∷ d ∷ (imports ++ end)) n ≡ slice_get end k
behind_first a b c d imports end n k e =
    let begin : n ≡ suc (suc (suc (suc (length imports + k)))) = omega (arith, e) in
    ap (slice_get (a ∷ b ∷ c ∷ d ∷ (imports ++ end))) begin
    ∙ behind imports end (length imports + k) k refl

second_at : (it : InterfaceParts) (n k : ℕ) → n ≡ 4 + (length it.uses + (length it.imports + k)) →
    slice_get (interface_lines it) n
    ≡ slice_get (codes "---" ∷ it.signature ∷ it.stated ∷ []) k
second_at it n k e =
    let us = as_many (codes "use ") it.uses in
    let is = as_many (codes "import ") it.imports in
    behind_second _ _ _ _ (mark_lines (codes "use ") it.uses)
    (mark_lines (codes "import ") it.imports)
    (codes "---" ∷ it.signature ∷ it.stated ∷ []) n k (omega (arith, e, us, is))

first_at : (it : InterfaceParts) (n k : ℕ) → n ≡ 4 + (length it.imports + k) →
    slice_get (first_lines it) n ≡ slice_get (codes "---" ∷ it.signature ∷ []) k
first_at it n k e =
    let is = as_many (codes "import ") it.imports in
    behind_first _ _ _ _ (mark_lines (codes "import ") it.imports)
    (codes "---" ∷ it.signature ∷ []) n k (omega (arith, e, is))

second_has : (it : InterfaceParts) (row : Row) →
    slice_get (interface_lines it) (row_line it row - 1) ≡ Some (import_row_text it row)
second_has it Signature = second_at it (row_line it Signature - 1) 1 (omega arith)
second_has it Stated = second_at it (row_line it Stated - 1) 2 (omega arith)

first_has : (it : InterfaceParts) → it.uses ≡ [] →
    slice_get (first_lines it) (row_line it Signature - 1) ≡ Some it.signature
first_has it none =
    let no_uses = ap length none in
    first_at it (row_line it Signature - 1) 1 (omega (arith, no_uses))

pub rows_have_lines : RowsHaveLines
rows_have_lines = record { first = first_has; second = second_has }
