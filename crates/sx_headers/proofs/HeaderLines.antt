-- The numbers of lines, one line after the other.
use Rattle.std.proofs.Common.{◌≡◌, ℕ, suc, ◌+◌, ◌-◌, ◌<◌, List, sym, ap, ◌∙◌}
use Rattle.std.proofs.Common.{arith}
use Rattle.sx_lines.specs.Lines.{Lines, over, line}
use Rattle.sx_headers.specs.HeaderRows.{number_at}

pub number_past : (lines : Lines) (n place : ℕ) → lines ≡ over n → n ≡ number_at lines place
number_past lines n place is = sym (ap (λ (l : Lines). number_at l place) is)

pub number_here : (lines more : Lines) (n place : ℕ) (text after : List ℕ) →
    lines ≡ line n text after more →
    place ≡ 0 → n ≡ number_at lines place
number_here lines more n place text after is none =
    sym (ap (λ (l : Lines). number_at l place) is ∙ ap (number_at (line n text after more)) none)

-- with one line less, one place less
pub number_next : (lines more : Lines) (n row place : ℕ) (text after : List ℕ) →
    lines ≡ line n text after more →
    place < row → number_at more (row - (place + 1)) ≡ number_at lines (row - place)
number_next lines more n row place text after is lt =
    let less : row - place ≡ suc (row - (place + 1)) = omega (arith, lt) in
    sym (ap (λ (l : Lines). number_at l (row - place)) is
    ∙ ap (number_at (line n text after more)) less)
