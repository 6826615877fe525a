-- What the readings of all tokens come to.
use Rattle.std.specs.Prelude.{◌≡◌, List, ℕ, true}
use Rattle.std.specs.Cmp.Lexicographic.{slice_cmp}
use Rattle.std.specs.Ordering.{is_le, nat_cmp}
use Rattle.sx_grammar.specs.Grammar.{Text, Grammar, Token, production_of}
use Rattle.sx_grammar.specs.Reading.{Reading, ReadsWhole}
use Rattle.sx_grammar.specs.ReadOne.{IsAnswer, only, too_hard, no_reading, too_deep, ambiguous}
use Rattle.sx_earley.specs.declared.span.Span.{Span}
use Rattle.sx_earley.specs.Chart.{IsOfSort}
use Rattle.sx_earley.specs.Completed.{head_of}
use Rattle.sx_earley.specs.declared.chart_error.ChartError.{ChartError}
use Rattle.sx_earley.specs.declared.chart_error.ChartError.TheVariants as chart
use Rattle.sx_forest.specs.declared.judged.Judged.{Judged}
use Rattle.sx_forest.specs.declared.judged.Judged.TheVariants as judged
use Rattle.sx_forest.specs.declared.found.Found.{Found}
use Rattle.sx_forest.specs.declared.found.Found.TheVariants as found
use Rattle.sx_forest.specs.declared.read_error.ReadError.{ReadError}
use Rattle.sx_forest.specs.declared.read_error.ReadError.TheVariants.{Memory, TooHard, NoReading}
use Rattle.sx_forest.specs.declared.read_error.ReadError.TheVariants.{TooDeep, Ambiguous}
use Rattle.sx_forest.specs.Readings.{plain_reading}
use Rattle.sx_forest.specs.Text.{tree_text}

-- the span is of all of n tokens, by a head that makes the sort
abbrev pub IsWholeSpan : Grammar → (start n : ℕ) → Span → Type 0
IsWholeSpan g start n s = (s.from ≡ 0) × (s.to ≡ n) ×
    IsOfSort (production_of g (head_of s.of)) start 0

-- there is no reading, one is too deep, there is one, or there are two
abbrev pub IsVerdict : Grammar → List Token → ℕ → Judged → Type 0
IsVerdict g tokens start judged.Nothing = (r : Reading) → ReadsWhole g tokens start r → ⊥
IsVerdict g tokens start (judged.TooDeep depth) = IsAnswer g tokens start (too_deep depth)
IsVerdict g tokens start judged.One = (r : Reading) × IsAnswer g tokens start (only r)
IsVerdict g tokens start judged.More = (one : Reading) × (other : Reading) ×
    IsAnswer g tokens start (ambiguous one other)

-- why there is no chart is why there is no reading
abbrev pub as_refusal : ChartError → ReadError
as_refusal chart.Memory = Memory
as_refusal chart.TooHard = TooHard

-- the first text is not after the second by bytes
abbrev pub IsNotAfter : Text → Text → Type 0
IsNotAfter one other = is_le (slice_cmp nat_cmp one other) ≡ true

-- the refusal is the answer for the tokens, out of memory aside; labels and texts are those of the
-- grammar and the tokens
abbrev pub IsReadRefusal : (labels texts : List Text) → Grammar → List Token → ℕ → ReadError →
    Type 0
IsReadRefusal labels texts g tokens start Memory = Unit {0}
IsReadRefusal labels texts g tokens start TooHard = IsAnswer g tokens start too_hard
IsReadRefusal labels texts g tokens start (NoReading end) = IsAnswer g tokens start (no_reading end)
IsReadRefusal labels texts g tokens start (TooDeep depth) = IsAnswer g tokens start (too_deep depth)
IsReadRefusal labels texts g tokens start (Ambiguous one other) =
    IsAnswer g tokens start (ambiguous (plain_reading one) (plain_reading other)) ×
    IsNotAfter (tree_text labels texts (plain_reading one))
    (tree_text labels texts (plain_reading other))

-- the only reading is the answer, or two readings are
abbrev pub IsFound : Grammar → List Token → ℕ → Found → Type 0
IsFound g tokens start (found.Only r) = IsAnswer g tokens start (only (plain_reading r))
IsFound g tokens start (found.Two one other) =
    IsAnswer g tokens start (ambiguous (plain_reading one) (plain_reading other))
