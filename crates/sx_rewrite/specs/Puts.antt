-- What is put for the variables of a certificate, and the answers of calls that measure terms.
use Rattle.std.specs.Prelude.{◌≡◌, ◌-◌, ◌^◌, ◌<◌, ◌≤◌, min, List, [], ◌∷◌, Option, Some, None}
use Rattle.std.specs.Prelude.{Result, Ok, Err}
use Rattle.sx_term.specs.Tree.{Tree, depth_of, size_of}
use Rattle.sx_plain.specs.declared.measure.Measure.{Measure}
use Rattle.sx_rewrite.specs.declared.rewrite_error.RewriteError.{RewriteError}
use Rattle.sx_rewrite.specs.declared.rewrite_error.RewriteError.TheVariants.{Memory, RewriteSpent}
use Rattle.sx_rewrite.specs.declared.rewrite_error.RewriteError.TheVariants.{RewriteDeep, TooDeep}
use Rattle.sx_rewrite.specs.declared.rewrite_error.RewriteError.TheVariants.{TooBig}
use Rattle.sx_rewrite.specs.Rewriting.{RewriteRefusal, too_deep, too_big}
use Rattle.sx_term.specs.Limits.{most_depth, most_size}

-- the measure is that of the term
abbrev pub IsMeasureOf : Tree → Measure → Type 0
IsMeasureOf t m = (m.depth ≡ depth_of t) × (m.size ≡ min (size_of t) (2 ^ 64 - 1))

-- so it is of each term
abbrev pub AreMeasuresOf : List Tree → List Measure → Type 0
AreMeasuresOf [] [] = Unit {0}
AreMeasuresOf (t ∷ ts) (m ∷ ms) = IsMeasureOf t m × AreMeasuresOf ts ms
AreMeasuresOf _ _ = ⊥

-- the term passes no limit
abbrev pub IsSmallTerm : Tree → Type 0
IsSmallTerm t = (depth_of t ≤ most_depth) × (size_of t ≤ most_size)

-- each term that passes no limit is made; in the place of another stands any term
abbrev pub AreMadeOf : List Tree → List Tree → Type 0
AreMadeOf [] [] = Unit {0}
AreMadeOf (t ∷ ts) (u ∷ us) = (IsSmallTerm t → u ≡ t) × AreMadeOf ts us
AreMadeOf _ _ = ⊥

-- what is measured is within the limits, or the first limit that it passes
abbrev pub IsLimited : Measure → Result (Unit {0}) RewriteError → Type 0
IsLimited m (Ok x) = (m.depth ≤ most_depth) × (m.size ≤ most_size)
IsLimited m (Err Memory) = ⊥
IsLimited m (Err (RewriteSpent nodes)) = ⊥
IsLimited m (Err RewriteDeep) = ⊥
IsLimited m (Err (TooDeep depth)) = (most_depth < m.depth) × (depth ≡ m.depth)
IsLimited m (Err (TooBig nodes)) = (m.depth ≤ most_depth) × (most_size < m.size) × (nodes ≡ m.size)

-- the error tells this refusal, or out of memory
abbrev pub Tells : Option RewriteRefusal → RewriteError → Type 0
Tells over Memory = Unit {0}
Tells over (RewriteSpent nodes) = ⊥
Tells over RewriteDeep = ⊥
Tells over (TooDeep depth) = over ≡ Some (too_deep depth)
Tells over (TooBig nodes) = over ≡ Some (too_big nodes)

-- what was to be measured passes no limit and the value is as it should be, or the refusal is told
abbrev pub Answers : {X : Type 0} → Option RewriteRefusal → (X → Type 0) →
    Result X RewriteError → Type 0
Answers over Good (Ok x) = (over ≡ None) × Good x
Answers over Good (Err e) = Tells over e
