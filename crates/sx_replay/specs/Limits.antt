-- The first terms that pass a limit.
use Rattle.std.specs.Prelude.{ℕ, ◌-◌, ◌^◌, Bool, true, false, List, [], ◌∷◌, Option, Some, None}
use Rattle.std.specs.Prelude.{nat_lt, min}
use Rattle.sx_term.specs.Tree.{Tree, depth_of, size_of}
use Rattle.sx_replay.specs.declared.noted.Noted.{Noted}
use Rattle.sx_term.specs.Limits.{most_depth, most_size}

-- the number where the test holds, at most the greatest number, or else what comes later
abbrev pub first_of : Bool → ℕ → Option ℕ → Option ℕ
first_of true n later = Some (min n (2 ^ 64 - 1))
first_of false n later = later

-- the depth of the first term that is deeper than 1,000
abbrev pub first_deep : List Tree → Option ℕ
first_deep [] = None
first_deep (t ∷ ts) = first_of (nat_lt most_depth (depth_of t)) (depth_of t) (first_deep ts)

-- the size of the first term that has more than 1,000,000 nodes
abbrev pub first_big : List Tree → Option ℕ
first_big [] = None
first_big (t ∷ ts) = first_of (nat_lt most_size (size_of t)) (size_of t) (first_big ts)

-- the number, where the test holds
abbrev pub some_when : Bool → ℕ → Option ℕ
some_when true n = Some n
some_when false n = None

-- the one number, or where there is none the other
abbrev pub earlier : Option ℕ → Option ℕ → Option ℕ
earlier None n = n
earlier (Some m) n = Some m

-- what is noted after more terms
abbrev pub note : Noted → List Tree → Noted
note n ts = record { deep = earlier n.deep (first_deep ts); big = earlier n.big (first_big ts) }

-- what is noted before the first term
abbrev pub nothing_noted : Noted
nothing_noted = record { deep = None; big = None }
