-- The names of the rules of a set, in order.
use Rattle.std.specs.Prelude.{◌≡◌, ◌≢◌, ℕ, ◌+◌, true, List, [], ◌∷◌, Option, Some, None}
use Rattle.std.specs.Prelude.{if◌then◌else◌}
use Rattle.std.specs.List.{AllByRecursion}
use Rattle.std.specs.Str.{bytes_eq}
use Rattle.sx_lines.specs.Words.{is_name}

-- the number of the first rule of that name, where the rules are numbered from `from` on
unfoldable pub place_from : ℕ → List (List ℕ) → List ℕ → Option ℕ
place_from from [] name = None
place_from from (x ∷ names) name = if bytes_eq x name then Some from else place_from
    (from + 1) names name

-- no name stands twice
abbrev pub AreNamesDistinct : List (List ℕ) → Type 0
AreNamesDistinct [] = Unit {0}
AreNamesDistinct (x ∷ names) = AllByRecursion (λ y. x ≢ y) names × AreNamesDistinct names

-- each is an ASCII letter followed by ASCII letters, digits, `_` and `-`, at most 64 bytes
abbrev pub AreNames : List (List ℕ) → Type 0
AreNames names = AllByRecursion (λ name. is_name true name ≡ true) names
