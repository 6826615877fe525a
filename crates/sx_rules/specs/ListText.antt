-- The text of a derivation list: the line `sxder 1`, and then one line for each entry.
use Rattle.std.specs.Prelude.{◌≡◌, ℕ, zero, suc, ◌+◌, ◌^◌, ◌<◌, List, [], ◌∷◌, ◌++◌, length}
use Rattle.std.specs.Prelude.{slice_index_or, map, codes, Option, Some, None, option_map}
use Rattle.std.specs.Prelude.{option_and_then, Result}
use Rattle.std.specs.Fmt.{decimal}
use Rattle.std.specs.List.{AllByRecursion}
use Rattle.sx_rules.specs.declared.entry.Entry.{Entry}
use Rattle.sx_rules.specs.declared.entry.Entry.TheVariants.{Rule, Given}
use Rattle.sx_lines.specs.Lines.{Lines}
use Rattle.sx_lines.specs.Words.{after, number_within}
use Rattle.sx_lines.specs.Reading.{◌>>=◌, the_line, each_line}
use Rattle.sx_rules.specs.RuleNames.{place_from}

-- the line of an entry: a rule's name, or `given N` with N counted from 1
abbrev pub entry_line : List (List ℕ) → Entry → List ℕ
entry_line names (Rule r) = slice_index_or names r []
entry_line names (Given n) = codes "given " ++ decimal (n + 1)

-- the lines of a list
abbrev pub list_lines : List (List ℕ) → List Entry → List (List ℕ)
list_lines names list = codes "sxder 1" ∷ map (entry_line names) list

-- the rules of the entries are of the set
abbrev pub IsEntry : List (List ℕ) → Entry → Type 0
IsEntry names (Rule r) = r < length names
IsEntry names (Given n) = n < 2 ^ 32

-- the bytes are the text of this list
pub record StatesList (names : List (List ℕ)) (lines : List (List ℕ))
    (list : List Entry) : Type 0 where
  pub spelled : lines ≡ list_lines names list
  pub entries : AllByRecursion (IsEntry names) list

-- one less, where there is one
abbrev pub before : ℕ → Option ℕ
before zero = None
before (suc n) = Some n

-- the hypothesis that a line names
unfoldable pub given_number : List ℕ → Option ℕ
given_number text = option_and_then (λ digits. option_and_then before (number_within
    (2 ^ 32) digits))
    (after (codes "given ") text)

-- the entry that a line names
abbrev pub given_or : Option ℕ → Option ℕ → Option Entry
given_or (Some n) rule = Some (Given n)
given_or None rule = option_map Rule rule

unfoldable pub entry_of : List (List ℕ) → List ℕ → Option Entry
entry_of names text = given_or (given_number text) (place_from 0 names text)

-- the list that lines state, or the number of the first line that is not as defined
unfoldable pub list_of : List (List ℕ) → Lines → Result (List Entry) ℕ
list_of names lines = do
  entries ← the_line (codes "sxder 1") lines
  each_line (entry_of names) entries
