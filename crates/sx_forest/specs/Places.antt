-- Where the parts of a reading stand.
use Rattle.std.specs.Prelude.{◌≡◌, ◌↔◌, ℕ, List, [], ◌∷◌, Option, Some, None, slice_get}
use Rattle.std.specs.Prelude.{option_and_then}
use Rattle.sx_term.specs.Tree.{part_at}
use Rattle.sx_grammar.specs.Grammar.{Text, Token}
use Rattle.sx_grammar.specs.Print.{term_of}
use Rattle.sx_grammar.specs.Reading.{Reading, Readings, branch, bracket, leaf, variable, done, ◌▸◌}

-- the readings in a list
abbrev pub listed_readings : Readings → List Reading
listed_readings done = []
listed_readings (kid ▸ kids) = kid ∷ listed_readings kids

-- without the brackets that stand round it
abbrev pub unbracketed : Reading → Reading
unbracketed (branch label kids from to) = branch label kids from to
unbracketed (bracket inner from to) = unbracketed inner
unbracketed (leaf token) = leaf token
unbracketed (variable token) = variable token

-- where it begins
abbrev pub start_of : Reading → ℕ
start_of (branch label kids from to) = from
start_of (bracket inner from to) = from
start_of (leaf token) = token
start_of (variable token) = token

-- the kids of a node, or none
abbrev pub kid_readings : Reading → List Reading
kid_readings (branch label kids from to) = listed_readings kids
kid_readings (bracket inner from to) = []
kid_readings (leaf token) = []
kid_readings (variable token) = []

-- where the part begins to which the steps lead, each the number of a kid from 0; brackets are no
-- step, and those round the part are none of it
abbrev pub place_at : Reading → List ℕ → Option ℕ
place_at r [] = Some (start_of (unbracketed r))
place_at r (i ∷ path) = option_and_then (λ kid. place_at kid path) (slice_get (kid_readings
    (unbracketed r)) i)

-- there is no place exactly where the path leaves the term of the reading
abbrev pub LeavesTogether : Type 0
LeavesTogether = (tokens : List Token) (names : List Text) (r : Reading) (path : List ℕ) →
    (place_at r path ≡ None) ↔ (part_at (term_of tokens names r) path ≡ None)
