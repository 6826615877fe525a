-- How a reading's view follows its kids.
use Rattle.std.proofs.Common.{◌≡◌, ℕ, ◌+◌, ◌<◌, ◌≤◌, drop, length, get_or, List, [], ◌∷◌, Vec, Box, refl, zero, suc, ap, ◌∙◌, sym, arith}
use Rattle.std.proofs.lemmas.List.{at_drop_more, at_drop_all}
use Rattle.std.specs.declared.alloc.Global.{Global}
use Rattle.sx_grammar.specs.Reading as plain
use Rattle.sx_grammar.specs.Reading.{branch, bracket, done, ◌▸◌}
use Rattle.sx_grammar.specs.Reading.{reading_depth, readings_depth}
use Rattle.sx_forest.specs.declared.reading.Reading.{Reading, Row_of-Reading, end_of-Reading}
use Rattle.sx_forest.specs.declared.reading.Reading.{more_of-Reading, Node, Bracket}
use Rattle.sx_forest.specs.declared.reading.Reading.{items-the_row-Reading}
use Rattle.sx_forest.specs.declared.reading.Reading.{items_hidden-the_row-Reading-0}
use Rattle.sx_forest.specs.declared.reading.Reading.TheBlock.{hidden-the_row-Reading-0}
use Rattle.sx_forest.specs.Readings.{plain_reading, row_readings, row, plain_readings}
use Rattle.sx_forest.specs.Places.{listed_readings}

row_readings-items : {m : _} → (k : Row_of-Reading m) → row_readings k ≡ plain_readings (items-the_row-Reading m k)
row_readings-items end_of-Reading = refl
row_readings-items (more_of-Reading r rest) = ap (λ x. plain_reading r ▸ x) (row_readings-items rest)

-- the view of a node is its kids' views
pub reading-at_node : (r : Reading) (label : ℕ) (kids : Vec Reading Global) (from to : ℕ) → r ≡ Node label kids from to → plain_reading r ≡ branch label (plain_readings kids.items) from to
reading-at_node r label kids from to e = ap plain_reading e ∙ ap (λ ks. branch label ks from to) (row_readings-items (hidden-the_row-Reading-0 kids) ∙ ap plain_readings (items_hidden-the_row-Reading-0 kids))

-- the view of a bracket pair
pub reading-at_bracket : (r : Reading) (inner : Box Reading Global) (from to : ℕ) → r ≡ Bracket inner from to → plain_reading r ≡ bracket (plain_reading inner.value) from to
reading-at_bracket r inner from to e = ap plain_reading e

-- one more kid
pub readings-drop : (rs : List Reading) (i : ℕ) (r : Reading) → i < length rs → r ≡ get_or rs i r → plain_readings (drop i rs) ≡ plain_reading r ▸ plain_readings (drop (i + 1) rs)
readings-drop rs i r h e = at_drop_more plain_readings rs i r h ∙ ap (λ x. plain_reading x ▸ plain_readings (drop (i + 1) rs)) (sym e)

pub readings-drop_all : (rs : List Reading) (i : ℕ) → length rs ≤ i → plain_readings (drop i rs) ≡ done
readings-drop_all rs i h = at_drop_all plain_readings rs i h

pub listed_readings-row : (rs : List plain.Reading) → listed_readings (row rs) ≡ rs
listed_readings-row [] = refl
listed_readings-row (r ∷ rs) = ap (λ x. r ∷ x) (listed_readings-row rs)

-- a kid is no deeper than the deepest
pub readings_depth-at : (rs : List Reading) (i : ℕ) (k : Reading) → i < length rs → k ≡ get_or rs i k → reading_depth (plain_reading k) ≤ readings_depth (plain_readings rs)
readings_depth-at [] i k h g = absurd (omega arith)
readings_depth-at (r ∷ rs) zero k h g = let e = ap (λ x. reading_depth (plain_reading x)) g in omega arith
readings_depth-at (r ∷ rs) (suc i) k h g = let s = readings_depth-at rs i k (omega arith) g in omega arith

-- the kids of a node are less deep than it
pub readings_depth-kids : (r : Reading) (label : ℕ) (kids : Vec Reading Global) (from to : ℕ) (rs : List Reading) → r ≡ Node label kids from to → rs ≡ kids.items → readings_depth (plain_readings rs) < reading_depth (plain_reading r)
readings_depth-kids r label kids from to rs e s =
    let d = ap reading_depth (reading-at_node r label kids from to e) in
    let a = ap (λ x. readings_depth (plain_readings x)) s in
    omega arith

-- a kid is less deep than its node
pub reading_depth-kid : (r : Reading) (label : ℕ) (kids : Vec Reading Global) (from to : ℕ) (rs : List Reading) (i : ℕ) (k : Reading) → r ≡ Node label kids from to → rs ≡ kids.items → i < length rs → k ≡ get_or rs i k → reading_depth (plain_reading k) < reading_depth (plain_reading r)
reading_depth-kid r label kids from to rs i k e s h g =
    let d = readings_depth-kids r label kids from to rs e s in
    omega (arith, readings_depth-at rs i k h g)
