-- The view of a reading as plain data.
use Rattle.std.specs.Prelude.{List, [], ◌∷◌, map}
use Rattle.sx_forest.specs.declared.reading.Reading.{Reading, Row_of-Reading, end_of-Reading}
use Rattle.sx_forest.specs.declared.reading.Reading.{more_of-Reading, Node', Bracket', Lex, Var}
use Rattle.sx_grammar.specs.Reading as plain
use Rattle.sx_grammar.specs.Reading.{branch, bracket, leaf, variable, done, ◌▸◌}

abbrev mutual
  -- a reading as plain data
  pub plain_reading : Reading → plain.Reading
  plain_reading (Node' label shape kids from to) = branch label (row_readings kids) from to
  plain_reading (Bracket' pointer inner from to) = bracket (plain_reading inner) from to
  plain_reading (Lex token) = leaf token
  plain_reading (Var token) = variable token

  -- the kids of a node as plain data
  pub row_readings : {m : _} → Row_of-Reading m → plain.Readings
  row_readings end_of-Reading = done
  row_readings (more_of-Reading r rest) = plain_reading r ▸ row_readings rest

-- the readings of a list, one after another
abbrev pub row : List plain.Reading → plain.Readings
row [] = done
row (r ∷ rs) = r ▸ row rs

-- the views of a list of readings
abbrev pub plain_readings : List Reading → plain.Readings
plain_readings rs = row (map plain_reading rs)
