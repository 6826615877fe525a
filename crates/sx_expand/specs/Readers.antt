-- Terms by number, with their plain images.
use Rattle.std.specs.Prelude.{List}
use Rattle.sx_term.specs.Tree.{Tree}
use Rattle.sx_plain.specs.Plain.{Table}
use Rattle.sx_arena.specs.Arena.{trees, IsArena, Extends}
use Rattle.sx_images.specs.Images.{AreImages}
use Rattle.sx_expand.specs.declared.reader.Reader.{Reader}

-- the terms so far, by their numbers
abbrev pub terms_in : Reader → List Tree
terms_in r = trees r.arena

-- what is known of plain images is so by the table
pub record IsLoweringReader (table : Table) (r : Reader) : Type 0 where
  pub arena : IsArena r.arena
  pub images : AreImages table (terms_in r) r.images

-- the one reader goes on from the other
pub record ReaderGoesOn (table : Table) (old new : Reader) : Type 0 where
  pub reader : IsLoweringReader table new
  pub extends : Extends (terms_in old) (terms_in new)
