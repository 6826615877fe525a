-- Laws of plain images by number.
use Rattle.std.specs.Prelude.{List}
use Rattle.sx_term.specs.Tree.{Tree}
use Rattle.sx_plain.specs.Plain.{Table}
use Rattle.sx_arena.specs.Grown.{Extends}
use Rattle.sx_images.specs.declared.images.Images.{Images}
use Rattle.sx_images.specs.Images.{AreImages}

-- what is known of plain images stays so where more terms are put into the arena
abbrev pub ImagesStayKnown : Type 0
ImagesStayKnown = (table : Table) (old new : List Tree) (images : Images) → Extends old new →
    AreImages table old images → AreImages table new images
