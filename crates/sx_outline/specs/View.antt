-- What is known of a file, as plain data.
use Rattle.sx_outline.specs.declared.known.Known.{Known}
use Rattle.sx_outline.specs.Declarations.{Declared}
use Rattle.sx_outline.specs.Tables.{declared_in}

-- what it declares
abbrev pub known : Known → Declared
known k = declared_in k.rows
