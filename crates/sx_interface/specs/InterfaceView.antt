-- Interfaces and marks as plain data.
use Rattle.std.specs.Prelude.{ℕ, List, map}
use Rattle.std.specs.Borrow.{Bor}
use Rattle.sx_interface.specs.declared.interfaces.Interface as code
use Rattle.sx_interface.specs.declared.interfaces.ImportMark as mark
use Rattle.sx_interface.specs.declared.interface_rows.Front as front
use Rattle.sx_interface.specs.declared.interface_rows.Rows.{Rows}
use Rattle.sx_interface.specs.declared.marks.Digest.{Digest}
use Rattle.sx_lines.specs.Left.{left}
use Rattle.sx_interface.specs.Interfaces.{MarkData, InterfaceParts, Front}

-- a mark without where it lies in memory
abbrev pub mark_view : mark.ImportMark → MarkData
mark_view m = record { name = m.name; digest = m.digest.bytes }

-- the marks one after the other
abbrev pub marks_view : List mark.ImportMark → List MarkData
marks_view marks = map mark_view marks

-- a name and a digest as a mark
abbrev pub import_view : Bor (List ℕ) × Digest → MarkData
import_view p = record { name = p.0.now; digest = p.1.bytes }

-- what stands before the imports, with the marks of the uses
abbrev pub front_view : front.Front → List MarkData → Front
front_view it uses = record {
  version = it.version;
  language = record { name = it.language.now; digest = it.language_digest.bytes };
  uses = uses;
  base = it.base_digest.bytes;
  rest = left it.rest;
}

-- what the rows of an interface say, under the module's name
abbrev pub rows_view : List ℕ → Rows → (uses imports : List MarkData) → InterfaceParts
rows_view name rows uses imports = record {
  name = name;
  language = record { name = rows.language.now; digest = rows.language_digest.bytes };
  uses = uses;
  base = rows.base_digest.bytes;
  imports = imports;
  signature = rows.signature.now;
  stated = rows.stated.now;
}

-- an interface without where it lies in memory
abbrev pub interface_view : code.Interface → InterfaceParts
interface_view it = record {
  name = it.«module»;
  language = record { name = it.language; digest = it.language_digest.bytes };
  uses = marks_view it.uses.items;
  base = it.base_digest.bytes;
  imports = marks_view it.imports.items;
  signature = it.signature;
  stated = it.stated;
}
