-- Headers as plain data.
use Rattle.std.specs.Prelude.{ℕ, List, drop}
use Rattle.sx_interface.specs.declared.headers.Header.{Header}
use Rattle.sx_interface.specs.declared.headers.Parts.{Parts}
use Rattle.sx_interface.specs.Headers.{HeaderParts}

-- what the rows of a header say: the names, the body and the number of its first line
abbrev pub rows_view : List ℕ → List ℕ → List (List ℕ) → List (List ℕ) → List ℕ → ℕ → HeaderParts
rows_view name language uses imports body line =
    record {
      name = name;
      language = language;
      uses = uses;
      imports = imports;
      body = body;
      line = line;
    }

-- what the parts of a header say, under the module's name
abbrev pub parts_view : List ℕ → Parts → HeaderParts
parts_view name p = rows_view name p.language p.uses.items p.imports.items p.body.bytes.now
    p.body.number

-- what the header of a file with these bytes says
abbrev pub header_view : List ℕ → Header → HeaderParts
header_view bytes h = record {
  name = h.name;
  language = h.language;
  uses = h.uses.items;
  imports = h.imports.items;
  body = drop h.body bytes;
  line = h.line;
}
