-- The file of an extension, as far as its header is read.
use Rattle.std.specs.Prelude.{ℕ, ◌≤◌, List, ◌++◌, length, map, codes, Ok}
use Rattle.std.specs.Global.{Vec}
use Rattle.sx_outline.specs.Headers.{HeaderData, header, IsHeaderAnswer}
use Rattle.sx_term.specs.Limits.{most_bytes}
use Rattle.sx_uses.specs.declared.extension_file.ExtensionFile.{ExtensionFile}

-- the bytes of an extension's file, and its header
pub record Extension : Type 0 where
  pub bytes : List ℕ
  pub header : HeaderData

-- what was read, without where it lies in memory
abbrev pub extension_of : ExtensionFile → Extension
extension_of x = record { bytes = x.bytes.items; header = header x.header }

abbrev pub extensions_of : Vec ExtensionFile → List Extension
extensions_of xs = map extension_of xs.items

-- the file of the extension with this name
abbrev pub extension_file : List ℕ → List ℕ
extension_file name = name ++ codes ".ext"

-- the names of the extensions that it uses, in order
abbrev pub used_names : Extension → List (List ℕ)
used_names x = x.header.uses

-- the bytes are no more than a file may have, and state the header under the name that it has
pub record IsHeaderStated (x : Extension) : Type 0 where
  pub short : length x.bytes ≤ most_bytes
  pub states : IsHeaderAnswer x.header.name x.bytes (Ok x.header)
