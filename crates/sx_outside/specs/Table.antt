-- The files that a hash map from names to bytes holds.
use Rattle.std.specs.Prelude.{ℕ, List, Option, Some, None, String, Vec}
use Rattle.std.specs.declared.alloc.Global.{Global}
use Rattle.std.specs.declared.hash.FoldHasher.{FoldHasher}
use Rattle.std.specs.declared.hash.BuildHasherDefault.{BuildHasherDefault}
use Rattle.std.specs.HashMap.{HashMap, get_by_text}
use Rattle.sx_outside.specs.Files.{Files}

-- a map from names to bytes
abbrev pub Entries : Type 0
Entries = HashMap (String Global) (Vec ℕ Global) (BuildHasherDefault FoldHasher)

abbrev pub bytes_in : Option (Vec ℕ Global) → Option (List ℕ)
bytes_in None = None
bytes_in (Some bytes) = Some bytes.items

-- its files
abbrev pub files_in : Entries → Files
files_in entries = λ name. bytes_in (get_by_text entries name)
