-- Tables of files.
use Rattle.std.specs.Prelude.{◌≡◌, option_map, Some, String, if◌then◌else◌}
use Rattle.std.specs.Str.{bytes_eq}
use Rattle.std.specs.declared.alloc.Global.{Global}
use Rattle.std.specs.declared.hash.FoldHasher.{FoldHasher}
use Rattle.std.specs.declared.hash.BuildHasherDefault.{BuildHasherDefault}
use Rattle.std.specs.HashMap.{HashMap, get_by_text}
use Rattle.sx_imports.specs.Walk.{Name}
use Rattle.sx_walking.specs.declared.file_table.FileTable.{FileTable}
use Rattle.sx_walking.specs.Reached.{Found}

-- files by name
abbrev pub FileMap : Type 0 → Type 0
FileMap F = HashMap (String Global) F (BuildHasherDefault FoldHasher)

-- the file of each name that has one
abbrev pub files_by : {F : Type 0} → FileMap F → Found F
files_by files = λ name. get_by_text files name

-- those that the table holds
abbrev pub table_files : {F : Type 0} → FileTable F → Found F
table_files table = files_by table.files

-- what was found, as plain data
abbrev pub seen_as : {F A : Type 0} → (F → A) → Found F → Found A
seen_as says found = λ name. option_map says (found name)

-- so of those that the table holds
abbrev pub held_in : {F A : Type 0} → (F → A) → FileTable F → Found A
held_in says table = seen_as says (table_files table)

-- this was put under the name, and each other name has what it had
abbrev pub IsFilePut : {A : Type 0} → Name → A → (old new : Found A) → Type 0
IsFilePut name x old new = (other : Name) →
    new other ≡ (if bytes_eq name other then Some x else old other)

-- each other name has what it had
abbrev pub IsFileTaken : {A : Type 0} → Name → (old new : Found A) → Type 0
IsFileTaken name old new = (other : Name) → (name ≡ other → ⊥) → new other ≡ old other
