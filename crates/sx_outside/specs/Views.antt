-- What the kinds that hold files show as plain data.
use Rattle.sx_outside.specs.Files.{Files}
use Rattle.sx_outside.specs.Kinds.{ShelfData}
use Rattle.sx_outside.specs.Table.{files_in}
use Rattle.sx_outside.specs.declared.table.Table.{Table}
use Rattle.sx_outside.specs.declared.memory_shelf.MemShelf.{MemShelf}
use Rattle.sx_outside.specs.declared.clean.CleanShelf.{CleanShelf}

-- the files in a table
abbrev pub files_of : Table → Files
files_of table = files_in table.entries

-- a shelf in memory as plain data
abbrev pub shelf_of : MemShelf → ShelfData
shelf_of shelf = record {
  files = files_of shelf.table;
  calls = shelf.calls;
  read_faults = shelf.reads_failed;
  write_faults = shelf.writes_failed;
}

-- the files of a shelf whose calls never fail
abbrev pub clean_files_of : CleanShelf → Files
clean_files_of shelf = files_of shelf.table
