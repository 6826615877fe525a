-- The file of a language.
use Rattle.std.specs.Prelude.{ℕ, List, ◌++◌, codes}

-- the file of the language with this name
abbrev pub language_file : List ℕ → List ℕ
language_file name = name ++ codes ".lang"
