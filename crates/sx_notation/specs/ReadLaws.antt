-- What holds of each term that `read_text` reads.
use Rattle.std.specs.Prelude.{◌≤◌, List}
use Rattle.sx_term.specs.declared.sort.Sort.{Sort}
use Rattle.sx_term.specs.Tree.{Tree, depth_of}
use Rattle.sx_grammar.specs.Grammar.{Text}
use Rattle.sx_grammar.specs.Parts.{Parts}
use Rattle.sx_grammar.specs.Tables.{literals_of}
use Rattle.sx_earley.specs.Tokens.{Stems}
use Rattle.sx_print.specs.Cut.{HasLexemes}
use Rattle.sx_notation.specs.ReadText.{IsReadLine}
use Rattle.sx_notation.specs.ReadAmong.{IsReadAmong}
use Rattle.sx_term.specs.Limits.{most_depth}

-- each lexeme of it is a token of its kind, and none of the literals
abbrev pub ReadsHaveLexemes : Type 0
ReadsHaveLexemes = (p : Parts) (stems : Stems) (sort : Sort) (line : Text) (old new : List Text)
    (t : Tree) → IsReadLine p stems sort line old new t → HasLexemes (literals_of p) t

-- it is at most 1,000 deep
abbrev pub ReadsAreShallow : Type 0
ReadsAreShallow = (p : Parts) (stems : Stems) (sort : Sort) (line : Text) (old new : List Text)
    (t : Tree) → IsReadLine p stems sort line old new t → depth_of t ≤ most_depth

-- what is read with variables among some names is read so without a further name
abbrev pub AmongIsRead : Type 0
AmongIsRead = (p : Parts) (stems : Stems) (sort : Sort) (line : Text) (names : List Text)
    (t : Tree) → IsReadAmong p stems sort line names t → IsReadLine p stems sort line names names t
