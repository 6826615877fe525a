-- Terms that are well sorted by the shapes of a grammar.
use Rattle.std.specs.Prelude.{ℕ, ◌≤◌, List, length, map}
use Rattle.sx_term.specs.declared.sort.Sort.{Sort}
use Rattle.sx_term.specs.declared.sort.Sort.TheVariants.{Lex, Plain, Typed}
use Rattle.sx_term.specs.Tree.{Tree}
use Rattle.sx_term.specs.Sorts.{HasSort}
use Rattle.sx_grammar.specs.Grammar.{Stem, of_kind, of_sort}
use Rattle.sx_grammar.specs.Parts.{Parts, numbered}
use Rattle.sx_grammar.specs.Told.{shapes_of}
use Rattle.sx_grammar.specs.Print.{Fits}
use Rattle.sx_print.specs.Printed.{IsPrintableTerm}

-- the place where a term of the sort stands
abbrev pub place_of_sort : Sort → Stem
place_of_sort (Lex kind) = of_kind kind
place_of_sort (Plain number) = of_sort number
place_of_sort (Typed number) = of_sort number

-- a term that is well sorted by the shapes of a grammar fits it
abbrev pub SortedTermsFit : Type 0
SortedTermsFit = (p : Parts) (vars : List Sort) (t : Tree) (sort : Sort) →
    HasSort (shapes_of p) vars t sort → Fits (numbered p) (map place_of_sort vars)
    (place_of_sort sort) t

-- where its variables have names, it can be printed at level 0
abbrev pub SortedTermsArePrintable : Type 0
SortedTermsArePrintable = (p : Parts) (vars : List Sort) (variables : ℕ) (t : Tree) (sort : Sort) →
    HasSort (shapes_of p) vars t sort → length vars ≤ variables →
    IsPrintableTerm (numbered p) variables 0 t
