-- What is proved of items, readings and printing.
use Rattle.std.specs.Prelude.{◌≡◌, ℕ, ◌+◌, ◌*◌, ◌≤◌, List, [], Some, take, length}
use Rattle.sx_term.specs.Tree.{Tree}
use Rattle.sx_grammar.specs.Grammar.{Production, Grammar, production_of, HasLevels, Token, Text}
use Rattle.sx_grammar.specs.Grammar.{of_sort}
use Rattle.sx_grammar.specs.declared.head.Head.{Head}
use Rattle.sx_grammar.specs.Reading.{Reading, Readings, Reads, ReadsAll, ReadsWhole, HasSpan}
use Rattle.sx_grammar.specs.Reading.{reading_depth, IsOf, ReadsBy}
use Rattle.sx_grammar.specs.Print.{print, Fits, HasBrackets, BracketsWhereAsked, term_of}
use Rattle.sx_grammar.specs.Cyclic.{IsNotCyclic}
use Rattle.sx_grammar.specs.Items.{Item, Span}

-- an item that holds has readings of the symbols before its dot
abbrev pub ItemsAreRead : Type 0
ItemsAreRead = (g : Grammar) (tokens : List Token) (start : ℕ) (head : Head) (p : Production)
    (dot origin end : ℕ) →
    Item g tokens start head dot origin end → production_of g head ≡ Some p →
    (kids : Readings) × ReadsAll g tokens (take dot p.symbols) origin end kids

-- a span that the items complete has a reading by its production
abbrev pub SpansAreRead : Type 0
SpansAreRead = (g : Grammar) (tokens : List Token) (start : ℕ) (head : Head) (p : Production)
    (from to : ℕ) →
    Span g tokens start head from to → production_of g head ≡ Some p →
    (r : Reading) × IsOf head from to r × Reads g tokens p.sort p.level from to r

-- each node and each bracket pair of each reading of all tokens is a span that the items complete
abbrev pub SpansAreFound : Type 0
SpansAreFound = (g : Grammar) (tokens : List Token) (start : ℕ) (r : Reading) (head : Head)
    (from to : ℕ) →
    HasLevels g → ReadsWhole g tokens start r → HasSpan g start r head from to →
    Span g tokens start head from to

-- the printed tokens of a term without variables have a reading at the least level asked for, whose
-- term is that term
abbrev pub PrintsAreRead : Type 0
PrintsAreRead = (g : Grammar) (names : List Text) (sort least : ℕ) (t : Tree) →
    BracketsWhereAsked g → HasBrackets g sort least → Fits g [] (of_sort sort) t →
    let tokens = print g names t (of_sort sort) least in
    (r : Reading) × Reads g tokens sort least 0 (length tokens) r × (term_of tokens names r ≡ t)

-- in a grammar that is not cyclic the depth of the readings of a token list is bounded
abbrev pub DepthIsBounded : Type 0
DepthIsBounded = (g : Grammar) (tokens : List Token) (sort : ℕ) (r : Reading) → IsNotCyclic g →
    ReadsWhole g tokens sort r →
    reading_depth r ≤ (length tokens + 1) * (length g.productions + 1)

-- each node and each bracket pair inside a reading of a complete span is a span that the items
-- complete
abbrev pub InnerSpansAreFound : Type 0
InnerSpansAreFound =
    (g : Grammar) (tokens : List Token) (start : ℕ) (of : Head) (p : Production) (from to : ℕ)
    (r : Reading) (head : Head) (left right : ℕ) →
    HasLevels g → Span g tokens start of from to → production_of g of ≡ Some p →
    ReadsBy g tokens of p.sort from to r →
    HasSpan g p.sort r head left right → Span g tokens start head left right
