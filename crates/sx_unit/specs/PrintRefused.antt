-- Why a printed text cannot be written, out of memory aside.
use Rattle.std.specs.Prelude.{ℕ, List, []}
use Rattle.sx_term.specs.declared.sort.Sort.{Sort}
use Rattle.sx_term.specs.Tree.{Tree}
use Rattle.sx_token.specs.declared.token.Token.{Token}
use Rattle.sx_grammar.specs.Parts.{Parts, numbered}
use Rattle.sx_grammar.specs.ReadOne.{IsAnswer, too_hard, too_deep}
use Rattle.sx_earley.specs.Tokens.{plain_tokens}
use Rattle.sx_earley.specs.Completed.{sort_number}
use Rattle.sx_notation.specs.WhyUnread.{AreTwo}
use Rattle.sx_words.specs.declared.print_defect.PrintDefect.TheVariants.{Items, Depth, Ambiguous}
use Rattle.sx_unit.specs.declared.print_check.PrintRefusal.{PrintRefusal}
use Rattle.sx_unit.specs.declared.print_check.PrintRefusal.TheVariants.{Memory, Defect}
use Rattle.sx_unit.specs.Unprinted.{IsUnprintable}

-- of a file with so many bytes, in which the term is printed as the sort: why it cannot be written
abbrev pub IsPrintRefusal : Parts → Sort → (size : ℕ) → (shown : List ℕ) → Tree → PrintRefusal →
    Type 0
IsPrintRefusal p sort size shown t Memory = Unit {0}
IsPrintRefusal p sort size shown t (Defect defect) = IsUnprintable p sort size shown t defect

-- the printed tokens have not one reading as the sort
abbrev pub IsUnreadPrint : Parts → Sort → List Token → PrintRefusal → Type 0
IsUnreadPrint p sort ts Memory = Unit {0}
IsUnreadPrint p sort ts (Defect Items) =
    IsAnswer (numbered p) (plain_tokens [] ts) (sort_number sort) too_hard
IsUnreadPrint p sort ts (Defect (Depth n)) =
    IsAnswer (numbered p) (plain_tokens [] ts) (sort_number sort) (too_deep n)
IsUnreadPrint p sort ts (Defect (Ambiguous one other)) = AreTwo p [] sort ts one other
IsUnreadPrint p sort ts (Defect _) = ⊥
