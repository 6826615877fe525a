-- Why a printed text cannot be written.
use Rattle.std.specs.Prelude.{◌≡◌, ℕ, ◌<◌, ◌≤◌, List, [], length}
use Rattle.sx_term.specs.declared.sort.Sort.{Sort}
use Rattle.sx_term.specs.Tree.{Tree}
use Rattle.sx_token.specs.declared.token.Token.{Token}
use Rattle.sx_grammar.specs.Parts.{Parts, numbered}
use Rattle.sx_grammar.specs.ReadOne.{IsAnswer, too_hard, too_deep}
use Rattle.sx_earley.specs.Tokens.{plain_tokens}
use Rattle.sx_earley.specs.Completed.{sort_number}
use Rattle.sx_notation.specs.WhyUnread.{AreTwo}
use Rattle.sx_words.specs.declared.print_defect.PrintDefect.{PrintDefect}
use Rattle.sx_words.specs.declared.print_defect.PrintDefect.TheVariants.{Bytes, Tokens, Items}
use Rattle.sx_words.specs.declared.print_defect.PrintDefect.TheVariants.{Depth, Ambiguous}
use Rattle.sx_typing.specs.Body.{IsCut, ReadsOnly}
use Rattle.sx_unit.specs.Texts.{printed}
use Rattle.sx_term.specs.Limits.{most_bytes, most_tokens}

-- of a file with so many bytes, in which the term is printed as the sort: which limit is passed
-- first, or that no limit is passed and there are two readings, with the texts of two
abbrev pub IsUnprintable : Parts → Sort → (size : ℕ) → (shown : List ℕ) → (t : Tree) → PrintDefect →
    Type 0
IsUnprintable p sort size shown t (Bytes n) = (most_bytes < size) × (n ≡ size)
IsUnprintable p sort size shown t (Tokens n) = (size ≤ most_bytes) × (most_tokens < n) ×
    (n ≡ length (printed p t)) × ((ts : List Token) → IsCut p shown ts → ⊥)
IsUnprintable p sort size shown t Items =
    (size ≤ most_bytes) × ((ts : List Token) × IsCut p shown ts ×
    IsAnswer (numbered p) (plain_tokens [] ts) (sort_number sort) too_hard)
IsUnprintable p sort size shown t (Depth n) =
    (size ≤ most_bytes) × ((ts : List Token) × IsCut p shown ts ×
    IsAnswer (numbered p) (plain_tokens [] ts) (sort_number sort) (too_deep n))
IsUnprintable p sort size shown t (Ambiguous one other) =
    (size ≤ most_bytes) × ((ts : List Token) × IsCut p shown ts × AreTwo p [] sort ts one other)

-- of such a file: it is short enough, and what is printed has only one reading, that of the term
pub record IsPrintable (p : Parts) (sort : Sort) (size : ℕ) (shown : List ℕ) (t : Tree) : Type 0
  where
    pub short : size ≤ most_bytes
    pub read : ReadsOnly p sort shown t
