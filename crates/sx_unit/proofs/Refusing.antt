-- Why a printed text is refused.
use Rattle.std.proofs.Common.{◌≡◌, ℕ, ◌≤◌, List, refl}
use Rattle.std.specs.Prelude.{Err, IfSome}
use Rattle.sx_term.specs.declared.sort.Sort.{Sort}
use Rattle.sx_term.specs.Cutting.{Piece, tokens, not_utf8, bad_token, too_many, open_string}
use Rattle.sx_term.specs.Tree.{Tree}
use Rattle.sx_token.specs.declared.token.Token.{Token}
use Rattle.sx_token.specs.declared.token_error.TokenError.{TokenError}
use Rattle.sx_token.specs.declared.token_error.TokenError.TheVariants as defect
use Rattle.sx_token.specs.Tokens.{outcome_of}
use Rattle.sx_grammar.specs.Parts.{Parts}
use Rattle.sx_words.specs.declared.print_defect.PrintDefect.TheVariants.{Bytes, Tokens, Items}
use Rattle.sx_words.specs.declared.print_defect.PrintDefect.TheVariants.{Depth, Ambiguous}
use Rattle.sx_unit.specs.declared.print_check.PrintRefusal.{PrintRefusal}
use Rattle.sx_unit.specs.declared.print_check.PrintRefusal.TheVariants.{Memory, Defect}
use Rattle.sx_typing.specs.Body.{IsCut}
use Rattle.sx_unit.specs.PrintRefused.{IsPrintRefusal, IsUnreadPrint}

-- a text that has tokens has no defect
pub only_memory : (e : TokenError) (ps : List Piece) → IfSome (outcome_of (Err e))
    (λ answer. answer ≡ tokens ps) → e ≡ defect.Memory
only_memory defect.Memory ps h = refl
only_memory (defect.NotUtf8 place) ps h = let clash : not_utf8 place ≡ tokens ps = h in cc
only_memory (defect.BadToken place) ps h = let clash : bad_token place ≡ tokens ps = h in cc
only_memory defect.TooManyTokens ps h = let clash : too_many ≡ tokens ps = h in cc
only_memory (defect.OpenString place) ps h = let clash : open_string place ≡ tokens ps = h in cc

pub same_pieces : (one other : List Piece) → tokens one ≡ tokens other → one ≡ other
same_pieces one other e = cc

-- tokens that have not one reading are a refusal of the text
pub refused : (p : Parts) (sort : Sort) (size : ℕ) (shown : List ℕ) (t : Tree) (ts : List Token)
    (e : PrintRefusal) → size ≤ 262144 → IsCut p shown ts → IsUnreadPrint p sort ts e →
    IsPrintRefusal p sort size shown t e
refused p sort size shown t ts Memory short cut h = tt
refused p sort size shown t ts (Defect Items) short cut h = (short, (ts, cut, h))
refused p sort size shown t ts (Defect (Depth n)) short cut h = (short, (ts, cut, h))
refused p sort size shown t ts (Defect (Bytes n)) short cut h = absurd h
refused p sort size shown t ts (Defect (Tokens n)) short cut h = absurd h
refused p sort size shown t ts (Defect (Ambiguous one other)) short cut h = (short, (ts, cut, h))
