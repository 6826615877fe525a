-- Texts by their places.
use Rattle.std.proofs.Common.{◌≡◌, ℕ, zero, suc, List, [], ◌∷◌, Some}
use Rattle.std.specs.Prelude.{slice_get, slice_index_or}
use Rattle.std.proofs.lemmas.Option.{same_Some, none-some}
use Rattle.sx_grammar.specs.Grammar.{Text}

-- the text at a place
pub got_at : (xs : List Text) (n : ℕ) (t d : Text) → slice_get xs n ≡ Some t → slice_index_or xs n d ≡ t
got_at [] n t d e = absurd (none-some t e)
got_at (x ∷ xs) zero t d e = same_Some x t e
got_at (x ∷ xs) (suc n) t d e = got_at xs n t d e
