-- What answers say of the readings in them.
use Rattle.std.proofs.Common.{ℕ, List, subst, length}
use Rattle.std.proofs.lemmas.List.{length-map}
use Rattle.sx_token.specs.declared.token.Token.{Token}
use Rattle.sx_grammar.specs.Parts.{Parts, numbered}
use Rattle.sx_grammar.specs.Reading.{Reading, ReadsWhole}
use Rattle.sx_grammar.specs.ReadOne.{IsAnswer, only, ambiguous}
use Rattle.sx_earley.specs.Tokens.{Stems, read_token, plain_tokens}
use Rattle.sx_forest.specs.Text.{IsWithin}
use Rattle.sx_forest.proofs.Fits.{readings_within}

module _ (p : Parts) (stems : Stems) (tokens : List Token) (start : ℕ) where
  fits : (r : Reading) → ReadsWhole (numbered p) (plain_tokens stems tokens) start r → IsWithin (length p.productions) (length tokens) r
  fits r reads =
      subst (λ k. IsWithin (length p.productions) k r) (length-map tokens (λ t. read_token stems t.mark t.text))
      (readings_within p (plain_tokens stems tokens) start 0 0 (length (plain_tokens stems tokens)) r reads)

  -- the only reading has labels and tokens that are there
  pub only_fits : (r : Reading) → IsAnswer (numbered p) (plain_tokens stems tokens) start (only r) → IsWithin (length p.productions) (length tokens) r
  only_fits r a = fits r a.1.0

  -- each of two readings has
  pub one_fits : (one other : Reading) → IsAnswer (numbered p) (plain_tokens stems tokens) start (ambiguous one other) → IsWithin (length p.productions) (length tokens) one
  one_fits one other a = fits one a.2

  pub other_fits : (one other : Reading) → IsAnswer (numbered p) (plain_tokens stems tokens) start (ambiguous one other) → IsWithin (length p.productions) (length tokens) other
  other_fits one other a = fits other a.3
