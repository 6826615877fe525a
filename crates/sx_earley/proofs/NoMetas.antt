-- The tokens of texts in which no metavariables may stand.
use Rattle.std.proofs.Common.{◌≡◌, ℕ, false, List, [], ◌∷◌}
use Rattle.std.specs.List.{AllByRecursion}
use Rattle.std.proofs.lemmas.Bool.{false≢true}
use Rattle.sx_term.specs.declared.mark.Mark.{Mark}
use Rattle.sx_term.specs.declared.mark.Mark.TheVariants.{Lit, Lex, Meta}
use Rattle.sx_term.specs.Cutting.{Piece, Stands, Cuts, done, skip, piece}
use Rattle.sx_token.specs.declared.token.Token.{Token}
use Rattle.sx_token.specs.Tokens.{pieces}
use Rattle.sx_grammar.specs.Grammar.{Text}
use Rattle.sx_earley.specs.Tokens.{Stems}
use Rattle.sx_earley.specs.Unknown.{HaveStems}

no_meta : (literals : List Text) (m : Mark) (text rest : Text) → Stands literals false m text rest → m ≡ Meta → ⊥
no_meta literals (Lit n) text rest h e = cc
no_meta literals (Lex kind) text rest h e = cc
no_meta literals Meta text rest h e = false≢true h.0

-- where no metavariables may stand, none stands
pub no_metas : {literals : List Text} {size : ℕ} {text rest : Text} {ps : List Piece} → Cuts literals false size text ps rest → AllByRecursion (λ p. p.mark ≡ Meta → ⊥) ps
no_metas done = tt
no_metas (skip blank more) = no_metas more
no_metas {literals = literals} (piece {more = more} {t = t} at rest) = (no_meta literals t.mark t.text more at.stands, no_metas rest)

all_have : (stems : Stems) (ts : List Token) → AllByRecursion (λ p. p.mark ≡ Meta → ⊥) (pieces ts) → HaveStems stems ts
all_have stems [] none = tt
all_have stems (t ∷ ts) none = ((λ e. absurd (none.0 e)), all_have stems ts none.1)

-- so each that stands has a stem
pub cut_has_stems : {literals : List Text} {size : ℕ} {text rest : Text} (stems : Stems) (ts : List Token) → Cuts literals false size text (pieces ts) rest → HaveStems stems ts
cut_has_stems stems ts cuts = all_have stems ts (no_metas cuts)
