-- Terms of lexical sorts are their own plain images.
use Rattle.std.proofs.Common.{refl}
use Rattle.sx_term.specs.Tree.{node, lexeme, hole}
use Rattle.sx_plain.specs.Laws.{LexicalTermsStay}

pub lexical_terms_stay : LexicalTermsStay
lexical_terms_stay shapes table vars (node label kids) kind none h = absurd (none label h.0 kind h.1 h.2)
lexical_terms_stay shapes table vars (lexeme of text) kind none h = refl
lexical_terms_stay shapes table vars (hole v) kind none h = refl
