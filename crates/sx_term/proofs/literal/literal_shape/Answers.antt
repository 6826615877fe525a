use Rattle.std.proofs.Common.{refl, subst}
use Rattle.sx_term.specs.Spaced.{IsWordLiteral}
use Rattle.sx_term.proofs.SymbolRuns.{shapes_apart}
use Rattle.sx_term.proofs.literal.literal_shape.Goals as goal

pub returns-then-is_word-clause-symbol : goal.returns-then-is_word-clause-symbol
returns-then-is_word-clause-symbol c =
    (λ e. cc, λ literal. absurd (shapes_apart _ (subst IsWordLiteral c.as_str-text.ensures (c.if-is_word.ensures.0 refl)) literal))
