use Rattle.std.proofs.Common.{[], ◌∷◌, refl}
use Rattle.std.proofs.lemmas.Str.Pattern.{contains_text}
use Rattle.sx_term.proofs.SymbolRuns.{symbol_literal_if}
use Rattle.sx_term.proofs.literal.is_symbol_literal.Goals as goal

pub returns-then-is_symbols : goal.returns-then-is_symbols
returns-then-is_symbols c =
    symbol_literal_if c.args.text.now c.contains.result (contains_text c.contains.result (47 ∷ 47 ∷ []) c.args.text.now c.contains.ensures.cases) (c.if-is_symbols.ensures.0 refl)
