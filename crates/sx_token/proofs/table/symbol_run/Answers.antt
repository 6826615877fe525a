use Rattle.std.proofs.Common.{sym, ap, ◌∙◌, arith, below_more}
use Rattle.sx_term.specs.Cutting.{is_symbol}
use Rattle.sx_token.proofs.table.symbol_run.Goals as goal

pub loop-n-preserved : goal.loop-n-preserved
loop-n-preserved c = record {
  in_text = omega (arith, c.if-n-bytes.true);
  symbols = below_more _ _ c.loop-n.invariant.symbols (ap is_symbol (sym c.from.ensures) ∙ sym c.is_symbol.ensures ∙ c.if-is_symbol.true);
}
