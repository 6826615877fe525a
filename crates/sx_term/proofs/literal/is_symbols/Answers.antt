use Rattle.std.proofs.Common.{eq-eqb, eqb-true, arith}
use Rattle.std.proofs.lemmas.Bool.Decides.{nat_tests}
use Rattle.sx_term.proofs.SymbolRuns.{symbols_whole, run_len_whole}
use Rattle.sx_term.proofs.literal.is_symbols.Goals as goal

pub returns-then-len-gt0 : goal.returns-then-len-gt0
returns-then-len-gt0 c =
    let run = c.run_len-len.ensures in (
      λ same. (omega (arith, c.if-len-gt0.true, run.bound), symbols_whole c.args.text.now c.run_len-len.result (eqb-true _ _ same) run.run),
      λ symbols. eq-eqb _ _ (run_len_whole c.args.text.now c.run_len-len.result run.bound symbols.1 run.run),
    )

pub returns-else-len-gt0 : goal.returns-else-len-gt0
returns-else-len-gt0 c =
    let run = c.run_len-len.ensures in (
      λ more. absurd (grind (arith, nat_tests)),
      λ symbols. absurd (omega (arith, c.if-len-gt0.false, symbols.0, run_len_whole c.args.text.now c.run_len-len.result run.bound symbols.1 run.run)),
    )
