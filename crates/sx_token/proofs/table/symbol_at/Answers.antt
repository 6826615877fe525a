use Rattle.std.proofs.Common.{◌≤◌, ◌∷◌, get_or, length, sym, ap, subst, ◌∙◌, arith, length-take-le}
use Rattle.sx_term.proofs.SymbolRuns.{symbol_low}
use Rattle.sx_token.proofs.SymbolLemmas.{Symbols-take, boundary_in_run, NoneLonger-run, NoneLonger-longest, NoneLonger-less}
use Rattle.sx_token.proofs.table.symbol_at.Goals as goal

pub loop-len-init : goal.loop-len-init
loop-len-init c =
    let text = c.args.text.now in
    let run = c.symbol_run-run.ensures in
    let first = ap (λ t. get_or t 0 0) c.as_bytes.ensures.value in
    record {
      in_run = omega arith;
      none_longer = NoneLonger-run _ text c.symbol_run-run.result _
          (NoneLonger-longest _ text _ (symbol_low (get_or text 0 0) c.requires.symbol) (λ byte others among small same. subst (λ b. length (byte ∷ others) ≤ get_or c.args.table.now.longest b 0) (same ∙ sym first) (c.requires.table.longest byte others among small)))
          run.stops;
    }

pub place_of_front-requires-clause-boundary : goal.place_of_front-requires-clause-boundary
place_of_front-requires-clause-boundary c = boundary_in_run c.args.text.now c.symbol_run-run.result c.loop-len.len c.utf8.text c.symbol_run-run.ensures.symbols c.symbol_run-run.ensures.bound c.loop-len.invariant.in_run

pub returns-in-Some-clause-symbols : goal.returns-in-Some-clause-symbols
returns-in-Some-clause-symbols c =
    let run = c.symbol_run-run.ensures in (
      omega (arith, length-take-le c.loop-len.len c.args.text.now (omega (arith, run.bound, c.loop-len.invariant.in_run)), c.loop-len-test.true),
      Symbols-take c.args.text.now c.loop-len.len (λ k lt. run.symbols k (omega (arith, lt, c.loop-len.invariant.in_run))),
    )

pub returns-in-Some-clause-boundary : goal.returns-in-Some-clause-boundary
returns-in-Some-clause-boundary c = boundary_in_run c.args.text.now c.symbol_run-run.result c.loop-len.len c.utf8.text c.symbol_run-run.ensures.symbols c.symbol_run-run.ensures.bound c.loop-len.invariant.in_run

pub loop-len-preserved : goal.loop-len-preserved
loop-len-preserved c = record {
  in_run = omega (arith, c.loop-len.invariant.in_run);
  none_longer = NoneLonger-less _ c.args.text.now c.loop-len.len c.loop-len.invariant.none_longer c.in_default.ensures.none;
}
