use Rattle.std.proofs.Common.{false, sym, subst}
use Rattle.sx_term.specs.Cutting.{IsOutcome, tokens}
use Rattle.sx_unit.proofs.Refusing.{only_memory, same_pieces}
use Rattle.sx_unit.proofs.print_check.cut_print.Goals as goal

pub unreachable-requires : goal.unreachable-requires
unreachable-requires c =
    c.in_default.not-Memory
    (only_memory c.in-Err.error c.requires.cut.0
    (c.in-Err.ensures.only (tokens c.requires.cut.0)
    (subst (λ l. IsOutcome l false c.args.shown.now (tokens c.requires.cut.0))
    (sym c.literals.ensures) c.requires.cut.1)))

pub returns-in-Ok-clause-only : goal.returns-in-Ok-clause-only
returns-in-Ok-clause-only c ps is =
    same_pieces _ ps (c.in-Ok.ensures.only (tokens ps)
    (subst (λ l. IsOutcome l false c.args.shown.now (tokens ps)) (sym c.literals.ensures) is))
