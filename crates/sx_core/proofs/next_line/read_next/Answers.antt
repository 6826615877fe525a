use Rattle.std.proofs.Common.{refl, inl, sym, ◌∙◌}
use Rattle.std.proofs.lemmas.Bool.{false≢true}
use Rattle.sx_core.proofs.LineLaws.{start_phase}
use Rattle.sx_core.proofs.next_line.read_next.Goals as goal

pub returns-then-is_over : goal.returns-then-is_over
returns-then-is_over c = (refl, inl (c.is_over.ensures.0 c.if-is_over.true))

pub first_line-requires : goal.first_line-requires
first_line-requires c = c.is_start.ensures.0 c.if-is_start.true

pub later_line-requires-clause-usual : goal.later_line-requires-clause-usual
later_line-requires-clause-usual c =
    ((λ e. false≢true (sym c.if-is_start.false ∙ c.is_start.ensures.1 (start_phase c.args.reader.stage e))), λ e. false≢true (sym c.if-is_over.false ∙ c.is_over.ensures.1 e))
