use Rattle.std.proofs.Common.{subst}
use Rattle.sx_grammar.specs.Parts.{numbered}
use Rattle.sx_grammar.specs.ReadOne.{IsAnswer, only}
use Rattle.sx_earley.specs.Completed.{sort_number}
use Rattle.sx_earley.specs.Tokens.{plain_tokens}
use Rattle.sx_forest.specs.Readings.{plain_reading}
use Rattle.sx_notation.specs.WhyUnread.{IsReadError}
use Rattle.sx_unit.proofs.print_check.read_print.Goals as goal

pub returns-in-Ok-clause-only : goal.returns-in-Ok-clause-only
returns-in-Ok-clause-only c = (
  plain_reading c.in-Ok.field-0,
  subst (λ s. IsAnswer (numbered c.args.grammar.now.parts) (plain_tokens s c.args.tokens.now)
      (sort_number c.args.sort) (only (plain_reading c.in-Ok.field-0))) c.new.ensures.items
      c.in-Ok.ensures.only,
)

pub print_refusal-requires : goal.print_refusal-requires
print_refusal-requires c = (
  c.args.sort,
  c.requires.read.0,
  c.requires.read.1,
  subst (λ s. IsReadError c.args.grammar.now.parts s c.args.sort c.args.tokens.now c.in-Err.error)
      c.new.ensures.items c.in-Err.ensures.refused,
)

pub returns-clause-refused : goal.returns-clause-refused
returns-clause-refused c =
    c.print_refusal.ensures c.args.sort
    (subst (λ s. IsReadError c.args.grammar.now.parts s c.args.sort c.args.tokens.now
    c.in-Err.error) c.new.ensures.items c.in-Err.ensures.refused)
