use Rattle.std.proofs.Common.{sym, subst}
use Rattle.sx_grammar.specs.Parts.{numbered}
use Rattle.sx_grammar.specs.Tables.{GrammarData}
use Rattle.sx_grammar.specs.ReadOne.{IsAnswer, only}
use Rattle.sx_earley.specs.Tokens.{plain_tokens}
use Rattle.sx_earley.specs.Unknown.{HaveStems}
use Rattle.sx_earley.specs.Completed.{sort_number}
use Rattle.sx_forest.specs.Readings.{plain_reading}
use Rattle.sx_notation.specs.WhyUnread.{IsReadError}
use Rattle.sx_notation.specs.ReadText.{ReaderData, IsUnreadLine}
use Rattle.sx_notation.proofs.line_reader.reading_of.Goals as goal

pub read_one_by-requires-clause-stems : goal.read_one_by-requires-clause-stems
read_one_by-requires-clause-stems c = subst (λ (d : ReaderData). HaveStems d.stems c.args.tokens.now) (sym c.by.view_is) c.requires.known.1.1

pub returns-in-Ok-clause-only : goal.returns-in-Ok-clause-only
returns-in-Ok-clause-only c =
    subst (λ (d : ReaderData). IsAnswer (numbered d.parts) (plain_tokens d.stems c.args.tokens.now) (sort_number c.args.sort) (only (plain_reading c.in-Ok.reading))) c.by.view_is c.in-Ok.ensures.only

pub read_error-requires : goal.read_error-requires
read_error-requires c = (
  c.by.inside.stems,
  c.args.sort,
  subst (λ (d : GrammarData). IsReadError d.parts c.by.inside.stems c.args.sort c.args.tokens.now c.in-Err.error) (sym c.grammar-grammar.ensures) c.in-Err.ensures.refused,
)

pub returns-in-Err-clause-refused : goal.returns-in-Err-clause-refused
returns-in-Err-clause-refused c =
    let refused = subst (λ (d : GrammarData). IsReadError d.parts c.by.inside.stems c.args.sort c.args.tokens.now c.in-Err.error) (sym c.grammar-grammar.ensures) c.in-Err.ensures.refused in
    let unread = subst (λ (d : GrammarData). IsUnreadLine d.parts c.by.inside.stems c.args.sort c.args.tokens.now c.args.size c.args.number c.read_error.result) c.grammar-grammar.ensures
    (c.read_error.ensures c.by.inside.stems c.args.sort refused) in
    subst (λ (d : ReaderData). IsUnreadLine d.parts d.stems c.args.sort c.args.tokens.now c.args.size c.args.number c.read_error.result) c.by.view_is unread
