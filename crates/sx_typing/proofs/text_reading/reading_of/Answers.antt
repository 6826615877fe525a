use Rattle.std.proofs.Common.{[], sym, subst}
use Rattle.sx_grammar.specs.Parts.{numbered}
use Rattle.sx_grammar.specs.ReadOne.{IsAnswer, only}
use Rattle.sx_earley.specs.Tokens.{Stems, plain_tokens}
use Rattle.sx_earley.specs.Unknown.{HaveStems}
use Rattle.sx_earley.specs.Completed.{sort_number}
use Rattle.sx_forest.specs.Readings.{plain_reading}
use Rattle.sx_notation.specs.WhyUnread.{IsUnreadAs, IsReadError}
use Rattle.sx_typing.proofs.Bodies.{have_stems}
use Rattle.sx_typing.proofs.text_reading.reading_of.Goals as goal

pub read_one-requires-clause-stems : goal.read_one-requires-clause-stems
read_one-requires-clause-stems c =
    let ts = c.args.tokens.now in
    subst (λ (l : Stems). HaveStems l ts) (sym c.no_metas-metas.ensures)
    (have_stems c.args.grammar.now.parts c.requires.cut.0 ts c.requires.cut.1)

pub returns-in-Ok-clause-only : goal.returns-in-Ok-clause-only
returns-in-Ok-clause-only c =
    let p = c.args.grammar.now.parts in
    let ts = c.args.tokens.now in
    subst (λ (l : Stems). IsAnswer (numbered p) (plain_tokens l ts) (sort_number c.args.sort)
    (only (plain_reading c.in-Ok.reading))) c.no_metas-metas.ensures c.in-Ok.ensures.only

pub read_error-requires : goal.read_error-requires
read_error-requires c =
    let p = c.args.grammar.now.parts in
    let ts = c.args.tokens.now in (
      c.args.sort,
      subst (λ (l : Stems). IsReadError p l c.args.sort ts c.in-Err.error)
          c.no_metas-metas.ensures c.in-Err.ensures.refused,
    )

pub returns-clause-refused : goal.returns-clause-refused
returns-clause-refused c =
    let p = c.args.grammar.now.parts in
    let ts = c.args.tokens.now in
    let refused = subst (λ (l : Stems). IsReadError p l c.args.sort ts c.in-Err.error)
    c.no_metas-metas.ensures c.in-Err.ensures.refused in
    let told = c.in_ok-unread-in-Err.ensures c.args.sort refused in
    λ text cut same. (
      ts,
      cut,
      subst
          (λ n. IsUnreadAs p [] c.args.sort ts n c.in_ok-unread-in-Err.unread) (sym same) told,
    )
