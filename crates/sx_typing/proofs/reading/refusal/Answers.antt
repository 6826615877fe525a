use Rattle.std.proofs.Common.{◌≡◌, List, [], length, inr, subst, arith}
use Rattle.sx_token.specs.declared.token.Token.{Token}
use Rattle.sx_grammar.specs.Parts.{numbered}
use Rattle.sx_grammar.specs.ReadOne.{IsAnswer, only}
use Rattle.sx_earley.specs.Tokens.{plain_tokens}
use Rattle.sx_earley.specs.Completed.{sort_number}
use Rattle.sx_term.specs.declared.role.Role.TheVariants.{Sub}
use Rattle.sx_notation.proofs.OneReasons.{unread_or_read}
use Rattle.sx_typing.specs.BodySource.{source_of, main_sort}
use Rattle.sx_typing.specs.Unread.{IsUnreadText}
use Rattle.sx_typing.proofs.OneBody.{one_cut, defect_or_cut, unread_within}
use Rattle.sx_typing.proofs.reading.refusal.Goals as goal

pub body_spot-spot-requires-in-Read : goal.body_spot-spot-requires-in-Read
body_spot-spot-requires-in-Read c =
    let s = source_of c.args.source.now in
    let p = s.dialect.parts in
    let sort = main_sort s.dialect.language Sub in
    let h = subst (IsUnreadText p sort s.header.body) c.in-Read.is c.requires in
    let w = unread_within p sort s.header.body h.0 c.in-Read.error h.1 h.2 in
    omega (arith, w, c.unread_place.ensures)

pub returns-in-Token-clause-none : goal.returns-in-Token-clause-none
returns-in-Token-clause-none c =
    let s = source_of c.args.source.now in
    let p = s.dialect.parts in
    let h = subst (IsUnreadText p (main_sort s.dialect.language Sub) s.header.body) c.in-Token.is
    c.requires in
    inr (λ b. defect_or_cut p s.header.body c.in-Token.error b.tokens h b.read.cut)

pub returns-in-Read-clause-none : goal.returns-in-Read-clause-none
returns-in-Read-clause-none c =
    let s = source_of c.args.source.now in
    let p = s.dialect.parts in
    let sort = main_sort s.dialect.language Sub in
    let h = subst (IsUnreadText p sort s.header.body) c.in-Read.is c.requires in
    inr (λ b.
    let same : b.tokens ≡ h.0 = one_cut p s.header.body b.tokens h.0 b.read.cut h.1 in
    unread_or_read p [] sort h.0 (length s.header.body) c.in-Read.error b.reading h.2
    (subst (λ (ts : List Token). IsAnswer (numbered p) (plain_tokens [] ts) (sort_number sort)
    (only b.reading)) same b.read.answer))
