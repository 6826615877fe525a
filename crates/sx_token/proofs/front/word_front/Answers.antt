use Rattle.std.proofs.Common.{◌<◌, sym, subst, arith}
use Rattle.std.specs.Prelude.{Contains}
use Rattle.sx_token.proofs.FrontLemmas.{bad_other}
use Rattle.sx_token.proofs.front.word_front.Goals as goal

pub returns-then-len-eq0 : goal.returns-then-len-eq0
returns-then-len-eq0 c = bad_other _ c.args.metas c.args.text.now c.requires.other (c.word_len-len.ensures.none c.if-len-eq0.true)

pub returns-in-None : goal.returns-in-None
returns-in-None c =
    let word = c.word_len-len.ensures in
    let some : 0 < c.word_len-len.result = omega (arith, c.if-len-eq0.false) in
    ((some, word.boundary), (λ has. c.in-None.ensures.none (subst (Contains c.args.table.now.literals.now) (sym c.split_at.ensures.front) has), word.word some))
