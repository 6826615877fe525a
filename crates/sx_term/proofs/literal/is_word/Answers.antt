use Rattle.std.proofs.Common.{eq-eqb, eqb-true}
use Rattle.sx_term.proofs.SymbolRuns.{word_whole, word_len_whole}
use Rattle.sx_term.proofs.literal.is_word.Goals as goal

pub returns-then-len-gt0 : goal.returns-then-len-gt0
returns-then-len-gt0 c =
    let word = c.word_len-len.ensures in (
      λ same. word_whole c.args.text.now c.word_len-len.result (eqb-true _ _ same) (word.word c.if-len-gt0.true),
      λ literal. eq-eqb _ _ (word_len_whole c.args.text.now c.word_len-len.result word.bound literal (word.word c.if-len-gt0.true)),
    )
