use Rattle.std.proofs.Common.{◌∙◌}
use Rattle.sx_core.proofs.TableLaws.{no_keyword}
use Rattle.sx_core.proofs.keyword.split_keyword.Goals as goal

pub returns-in-None : goal.returns-in-None
returns-in-None c = no_keyword c.args.text.now c.word_len.result c.word_len.ensures (λ k e. c.in-None.ensures k (c.split_at.ensures.front ∙ e))
