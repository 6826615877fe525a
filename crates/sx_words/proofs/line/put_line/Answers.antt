use Rattle.sx_words.proofs.line.put_line.Goals as goal

pub returns-clause-ok : goal.returns-clause-ok
returns-clause-ok c = rw c.bytes.ensures.value at c.put.ensures.ok

pub returns-clause-err : goal.returns-clause-err
returns-clause-err c = c.put.ensures.err
