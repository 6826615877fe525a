use Rattle.sx_expand.proofs.NodeRead.{node-small, node-refused}
use Rattle.sx_expand.proofs.laws.nodes_are_measured.Goals as goal

pub returns : goal.returns
returns c = λ sig base shapes a ok hyps below near r binds kids news can known at_r terms numbers lowered subjects. (
  node-small sig base shapes a ok hyps below near r binds kids can known at_r terms numbers (record { news = news; lowered = lowered; subjects = subjects }),
  node-refused sig base shapes a ok hyps below near r binds kids can known at_r terms numbers (record { news = news; lowered = lowered; subjects = subjects }),
)
