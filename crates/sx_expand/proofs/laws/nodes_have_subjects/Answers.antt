use Rattle.sx_expand.proofs.NodeSubject.{node-subject}
use Rattle.sx_expand.proofs.laws.nodes_have_subjects.Goals as goal

pub returns : goal.returns
returns c = λ sig base shapes a ok hyps below near r binds kids news can known at_r terms numbers lowered subjects later number own q k l.
    node-subject sig base shapes a ok hyps below near r binds kids can known at_r terms numbers (record { news = news; lowered = lowered; subjects = subjects }) later number own q k l
