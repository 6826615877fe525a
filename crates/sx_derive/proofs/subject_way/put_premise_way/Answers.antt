use Rattle.sx_derive.proofs.Waying.{shallow_subject}
use Rattle.sx_derive.proofs.subject_way.put_premise_way.Goals as goal

pub put_way-requires : goal.put_way-requires
put_way-requires c = record { depth = shallow_subject _ _ _ c.requires.shallow c.in-Some.ensures }
