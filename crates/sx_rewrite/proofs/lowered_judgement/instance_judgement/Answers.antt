use Rattle.sx_rewrite.proofs.Instanced.{all-shallow-are}
use Rattle.sx_rewrite.proofs.lowered_judgement.instance_judgement.Goals as goal

pub instances-requires-clause-terms : goal.instances-requires-clause-terms
instances-requires-clause-terms c = all-shallow-are _ _ c.deref.ensures.value c.requires.places
