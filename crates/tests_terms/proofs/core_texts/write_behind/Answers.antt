use Rattle.sx_term.proofs.Cores.{IsWritable-has_core}
use Rattle.tests_terms.proofs.core_texts.write_behind.Goals as goal

pub write_core-requires-clause-writable : goal.write_core-requires-clause-writable
write_core-requires-clause-writable c = IsWritable-has_core _ c.requires.has_core
